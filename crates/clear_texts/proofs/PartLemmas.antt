-- Parts appended one after the other, over plain variables.
use Rattle.std.proofs.Common.{◌≡◌, ℕ, List, ◌++◌, codes, append_assoc}

pub charge_parts : (s m d v x y z : List ℕ)
    → s ++ codes "charge " ++ m ++ codes " due " ++ d ++ codes " version " ++ v ++ codes " " ++ x ++ codes " " ++ y ++ codes " " ++ z ++ codes "\n"
    ≡ s ++ (codes "charge " ++ m ++ codes " due " ++ d ++ codes " version " ++ v ++ codes " " ++ x ++ codes " " ++ y ++ codes " " ++ z ++ codes "\n")
charge_parts s m d v x y z = simp append_assoc

pub line_parts : (s r d p n a t : List ℕ)
    → s ++ codes "line " ++ r ++ codes " " ++ d ++ codes " " ++ p ++ codes " " ++ n ++ codes " " ++ a ++ t ++ codes "\n"
    ≡ s ++ (codes "line " ++ r ++ codes " " ++ d ++ codes " " ++ p ++ codes " " ++ n ++ codes " " ++ a ++ t ++ codes "\n")
line_parts s r d p n a t = simp append_assoc

pub request_parts : (s n d r g : List ℕ)
    → s ++ codes "schema " ++ n ++ codes "\nledger day " ++ d ++ codes "\nrequests " ++ r ++ codes "\ngreatest number of the desk " ++ g ++ codes "\n"
    ≡ s ++ (codes "schema " ++ n ++ codes "\nledger day " ++ d ++ codes "\nrequests " ++ r ++ codes "\ngreatest number of the desk " ++ g ++ codes "\n")
request_parts s n d r g = simp append_assoc

pub bank_parts : (s f r l n e : List ℕ)
    → s ++ codes "firms " ++ f ++ codes "\nreports " ++ r ++ codes "\nbank lines " ++ l ++ codes "\nin suspense " ++ n ++ codes " " ++ e ++ codes "\n"
    ≡ s ++ (codes "firms " ++ f ++ codes "\nreports " ++ r ++ codes "\nbank lines " ++ l ++ codes "\nin suspense " ++ n ++ codes " " ++ e ++ codes "\n")
bank_parts s f r l n e = simp append_assoc

pub claim_parts : (s o p l r : List ℕ)
    → s ++ codes "open claims " ++ o ++ codes "\nto pay out " ++ p ++ codes "\nlast list " ++ l ++ codes "\nlast run " ++ r ++ codes "\n"
    ≡ s ++ (codes "open claims " ++ o ++ codes "\nto pay out " ++ p ++ codes "\nlast list " ++ l ++ codes "\nlast run " ++ r ++ codes "\n")
claim_parts s o p l r = simp append_assoc
