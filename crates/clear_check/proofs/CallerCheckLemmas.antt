-- How many keys of a document are of clerks, and which one is at fault.
use Rattle.std.proofs.Common.{◌≡◌, ◌≢◌, ℕ, suc, ℤ, pos, negsuc, ◌+◌, ◌≤◌, ◌==◌, nat_le, Bool, true, false, if◌then◌else◌, List, [], ◌∷◌, length, count_by, Option, Some, None, is_some, option_and_then, Result, Ok, Err, ok_or, String, Global, string_bytes, refl, sym, ap, ◌∙◌, add_assoc, lit≤, arith}
use Rattle.std.proofs.lemmas.List.Sums.{sum_by-cons}
use Rattle.std.proofs.lemmas.Option.{none-some, same_Some}
use Rattle.toml.proofs.Views.{Entry}
use Rattle.toml.specs.Data.{Data, as_integer, Members, no_members, member}
use Rattle.toml.specs.View.{members_view, view}
use Rattle.toml.specs.declared.value.Value.{Value}
use Rattle.clear_book.specs.declared.calls.Caller.{Caller}
use Rattle.clear_book.specs.declared.calls.Caller.TheVariants.{Firm, Clerk}
use Rattle.clear_toml.specs.RateFile.{document_of}
use Rattle.clear_callers.specs.CallerFile.{caller_at, caller_numbered, directory_in, directory_of, is_key, keys_in, Fails}
use Rattle.clear_callers.specs.declared.caller_file.DirectoryFault.{DirectoryFault}
use Rattle.clear_callers.specs.declared.caller_file.DirectoryFault.TheVariants.{Entry as EntryFault, Memory as MemoryFault, Text as TextFault}
use Rattle.clear_callers.specs.Callers.{KeyOf}
use Rattle.clear_check.specs.CallerChecks.{first_wrong, is_clerk, is_clerks, is_zero}

-- how many members have that number
abbrev pub clerks_in : Members → ℕ
clerks_in no_members = 0
clerks_in (member key d ms) = (if is_zero (as_integer d) then 1 else 0) + clerks_in ms

-- one member of those that are still to be counted
pub counted_one : (clerks : ℕ) (all es rest : List Entry) (k : String Global) (v : Value) (clerk : Bool)
    → clerks + clerks_in (members_view es) ≡ clerks_in (members_view all) → es ≡ (k, v) ∷ rest → clerk ≡ is_zero (as_integer (view v))
    → clerks + (if clerk then 1 else 0) + clerks_in (members_view rest) ≡ clerks_in (members_view all)
counted_one clerks all es rest k v clerk so_far step is =
    let here = ap (λ (es : List Entry). clerks_in (members_view es)) step ∙ ap (λ b. (if b then 1 else 0) + clerks_in (members_view rest)) (sym is) in
    add_assoc clerks (if clerk then 1 else 0) (clerks_in (members_view rest)) ∙ ap (λ n. clerks + n) (sym here) ∙ so_far

pub at_most_one : (b : Bool) → (if b then 1 else 0) ≤ 1
at_most_one true = lit≤ tt
at_most_one false = lit≤ tt

pub clerks_in-le : (es : List Entry) → clerks_in (members_view es) ≤ length es
clerks_in-le [] = lit≤ tt
clerks_in-le (x ∷ es) =
    let here : (if is_zero (as_integer (view x.1)) then 1 else 0) ≤ 1 = at_most_one (is_zero (as_integer (view x.1))) in
    let rest : clerks_in (members_view es) ≤ length es = clerks_in-le es in
    omega (arith, here, rest)

numbered : (z : Option ℤ) (c : Caller) → option_and_then caller_numbered z ≡ Some c → is_zero z ≡ is_clerk c
numbered None c e = absurd (none-some _ e)
numbered (Some (negsuc n)) c e = absurd (none-some _ e)
numbered (Some (pos n)) c e = by_tests (n == 0) (nat_le n 99999999) e
  where
    by_tests : (zero within : Bool) → (if zero then Some Clerk else (if within then Some (Firm n) else None)) ≡ Some c → zero ≡ is_clerk c
    by_tests true within e = ap is_clerk (same_Some _ _ e)
    by_tests false true e = ap is_clerk (same_Some _ _ e)
    by_tests false false e = absurd (none-some _ e)

at_key : (key : List ℕ) (d : Data) (c : Caller) → caller_at key d ≡ Some c → is_zero (as_integer d) ≡ is_clerk c
at_key key d c e = by_test (is_key key) e
  where
    by_test : (fits : Bool) → (if fits then option_and_then caller_numbered (as_integer d) else None) ≡ Some c → is_zero (as_integer d) ≡ is_clerk c
    by_test true e = numbered (as_integer d) c e
    by_test false e = absurd (none-some _ e)

-- the members with the number of a clerk are the keys of clerks
pub clerks_in-keys : (ms : Members) (keys : List KeyOf) → keys_in ms ≡ Some keys → clerks_in ms ≡ count_by is_clerks keys
clerks_in-keys no_members keys e = ap (count_by is_clerks) (same_Some _ _ e)
clerks_in-keys (member key d ms) keys e = first (caller_at key d) (keys_in ms) refl (clerks_in-keys ms) e
  where
    first : (caller : Option Caller) (more : Option (List KeyOf)) → caller_at key d ≡ caller → ((ks : List KeyOf) → more ≡ Some ks → clerks_in ms ≡ count_by is_clerks ks)
        → option_and_then (λ (c : Caller). option_and_then (λ (ks : List KeyOf). Some ((key, c) ∷ ks)) more) caller ≡ Some keys
        → (if is_zero (as_integer d) then 1 else 0) + clerks_in ms ≡ count_by is_clerks keys
    first (Some c) (Some more) here rest e =
        let one : (k : KeyOf) → ℕ = λ k. if is_clerks k then 1 else 0 in
        ap (λ b. (if b then 1 else 0) + clerks_in ms) (at_key key d c here) ∙ ap (λ n. one (key, c) + n) (rest more refl) ∙ sym (sum_by-cons one (key, c) more) ∙ ap (count_by is_clerks) (same_Some _ _ e)
    first (Some c) None here rest e = absurd (none-some _ e)
    first None more here rest e = absurd (none-some _ e)

-- each member is a key
pub length-keys_in : (es : List Entry) (keys : List KeyOf) → keys_in (members_view es) ≡ Some keys → length es ≡ length keys
length-keys_in [] keys e = ap length (same_Some _ _ e)
length-keys_in (x ∷ es) keys e = first (caller_at (string_bytes x.0) (view x.1)) (keys_in (members_view es)) (length-keys_in es) e
  where
    first : (caller : Option Caller) (more : Option (List KeyOf)) → ((ks : List KeyOf) → more ≡ Some ks → length es ≡ length ks)
        → option_and_then (λ (c : Caller). option_and_then (λ (ks : List KeyOf). Some ((string_bytes x.0, c) ∷ ks)) more) caller ≡ Some keys
        → suc (length es) ≡ length keys
    first (Some c) (Some more) rest e = ap suc (rest more refl) ∙ ap length (same_Some _ _ e)
    first (Some c) None rest e = absurd (none-some _ e)
    first None more rest e = absurd (none-some _ e)

-- the keys of a caller file are those of its document
pub directory_of-keys : (bytes : List ℕ) (document : Members) (keys : List KeyOf) → document_of bytes ≡ Some document → directory_of bytes ≡ Ok keys → keys_in document ≡ Some keys
unfolding directory_of
directory_of-keys bytes document keys is e = given (keys_in document) (ap directory_in (sym is) ∙ e)
  where
    given : (found : Option (List KeyOf)) → ok_or found EntryFault ≡ Ok keys → found ≡ Some keys
    given (Some found) e = cc
    given None e = cc

-- ---- a member that is no key

keys_in-wrong : (ms : Members) (key : List ℕ) (value : Data) → first_wrong ms ≡ Some (key, value) → keys_in ms ≡ None
keys_in-wrong no_members key value e = absurd (none-some _ e)
keys_in-wrong (member k d ms) key value e = told (caller_at k d) (keys_in ms) (keys_in-wrong ms key value) e
  where
    told : (caller : Option Caller) (more : Option (List KeyOf)) → (first_wrong ms ≡ Some (key, value) → more ≡ None)
        → (if is_some caller then first_wrong ms else Some (k, d)) ≡ Some (key, value)
        → option_and_then (λ (c : Caller). option_and_then (λ (ks : List KeyOf). Some ((k, c) ∷ ks)) more) caller ≡ None
    told None more rest e = refl
    told (Some c) more rest e = ap (option_and_then (λ (ks : List KeyOf). Some ((k, c) ∷ ks))) (rest e)

-- its file is no caller file
pub directory_of-wrong : (bytes : List ℕ) (document : Members) (key : List ℕ) (value : Data) → document_of bytes ≡ Some document → first_wrong document ≡ Some (key, value) → directory_of bytes ≡ Err EntryFault
unfolding directory_of
directory_of-wrong bytes document key value is wrong = ap directory_in is ∙ ap (λ found. ok_or found EntryFault) (keys_in-wrong document key value wrong)

-- and the fault that is told is the key's
pub told_wrong : (fault : DirectoryFault) (right : Result (List KeyOf) DirectoryFault) → right ≡ Err EntryFault → Fails fault right → fault ≢ MemoryFault → fault ≡ EntryFault
told_wrong TextFault right is text known = absurd (cc (sym is ∙ text))
told_wrong EntryFault right is entry known = refl
told_wrong MemoryFault right is any known = absurd (known refl)
