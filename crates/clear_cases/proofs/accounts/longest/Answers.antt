use Rattle.std.proofs.Common.{◌≡◌, ℕ, ◌+◌, ◌<◌, List, refl, sym, subst, arith}
use Rattle.std.specs.List.{All}
use Rattle.std.proofs.lemmas.List.Elements.{All-weaker}
use Rattle.clear_account.specs.declared.entries.Credit.{Credit}
use Rattle.clear_account.specs.Account.{comes_before, with_credit}
use Rattle.clear_account.proofs.PlaceLemmas.{All-with}
use Rattle.clear_cases.proofs.accounts.longest.Goals as goal

below_next : (n : ℕ) (k : Credit) (ks : List Credit) → k.serial ≡ n → All (λ l. l.serial < n) ks → All (λ l. l.serial < n + 1) (with_credit k ks)
below_next n k ks is below =
    All-with (λ l. l.serial < n + 1) (λ l. comes_before l k) (λ l. comes_before k l) k ks (omega arith)
    (All-weaker (λ l. l.serial < n) (λ l. l.serial < n + 1) (λ l h. omega arith) ks below)

pub loop-serial-preserved : goal.loop-serial-preserved
loop-serial-preserved c =
    subst (λ (ks : List Credit). All (λ l. l.serial < c.loop-serial.serial + 1) ks) (sym c.in_ok-add_credit.ensures.ok)
    (below_next c.loop-serial.serial (record { day = c.args.day; serial = c.loop-serial.serial; cents = c.args.cents }) c.loop-serial.account.credits refl c.loop-serial.invariant)
