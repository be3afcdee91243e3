-- No status is greater than 3.
use Rattle.std.proofs.Common.{◌≡◌, ◌≤◌, ℕ, true, false, nat_lt, sym, subst, if◌then◌else◌, lit≤}
use Rattle.clear_book.specs.Rules.{number_of}
use Rattle.clear_work.specs.declared.stop.Stop.{Stop}
use Rattle.clear_work.specs.declared.stop.Stop.TheVariants as stop
use Rattle.clear_work.specs.Stops.{status_of}

small : (why : Stop) → status_of why ≤ 3
small (stop.Rule rule) = elim (nat_lt (number_of rule) 40) as (λ b. (if b then 1 else 3) ≤ 3) [ true ↦ lit≤ tt | false ↦ lit≤ tt ]
small stop.Line = lit≤ tt
small stop.File = lit≤ tt
small stop.Net = lit≤ tt
small stop.Stream = lit≤ tt

pub told_small : {W F : Stop → Type 0} (status : ℕ) → (told : Stop) × W told × (status ≡ status_of told) × F told → status ≤ 3
told_small status (told, which, is, front) = subst (λ (n : ℕ). n ≤ 3) (sym is) (small told)
