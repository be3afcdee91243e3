-- The pieces of several firms are put, and what is open of their contributions, one firm after another.
use Rattle.std.proofs.Common.{◌≡◌, ℕ, List, [], ◌∷◌, Option, Some, None, Result, Ok, Err, false}
use Rattle.sqlite.specs.Held.{Held}
use Rattle.sqlite.specs.Store.{Ghosts}
use Rattle.clear_account.specs.Account.{IsAccount}
use Rattle.clear_values.specs.RowRanges.{IsSerial}
use Rattle.clear_values.specs.declared.rows.CreditRow.{CreditRow}
use Rattle.clear_book.specs.Allocated.{kept_charges}
use Rattle.clear_book.specs.Tables.{Tables, table_credits}
use Rattle.clear_laws.proofs.WeighedFollowsLemmas.{is_among}
use Rattle.clear_schema.specs.declared.fault.Fault.{Fault}
use Rattle.clear_pieces.specs.Allocates.{Allocates}
use Rattle.clear_pieces.specs.Anew.{FromCredit, IsFreeBehind, IsFreeFromCredit}
use Rattle.clear_pieces.specs.Behind.{IsWeighedBefore}
use Rattle.clear_pieces.specs.Firm.{KeepsAccount}
use Rattle.clear_pieces.specs.Keeping.{AreCreditsPut, AreFirst, Keeps, WasRight}
use Rattle.clear_pieces.specs.declared.behind.NewCredits.{NewCredits}
use Rattle.clear_pieces.proofs.AltersLemmas.{alters_after, alters_none, alters_so}
use Rattle.clear_pieces.proofs.CreditLemmas.{first_serial, firms_first, is_first, next_account, next_free, next_free-behind, next_keeps, next_put, next_weighed}
use Rattle.clear_pieces.proofs.StepLemmas.{FollowSoFar, all_put}

module _ {S : Type 0} (g : Ghosts S) (old : Held S) (news : List CreditRow) where
  -- so far pieces were put that follow but for those of the firms that are left
  abbrev pub Progress : Held S → Result (Unit {0}) Fault → List ℕ → Type 0
  Progress now result left =
      Allocates g old now result (λ v pieces charges. (t : Tables) → AreCreditsPut news t v → FollowSoFar t v left pieces charges) (WasRight (AreCreditsPut news))

  -- in the end none is left
  pub all_done : (now : Held S) (result : Result (Unit {0}) Fault) → Progress now result [] → Keeps g old now result (AreCreditsPut news)
  all_done now result done =
      alters_so g old now result done
      (λ v has. ((λ so_far. (so_far.0, so_far.1, λ t put. all_put t v so_far.0.0 so_far.0.1 (so_far.2 t put))), (λ right. right)))

  module _ (firsts : ℕ → Option NewCredits) (are : AreFirst firsts news) where
    -- at first all firms with a new credit are left
    pub none_done : (left : List ℕ) → ((e : ℕ) → is_among left e ≡ false → firsts e ≡ None) → Progress old (Ok tt) left
    none_done left others = alters_none g old tt (λ v has. ((v.pieces, v.charges), has, λ t put. firms_first news t v put firsts are left others))

    -- the next one's are put, or are not
    module _ (mid new : Held S) (e : ℕ) (credits : NewCredits) (left : List ℕ) (found : firsts e ≡ Some credits) (once : is_among left e ≡ false) (before : Progress mid (Ok tt) (e ∷ left)) (result : Result (Unit {0}) Fault)
        (allocates : Allocates g mid new result (λ u pieces charges. IsAccount (kept_charges u e) (table_credits u e) → IsWeighedBefore u e credits → FromCredit u e credits pieces charges)
        (λ u. KeepsAccount u e × IsWeighedBefore u e credits × IsFreeFromCredit u e credits.first × IsFreeBehind u e credits × IsSerial credits.first.serial)) where
      -- then one firm less is left
      pub one_done : Progress new result left
      one_done =
          alters_after g mid new result allocates old tt before.stays
          (λ clean v has.
          let was = before.put clean v has in (
            record v { pieces = was.0.0; charges = was.0.1 },
            was.1,
            (λ now. (now.0, now.1, λ t put. next_put news t v put firsts are e credits found left once was.0.0 was.0.1 (was.2 t put) now.0.0 now.0.1 (now.2 (next_account news t v put firsts are e credits found left once was.0.0 was.0.1 (was.2 t put)) (next_weighed news t v put firsts are e credits found left once was.0.0 was.0.1 (was.2 t put))))),
            (λ right. (
              next_keeps news right.t v right.put firsts are e credits found left once was.0.0 was.0.1 (was.2 right.t right.put) right.ranges,
              next_weighed news right.t v right.put firsts are e credits found left once was.0.0 was.0.1 (was.2 right.t right.put),
              next_free news right.t v right.put firsts are e credits found left once was.0.0 was.0.1 (was.2 right.t right.put) right.g right.keys right.allocated,
              next_free-behind news right.t v right.put firsts are e credits found left once was.0.0 was.0.1 (was.2 right.t right.put) right.g right.keys right.allocated,
              first_serial news right.t v right.put right.ranges e credits.first (is_first news right.t v right.put firsts are e credits found),
            )),
          ))

  -- or the fault is told
  pub one_failed : (now : Held S) (left : List ℕ) (fault : Fault) → Progress now (Err fault) left → Keeps {A = Unit {0}} g old now (Err fault) (AreCreditsPut news)
  one_failed now left fault failed = record { put = λ clean v has. tt; fault = failed.fault; stays = failed.stays }
