-- The calls of a source whose rows are added up, as calls of that source.
use Rattle.std.proofs.Common.{◌≡◌, ℕ, ◌+◌, List, [], ◌∷◌, ◌++◌, inl, inr, sym, ap, ◌∙◌, arith}
use Rattle.std.specs.Prelude.{Option, None, sum_by}
use Rattle.std.specs.Iterator.{Yields, YieldsThen}
use Rattle.std.proofs.lemmas.List.Sums.{sum_by-cons, sum_by_push}
use Rattle.clear_book.specs.declared.rows.BankRow.{BankRow}
use Rattle.clear_values.specs.declared.causes.Fault.{Fault}
use Rattle.clear_texts.specs.declared.suspense.Summed.{Summed}
use Rattle.clear_texts.specs.Rows.{IsCutOff, IsCutOffAdding}
use Rattle.clear_texts.specs.Adding.{GivesAdding, RefusesAdding}
use Rattle.clear_texts.proofs.RowLemmas.{Yields-append}

abbrev pub cents : BankRow → ℕ
cents row = row.line.cents

module _ {S : Type 0} (gives : S → Option BankRow → S → Type 0) (refuses : S → Fault → S → Type 0) where
  -- the same source
  abbrev pub IsOf : Summed S → Summed S → Type 0
  IsOf old new = new.rows.ghost_name ≡ old.rows.ghost_name

  abbrev pub Gives : Summed S → Option BankRow → Summed S → Type 0
  Gives old found new = IsOf old new × GivesAdding gives cents old.rows.now old.total found new.rows.now new.total

  abbrev pub Refuses : Summed S → Fault → Summed S → Type 0
  Refuses old fault new = IsOf old new × RefusesAdding gives cents refuses old.rows.now old.total fault new.rows.now

  -- the source gave these rows, whose sum is added
  record HasAdded (old new : Summed S) (given : List BankRow) : Type 0 where
    same : IsOf old new
    run : Yields gives old.rows.now given new.rows.now
    sum : new.total ≡ old.total + sum_by cents given

  added : (old new : Summed S) (given : List BankRow) → Yields Gives old given new → HasAdded old new given
  added old new [] is = record { same = ap (λ (s : Summed S). s.rows.ghost_name) (sym is); run = ap (λ (s : Summed S). s.rows.now) is; sum = let same = ap (λ (s : Summed S). s.total) is in omega (arith, same) }
  added old new (row ∷ rows) (mid, step, run) =
      let later = added mid new rows run in
      record {
        same = later.same ∙ step.0;
        run = (mid.rows.now, step.1.0, later.run);
        sum = let here = step.1.1 in let rest = later.sum in omega (arith, here, rest, sum_by-cons cents row rows);
      }

  module _ (old new : Summed S) (none : old.total ≡ 0) where
    -- all rows were given
    pub all_added : (given : List BankRow) → YieldsThen Gives old given None new → IsOf old new × YieldsThen gives old.rows.now given None new.rows.now × (new.total ≡ sum_by cents given)
    all_added given (last, run, end) =
        let so_far = added old last given run in (
          end.0 ∙ so_far.same,
          (last.rows.now, so_far.run, end.1.0),
          (let sum = so_far.sum in let here = end.1.1 in omega (arith, sum, here, none)),
        )

    -- no more rows were given
    pub cut_off : (fault : Fault) → IsCutOff Gives Refuses old fault new → IsOf old new × IsCutOffAdding gives refuses cents old.rows.now fault new.rows.now
    cut_off fault (inl (is, (given, inl run))) =
        let so_far = added old new given run in (so_far.same, inl (inl (is, (given, inl so_far.run))))
    cut_off fault (inl (is, (given, inr run))) =
        let all = all_added given run in (all.0, inl (inl (is, (given, inr all.1))))
    cut_off fault (inr (given, last, run, (same, inl step))) =
        let so_far = added old last given run in (same ∙ so_far.same, inl (inr (given, last.rows.now, so_far.run, step)))
    cut_off fault (inr (given, last, run, (same, inr (is, row, step, much)))) =
        let so_far = added old last given run in
        let sum = so_far.sum in (
          same ∙ so_far.same,
          inr (is, (given ++ row ∷ [], Yields-append gives old.rows.now given last.rows.now row new.rows.now so_far.run step, omega (arith, sum, none, much, sum_by_push cents given row))),
        )
