-- What is told of rows of the tables: of the query that is read, and of what that still has to give.
use Rattle.std.proofs.Common.{◌≡◌, List, [], ◌∷◌, Result, arith, refl, subst, sum_by}
use Rattle.std.specs.List.{AllByRecursion}
use Rattle.std.proofs.lemmas.List.Sums.{sum_by-cons}
use Rattle.std.proofs.lemmas.Result.{on_ok_weaker}
use Rattle.sqlite.specs.Held.{Held, state}
use Rattle.sqlite.specs.Order.{Row}
use Rattle.sqlite.specs.State.{HasCleanDisk, Survives}
use Rattle.sqlite.specs.Store.{Ghosts}
use Rattle.sqlite.proofs.Callers.{unchanged_then}
use Rattle.clear_values.specs.RowRanges.{AreInRange}
use Rattle.clear_values.specs.Tables.{Tables}
use Rattle.clear_rows.proofs.Inside.{keeps_both, survives_both, unchanged_keeps}
use Rattle.clear_columns.specs.Reading.{ReadsOn}
use Rattle.clear_schema.specs.declared.fault.Fault.{Fault}
use Rattle.clear_reading.specs.Reader.{AreAddable, Tells, TellsOnlyOver, TellsOnlyWhere, TellsTablesWhere}
use Rattle.clear_debts.proofs.ReadLemmas.{was_clean}

sum_by-none : {X : Type 0} (rows : List X) → sum_by (λ row. 0) rows ≡ 0
sum_by-none [] = refl
sum_by-none (row ∷ rows) =
    let rest = sum_by-none rows in
    omega (arith, rest, sum_by-cons (λ row. 0) row rows)

-- rows of which nothing is added up
pub nothing_added : {X : Type 0} (P : X → Type 0) (rows : List X) → AllByRecursion P rows → AreAddable P (λ row. 0) rows
nothing_added P rows all =
    let none = sum_by-none rows in
    (all, omega (arith, none))

module _ {S : Type 0} (g : Ghosts S) where
  pub tells_tables : {X A : Type 0} (IsKnown : Type 0) (show : X → Row) (old mid end new : Held S) (rows : Tables → List X) (told : List X → A) (AreRight : List X → Type 0) (IsRight : Tables → Type 0) (result : Result A Fault)
      → end ≡ new → ReadsOn g old mid show rows → Tells g show mid end told AreRight result
      → ((t : Tables) → AreInRange t → IsRight t → AreRight (rows t))
      → TellsTablesWhere IsKnown g old new (λ t. told (rows t)) IsRight result
  tells_tables IsKnown show old mid end new rows told AreRight IsRight result is reads tells right =
      subst (λ n. TellsTablesWhere IsKnown g old n (λ t. told (rows t)) IsRight result) is (
      let a = state g old in
      let b = state g mid in
      let c = state g end in
      let early : HasCleanDisk c → HasCleanDisk b = was_clean b c tells.survives in
      record {
        written = λ clean t has. tells.written clean (rows t) (reads.begun (early clean) t has);
        cause = λ clean t has ranges is. tells.cause clean (rows t) (reads.begun (early clean) t has) (right t ranges is);
        same = λ clean t has. on_ok_weaker result (λ same. unchanged_then a b c (reads.same (early clean) (t, has)) same) (tells.same clean);
        kept = λ clean t has. keeps_both a b c (unchanged_keeps a b (reads.same (early clean) (t, has))) (tells.kept clean);
        survives = λ known t has. survives_both a b c (reads.survives (t, has)) tells.survives;
        clean = λ clean. reads.clean (early clean);
        is_open = λ clean. on_ok_weaker result (λ same. same.0.is_open) (tells.same clean);
      })

  -- it is told only of tables that are right, where only of rows that are
  pub tells_only : {X A : Type 0} (show : X → Row) (old mid end new : Held S) (rows : Tables → List X) (AreRight : List X → Type 0) (IsRight : Tables → Type 0) (result : Result A Fault)
      → end ≡ new → ReadsOn g old mid show rows → Survives (state g mid) (state g end) (λ _. ⊥) → TellsOnlyOver g show mid end AreRight result
      → ((t : Tables) → AreRight (rows t) → IsRight t)
      → TellsOnlyWhere g old new IsRight result
  tells_only show old mid end new rows AreRight IsRight result is reads survives only right =
      subst (λ n. TellsOnlyWhere g old n IsRight result) is
      (record { right = λ clean t has. on_ok_weaker result (right t) (only.right clean (rows t) (reads.begun (was_clean (state g mid) (state g end) survives clean) t has)) })
