-- A run of calls on a reader: it gave the rows in their order, and left the connection as it was.
use Rattle.std.proofs.Common.{◌≡◌, ◌∙◌, ◌<◌, ◌^◌, arith, sum_by, inl, inr, ℕ, List, [], ◌∷◌, ◌++◌, Option, Some, None, Ok, Err, false, refl, sym, ap, subst, append-nil}
use Rattle.std.specs.List.{AllByRecursion}
use Rattle.std.specs.Iterator.{Yields, YieldsThen}
use Rattle.std.specs.Prelude.{IfErr, IfOk, Result}
use Rattle.std.proofs.lemmas.List.Sums.{sum_by-append}
use Rattle.sqlite.specs.Held.{Held, state}
use Rattle.sqlite.specs.Order.{Row}
use Rattle.sqlite.specs.State.{HasCleanDisk, IsUnchanged, KeepsCommit, Survives}
use Rattle.sqlite.specs.Store.{Ghosts}
use Rattle.sqlite.proofs.Callers.{unchanged_then}
use Rattle.clear_rows.proofs.Inside.{keeps_both, keeps_none, survives_both, survives_none, unchanged_keeps}
use Rattle.clear_columns.specs.Reading.{Advances, HasToGive}
use Rattle.clear_schema.specs.declared.fault.Fault.{Fault}
use Rattle.clear_schema.specs.declared.fault.Fault.TheVariants.{Memory}
use Rattle.clear_schema.specs.Faults.{IsOfDisk}
use Rattle.clear_texts.specs.Rows.{IsCutOff, IsCutOffAdding, IsCutOffUnless}
use Rattle.clear_reading.specs.Reader.{AreAddable, AreRightIn, Tells, TellsOnlyOver}
use Rattle.clear_reading.specs.Source.{Gives, KeepsLoan, Refuses}
use Rattle.clear_reading.specs.declared.stored.StoredRows.{StoredRows}
use Rattle.clear_debts.proofs.ReadLemmas.{was_clean}

all_behind : {X : Type 0} (P : X → Type 0) (xs ys : List X) → AllByRecursion P (xs ++ ys) → AllByRecursion P ys
all_behind P [] ys all = all
all_behind P (x ∷ xs) ys all = all_behind P xs ys all.1

memory : (why : Fault) → why ≡ Memory → IsOfDisk why
memory why is = subst (λ (w : Fault). IsOfDisk w) (sym is) ((λ e. absurd (cc e)), (λ e. absurd (cc e)))

-- amounts that come to too much are those of rows that no further ones make right
pub adding_unless : {S Row : Type 0} (gives : S → Option Row → S → Type 0) (refuses : S → Fault → S → Type 0) (amount : Row → ℕ) (old : S) (why : Fault) (new : S) → IsCutOffAdding gives refuses amount old why new
    → IsCutOffUnless gives refuses (λ rows. sum_by amount rows < 2 ^ 64) old why new
adding_unless gives refuses amount old why new (inl cut) = inl cut
adding_unless gives refuses amount old why new (inr (is, (given, run, much))) =
    inr (is, (given, inl (run, λ more small. let sum = sum_by-append amount given more in absurd (omega (arith, much, sum, small)))))

module _ {S T X : Type 0} (g : Ghosts S) (show : X → Row) (P : X → Type 0) where
  -- the connection that a reader has lent
  abbrev pub conn_of : StoredRows S T g → Held S
  conn_of reader = reader.rows.now.conn.now

  -- calls that gave these rows
  record Ran (old new : StoredRows S T g) (given : List X) : Type 0 where
    name : KeepsLoan g old new
    mode : (conn_of old).in_transaction ≡ false → (conn_of new).in_transaction ≡ false
    survives : Survives (state g (conn_of old)) (state g (conn_of new)) (λ _. ⊥)
    same : HasCleanDisk (state g (conn_of new)) → (s : Held S) → IsUnchanged (state g (conn_of new)) (state g s) → IsUnchanged (state g (conn_of old)) (state g s)
    kept : HasCleanDisk (state g (conn_of new)) → KeepsCommit (state g (conn_of old)) (state g (conn_of new))
    good : AllByRecursion P given
    left : HasCleanDisk (state g (conn_of new)) → (rest : List X) → HasToGive g show (conn_of old) rest
        → (more : List X) × (rest ≡ given ++ more) × HasToGive g show (conn_of new) more

  stay : (old : StoredRows S T g) → Ran old old []
  stay old = record {
    name = (refl, refl);
    mode = λ m. m;
    survives = survives_none (state g (conn_of old));
    same = λ clean s same. same;
    kept = λ clean. keeps_none (state g (conn_of old));
    good = tt;
    left = λ clean rest to_give. (rest, refl, to_give);
  }

  ran : (old new : StoredRows S T g) (given : List X) → Yields (Gives g show P) old given new → Ran old new given
  ran old new [] is = subst (λ n. Ran old n []) is (stay old)
  ran old new (x ∷ xs) (mid, step, run) =
      let a = state g (conn_of old) in
      let b = state g (conn_of mid) in
      let c = state g (conn_of new) in
      let later = ran mid new xs run in
      let asked : Advances g (conn_of old) (conn_of mid) show P (Ok (Some x)) = step.1 in
      let early : HasCleanDisk c → HasCleanDisk b = was_clean b c later.survives in
      record {
        name = (later.name.0 ∙ step.0.0, later.name.1 ∙ step.0.1);
        mode = λ m. later.mode (asked.mode m);
        survives = survives_both a b c asked.survives later.survives;
        same = λ clean s same. unchanged_then a b (state g s) (asked.same (early clean)) (later.same clean s same);
        kept = λ clean. keeps_both a b c (asked.kept (early clean)) (later.kept clean);
        good = (asked.good, later.good);
        left = λ clean rest to_give.
            let got = asked.gives (early clean) rest to_give in
            let more = later.left clean got.0 got.2 in
            (more.0, got.1 ∙ ap (λ l. x ∷ l) more.1, more.2);
      }

  -- the calls up to the end
  pub record Done (old new : StoredRows S T g) (given : List X) : Type 0 where
    pub name : KeepsLoan g old new
    pub mode : (conn_of old).in_transaction ≡ false → (conn_of new).in_transaction ≡ false
    pub survives : Survives (state g (conn_of old)) (state g (conn_of new)) (λ _. ⊥)
    pub same : HasCleanDisk (state g (conn_of new)) → IsUnchanged (state g (conn_of old)) (state g (conn_of new))
    pub good : AllByRecursion P given
    pub is : HasCleanDisk (state g (conn_of new)) → (rest : List X) → HasToGive g show (conn_of old) rest → given ≡ rest

  -- gave just the rows that were to come, in their ranges, and changed nothing
  pub done : (old new : StoredRows S T g) (given : List X) → YieldsThen (Gives g show P) old given None new → Done old new given
  done old new given (last, run, end) =
      let a = state g (conn_of old) in
      let b = state g (conn_of last) in
      let c = state g (conn_of new) in
      let all = ran old last given run in
      let asked : Advances g (conn_of last) (conn_of new) show P (Ok None) = end.1 in
      let early : HasCleanDisk c → HasCleanDisk b = was_clean b c asked.survives in
      record {
        name = (end.0.0 ∙ all.name.0, end.0.1 ∙ all.name.1);
        mode = λ m. asked.mode (all.mode m);
        survives = survives_both a b c all.survives asked.survives;
        same = λ clean. all.same (early clean) (conn_of new) (asked.same clean);
        good = all.good;
        is = λ clean rest to_give.
            let got = all.left (early clean) rest to_give in
            let none : got.0 ≡ [] = asked.gives clean got.0 got.2 in
            sym (got.1 ∙ ap (λ l. given ++ l) none ∙ append-nil given);
      }

  -- calls that ended with a refusal: where the rows to come are right, for no fault of a key or of a
  -- row
  pub record Stopped (AreRight : List X → Type 0) (old : StoredRows S T g) (why : Fault) (new : StoredRows S T g) : Type 0 where
    pub name : KeepsLoan g old new
    pub mode : (conn_of old).in_transaction ≡ false → (conn_of new).in_transaction ≡ false
    pub survives : Survives (state g (conn_of old)) (state g (conn_of new)) (λ _. ⊥)
    pub kept : HasCleanDisk (state g (conn_of new)) → KeepsCommit (state g (conn_of old)) (state g (conn_of new))
    pub disk : HasCleanDisk (state g (conn_of new)) → (rest : List X) → HasToGive g show (conn_of old) rest → AreRight rest → IsOfDisk why

  -- rows in their ranges are right
  stopped : (old new : StoredRows S T g) (why : Fault) → IsCutOff (Gives g show P) (Refuses g show P) old why new → Stopped (AllByRecursion P) old why new
  stopped old new why (inl (is, (given, inl run))) =
      let all = ran old new given run in
      record { name = all.name; mode = all.mode; survives = all.survives; kept = all.kept; disk = λ clean rest to_give ranges. memory why is }
  stopped old new why (inl (is, (given, inr run))) =
      let all = done old new given run in
      record { name = all.name; mode = all.mode; survives = all.survives; kept = λ clean. unchanged_keeps (state g (conn_of old)) (state g (conn_of new)) (all.same clean); disk = λ clean rest to_give ranges. memory why is }
  stopped old new why (inr (given, last, run, refuses)) =
      let a = state g (conn_of old) in
      let b = state g (conn_of last) in
      let c = state g (conn_of new) in
      let all = ran old last given run in
      let asked : Advances g (conn_of last) (conn_of new) show P (Err why) = refuses.1 in
      let early : HasCleanDisk c → HasCleanDisk b = was_clean b c asked.survives in
      record {
        name = (refuses.0.0 ∙ all.name.0, refuses.0.1 ∙ all.name.1);
        mode = λ m. asked.mode (all.mode m);
        survives = survives_both a b c all.survives asked.survives;
        kept = λ clean. keeps_both a b c (all.kept (early clean)) (asked.kept clean);
        disk = λ clean rest to_give ranges.
            let got = all.left (early clean) rest to_give in
            let good = all_behind P given got.0 (subst (AllByRecursion P) got.1 ranges) in (
              asked.cause clean got.0 got.2,
              λ is. let it = asked.range clean got.0 got.2 is in it.3 (subst (AllByRecursion P) it.2 good).0,
            );
      }

  -- and so are those that are right besides
  pub stopped_unless : (IsRight : List X → Type 0) (old new : StoredRows S T g) (why : Fault) → IsCutOffUnless (Gives g show P) (Refuses g show P) IsRight old why new
      → Stopped (λ rows. AllByRecursion P rows × IsRight rows) old why new
  stopped_unless IsRight old new why (inl cut) =
      let all = stopped old new why cut in
      record { name = all.name; mode = all.mode; survives = all.survives; kept = all.kept; disk = λ clean rest to_give right. all.disk clean rest to_give right.0 }
  stopped_unless IsRight old new why (inr (is, (given, inl (run, wrong)))) =
      let all = ran old new given run in
      record {
        name = all.name;
        mode = all.mode;
        survives = all.survives;
        kept = all.kept;
        disk = λ clean rest to_give right.
            let got = all.left clean rest to_give in
            absurd (wrong got.0 (subst IsRight got.1 right.1));
      }
  stopped_unless IsRight old new why (inr (is, (given, inr (run, wrong)))) =
      let all = done old new given run in
      record {
        name = all.name;
        mode = all.mode;
        survives = all.survives;
        kept = λ clean. unchanged_keeps (state g (conn_of old)) (state g (conn_of new)) (all.same clean);
        disk = λ clean rest to_give right. absurd (wrong (subst IsRight (sym (all.is clean rest to_give)) right.1));
      }

  -- and so are those whose amounts can be added up
  stopped_adding : (amount : X → ℕ) (old new : StoredRows S T g) (why : Fault) → IsCutOffAdding (Gives g show P) (Refuses g show P) amount old why new → Stopped (AreAddable P amount) old why new
  stopped_adding amount old new why cut = stopped_unless (λ rows. sum_by amount rows < 2 ^ 64) old new why (adding_unless (Gives g show P) (Refuses g show P) amount old why new cut)

  -- where the rows that a reader gave up to its end are right, those that were to come are
  pub told_right : {A : Type 0} (old new : StoredRows S T g) (IsRight : List X → Type 0) (it : A) (given : List X) → YieldsThen (Gives g show P) old given None new → IsRight given
      → TellsOnlyOver g show (conn_of old) (conn_of new) (AreRightIn P IsRight) (Ok it)
  told_right old new IsRight it given run right =
      let all = done old new given run in
      record { right = λ clean rest to_give. subst (AreRightIn P IsRight) (all.is clean rest to_give) (all.good, right) }

  -- what is told of the rows that a reader gave up to its end, and what was refused
  module _ {A : Type 0} (old new : StoredRows S T g) (told_of : List X → A) (AreRight : List X → Type 0) where
    pub told : (it : A) (given : List X) → YieldsThen (Gives g show P) old given None new → it ≡ told_of given → Tells g show (conn_of old) (conn_of new) told_of AreRight (Ok it)
    told it given run is =
        let all = done old new given run in
        record {
          written = λ clean rest to_give. is ∙ ap told_of (all.is clean rest to_give);
          cause = λ clean rest to_give right. tt;
          same = all.same;
          kept = λ clean. unchanged_keeps (state g (conn_of old)) (state g (conn_of new)) (all.same clean);
          mode = all.mode;
          survives = all.survives;
        }

    pub cut_off : (why : Fault) → Stopped AreRight old why new → Tells g show (conn_of old) (conn_of new) told_of AreRight (Err why)
    cut_off why all =
        record {
          written = λ clean rest to_give. tt;
          cause = all.disk;
          same = λ clean. tt;
          kept = all.kept;
          mode = all.mode;
          survives = all.survives;
        }

  -- so a count of rows whose amounts are added up
  pub counted : {A : Type 0} (old new : StoredRows S T g) (count_of : List X → A) (amount : X → ℕ) (result : Result A Fault) → IfOk result (λ it. (given : List X) × YieldsThen (Gives g show P) old given None new × (it ≡ count_of given))
      → IfErr result (λ why. IsCutOffAdding (Gives g show P) (Refuses g show P) amount old why new) → KeepsLoan g old new × Tells g show (conn_of old) (conn_of new) count_of (AreAddable P amount) result
  counted old new count_of amount (Ok it) all cut = ((done old new all.0 all.1).name, told old new count_of (AreAddable P amount) it all.0 all.1 all.2)
  counted old new count_of amount (Err why) all cut =
      let stop = stopped_adding amount old new why cut in
      (stop.name, cut_off old new count_of (AreAddable P amount) why stop)
