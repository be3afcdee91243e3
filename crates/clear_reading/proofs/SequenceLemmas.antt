-- What queries tell one after another.
use Rattle.std.proofs.Common.{◌≡◌, Ok, Err}
use Rattle.sqlite.specs.Held.{Held, state}
use Rattle.sqlite.specs.State.{HasCleanDisk}
use Rattle.sqlite.specs.Store.{Ghosts}
use Rattle.sqlite.proofs.Callers.{unchanged_then}
use Rattle.clear_rows.proofs.Inside.{keeps_both, survives_both}
use Rattle.clear_values.specs.Tables.{Tables}
use Rattle.clear_schema.specs.Held.{HasTables}
use Rattle.clear_schema.specs.declared.fault.Fault.{Fault}
use Rattle.clear_reading.specs.Reader.{TellsTables}
use Rattle.clear_debts.proofs.ReadLemmas.{still}

module _ {S : Type 0} (g : Ghosts S) (old mid new : Held S) {A : Type 0} {f : Tables → A} {P : Tables → Type 0} {x : A} (first : TellsTables g old mid f P (Ok x)) where
  -- the second finds the tables of the first
  there : (HasCleanDisk (state g new) → HasCleanDisk (state g mid)) → HasCleanDisk (state g new) → (t : Tables) → HasTables t (state g old).now → HasTables t (state g mid).now
  there early clean t has = still t (state g old) (state g mid) (first.same (early clean) t has) has

  -- where both tell something, they tell both
  pub both : {B : Type 0} {h : Tables → B} {Q : Tables → Type 0} {y : B} → TellsTables g mid new h Q (Ok y) → TellsTables {A = A × B} g old new (λ t. (f t, h t)) P (Ok (x, y))
  both second =
      let a = state g old in
      let b = state g mid in
      let c = state g new in
      let has_there = there second.clean in
      record {
        written = λ clean t has i. (first.written (second.clean clean) t has i, second.written clean t (has_there clean t has) i);
        cause = λ clean t has ranges is. tt;
        same = λ clean t has. unchanged_then a b c (first.same (second.clean clean) t has) (second.same clean t (has_there clean t has));
        kept = λ clean t has. keeps_both a b c (first.kept (second.clean clean) t has) (second.kept clean t (has_there clean t has));
        survives = λ clean t has. survives_both a b c (first.survives (second.clean clean) t has) (second.survives clean t (has_there clean t has));
        clean = λ clean. first.clean (second.clean clean);
        is_open = second.is_open;
      }

  -- where the second is refused, all is
  pub refused_behind : {B C : Type 0} {h : Tables → B} {Q : Tables → Type 0} {fault : Fault} (k : Tables → C) (R : Tables → Type 0) → ((t : Tables) → R t → Q t) → TellsTables g mid new h Q (Err fault) → TellsTables g old new k R (Err fault)
  refused_behind k R right second =
      let a = state g old in
      let b = state g mid in
      let c = state g new in
      let has_there = there second.clean in
      record {
        written = λ clean t has. tt;
        cause = λ clean t has ranges is. second.cause clean t (has_there clean t has) ranges (right t is);
        same = λ clean t has. tt;
        kept = λ clean t has. keeps_both a b c (first.kept (second.clean clean) t has) (second.kept clean t (has_there clean t has));
        survives = λ clean t has. survives_both a b c (first.survives (second.clean clean) t has) (second.survives clean t (has_there clean t has));
        clean = λ clean. first.clean (second.clean clean);
        is_open = λ clean. tt;
      }

-- what is told tells more
pub told_as : {S A B : Type 0} (g : Ghosts S) (old new : Held S) {f : Tables → A} {P : Tables → Type 0} {x : A} (h : Tables → B) (R : Tables → Type 0) (y : B) → ((t : Tables) → x ≡ f t → y ≡ h t) → TellsTables g old new f P (Ok x) → TellsTables g old new h R (Ok y)
told_as g old new h R y more told = record {
  written = λ clean t has. more t (told.written clean t has);
  cause = λ clean t has ranges is. tt;
  same = told.same;
  kept = told.kept;
  survives = told.survives;
  clean = told.clean;
  is_open = told.is_open;
}
