-- What a refusal tells, and refusals that are passed on.
use Rattle.std.proofs.Common.{◌≡◌, false, inl, inr, ℕ, Option, Some, None, IfSome, MatchOption, Result, Ok, Err, IfErr, IsTrue, refl, sym, subst}
use Rattle.std.proofs.lemmas.Option.{IfSome_then}
use Rattle.sqlite.specs.Store as store
use Rattle.sqlite.specs.Files.{HoldsDatabase}
use Rattle.sqlite.specs.Held.{state}
use Rattle.sqlite.specs.Tree.{Trees}
use Rattle.clear_book.specs.Tables.{Tables}
use Rattle.clear_schema.specs.Schema.{this_layout}
use Rattle.sqlite.specs.State.{HasCleanDisk, State}
use Rattle.sqlite_wal.specs.Recovery.{Image}
use Rattle.clear_schema.specs.Faults.{IsOfDisk, IsWrong, TellsOutOfRange, other_layout}
use Rattle.clear_schema.specs.Held.{HasTables, TellsAs, this_schema}
use Rattle.clear_schema.specs.declared.fault.Fault.{Fault}
use Rattle.clear_schema.specs.declared.fault.Fault.TheVariants.{Memory, Store}
use Rattle.clear_book.specs.declared.rules.StoreCause.TheVariants.{Constraint, Row, Other}
use Rattle.clear_migrate.specs.Answered.{AnswersOrFails}
use Rattle.clear_schema.specs.declared.fault.OpenFault.{OpenFault}
use Rattle.clear_schema.specs.declared.fault.OpenFault.TheVariants.{WrongVersion, Failed}
use Rattle.clear_host.specs.Contents.{AreBlameless, BlamesCounts, BlamesNone, FailsOver, HandsBack, HasJust, HoldsBelowZero, HoldsOtherLayout, HoldsStore, IfOpen, IfRefused, IsBare, IsOutside, IsWhyUnopened, KeepsTables, LeavesAlone, MakesNone, TellsNone, TellsOnly, TellsOther}
use Rattle.clear_host.specs.Offices.{IsOurs, Leaves, TellsOf, TellsOfNew}
use Rattle.clear_host.specs.declared.offices.NotOpened.{NotOpened}

pub tells_only : (number : ℕ) (fault : OpenFault) → ((told : ℕ) → fault ≡ WrongVersion told → told ≡ number) → TellsOnly number fault
tells_only number (WrongVersion told) is = is told refl
tells_only number (Failed fault) is = tt

pub tells_none : (fault : OpenFault) → ((told : ℕ) → ¬ (fault ≡ WrongVersion told)) → TellsNone fault
tells_none (WrongVersion told) never = never told refl
tells_none (Failed fault) never = tt

pub blames_none : (fault : OpenFault) → ((why : Fault) → fault ≡ Failed why → IsOfDisk why) → BlamesNone fault
blames_none (WrongVersion told) disk = tt
blames_none (Failed why) disk = disk why refl

pub none_only : (number : ℕ) (fault : OpenFault) → TellsNone fault → TellsOnly number fault
none_only number (WrongVersion told) none = absurd none
none_only number (Failed fault) none = tt

pub none_wrong : (this found : ℕ) (fault : OpenFault) → TellsNone fault → IsWrong this found fault
none_wrong this found (WrongVersion told) none = absurd none
none_wrong this found (Failed fault) none = tt

-- of blameless files that hold a store of this program, its counts are in their ranges
pub counts_blameless : (image : Image) (s : State) (fault : OpenFault) → IsOurs image → ((t : Tables) → HoldsStore this_layout t image → HasTables t s.now) → BlamesCounts s fault → AreBlameless image → BlamesNone fault
counts_blameless image s fault ours has none (inl unnumbered) = absurd (ours.only_stores unnumbered)
counts_blameless image s fault ours has none (inr (inl (number, holds, other))) = absurd (other (ours.only_this number holds))
counts_blameless image s fault ours has none (inr (inr (t, holds, good))) = none t (has t holds) good

-- where there is no connection, nothing is said of the fault
pub unconnected : {S : Type 0} (g : store.Ghosts S) (P : OpenFault → Type 0) (refused : NotOpened S) → refused.connection ≡ None → IfRefused g P refused
unconnected g P refused none = subst (λ at. IfSome at (λ conn. HasCleanDisk (state g conn) → P refused.fault)) (sym none) tt

pub never_open : {S : Type 0} (g : store.Ghosts S) (P : State → Type 0) (refused : NotOpened S) → refused.connection ≡ None → IfOpen g P refused
never_open g P refused none =
    subst (λ at. IfSome at (λ conn. HasCleanDisk (state g conn) → IsTrue (state g conn).is_open → P (state g conn))) (sym none) tt

pub none_outside : {S : Type 0} (refused : NotOpened S) → refused.connection ≡ None → IsOutside refused
none_outside refused none = subst (λ at. IfSome at (λ conn. conn.in_transaction ≡ false)) (sym none) tt

-- a connection that is handed back is one, in no transaction, and nothing had stood in its way
handed : {X : Type 0} (P W : Type 0) (Q : X → Type 0) (o : Option X) → MatchOption o ⊥ (λ x. P × Q x) → MatchOption o W (λ x. P)
handed P W Q None back = absurd back
handed P W Q (Some x) back = back.0

lone : {X : Type 0} (P : Type 0) (Q : X → Type 0) (o : Option X) → MatchOption o ⊥ (λ x. P × Q x) → IfSome o Q
lone P Q None back = absurd back
lone P Q (Some x) back = back.1

module _ {S A : Type 0} where
  pub back_why : (r : Result A (NotOpened S)) → IfErr r HandsBack → IfErr r IsWhyUnopened
  back_why (Ok it) back = tt
  back_why (Err refused) back = handed _ _ _ refused.connection back

  pub back_outside : (r : Result A (NotOpened S)) → IfErr r HandsBack → IfErr r IsOutside
  back_outside (Ok it) back = tt
  back_outside (Err refused) back = lone _ _ refused.connection back

if_both : {A : Type 0} (o : Option A) (P Q R : A → Type 0) → IfSome o P → IfSome o Q → ((a : A) → P a → Q a → R a) → IfSome o R
if_both None P Q R p q both = tt
if_both (Some a) P Q R p q both = both a p q

module _ {S : Type 0} (g : store.Ghosts S) (image : Image) where
  -- files that weren't opened
  pub unopened_leaves : (refused : NotOpened S) → refused.connection ≡ None → Leaves g image refused
  unopened_leaves refused none = record {
    tables = λ t _. never_open g (λ s. HasTables t s.now × HasTables t s.committed) refused none;
    others = λ number trees _ _ _. never_open g (HasJust trees) refused none;
    otherwise = λ trees _ _. never_open g (HasJust trees) refused none;
    unnumbered = λ db _ _ _. never_open g (HasJust db.trees) refused none;
    nothing = λ _. never_open g IsBare refused none;
  }

  pub unopened_alone : (refused : NotOpened S) → refused.connection ≡ None → LeavesAlone g image refused
  unopened_alone refused none trees holds = never_open g (HasJust trees) refused none

  pub unopened_bare : (refused : NotOpened S) → refused.connection ≡ None → MakesNone g image refused
  unopened_bare refused none nothing = never_open g IsBare refused none

  -- a refusal behind an open that found a store of this program
  pub refused_leaves : {A : Type 0} (r : Result A (NotOpened S)) (mid : State) (P : OpenFault → Type 0)
      → (HasCleanDisk mid → IsOurs image)
      → ((t : Tables) → HoldsStore this_layout t image → HasCleanDisk mid → HasTables t mid.now × HasTables t mid.committed)
      → IfErr r (FailsOver g mid P) → IfErr r (Leaves g image)
  refused_leaves (Ok it) mid P ours has fails = tt
  refused_leaves (Err refused) mid P ours has fails = record {
    tables = λ t holds. if_both refused.connection _ _ _ fails.clean fails.rests (λ conn so keeps clean live. let there = has t holds (so clean) in keeps clean live t there.0 there.1);
    others = λ number trees holds tells other. IfSome_then refused.connection fails.clean (λ conn so clean live. absurd (other ((ours (so clean)).only_this number (trees, holds, tells))));
    otherwise = λ trees holds stands. IfSome_then refused.connection fails.clean (λ conn so clean live. absurd ((ours (so clean)).not_other (trees, holds, stands)));
    unnumbered = λ db holds is which. IfSome_then refused.connection fails.clean (λ conn so clean live. elim which [
      | inl none ↦ absurd ((ours (so clean)).only_stores (inr (db, holds, none, is)))
      | inr below ↦ absurd ((ours (so clean)).not_below_zero (db, holds, below, is))
    ]);
    nothing = λ none. IfSome_then refused.connection fails.clean (λ conn so clean live. absurd ((ours (so clean)).only_stores (inl none)));
  }

  -- files that weren't opened
  pub unopened_tells : (refused : NotOpened S) → refused.connection ≡ None → TellsOf g image refused
  unopened_tells refused none = record {
    version = λ number _. unconnected g (IsWrong this_schema number) refused none;
    other = λ _. unconnected g TellsOther refused none;
    empty = λ _. unconnected g (TellsOnly 0) refused none;
    below_zero = λ _. unconnected g TellsOutOfRange refused none;
    cause = λ _. unconnected g BlamesNone refused none;
  }

  pub unopened_new : (refused : NotOpened S) → refused.connection ≡ None → TellsOfNew g image refused
  unopened_new refused none = record {
    version = λ number _. unconnected g (TellsOnly number) refused none;
    no_number = λ _. unconnected g (TellsOnly 0) refused none;
    below_zero = λ _. unconnected g TellsOutOfRange refused none;
    empty = λ _. unconnected g TellsNone refused none;
    cause = λ _. unconnected g BlamesNone refused none;
  }

  -- a refusal without a number, of files that hold no other layout and no number below 0
  pub untold_tells : {A : Type 0} (r : Result A (NotOpened S)) (mid : State) (P : OpenFault → Type 0)
      → (HasCleanDisk mid → ¬ HoldsOtherLayout image) → (HasCleanDisk mid → ¬ HoldsBelowZero image)
      → ((fault : OpenFault) → P fault → HasCleanDisk mid → AreBlameless image → BlamesNone fault)
      → IfErr r (FailsOver g mid P) → IfErr r (TellsOf g image)
  untold_tells (Ok it) mid P not_other not_below blames fails = tt
  untold_tells (Err refused) mid P not_other not_below blames fails = record {
    version = λ number _. IfSome_then refused.connection fails.untold (λ conn none clean. none_wrong this_schema number refused.fault (none clean));
    other = λ holds. IfSome_then refused.connection fails.clean (λ conn so clean. absurd (not_other (so clean) holds));
    empty = λ _. IfSome_then refused.connection fails.untold (λ conn none clean. none_only 0 refused.fault (none clean));
    below_zero = λ below. IfSome_then refused.connection fails.clean (λ conn so clean. absurd (not_below (so clean) below));
    cause = λ blameless. if_both refused.connection _ _ _ fails.clean fails.cause (λ conn so p clean. blames refused.fault (p clean) (so clean) blameless);
  }

-- ---- what is answered of a database that is brought to this program's schema

pub never_so : {A : Type 0} (right : OpenFault) (it : A) → AnswersOrFails (Err right) (Ok it) → ⊥
never_so right it (inl same) = cc
never_so right it (inr (why, disk, same)) = cc

pub only_so : {A : Type 0} (number : ℕ) (fault : OpenFault) → AnswersOrFails {A = A} (Err (WrongVersion number)) (Err fault) → TellsOnly number fault
only_so number (WrongVersion told) (inl same) = cc
only_so number (WrongVersion told) (inr (why, disk, same)) = absurd cc
only_so number (Failed fault) answers = tt

pub range_so : {A : Type 0} (fault : OpenFault) → AnswersOrFails {A = A} (Err (Failed (Store Row))) (Err fault) → TellsOutOfRange fault
range_so fault (inl same) = subst TellsOutOfRange (let is : Failed (Store Row) ≡ fault = cc in is) (inl refl)
range_so fault (inr (why, disk, same)) = subst TellsOutOfRange (let is : Failed why ≡ fault = cc in is) (inr disk)

pub other_so : {A : Type 0} (fault : OpenFault) → AnswersOrFails {A = A} (Err other_layout) (Err fault) → TellsOther fault
other_so fault (inl same) some = cc
other_so fault (inr (Memory, disk, same)) some = absurd (some cc)
other_so fault (inr (Store Constraint, disk, same)) some = absurd (disk.0 refl)
other_so fault (inr (Store Row, disk, same)) some = absurd (disk.1 refl)
other_so fault (inr (Store Other, disk, same)) some = cc
