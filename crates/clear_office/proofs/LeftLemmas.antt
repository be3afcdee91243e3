-- What a crash leaves of an office after calls: the book, or that after the call that failed.
use Rattle.std.proofs.Common.{◌≡◌, ◌⊎◌, inl, inr, Bool, true, false, List, [], ◌∷◌, ◌++◌, refl, sym, subst}
use Rattle.sqlite.specs.Held.{state}
use Rattle.sqlite.specs.Store.{Ghosts}
use Rattle.sqlite.specs.Tree.{Trees}
use Rattle.clear_book.specs.declared.calls.Call.{Call}
use Rattle.clear_book.specs.declared.outcomes.Outcome.{Outcome}
use Rattle.clear_book.specs.declared.rules.StoreCause.TheVariants.{Other}
use Rattle.clear_book.specs.Book.{Book}
use Rattle.clear_book.specs.Machine.{Faults, Goes, IsLawful, Runs, step}
use Rattle.clear_office.specs.Office.{Acts, AtOffice, HoldsBut, IsFailedCall, IsHonest, IsLeftBy, Keeps, KeepsUnlessBut, LeavesOnly, RunsOffice, TellsStoreFault}
use Rattle.clear_office.proofs.RunLemmas.{more}

-- after a fault the book stays
pub stays_after : (then : Bool) (b : Book) (call : Call) (outcome : Outcome) (next : Book) → Goes true then b call outcome next → next ≡ b
stays_after true b call outcome next goes = goes.1
stays_after false b call outcome next goes = absurd goes

-- this call, whose outcome tells of a fault
abbrev pub ByCall : Call → Outcome → Call → Type 0
ByCall call outcome c = (c ≡ call) × TellsStoreFault outcome

module _ {S : Type 0} (g : Ghosts S) where
  -- fewer calls are among more
  pub leaves_such : (Few Many : Call → Type 0) (office : AtOffice S) (b : Book) → ((call : Call) → Few call → Many call) → LeavesOnly g Few office b → LeavesOnly g Many office b
  leaves_such Few Many office b all leaves trees may = elim (leaves trees may) [
    | inl same ↦ inl same
    | inr one ↦ inr (one.0, all one.0 one.1, one.2)
  ]

  -- an office that hasn't failed leaves its book alone
  pub leaves_working : (IsSuch : Call → Type 0) (office : AtOffice S) (b : Book) → office.failed ≡ false → Keeps g office b → LeavesOnly g IsSuch office b
  leaves_working IsSuch office b working keeps trees may =
      let held : HoldsBut (λ row. row) g office.conn b = subst (λ (f : Bool). KeepsUnlessBut (λ row. row) g f office.conn b) working keeps in
      inl (held.0, held.1, held.2.left trees may)

  -- one that fails by a call leaves the book, or that after the call
  module _ (old new : AtOffice S) (call : Call) (outcome : Outcome) (b next : Book) (working : old.failed ≡ false) (keeps : Keeps g old b) where
    leaves_failing : Faults b call outcome next → ((trees : Trees) → (state g new.conn).may_leave trees → (state g old.conn).may_leave trees ⊎ IsLeftBy (step b call) trees) → LeavesOnly g (ByCall call outcome) new next
    leaves_failing faults crash trees may = elim (crash trees may) [
      | inl before ↦ subst (λ (k : Book). IsLeftBy k trees ⊎ ((c : Call) × ByCall call outcome c × IsLeftBy (step k c) trees)) (sym faults.2) (leaves_working (ByCall call outcome) old b working keeps trees before)
      | inr one ↦ inr (call, (refl, (Other, faults.0)), subst (λ (k : Book). IsLeftBy (step k call) trees) (sym faults.2) one)
    ]

    pub leaves_by : Goes old.failed new.failed b call outcome next → Keeps g new next → ((trees : Trees) → (state g new.conn).may_leave trees → (state g old.conn).may_leave trees ⊎ IsLeftBy (step b call) trees) → LeavesOnly g (ByCall call outcome) new next
    leaves_by goes kept crash = told new.failed refl
      where
        told : (f : Bool) → new.failed ≡ f → LeavesOnly g (ByCall call outcome) new next
        told false is = leaves_working (ByCall call outcome) new next is kept
        told true is = leaves_failing (subst (λ (p : Bool × Bool). Goes p.0 p.1 b call outcome next) (λ i. (working i, is i)) goes) crash

-- the call that failed among more calls
failed_before : (calls xs : List Call) (outcomes ys : List Outcome) (failed : Call) → IsFailedCall calls outcomes failed → IsFailedCall (calls ++ xs) (outcomes ++ ys) failed
failed_before [] xs outcomes ys failed is = absurd is
failed_before (call ∷ calls) xs [] ys failed is = absurd is
failed_before (call ∷ calls) xs (outcome ∷ outcomes) ys failed (inl here) = inl here
failed_before (call ∷ calls) xs (outcome ∷ outcomes) ys failed (inr there) = inr (failed_before calls xs outcomes ys failed there)

failed_last : (failed end : Bool) (b : Book) (calls : List Call) (outcomes : List Outcome) (last : Book) (call : Call) (outcome : Outcome) (c : Call) → Runs failed end b calls outcomes last → ByCall call outcome c → IsFailedCall (calls ++ call ∷ []) (outcomes ++ outcome ∷ []) c
failed_last failed end b [] [] last call outcome c runs is = inl is
failed_last failed end b [] (o ∷ os) last call outcome c runs is = absurd runs
failed_last failed end b (k ∷ ks) [] last call outcome c runs is = absurd runs
failed_last failed end b (k ∷ ks) (o ∷ os) last call outcome c runs is = inr (failed_last runs.0 end runs.1 ks os last call outcome c runs.3 is)

-- a run of an office goes on by one call
module _ {S : Type 0} (g : Ghosts S) where
  pub runs_more : (old mid new : AtOffice S) (calls : List Call) (outcomes : List Outcome) (call : Call) (outcome : Outcome) → RunsOffice g old calls outcomes mid → (IsHonest g new → IsHonest g mid) → Acts g mid call outcome new → RunsOffice g old (calls ++ call ∷ []) (outcomes ++ outcome ∷ []) new
  runs_more old mid new calls outcomes call outcome runs clean acts honest b lawful keeps =
      let r = runs (clean honest) b lawful keeps in
      let s = acts.steps honest r.0 r.2 r.3 in
      (s.0, more old.failed mid.failed new.failed b calls outcomes r.0 s.0 call outcome r.1 s.1, s.2, s.3, λ working. left r.0 s.0 r.1 r.2 r.3 (r.4 working) s.1 s.3 mid.failed refl)
    where
      Failed : Call → Type 0
      Failed = IsFailedCall (calls ++ call ∷ []) (outcomes ++ outcome ∷ [])

      left : (last next : Book) → Runs old.failed mid.failed b calls outcomes last → IsLawful last → Keeps g mid last → LeavesOnly g (IsFailedCall calls outcomes) mid last
          → Goes mid.failed new.failed last call outcome next → Keeps g new next → (f : Bool) → mid.failed ≡ f → LeavesOnly g Failed new next
      left last next run fair kept leaves goes then false is =
          leaves_such g (ByCall call outcome) Failed new next
          (λ c one. failed_last old.failed mid.failed b calls outcomes last call outcome c run one)
          (leaves_by g mid new call outcome last next is kept goes then (acts.leaves honest last fair kept))
      left last next run fair kept leaves goes then true is =
          let same : next ≡ last = stays_after new.failed last call outcome next (subst (λ (f : Bool). Goes f new.failed last call outcome next) is goes) in
          subst (λ (p : AtOffice S × Book). LeavesOnly g Failed p.0 p.1) (λ i. (sym (acts.stays is) i, sym same i))
          (leaves_such g (IsFailedCall calls outcomes) Failed mid last (λ c one. failed_before calls (call ∷ []) outcomes (outcome ∷ []) c one) leaves)
