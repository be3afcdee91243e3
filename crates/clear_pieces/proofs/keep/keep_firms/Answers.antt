use Rattle.std.proofs.Common.{◌≡◌, ◌∷◌, ◌∙◌, ℕ, List, Err, None, Ok, Some, false, refl, sym, subst}
use Rattle.std.specs.BTreeMap.{get}
use Rattle.std.specs.List.{All}
use Rattle.std.specs.List.Sorted.{IsStrictlySortedBy}
use Rattle.std.specs.Map.{keys_of}
use Rattle.std.specs.Ordering.{nat_cmp}
use Rattle.std.proofs.lemmas.Result.{err_from_is_err_and}
use Rattle.std.proofs.lemmas.List.Elements.{All-head, All-tail}
use Rattle.std.proofs.lemmas.Map.Keys.{sorted_tail}
use Rattle.clear_laws.proofs.WeighedFollowsLemmas.{is_among}
use Rattle.clear_pieces.specs.declared.behind.NewCredits.{NewCredits}
use Rattle.clear_pieces.proofs.MapLemmas.{not_found, stands_once}
use Rattle.clear_pieces.proofs.ProgressLemmas.{Progress, all_done, none_done, one_done, one_failed}
use Rattle.clear_pieces.proofs.keep.keep_firms.Goals as goal

pub loop-employer-init : goal.loop-employer-init
loop-employer-init g c =
    let gives = c.into_iter-employer-iterator.ensures.into_iter_gives in
    record {
      same_reference = refl;
      sorted = subst (λ (es : List (ℕ × NewCredits)). IsStrictlySortedBy nat_cmp (keys_of es)) (sym gives.0) gives.5;
      found = subst (All (λ (entry : ℕ × NewCredits). get nat_cmp c.args.firms.now entry.0 ≡ Some entry.1)) (sym gives.0) gives.6;
      done = λ news are.
          none_done g.S.Store c.args.tx.now.conn.now news (get nat_cmp c.args.firms.now) are (keys_of c.into_iter-employer-iterator.result)
          (subst (λ (es : List (ℕ × NewCredits)). (e : ℕ) → is_among (keys_of es) e ≡ false → get nat_cmp c.args.firms.now e ≡ None) (sym gives.0) (λ e is. not_found c.args.firms.now.entries e is));
      rests = λ none. refl;
    }

pub loop-employer-preserved : goal.loop-employer-preserved
loop-employer-preserved g c =
    let so_far = c.loop-employer.invariant in
    let e = c.in-Some.employer.now in
    let credits = c.in-Some.credits.now in
    let rest = c.next.new.self in
    let steps = c.in-Some.ensures.steps in
    let sorted : IsStrictlySortedBy nat_cmp (e ∷ keys_of rest) = subst (λ (es : List (ℕ × NewCredits)). IsStrictlySortedBy nat_cmp (keys_of es)) steps so_far.sorted in
    let found : All (λ (entry : ℕ × NewCredits). get nat_cmp c.args.firms.now entry.0 ≡ Some entry.1) ((e, credits) ∷ rest) = subst (All (λ (entry : ℕ × NewCredits). get nat_cmp c.args.firms.now entry.0 ≡ Some entry.1)) steps so_far.found in
    record {
      same_reference = c.allocate_from_credits.ensures.same_reference ∙ so_far.same_reference;
      sorted = sorted_tail nat_cmp e (keys_of rest) sorted;
      found = All-tail (λ (entry : ℕ × NewCredits). get nat_cmp c.args.firms.now entry.0 ≡ Some entry.1) (e, credits) rest found;
      done = λ news are.
          let before : Progress g.S.Store c.args.tx.now.conn.now news c.loop-employer.tx.conn.now (Ok tt) (e ∷ keys_of rest) = subst (λ (es : List (ℕ × NewCredits)). Progress g.S.Store c.args.tx.now.conn.now news c.loop-employer.tx.conn.now (Ok tt) (keys_of es)) steps (so_far.done news are) in
          one_done g.S.Store c.args.tx.now.conn.now news (get nat_cmp c.args.firms.now) are c.loop-employer.tx.conn.now c.allocate_from_credits.new.tx.conn.now e credits (keys_of rest) (All-head (λ (entry : ℕ × NewCredits). get nat_cmp c.args.firms.now entry.0 ≡ Some entry.1) (e, credits) rest found) (stands_once e (keys_of rest) sorted) before (Ok tt) c.in_ok-allocate_from_credits.ensures.allocates;
      rests = λ none. absurd (let one = All-head (λ (entry : ℕ × NewCredits). get nat_cmp c.args.firms.now entry.0 ≡ Some entry.1) (e, credits) rest found in let no = none e in cc);
    }

pub returns-in_err-allocate_from_credits-clause-keeps : goal.returns-in_err-allocate_from_credits-clause-keeps
returns-in_err-allocate_from_credits-clause-keeps g c = λ news are.
    let p = err_from_is_err_and c.from_residual.result c.from_residual.ensures.1 in
    let so_far = c.loop-employer.invariant in
    let e = c.in-Some.employer.now in
    let credits = c.in-Some.credits.now in
    let rest = c.next.new.self in
    let steps = c.in-Some.ensures.steps in
    let sorted : IsStrictlySortedBy nat_cmp (e ∷ keys_of rest) = subst (λ (es : List (ℕ × NewCredits)). IsStrictlySortedBy nat_cmp (keys_of es)) steps so_far.sorted in
    let found : All (λ (entry : ℕ × NewCredits). get nat_cmp c.args.firms.now entry.0 ≡ Some entry.1) ((e, credits) ∷ rest) = subst (All (λ (entry : ℕ × NewCredits). get nat_cmp c.args.firms.now entry.0 ≡ Some entry.1)) steps so_far.found in
    let before : Progress g.S.Store c.args.tx.now.conn.now news c.loop-employer.tx.conn.now (Ok tt) (e ∷ keys_of rest) = subst (λ (es : List (ℕ × NewCredits)). Progress g.S.Store c.args.tx.now.conn.now news c.loop-employer.tx.conn.now (Ok tt) (keys_of es)) steps (so_far.done news are) in
    rw (p.1, p.2) (one_failed g.S.Store c.args.tx.now.conn.now news c.allocate_from_credits.new.tx.conn.now (keys_of rest) c.in_err-allocate_from_credits.field-0.0
    (one_done g.S.Store c.args.tx.now.conn.now news (get nat_cmp c.args.firms.now) are c.loop-employer.tx.conn.now c.allocate_from_credits.new.tx.conn.now e credits (keys_of rest) (All-head (λ (entry : ℕ × NewCredits). get nat_cmp c.args.firms.now entry.0 ≡ Some entry.1) (e, credits) rest found) (stands_once e (keys_of rest) sorted) before (Err c.in_err-allocate_from_credits.field-0.0) c.in_err-allocate_from_credits.ensures.allocates))

pub returns-clause-keeps : goal.returns-clause-keeps
returns-clause-keeps g c = λ news are.
    all_done g.S.Store c.args.tx.now.conn.now news c.loop-employer.tx.conn.now (Ok tt)
    (subst (λ (es : List (ℕ × NewCredits)). Progress g.S.Store c.args.tx.now.conn.now news c.loop-employer.tx.conn.now (Ok tt) (keys_of es)) c.in-None.ensures.steps.0 (c.loop-employer.invariant.done news are))

pub returns-in_err-allocate_from_credits-clause-rests : goal.returns-in_err-allocate_from_credits-clause-rests
returns-in_err-allocate_from_credits-clause-rests g c none =
    let e = c.in-Some.employer.now in
    let credits = c.in-Some.credits.now in
    let rest = c.next.new.self in
    let found : All (λ (entry : ℕ × NewCredits). get nat_cmp c.args.firms.now entry.0 ≡ Some entry.1) ((e, credits) ∷ rest) = subst (All (λ (entry : ℕ × NewCredits). get nat_cmp c.args.firms.now entry.0 ≡ Some entry.1)) c.in-Some.ensures.steps c.loop-employer.invariant.found in
    absurd (let one = All-head (λ (entry : ℕ × NewCredits). get nat_cmp c.args.firms.now entry.0 ≡ Some entry.1) (e, credits) rest found in let no = none e in cc)
