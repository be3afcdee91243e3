use Rattle.std.proofs.Common.{◌≡◌, ◌+◌, Bool, cond, List, ◌∷◌, Option, drop, refl, sym, ap, inr, ◌∙◌}
use Rattle.std.specs.Option.{option_map}
use Rattle.clear_book.specs.declared.documents.ChargeState.{ChargeState}
use Rattle.clear_book.specs.declared.documents.Payment.{Payment}
use Rattle.clear_book.specs.Own.Statement.{payment_in}
use Rattle.clear_texts.proofs.PaidLemmas.{left_from, takes_one}
use Rattle.clear_texts.proofs.paid.PaidRowsRowSource.next.Goals as goal
use Rattle.clear_texts.proofs.paid.PaidRowsRowSource.next.Goals.{then-not-is_under-2, else-not-is_under-2}

pub returns-clause-gives : goal.returns-clause-gives
returns-clause-gives g c =
    let old = c.args.self.now in
    let state = c.in-Some.state.now in
    let states : List ChargeState = drop (c.args.self.now.place + 1) c.args.self.now.charges.now in
    let found = rw c.in-Some.is at c.get.ensures.lookup in
    let at = left_from c.args.self.now.charges.now c.args.self.now.place c.in-Some.state.now found.3.0 found.1 in
    let under = sym c.is_under.ensures ∙ c.if-not-is_under.false in
    let gives : g.R.RowSource.next_gives c.args.self.now.pieces.now c.replace-piece.new.dest c.next.new.self = rw c.replace-piece.ensures.after c.in_ok-following.ensures.gives in
    let row : record { state = c.in-Some.state.now; piece = c.payment.result } ≡ _ = ap (λ (piece : Option Payment). record { state = c.in-Some.state.now; piece = piece }) (c.payment.ensures ∙ ap (option_map payment_in) c.replace-piece.ensures.value) in
    elim c.if-not-is_under-2.branch [
      | then-not-is_under-2 w ↦ rw w.self-is (refl, inr (takes_one g.R.RowSource.next_gives old.pieces.now c.next.new.self old.next.now c.replace-piece.new.dest state _ states states _ at under gives (ap (λ (b : Bool). cond b (state ∷ states) states) (sym (sym c.is_under-2.ensures ∙ w.if-not-is_under-2.true))) row))
      | else-not-is_under-2 w ↦ rw w.self-is (refl, inr (takes_one g.R.RowSource.next_gives old.pieces.now c.next.new.self old.next.now c.replace-piece.new.dest state _ states _ _ at under gives (at ∙ ap (λ (b : Bool). cond b (state ∷ states) states) (sym (sym c.is_under-2.ensures ∙ w.if-not-is_under-2.false))) row))
    ]
