use Rattle.std.proofs.Common.{Bool, Ok, Err, cond, ◌∷◌, ◌++◌, [], inl, inr, refl, sym, ap, ◌∙◌, subst, arith}
use Rattle.std.proofs.lemmas.List.{append-nil}
use Rattle.std.specs.Io.KnownBytes.{Appends}
use Rattle.clear_answers.specs.declared.said.Said.TheVariants.{No}
use Rattle.clear_wire.specs.Counted.{inner}
use Rattle.clear_wire.specs.Cut.{left_after}
use Rattle.clear_wire.specs.Request.{next_item}
use Rattle.clear_wire.proofs.CutLemmas.{cuts_one, nothing_cut}
use Rattle.clear_wire.proofs.KnownLemmas.{Appends-nil}
use Rattle.clear_http.proofs.PlaceLemmas.{few_held}
use Rattle.clear_http.proofs.ServeLemmas.{Replied, replied_as, same_answer, says, sent_ends}
use Rattle.clear_http.proofs.serve.turn.Goals as goal
use Rattle.clear_http.proofs.serve.turn.Goals.{in-Bad, in-Whole}

pub returns-in-Ok-write_answer-clause-answered : goal.returns-in-Ok-write_answer-clause-answered
returns-in-Ok-write_answer-clause-answered g c =
    let p = next_item c.in-Ok.item in
    let wanted = c.match-item.said in
    let e : Replied (g.H.Responder.responds c.args.responder.now) c.args.state.now c.in-Ok.item wanted c.match-item.state =
    elim c.match-item.branch [
      | in-Whole w ↦ replied_as (g.H.Responder.responds c.args.responder.now) c.args.state.now _ _ _ _ _ _ w.in-Whole.is w.said-is w.state-is (tt, w.reply-said.ensures.said, w.reply-said.ensures.memory)
      | in-Bad w ↦ replied_as (g.H.Responder.responds c.args.responder.now) c.args.state.now _ _ _ _ _ _ w.in-Bad.is w.said-is w.state-is (tt, (inl (ap No w.by_stream.ensures), refl), λ none. (inr refl, refl))
    ] in
    let behind = c.what_follows-behind.result in
    let f = c.what_follows-behind.ensures in
    let w = c.in-Ok-write_answer.ensures.wrote in
    let told = says (g.H.Responder.responds c.args.responder.now) c.args.state.now p wanted w.0 c.match-item.state e.1 e.2 w.3 in
    let same = same_answer c.args.left p wanted w.0 behind.bare behind.after f.bare f.after w.3 in (
      p,
      w.0,
      e.0,
      c.in-Ok.ensures.next,
      f.after ∙ ap (λ (t : Bool). cond t 0 (left_after c.args.left p)) (sent_ends wanted w.0 w.3),
      told,
      subst (Appends (g.W.Write.contents (inner c.args.writer.now)) (g.W.Write.contents (inner c.write_answer.new.writer)))
          (sym (append-nil w.1) ∙ ap (λ t. w.1 ++ t) (sym w.6) ∙ sym w.4 ∙ same) w.5,
      f.by_rule,
    )

pub returns-clause-fault : goal.returns-clause-fault
returns-clause-fault g c =
    let p = next_item c.in-Ok.item in
    let wanted = c.match-item.said in
    let e : Replied (g.H.Responder.responds c.args.responder.now) c.args.state.now c.in-Ok.item wanted c.match-item.state =
    elim c.match-item.branch [
      | in-Whole w ↦ replied_as (g.H.Responder.responds c.args.responder.now) c.args.state.now _ _ _ _ _ _ w.in-Whole.is w.said-is w.state-is (tt, w.reply-said.ensures.said, w.reply-said.ensures.memory)
      | in-Bad w ↦ replied_as (g.H.Responder.responds c.args.responder.now) c.args.state.now _ _ _ _ _ _ w.in-Bad.is w.said-is w.state-is (tt, (inl (ap No w.by_stream.ensures), refl), λ none. (inr refl, refl))
    ] in
    let behind = c.what_follows-behind.result in
    let f = c.what_follows-behind.ensures in
    let w = c.in-Err-write_answer.ensures.wrote in
    let told = says (g.H.Responder.responds c.args.responder.now) c.args.state.now p wanted w.0 c.match-item.state e.1 e.2 w.3 in
    let same = same_answer c.args.left p wanted w.0 behind.bare behind.after f.bare f.after w.3 in (
      p ∷ [],
      w.0 ∷ [],
      w.1,
      w.2,
      omega arith,
      cuts_one c.args.left p _ _ c.requires e.0 c.in-Ok.ensures.next,
      (c.match-item.state, told, refl),
      w.5,
      append-nil _ ∙ sym same ∙ w.4,
      w.7,
    )

pub returns-in-Err-clause-fault : goal.returns-in-Err-clause-fault
returns-in-Err-clause-fault g c =
    ([], [], [], [], omega arith, nothing_cut c.args.left _, refl, Appends-nil _, refl, tt)

pub returns-in-Err-clause-held : goal.returns-in-Err-clause-held
returns-in-Err-clause-held g c = few_held _ _ (Err c.in-Err.fault) c.in-Err.ensures.ends c.in-Err.ensures.over c.in-Err.ensures.ahead

pub returns-in-Ok-write_answer-clause-held : goal.returns-in-Ok-write_answer-clause-held
returns-in-Ok-write_answer-clause-held g c = few_held _ _ (Ok c.in-Ok.item) c.in-Ok.ensures.ends c.in-Ok.ensures.over c.in-Ok.ensures.ahead

pub returns-clause-held : goal.returns-clause-held
returns-clause-held g c = few_held _ _ (Ok c.in-Ok.item) c.in-Ok.ensures.ends c.in-Ok.ensures.over c.in-Ok.ensures.ahead
