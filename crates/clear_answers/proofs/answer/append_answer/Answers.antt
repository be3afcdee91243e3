use Rattle.std.proofs.Common.{[], ◌++◌, ap, sym, ◌∙◌}
use Rattle.std.proofs.lemmas.List.{append-nil}
use Rattle.clear_answers.specs.Answer.{sent_body}
use Rattle.clear_answers.proofs.AnswerLemmas.{joined}
use Rattle.clear_answers.proofs.answer.append_answer.Goals as goal

pub returns-then-bare : goal.returns-then-bare
returns-then-bare c =
    let old = c.args.out.now.items in
    let head = c.in_ok-head.head.items in
    let body = c.args.body.now in
    let appended = c.in_ok-extend_from_slice.ensures.items ∙ ap (λ t. old ++ t) c.as_slice.ensures.value in
    joined c.args.said.now c.args.close c.args.bare old head body [] _ c.requires c.in_ok-head.ensures (ap (λ b. sent_body b body) (sym c.if-bare.true)) (appended ∙ sym (append-nil (old ++ head)))

pub returns-in-Ok : goal.returns-in-Ok
returns-in-Ok c =
    let old = c.args.out.now.items in
    let head = c.in_ok-head.head.items in
    let body = c.args.body.now in
    let appended = c.in_ok-extend_from_slice.ensures.items ∙ ap (λ t. old ++ t) c.as_slice.ensures.value in
    joined c.args.said.now c.args.close c.args.bare old head body body _ c.requires c.in_ok-head.ensures (ap (λ b. sent_body b body) (sym c.if-bare.false)) (c.in-Ok.ensures.items ∙ ap (λ t. t ++ body) appended)
