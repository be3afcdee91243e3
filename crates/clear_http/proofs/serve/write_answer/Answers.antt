use Rattle.std.proofs.Common.{[], refl, inl}
use Rattle.clear_answers.specs.Answer.{answer_of}
use Rattle.clear_wire.proofs.KnownLemmas.{Appends-nil}
use Rattle.clear_http.proofs.ServeLemmas.{answer_some}
use Rattle.clear_http.proofs.serve.write_answer.Goals as goal

pub returns-then-was_done-clause-wrote : goal.returns-then-was_done-clause-wrote
returns-then-was_done-clause-wrote g c =
    let said = c.args.said.now in
    (said, [], answer_of said c.args.close c.args.bare, inl refl, refl, Appends-nil _, tt, answer_some said c.args.close c.args.bare)
