use Rattle.std.proofs.Common.{subst}
use Rattle.std.proofs.lemmas.Result.{IfErr-weaker}
use Rattle.clear_wire.specs.Counted.{inner}
use Rattle.clear_http.specs.Serve.{ServesWhole}
use Rattle.clear_http.proofs.ServeLemmas.{fresh_stream}
use Rattle.clear_http.proofs.serve.serve_stream.Goals as goal

pub returns-clause-whole : goal.returns-clause-whole
returns-clause-whole g c =
    let input = c.new-input in
    let fresh = fresh_stream (λ r. g.R.Read.remaining (inner r.now)) input.result _ input.ensures.reader input.ensures.unused input.ensures.open in
    IfErr-weaker c.serve_input-result.result _ _
    (λ fault whole of_reader. subst
    (λ bytes. ServesWhole (g.H.Responder.responds c.args.responder.now) c.args.state.now bytes (g.W.Write.contents (inner c.args.writer.now)) (g.W.Write.contents (inner c.serve_input-result.new.writer)) c.serve_input-result.new.state fault.answered)
    fresh (whole of_reader))
    c.serve_input-result.ensures.whole
