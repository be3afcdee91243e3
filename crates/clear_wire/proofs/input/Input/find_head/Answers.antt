use Rattle.std.proofs.Common.{◌≡◌, ◌<◌, length, Ok, sym, ap, ◌∙◌, subst, arith}
use Rattle.std.proofs.lemmas.Bool.Decides.{nat_tests}
use Rattle.std.proofs.lemmas.Result.{IfOk-weaker}
use Rattle.std.specs.Io.KnownBytes.{IsAtEnd}
use Rattle.clear_wire.specs.Lines.{skip_empty_lines}
use Rattle.clear_wire.specs.Stream.{front, front_of, unended}
use Rattle.clear_wire.proofs.KnownLemmas.{Leads-weaker}
use Rattle.clear_wire.proofs.StreamLemmas.{front_short}
use Rattle.clear_wire.proofs.input.Input.find_head.Goals as goal

pub returns-clause-front : goal.returns-clause-front
returns-clause-front g c =
    let u = c.skip_lines.new.self.unused.items in
    let ended = ap Ok c.if-branch.false in
    let at_end = c.in_ok-skip_lines.ensures.end ended in
    let short : length u < 2 = c.in_ok-skip_lines.ensures.short ended in
    let some : 0 < length u = grind (arith, nat_tests) in
    Leads-weaker (λ old new. skip_empty_lines new ≡ skip_empty_lines old) (λ old new. front old ≡ unended) _ _ u
    (λ x m e p. ap front_of (sym p) ∙ front_short u m (subst IsAtEnd e at_end) some short c.in_ok-skip_lines.ensures.none_left)
    c.in_ok-skip_lines.ensures.skips

pub returns-then-branch-clause-ahead : goal.returns-then-branch-clause-ahead
returns-then-branch-clause-ahead g c =
    IfOk-weaker c.find_end.result _ _ (λ place p. omega (arith, p.0, p.1, c.skip_lines.ensures.ahead)) c.find_end.ensures.ahead
