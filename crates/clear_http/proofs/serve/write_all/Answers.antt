use Rattle.std.proofs.Common.{ℕ, List, ◌++◌, length, take, drop, sym, ap, ◌∙◌, subst, arith}
use Rattle.std.proofs.lemmas.List.{take-append-drop, take_rest, length-drop}
use Rattle.std.proofs.Math.Seq.{take-add}
use Rattle.std.specs.Io.KnownBytes.{Appends}
use Rattle.clear_wire.specs.Counted.{inner}
use Rattle.clear_wire.proofs.KnownLemmas.{Appends-then, Appends-kept}
use Rattle.clear_http.proofs.serve.write_all.Goals as goal

pub returns-in-Err-clause-wrote : goal.returns-in-Err-clause-wrote
returns-in-Err-clause-wrote g c =
    let text = c.args.text.now in
    (take c.writes.at text, drop c.writes.at text, sym (take-append-drop c.writes.at text), Appends-kept _ _ _ _ c.writes.invariant.wrote c.in-Err.ensures.bytes, tt, omega (arith, c.writes-test.true, length-drop c.writes.at text))

pub writes-preserved : goal.writes-preserved
writes-preserved g c =
    let text = c.args.text.now in
    let at = c.writes.at in
    let rest = take_rest text at in
    let n = c.in-Ok.count in
    record {
      within = omega (arith, c.in-Ok.ensures.bound, ap length rest, length-drop at text);
      wrote = subst (Appends (g.W.Write.contents (inner c.args.writer.now)) (g.W.Write.contents (inner c.write.new.self)))
          (ap (λ (t : List ℕ). take at text ++ take n t) rest ∙ sym (take-add at n text))
          (Appends-then _ _ _ _ _ c.writes.invariant.wrote c.in-Ok.ensures.bytes);
      noted = c.in-Ok.ensures.noted ∙ c.writes.invariant.noted;
    }
