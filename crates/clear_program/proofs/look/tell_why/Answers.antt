use Rattle.std.proofs.Common.{ℕ, List, ◌∙◌, inl, inr, refl, subst}
use Rattle.clear_server.specs.Told.{Writes, written_by}
use Rattle.clear_work.specs.Stops.{Tells}
use Rattle.clear_work.specs.declared.stop.Stop.{Stop}
use Rattle.clear_program.proofs.look.tell_why.Goals as goal

pub returns-in-Ok-clause-told : goal.returns-in-Ok-clause-told
returns-in-Ok-clause-told g c =
    let mid = written_by g.E.Write.contents c.tell-status.new.errors in
    let Why : Stop → Type 0 = λ why. Tells (written_by g.E.Write.contents c.args.errors.now) mid why c.tell-status.result in
    let Told : List ℕ → Type 0 = λ text. Writes text mid (written_by g.E.Write.contents c.write_front.new.errors) in
    (mid, subst Why c.from.ensures c.tell-status.ensures, inr (subst Told (c.as_bytes.ensures.value ∙ c.in-Ok.ensures) c.write_front.ensures))

pub returns-in_default-clause-told : goal.returns-in_default-clause-told
returns-in_default-clause-told g c =
    let mid = written_by g.E.Write.contents c.tell-status.new.errors in
    let Why : Stop → Type 0 = λ why. Tells (written_by g.E.Write.contents c.args.errors.now) mid why c.tell-status.result in
    (mid, subst Why c.from.ensures c.tell-status.ensures, inl refl)
