use Rattle.std.proofs.Common.{ℕ, List, ◌∙◌, inl, inr, refl, subst, sym}
use Rattle.clear_server.specs.Told.{Writes, written_by}
use Rattle.clear_work.specs.Stops.{no_memory}
use Rattle.clear_work.specs.declared.stop.Stop.TheVariants as stop
use Rattle.clear_work.proofs.WriteLemmas.{memory_line}
use Rattle.clear_work.proofs.stop.tell_rule.Goals as goal

pub returns-in-Ok : goal.returns-in-Ok
returns-in-Ok g c =
    let Told : List ℕ → Type 0 = λ text. Writes text (written_by g.E.Write.contents c.args.errors.now) (written_by g.E.Write.contents c.write_front.new.errors) in
    (stop.Rule c.args.rule.now, inl refl, c.status_by.ensures, subst Told (c.as_bytes.ensures.value ∙ c.in-Ok.ensures) c.write_front.ensures)

pub returns-in-Err : goal.returns-in-Err
returns-in-Err g c =
    let Told : List ℕ → Type 0 = λ text. Writes text (written_by g.E.Write.contents c.args.errors.now) (written_by g.E.Write.contents c.write_front-in-Err.new.errors) in
    (no_memory, inr (refl, (c.args.rule.now, refl)), c.status.ensures, subst Told (sym memory_line) c.write_front-in-Err.ensures)
