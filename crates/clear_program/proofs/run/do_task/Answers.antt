use Rattle.std.proofs.Common.{◌≡◌, ◌∙◌, ℕ, Bool, Ok, if◌then◌else◌, refl, sym, ap, subst, string_bytes}
use Rattle.clear_server.specs.Told.{written_by}
use Rattle.clear_work.specs.Says.{Puts}
use Rattle.clear_program.proofs.run.do_task.Goals as goal
use Rattle.clear_program.proofs.run.do_task.Goals.{then-checked, else-checked}

pub returns-in-Say-clause-does : goal.returns-in-Say-clause-does
returns-in-Say-clause-does g c = rw (c.in-Say.is) ((Ok c.in-Say.text, (refl, tt), c.end_by.ensures.puts, refl), refl)

pub returns-in-Check-clause-does : goal.returns-in-Check-clause-does
returns-in-Check-clause-does g c =
    let Said : ℕ → Type 0 = λ status.
    Puts string_bytes (Ok c.in-Check.checked.text) status (written_by g.O.Write.contents c.args.output.now) (written_by g.O.Write.contents c.end_by-in-Check.new.output) c.end_by-in-Check.result in
    let good : Bool = c.in-Check.checked.good in
    let is : c.if-checked.status ≡ (if good then 0 else 2) = elim c.if-checked.branch [
      | then-checked w ↦ w.status-is ∙ sym (ap (λ (b : Bool). if b then 0 else 2) w.if-checked.true)
      | else-checked w ↦ w.status-is ∙ sym (ap (λ (b : Bool). if b then 0 else 2) w.if-checked.false)
    ] in
    rw (c.in-Check.is) ((Ok c.in-Check.checked.text, (refl, tt), subst Said is c.end_by-in-Check.ensures.puts, refl), refl)
