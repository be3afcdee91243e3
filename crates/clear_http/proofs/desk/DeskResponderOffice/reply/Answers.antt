use Rattle.std.proofs.Common.{Err, inl, inr, refl, sym, ap, ◌∙◌, subst}
use Rattle.clear_answers.specs.declared.said.Said.{Said}
use Rattle.clear_wire.specs.Parsed.{heading as heading_of}
use Rattle.clear_http.specs.Desk.{MaySay}
use Rattle.clear_http.specs.Serve.{was_done}
use Rattle.clear_http.proofs.DeskLemmas.{call_forgotten, call_said, taken_by}
use Rattle.clear_http.proofs.GuardedLemmas.{guards_refusal}
use Rattle.clear_http.proofs.ServedLemmas.{goes_on_unchanged}
use Rattle.clear_http.proofs.desk.DeskResponderOffice.reply.Goals as goal

pub returns-in-Err-clause-said : goal.returns-in-Err-clause-said
returns-in-Err-clause-said g c = (
  (λ honest. honest),
  inl (Err c.in-Err.refused, c.in-Err.ensures, (refl, refl)),
  (guards_refusal _ _ _ _ _ c.in-Err.refused _ c.in-Err.ensures refl, inl refl),
)

pub returns-in-Err-clause-memory : goal.returns-in-Err-clause-memory
returns-in-Err-clause-memory g c none = (
  (λ honest. honest),
  inr (refl, goes_on_unchanged g.S.Store _ _ refl, λ was. refl),
  ((λ working. ((λ call there denied. inr refl), λ _. working)), inl refl),
)

pub returns-clause-said : goal.returns-clause-said
returns-clause-said g c =
    let it = c.take-outcome.ensures in
    let taken = taken_by g.S.Store c.args.office.now c.in-Ok.call c.take-outcome.result c.take-outcome.new.self it.step it.crash it.clean it.access it.told it.failed in
    subst (λ (said : Said). MaySay g.S.Store c.args.self.now.directory.now c.args.self.now.day c.args.office.now (heading_of c.args.request.now.head) c.args.request.now.body.items said c.take-outcome.new.self) (sym c.said_of.ensures)
    (call_said g.S.Store c.args.self.now.directory.now c.args.self.now.day (heading_of c.args.request.now.head) c.args.request.now.body.items c.args.office.now c.take-outcome.new.self c.in-Ok.call c.take-outcome.result c.in-Ok.ensures taken)

pub returns-clause-memory : goal.returns-clause-memory
returns-clause-memory g c none =
    let it = c.take-outcome.ensures in
    let taken = taken_by g.S.Store c.args.office.now c.in-Ok.call c.take-outcome.result c.take-outcome.new.self it.step it.crash it.clean it.access it.told it.failed in
    call_forgotten g.S.Store c.args.self.now.directory.now c.args.self.now.day (heading_of c.args.request.now.head) c.args.request.now.body.items c.args.office.now c.take-outcome.new.self c.in-Ok.call c.take-outcome.result c.in-Ok.ensures taken (ap was_done (sym c.said_of.ensures) ∙ none)
