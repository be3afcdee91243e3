use Rattle.clear_office.specs.Office.{replied}
use Rattle.clear_work.proofs.work.import.Goals as goal

pub returns : goal.returns
returns g c =
    let it = c.submit-reply.ensures in
    (replied c.submit-reply.result, record { steps = it.step; leaves = it.crash; stays = λ failed. (it.failed failed).1 }, c.say_imported.ensures)
