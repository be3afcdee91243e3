use Rattle.clear_office.specs.Office.{answered}
use Rattle.clear_work.proofs.work.statement.Goals as goal

pub returns : goal.returns
returns g c =
    let it = c.ask-answer.ensures in
    (answered c.ask-answer.result, record { steps = it.step; leaves = it.crash; stays = λ failed. (it.failed failed).1 }, c.say_statement.ensures)
