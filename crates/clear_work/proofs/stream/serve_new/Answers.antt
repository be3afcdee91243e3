use Rattle.clear_work.proofs.stream.serve_new.Goals as goal

pub returns-in-Ok-clause-served : goal.returns-in-Ok-clause-served
returns-in-Ok-clause-served g c working =
    (c.serve.new.office, λ honest b lawful keeps. (c.in-Ok.field-0, c.in-Ok.ensures.served working honest b lawful keeps))

pub returns-clause-fault : goal.returns-clause-fault
returns-clause-fault g c working =
    (c.serve.new.office, λ honest b lawful keeps. (c.in-Err.stopped.answered, c.in-Err.ensures.fault working honest b lawful keeps))

pub returns-in-Ok-clause-well : goal.returns-in-Ok-clause-well
returns-in-Ok-clause-well g c = (c.in-Ok.ensures.reader_well tt, c.in-Ok.ensures.writer_well tt)
