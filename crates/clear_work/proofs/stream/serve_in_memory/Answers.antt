use Rattle.std.proofs.Common.{refl}
use Rattle.std.proofs.lemmas.Result.{IfErr-weaker, IfOk-weaker}
use Rattle.sqlite.specs.Files.{over_files}
use Rattle.clear_book.specs.Book.{first_book}
use Rattle.clear_sample.proofs.MemoryLemmas.{always_clean}
use Rattle.clear_work.proofs.StreamLemmas.{answered_so, none_answered, part_answered}
use Rattle.clear_work.proofs.stream.serve_in_memory.Goals as goal

pub returns-in-Some-clause-served : goal.returns-in-Some-clause-served
returns-in-Some-clause-served g c =
    let made = c.in-Some.ensures in
    IfOk-weaker c.serve_new.result _ _ (λ _ it.
    let told = it.1 (always_clean (λ _. refl) it.0.conn.store) (first_book c.args.rates.now) made.lawful made.keeps in
    answered_so _ c.args.rates.now _ _ over_files c.in-Some.office it.0 made.working _ told.0 told.1)
    (c.serve_new.ensures.served made.working)

pub returns-in-Some-clause-fault : goal.returns-in-Some-clause-fault
returns-in-Some-clause-fault g c =
    let made = c.in-Some.ensures in
    IfErr-weaker c.serve_new.result _ _ (λ _ it.
    let told = it.1 (always_clean (λ _. refl) it.0.conn.store) (first_book c.args.rates.now) made.lawful made.keeps in
    part_answered _ c.args.rates.now _ _ over_files c.in-Some.office it.0 made.working _ told.0 told.1)
    (c.serve_new.ensures.fault made.working)

pub returns-in-None-clause-fault : goal.returns-in-None-clause-fault
returns-in-None-clause-fault g c = none_answered _ c.args.rates.now _ _
