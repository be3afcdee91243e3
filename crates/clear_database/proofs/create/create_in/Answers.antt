use Rattle.std.proofs.Common.{◌≢◌, ◌∙◌, refl, sym}
use Rattle.sqlite.specs.Held.{state}
use Rattle.clear_schema.specs.Schema.{no_schema}
use Rattle.clear_database.proofs.CreateLemmas.{refuses_fault, refuses_number}
use Rattle.clear_database.proofs.create.create_in.Goals as goal

pub returns-in-Ok-Some-clause-refused : goal.returns-in-Ok-Some-clause-refused
returns-in-Ok-Some-clause-refused g c =
    let old = state g.S.Store c.args.conn.now in
    let found = c.in-Ok-Some.ensures in
    let some : old.now.schema ≢ no_schema = λ none. let yes = c.is_empty.ensures.1 (c.schema.ensures.value ∙ none) in let not = c.if-is_empty.false in cc in
    refuses_number c.args.rates.now old (state g.S.Store c.found_schema.new.conn) some found.clean (λ clean. found.still clean c.requires) found.survives c.in-Ok-Some.number
    (λ clean number tells. let is = sym c.in-Ok-Some.field-0-is ∙ found.found clean number tells in cc)
    (λ clean none. absurd (let is = sym c.in-Ok-Some.field-0-is ∙ found.empty clean none in cc))
    (λ clean below. (found.below_zero clean below).0)

pub returns-in-Ok-None-clause-refused : goal.returns-in-Ok-None-clause-refused
returns-in-Ok-None-clause-refused g c =
    let old = state g.S.Store c.args.conn.now in
    let found = c.in-Ok-None.ensures in
    let some : old.now.schema ≢ no_schema = λ none. let yes = c.is_empty.ensures.1 (c.schema.ensures.value ∙ none) in let not = c.if-is_empty.false in cc in
    refuses_number c.args.rates.now old (state g.S.Store c.found_schema.new.conn) some found.clean (λ clean. found.still clean c.requires) found.survives 0
    (λ clean number tells. absurd (let is = sym c.in-Ok-None.field-0-is ∙ found.found clean number tells in cc))
    (λ _ _. refl) (λ clean below. (found.below_zero clean below).0)

pub returns-in-Err-found_schema-clause-refused : goal.returns-in-Err-found_schema-clause-refused
returns-in-Err-found_schema-clause-refused g c =
    let old = state g.S.Store c.args.conn.now in
    let found = c.in-Err-found_schema.ensures in
    let some : old.now.schema ≢ no_schema = λ none. let yes = c.is_empty.ensures.1 (c.schema.ensures.value ∙ none) in let not = c.if-is_empty.false in cc in
    refuses_fault c.args.rates.now old (state g.S.Store c.found_schema.new.conn) some found.clean (λ clean. found.still clean c.requires) found.survives c.in-Err-found_schema.fault
    (λ clean below. (found.below_zero clean below).1) found.cause
