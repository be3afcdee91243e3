use Rattle.std.proofs.Common.{◌≡◌, ◌∙◌, arith, refl, sym}
use Rattle.sqlite.specs.Held.{state}
use Rattle.clear_database.proofs.OpenLemmas.{opens, ours_begins, refuses_version}
use Rattle.clear_database.proofs.open.open_tables.Goals as goal

pub returns-in-Ok-None-clause-refused : goal.returns-in-Ok-None-clause-refused
returns-in-Ok-None-clause-refused g c =
    let found = c.in-Ok-None.ensures in
    let settled = c.is_autocommit-outside.ensures.settled (rw (c.is_autocommit-outside.ensures.value, c.requires)) in
    refuses_version (state g.S.Store c.args.conn.now) (state g.S.Store c.found_schema.new.conn) settled c.schema.ensures.live found.clean (λ clean. found.still clean c.requires) found.survives 0
    (λ clean number tells. absurd (let none = sym c.in-Ok-None.field-0-is ∙ found.found clean number tells in cc))
    (λ _ _. refl) (λ clean below. (found.below_zero clean below).0)

pub returns-then-number-ne-SCHEMA-clause-refused : goal.returns-then-number-ne-SCHEMA-clause-refused
returns-then-number-ne-SCHEMA-clause-refused g c =
    let found = c.in-Ok-Some.ensures in
    let settled = c.is_autocommit-outside.ensures.settled (rw (c.is_autocommit-outside.ensures.value, c.requires)) in
    refuses_version (state g.S.Store c.args.conn.now) (state g.S.Store c.found_schema.new.conn) settled c.schema.ensures.live found.clean (λ clean. found.still clean c.requires) found.survives c.in-Ok-Some.number
    (λ clean number tells.
    let told : c.in-Ok-Some.number ≡ number = let is = sym c.in-Ok-Some.field-0-is ∙ found.found clean number tells in cc in
    (told, λ same. omega (arith, told, same, c.if-number-ne-SCHEMA.true)))
    (λ clean none. absurd (let is = sym c.in-Ok-Some.field-0-is ∙ found.empty clean none in cc))
    (λ clean below. (found.below_zero clean below).0)

pub returns-then-ours-clause-opened : goal.returns-then-ours-clause-opened
returns-then-ours-clause-opened g c =
    let old = state g.S.Store c.args.conn.now in
    let found = c.in-Ok-Some.ensures in
    let settled = c.is_autocommit-outside.ensures.settled (rw (c.is_autocommit-outside.ensures.value, c.requires)) in
    let ours = sym c.schema.ensures.value ∙ c.has_this_layout-ours.ensures.0 c.if-ours.true in
    opens old (state g.S.Store c.found_schema.new.conn) settled c.schema.ensures.live found.clean (λ clean. found.still clean c.requires) found.survives ours
    (λ clean. (found.same clean (ours_begins old.now.schema ours)).0.is_open)
    (λ clean number tells.
    let told : c.in-Ok-Some.number ≡ number = let is = sym c.in-Ok-Some.field-0-is ∙ found.found clean number tells in cc in
    omega (arith, told, c.if-number-ne-SCHEMA.false))
    (λ clean none. absurd (let is = sym c.in-Ok-Some.field-0-is ∙ found.empty clean none in cc))
    (λ clean below. (found.below_zero clean below).0)
