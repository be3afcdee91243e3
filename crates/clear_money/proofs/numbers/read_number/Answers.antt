use Rattle.clear_money.proofs.NumberLemmas.{plain, is_text, number_found, number_none}
use Rattle.clear_money.proofs.numbers.read_number.Goals as goal

pub returns-then-not-starts_plainly-clause-only : goal.returns-then-not-starts_plainly-clause-only
returns-then-not-starts_plainly-clause-only c = λ n text.
    plain c.args.bytes.now n text (c.starts_plainly.ensures.only c.if-not-starts_plainly.true)

pub returns-in_default-clause-only : goal.returns-in_default-clause-only
returns-in_default-clause-only c = λ n text. c.in_default.ensures.cases.0 (is_text c.args.bytes.now n text)

pub returns-in-Ok-parse-clause-found : goal.returns-in-Ok-parse-clause-found
returns-in-Ok-parse-clause-found c =
    let started = c.if-not-starts_plainly.false in
    number_found c.args.bytes.now c.in-Ok.text.now c.parse.result c.in-Ok.ensures.cases.0 c.parse.ensures.value.0
    (c.starts_plainly.ensures.plus started) (c.starts_plainly.ensures.zero started) c.in-Ok-parse.number c.in-Ok-parse.is

pub returns-in-Err-clause-only : goal.returns-in-Err-clause-only
returns-in-Err-clause-only c =
    let started = c.if-not-starts_plainly.false in
    number_none c.args.bytes.now c.in-Ok.text.now c.parse.result c.in-Ok.ensures.cases.0 c.parse.ensures.value.0
    (c.starts_plainly.ensures.plus started) (c.starts_plainly.ensures.zero started) c.in-Err.field-0 c.in-Err.is
