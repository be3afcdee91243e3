use Rattle.std.proofs.Common.{arith, ◌∙◌}
use Rattle.clear_bank.proofs.FieldLemmas.{number-in, number-none}
use Rattle.clear_bank.proofs.fields.read_cents.Goals as goal

pub returns-in_err-read_number : goal.returns-in_err-read_number
returns-in_err-read_number c = c.from_residual.ensures ∙ number-none c.args.field.now 1 100_000_000_000 (omega arith) c.in_err-read_number.ensures.only

pub returns : goal.returns
returns c = number-in c.args.field.now 1 100_000_000_000 (omega arith) _ _ c.in_ok-read_number.ensures.found c.new.ensures.some c.new.ensures.value
