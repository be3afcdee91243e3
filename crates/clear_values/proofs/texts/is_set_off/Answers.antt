use Rattle.std.proofs.Common.{codes, take}
use Rattle.std.proofs.lemmas.Slice.Eq.{bytes_eq-Decides}
use Rattle.clear_values.proofs.SetOffLemmas.{set_off_if}
use Rattle.clear_values.proofs.texts.is_set_off.Goals as goal

pub returns-in-Some-read_number : goal.returns-in-Some-read_number
returns-in-Some-read_number c =
    set_off_if c.args.bytes.now c.in-Some.digits.now c.in-Some-read_number.claim c.is_claim.result ((bytes_eq-Decides (take 8 c.args.bytes.now) (codes "set-off ")).0 c.in-Some.ensures.cases.0)
    c.in-Some.ensures.cases.1 c.in-Some-read_number.ensures.found c.is_claim.ensures
