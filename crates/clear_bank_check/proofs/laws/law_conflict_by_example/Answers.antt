use Rattle.std.proofs.Common.{refl}
use Rattle.std.specs.Fmt.{digits}
use Rattle.csv.specs.Records.{field_at}
use Rattle.clear_bank_check.proofs.laws.law_conflict_by_example.Goals as goal

pub returns : goal.returns
unfolding digits field_at
returns c = refl
