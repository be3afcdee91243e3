-- The line of want of memory.
use Rattle.std.proofs.Common.{◌≡◌, codes, refl}
use Rattle.std.specs.Fmt.{digits}
use Rattle.clear_book.specs.declared.rules.Rule.TheVariants as rules
use Rattle.clear_work.specs.Stops.{rule_line}

pub memory_line : rule_line rules.Memory ≡ codes "rule 40 Memory\n"
unfolding rule_line digits
memory_line = refl
