use Rattle.std.specs.BTreeMap.{get}
use Rattle.std.specs.Ordering.{nat_cmp}
use Rattle.clear_pieces.proofs.FirstLemmas.{none_first}
use Rattle.clear_pieces.proofs.keep.keep_credits.Goals as goal

pub returns-clause-rests : goal.returns-clause-rests
returns-clause-rests g c interest = c.keep_firms.ensures.rests (none_first (get nat_cmp c.in_ok-firms.firms) c.args.news.now c.in_ok-firms.ensures interest)
