use Rattle.std.proofs.Common.{◌≡◌, ℕ, List, None, Ok, Some}
use Rattle.std.specs.BTreeMap.{get}
use Rattle.std.specs.List.{All}
use Rattle.std.specs.List.Sorted.{IsStrictlySortedBy}
use Rattle.std.specs.Map.{keys_of}
use Rattle.std.specs.Ordering.{nat_cmp}
use Rattle.clear_values.specs.declared.rows.CreditRow.{CreditRow}
use Rattle.clear_pieces.specs.Keeping.{AreFirst}
use Rattle.clear_pieces.proofs.ProgressLemmas.{Progress}
use Rattle.clear_pieces.proofs.keep.keep_firms.Given as goal

abbrev pub invariant-loop-employer : goal.invariant-loop-employer
invariant-loop-employer g l = record {
  same_reference : l.tx.conn.ghost_name ≡ l.fn.tx.conn.ghost_name;
  sorted : IsStrictlySortedBy nat_cmp (keys_of l.employer-iterator);
  found : All (λ entry. get nat_cmp l.firms entry.0 ≡ Some entry.1) l.employer-iterator;
  done : (news : List CreditRow) → AreFirst (get nat_cmp l.firms) news → Progress g.S.Store l.fn.tx.conn.now news l.tx.conn.now (Ok tt) (keys_of l.employer-iterator);
  rests : ((e : ℕ) → get nat_cmp l.firms e ≡ None) → l.tx.conn.now ≡ l.fn.tx.conn.now;
}
