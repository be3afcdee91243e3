use Rattle.std.proofs.Common.{◌≡◌, ℕ, take}
use Rattle.std.specs.BTreeSet as set
use Rattle.std.specs.List.{list_any}
use Rattle.std.specs.Ordering.{nat_cmp}
use Rattle.clear_views.specs.Imports.{firm_key, is_among, names}
use Rattle.clear_book.specs.Keyed.{AreOnce}
use Rattle.clear_views.proofs.import.firms.named_firms.Given as goal

abbrev pub invariant-loop-line : goal.invariant-loop-line
invariant-loop-line l = record {
  seen : (e : ℕ) → set.contains nat_cmp l.seen e ≡ is_among e l.firms.items;
  named : (e : ℕ) → is_among e l.firms.items ≡ list_any (names e) (take l.line-index l.lines);
  once : AreOnce firm_key l.firms.items;
}
