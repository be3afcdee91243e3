use Rattle.std.proofs.Common.{◌≡◌, [], Ok, take}
use Rattle.std.specs.List.{filter_map}
use Rattle.sqlite.specs.Held.{state}
use Rattle.sqlite.specs.State.{HasCleanDisk, Survives}
use Rattle.clear_book.specs.Tables.{Tables}
use Rattle.clear_schema.specs.Held.{HasTables}
use Rattle.clear_debts.specs.Reads.{ReadsOf}
use Rattle.clear_views.proofs.import.each.found_each.Given as goal

abbrev pub invariant-loop-item : goal.invariant-loop-item
invariant-loop-item g l = record {
  same_reference : l.tx.conn.ghost_name ≡ l.fn.tx.conn.ghost_name;
  reads : HasCleanDisk (state g.S.Store l.tx.conn.now) → (t : Tables) → HasTables t (state g.S.Store l.fn.tx.conn.now).now
      → ReadsOf g.S.Store t (take l.item-index l.items ≡ []) l.fn.tx.conn.now l.tx.conn.now (Ok l.all) (λ vec. vec.items ≡ filter_map (g.A.Asked.answer l.asked t) (take l.item-index l.items));
  survives : Survives (state g.S.Store l.fn.tx.conn.now) (state g.S.Store l.tx.conn.now) (λ _. ⊥);
}
