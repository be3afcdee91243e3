use Rattle.std.proofs.Common.{◌≡◌, None, Ok, map, take}
use Rattle.sqlite.specs.Held.{state}
use Rattle.sqlite.specs.State.{HasCleanDisk, Survives}
use Rattle.clear_book.specs.Allocated.{StandsWeighed}
use Rattle.clear_book.specs.Book.{Book, rates_of}
use Rattle.clear_book.specs.Judge.{day_back}
use Rattle.clear_book.specs.Machine.{IsLawful}
use Rattle.clear_book.specs.Tables.{Tables}
use Rattle.clear_book.specs.declared.rows.EmployerRow.{EmployerRow}
use Rattle.clear_rules.specs.Views.RemindRun.{firm_on_day}
use Rattle.clear_schema.specs.Frame.{Leaves}
use Rattle.clear_schema.specs.Held.{HasTables}
use Rattle.clear_schema.specs.declared.fault.Fault.{Fault}
use Rattle.clear_reading.proofs.remind.overdue_firms.Given as goal

abbrev pub invariant-loop-member : goal.invariant-loop-member
invariant-loop-member g l = record {
  same_reference : l.tx.conn.ghost_name ≡ l.fn.tx.conn.ghost_name;
  found : HasCleanDisk (state g.S.Store l.tx.conn.now) → (t : Tables) → HasTables t (state g.S.Store l.fn.tx.conn.now).now → day_back t.day l.fn.day ≡ None → (b : Book) → IsLawful b → StandsWeighed b t → l.fn.rates ≡ rates_of b
      → l.firms.items ≡ map (λ (row : EmployerRow). firm_on_day b l.fn.day row.employer) (take l.member-index l.member-items);
  leaves : Leaves {E = Fault} g.S.Store l.fn.tx.conn.now l.tx.conn.now (Ok l.firms);
  since : Survives (state g.S.Store l.initial.tx.conn.now) (state g.S.Store l.tx.conn.now) (λ _. ⊥);
}
