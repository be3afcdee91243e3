-- What is said of reminder runs: that each has the firms that it reminded.
use Rattle.std.specs.Prelude.{◌≡◌, ◌≤◌, length}
use Rattle.clear_values.specs.declared.rows.RunRow.{RunRow}
use Rattle.clear_book.specs.Book.{Book}
use Rattle.clear_book.specs.Reminders.{reminders_in}

-- the run has a firm at least, and as many as there are reminders of it
pub record IsRunOf (b : Book) (run : RunRow) : Type 0 where
  pub some : 1 ≤ run.firms
  pub firms : run.firms ≡ length (reminders_in b run.run)
