use Rattle.clear_store.proofs.changes.put_rows.Goals as goal

pub returns-in-ReplaceReport-clause-puts : goal.returns-in-ReplaceReport-clause-puts
returns-in-ReplaceReport-clause-puts g c = rw c.in-ReplaceReport.is (rw c.as_slice-in-ReplaceReport.ensures at c.put_report.ensures.puts)
