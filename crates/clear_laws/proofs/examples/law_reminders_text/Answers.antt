use Rattle.std.proofs.Common.{refl}
use Rattle.std.specs.Fmt.{digits}
use Rattle.clear_book.specs.Documents.Amounts.{amount_text}
use Rattle.clear_book.specs.Documents.Reminders.{firms_line, reminder_line, reminders_text, run_line}
use Rattle.clear_laws.proofs.examples.law_reminders_text.Goals as goal

pub returns : goal.returns
unfolding reminders_text run_line reminder_line firms_line amount_text digits
returns c = λ day. refl
