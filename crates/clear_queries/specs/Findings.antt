-- What is found for a query inside of its transaction, and what is made of it.
use Rattle.std.specs.Prelude.{◌≡◌, ℕ, List, Some, None}
use Rattle.std.specs.Prelude.{Result, Ok, Err}
use Rattle.std.specs.List.{AllByRecursion}
use Rattle.clear_book.specs.declared.calls.Query.{Query}
use Rattle.clear_book.specs.declared.calls.Query.TheVariants.{Payout, Reminder, Statement, Suspense}
use Rattle.clear_book.specs.declared.outcomes.Answer.{Answer}
use Rattle.clear_book.specs.declared.outcomes.Answer.TheVariants.{Text}
use Rattle.clear_book.specs.declared.rules.Rule.{Rule}
use Rattle.clear_book.specs.Book.{Book}
use Rattle.clear_book.specs.Judge.{answer_to, own_query}
use Rattle.clear_book.specs.Machine.{IsLawful}
use Rattle.clear_book.specs.Allocated.{Represents, StandsWeighed}
use Rattle.clear_book.specs.RowRanges.{IsBankRow, IsClaimRow, IsReminderRow}
use Rattle.clear_book.specs.Tables.{Tables}
use Rattle.clear_reading.specs.Documents.{list_over, listed, reminded, run_over, suspended, suspense_over}
use Rattle.clear_reading.specs.Look.{AreFewSuspended}
use Rattle.clear_reading.specs.Paid.{ArePiecesFor, pieces_for}
use Rattle.clear_reading.specs.Reader.{AreAddable}
use Rattle.clear_texts.specs.Paid.{statement_paid}
use Rattle.clear_records.specs.Records.{IsFor}
use Rattle.clear_records.specs.declared.statement.StatementHead.{StatementHead}
use Rattle.clear_database.specs.declared.body.Stop.{Stop}
use Rattle.clear_database.specs.declared.body.Stop.TheVariants as stop
use Rattle.clear_queries.specs.declared.inquiry.Finding.{Finding}
use Rattle.clear_queries.specs.declared.inquiry.Finding.TheVariants as finding
use Rattle.clear_queries.specs.declared.inquiry.RowDocument.{RowDocument}
use Rattle.clear_queries.specs.declared.inquiry.RowDocument.TheVariants as rows
use Rattle.clear_queries.specs.Inquiries.{Fails}

-- the text of a document over the rows of the tables: of a statement over the firm's pieces, of a list
-- over its claims, of a run over its reminders, and of the lines in suspense over these
abbrev pub text_of : Tables → RowDocument → List ℕ
text_of t (rows.Statement head) = statement_paid head (pieces_for head t)
text_of t (rows.List list) = list_over list t
text_of t (rows.Run run) = run_over run t
text_of t (rows.Suspense day) = suspense_over day t

-- the answer that is found, where a document stands for its text over the tables
abbrev pub answer_of : Tables → Finding → Answer
answer_of t (finding.Answer answer) = answer
answer_of t (finding.Document document) = Text (text_of t document)

-- the document can be told over the tables: each of a firm's pieces stands under a charge of its
-- statement, and as few lines are in suspense as may be
abbrev pub IsTellable : RowDocument → Tables → Type 0
IsTellable (rows.Statement head) t = ArePiecesFor head t
IsTellable (rows.List list) t = Unit {0}
IsTellable (rows.Run run) t = Unit {0}
IsTellable (rows.Suspense day) t = AreFewSuspended t

-- the rows that it tells are right: in their ranges, each of a firm's pieces under a charge of its
-- statement, and the lines in suspense together less than 2^64 cents
abbrev pub HasRightRows : RowDocument → Tables → Type 0
HasRightRows (rows.Statement head) t = ArePiecesFor head t
HasRightRows (rows.List list) t = AllByRecursion IsClaimRow (listed list.list t)
HasRightRows (rows.Run run) t = AllByRecursion IsReminderRow (reminded run.run t)
HasRightRows (rows.Suspense day) t = AreAddable IsBankRow (λ row. row.line.cents) (suspended t)

-- the rows that a query tells of a payout list, of a reminder run and of the lines in suspense are right,
-- whatever else the tables hold
abbrev pub AreRightFor : Query → Tables → Type 0
AreRightFor (Payout list) t = AllByRecursion IsClaimRow (listed list t)
AreRightFor (Reminder run) t = AllByRecursion IsReminderRow (reminded run t)
AreRightFor Suspense t = AreAddable IsBankRow (λ row. row.line.cents) (suspended t)
AreRightFor query t = Unit {0}

-- so they are, where what is found can be told
abbrev pub TellsOnlyRight : Query → Tables → Finding → Type 0
TellsOnlyRight query t (finding.Answer answer) = AreRightFor query t
TellsOnlyRight query t (finding.Document document) = HasRightRows document t → AreRightFor query t

-- for a firm's statement on a day such a statement is found
abbrev pub FindsStatement : ℕ → Query → Finding → Type 0
FindsStatement day (Statement employer) found =
    (head : StatementHead) × IsFor employer day head
    × (found ≡ finding.Document (rows.Statement head))
FindsStatement day query found = Unit {0}

-- the answer is the statement of a firm on a day, over right pieces of the tables: those of this firm,
-- each in its ranges and under a charge that it tells
abbrev pub IsOverRightPieces : ℕ → ℕ → Tables → Answer → Type 0
IsOverRightPieces employer day t answer =
    (head : StatementHead) × IsFor employer day head
    × (answer ≡ Text (statement_paid head (pieces_for head t)))
    × ArePiecesFor head t

-- the answer to a query on a day tells only rows that are right, whatever else the tables hold: the
-- pieces of the firm's statement on this day, the claims on a payout list, the reminders of a run, and
-- the lines in suspense
abbrev pub IsOverRightRows : ℕ → Query → Tables → Answer → Type 0
IsOverRightRows day (Statement employer) t answer = IsOverRightPieces employer day t answer
IsOverRightRows day query t answer = AreRightFor query t

-- what is found can be told, where the tables are those of a lawful book
abbrev pub IsTold : Finding → Tables → Type 0
IsTold (finding.Answer answer) t = Unit {0}
IsTold (finding.Document document) t =
    (b : Book) → IsLawful b → Represents b t → IsTellable document t

-- what the own rules of a query say, and its answer
abbrev pub Replies : ℕ → Query → Tables → Result Finding (Stop Rule) → Type 0
Replies day query t (Ok found) =
    IsTold found t
    × ((b : Book) → IsLawful b → Represents b t
    → (own_query b query ≡ None) × (answer_of t found ≡ answer_to b day query))
    × TellsOnlyRight query t found × FindsStatement day query found
Replies day query t (Err (stop.Refused why)) =
    (b : Book) → IsLawful b → StandsWeighed b t → own_query b query ≡ Some why
Replies day query t (Err (stop.Fault fault)) = Fails t fault
