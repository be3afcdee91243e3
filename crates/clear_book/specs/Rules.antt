-- The rules: the number and the name of each, and what it carries; the words for limits.
use Rattle.std.specs.Prelude.{ℕ, List, [], ◌++◌, codes, Bool, true, false}
use Rattle.std.specs.Fmt.{decimal}
use Rattle.clear_money.specs.Texts.{day_text, month_text}
use Rattle.clear_book.specs.declared.rules.Carried.{Carried}
use Rattle.clear_book.specs.declared.rules.Carried.TheVariants.{Nothing, Day, Month, Number}
use Rattle.clear_book.specs.declared.rules.Carried.TheVariants.{Field, Limit, Table}
use Rattle.clear_book.specs.declared.rules.Limit.TheVariants.{Book, Employers, Lines, Gross}
use Rattle.clear_book.specs.declared.rules.Limit.TheVariants.{Versions, File, Suspense, Credits}
use Rattle.clear_book.specs.declared.rules.Limit.{Limit as LimitOn}
use Rattle.clear_book.specs.declared.rules.OldTable.{OldTable}
use Rattle.clear_book.specs.declared.rules.OldTable.TheVariants as table
use Rattle.clear_book.specs.declared.rules.Rule.{Rule}
use Rattle.clear_book.specs.declared.rules.Rule.TheVariants.{BadHead, TooLarge, BadFraming, NoRoute}
use Rattle.clear_book.specs.declared.rules.Rule.TheVariants.{BadMethod, UnknownKey, NotYours}
use Rattle.clear_book.specs.declared.rules.Rule.TheVariants.{BadBody, NumberReused, DayBack}
use Rattle.clear_book.specs.declared.rules.Rule.TheVariants.{UnknownEmployer, EmployerExists}
use Rattle.clear_book.specs.declared.rules.Rule.TheVariants.{MonthOutside, MonthAhead, ReportExists}
use Rattle.clear_book.specs.declared.rules.Rule.TheVariants.{StaleVersion, WorkerTwice, OverLimit}
use Rattle.clear_book.specs.declared.rules.Rule.TheVariants.{RateOrder, BadCsv, RefConflict}
use Rattle.clear_book.specs.declared.rules.Rule.TheVariants.{ValueAhead, NotInSuspense, NotEmployed}
use Rattle.clear_book.specs.declared.rules.Rule.TheVariants.{OverBalance, UnknownClaim}
use Rattle.clear_book.specs.declared.rules.Rule.TheVariants.{ClaimNotOpen, MissingReport}
use Rattle.clear_book.specs.declared.rules.Rule.TheVariants.{NothingToPay, NothingToRemind}
use Rattle.clear_book.specs.declared.rules.Rule.TheVariants.{EndBeforeReports, NoRate}
use Rattle.clear_book.specs.declared.rules.Rule.TheVariants.{UnknownDocument, Memory, Store, Failed}
use Rattle.clear_book.specs.declared.rules.Rule.TheVariants.{WrongVersion, BadOldRow}
use Rattle.clear_book.specs.declared.rules.RuleEntry.{RuleEntry}
use Rattle.clear_bank.specs.Fields.{fault_number}
pub use Rattle.clear_values.specs.Causes.{cause_of}

-- how a rule is known, and what is told of it
pub record Known : Type 0 where
  pub number : ℕ
  pub name : List ℕ
  pub carried : Carried

-- these three of a rule
abbrev entry : ℕ → List ℕ → Carried → Known
entry number name carried = record { number = number; name = name; carried = carried }

-- what the code's entry says
abbrev pub known : RuleEntry → Known
known e = entry e.number e.name.now e.carried

-- the table of all rules
abbrev pub entry_of : Rule → Known
entry_of BadHead = entry 1 (codes "BadHead") Nothing
entry_of TooLarge = entry 2 (codes "TooLarge") Nothing
entry_of BadFraming = entry 3 (codes "BadFraming") Nothing
entry_of NoRoute = entry 4 (codes "NoRoute") Nothing
entry_of BadMethod = entry 5 (codes "BadMethod") Nothing
entry_of UnknownKey = entry 6 (codes "UnknownKey") Nothing
entry_of NotYours = entry 7 (codes "NotYours") Nothing
entry_of BadBody = entry 8 (codes "BadBody") Nothing
entry_of NumberReused = entry 9 (codes "NumberReused") Nothing
entry_of (DayBack day) = entry 10 (codes "DayBack") (Day day)
entry_of UnknownEmployer = entry 11 (codes "UnknownEmployer") Nothing
entry_of EmployerExists = entry 12 (codes "EmployerExists") Nothing
entry_of MonthOutside = entry 13 (codes "MonthOutside") Nothing
entry_of MonthAhead = entry 14 (codes "MonthAhead") Nothing
entry_of (ReportExists version) = entry 15 (codes "ReportExists") (Number version)
entry_of (StaleVersion version) = entry 16 (codes "StaleVersion") (Number version)
entry_of (WorkerTwice worker) = entry 17 (codes "WorkerTwice") (Number worker)
entry_of (OverLimit limit) = entry 18 (codes "OverLimit") (Limit limit)
entry_of RateOrder = entry 19 (codes "RateOrder") Nothing
entry_of (BadCsv line fault) = entry 20 (codes "BadCsv") (Field line (fault_number fault))
entry_of (RefConflict number) = entry 21 (codes "RefConflict") (Number number)
entry_of (ValueAhead number) = entry 22 (codes "ValueAhead") (Number number)
entry_of NotInSuspense = entry 23 (codes "NotInSuspense") Nothing
entry_of NotEmployed = entry 24 (codes "NotEmployed") Nothing
entry_of (OverBalance number) = entry 25 (codes "OverBalance") (Number number)
entry_of UnknownClaim = entry 26 (codes "UnknownClaim") Nothing
entry_of ClaimNotOpen = entry 27 (codes "ClaimNotOpen") Nothing
entry_of (MissingReport month) = entry 28 (codes "MissingReport") (Month month)
entry_of NothingToPay = entry 29 (codes "NothingToPay") Nothing
entry_of NothingToRemind = entry 30 (codes "NothingToRemind") Nothing
entry_of (EndBeforeReports month) = entry 31 (codes "EndBeforeReports") (Month month)
entry_of NoRate = entry 32 (codes "NoRate") Nothing
entry_of UnknownDocument = entry 33 (codes "UnknownDocument") Nothing
entry_of Memory = entry 40 (codes "Memory") Nothing
entry_of (Store cause) = entry 41 (codes "Store") Nothing
entry_of Failed = entry 42 (codes "Failed") Nothing
entry_of (WrongVersion number) = entry 43 (codes "WrongVersion") (Number number)
entry_of (BadOldRow table) = entry 44 (codes "BadOldRow") (Table table)

-- the number under which a rule is known
abbrev pub number_of : Rule → ℕ
number_of rule = (entry_of rule).number

-- the name under which a rule is known
abbrev pub name_of : Rule → List ℕ
name_of rule = (entry_of rule).name

-- what is told of a rule besides
abbrev pub carried_by : Rule → Carried
carried_by rule = (entry_of rule).carried

-- the rule says that the store has failed
abbrev pub tells_fault : Rule → Bool
tells_fault (Store cause) = true
tells_fault rule = false

-- the word that names a limit
abbrev pub word_of : LimitOn → List ℕ
word_of Book = codes "book"
word_of Employers = codes "employers"
word_of Lines = codes "lines"
word_of Gross = codes "gross"
word_of Versions = codes "versions"
word_of File = codes "file"
word_of Suspense = codes "suspense"
word_of Credits = codes "credits"

-- the name of a table of an older store
abbrev pub table_word : OldTable → List ℕ
table_word table.Bank = codes "bank"
table_word table.Rates = codes "rates"
table_word table.Charges = codes "charges"
table_word table.Pieces = codes "pieces"
table_word table.Credits = codes "credits"

-- what a rule carries, as a text: a day, a month, a number in decimal, a record of a file and its
-- field, or a word
abbrev pub carried_text : Carried → List ℕ
carried_text Nothing = []
carried_text (Day day) = day_text day
carried_text (Month month) = month_text month
carried_text (Number number) = decimal number
carried_text (Field line field) = decimal line ++ codes ":" ++ decimal field
carried_text (Limit limit) = word_of limit
carried_text (Table table) = table_word table
