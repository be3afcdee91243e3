-- What an import reads of the tables.
use Rattle.std.specs.Prelude.{◌≡◌, ◌≤◌, ◌⊎◌, ℕ, ◌+◌, ◌==◌, List, Option, Bool, false, true}
use Rattle.std.specs.Prelude.{[], ◌∷◌, IfSome, None, Some, count_by, if◌then◌else◌, is_some, length}
use Rattle.std.specs.Prelude.{nat_le, unwrap_or}
use Rattle.std.specs.List.{AllByRecursion, filter_map, list_all, list_any}
use Rattle.std.specs.Option.{option_map, option_map_or}
use Rattle.clear_bank.specs.declared.lines.BankLine.{BankLine}
use Rattle.clear_bank.specs.declared.lines.Purpose.{Purpose}
use Rattle.clear_bank.specs.declared.lines.Purpose.TheVariants.{Contribution, Interest}
use Rattle.clear_book.specs.Keyed.{AreOnce, find_row}
use Rattle.clear_book.specs.Limits.{most_credits, most_suspense}
use Rattle.clear_book.specs.Lines.{is_credit_of, is_in_suspense}
use Rattle.clear_book.specs.Tables.{Tables, bank_key, employer_key}
use Rattle.clear_rules.specs.Views.ImportBank.{employer_under}
use Rattle.clear_rules.specs.declared.decide.import.EmployerCredits.{EmployerCredits}
use Rattle.clear_rules.specs.declared.decide.import.ImportView.{ImportView}
use Rattle.clear_views.specs.declared.import.firms.NamedFirms.{NamedFirms}

-- what stands under the reference of a line
abbrev pub line_found : Tables → BankLine → Option BankLine
line_found t line = option_map (λ row. row.line) (find_row bank_key t.bank line.reference)

-- whether a line names this firm
abbrev pub names : ℕ → BankLine → Bool
names e line = option_map_or (λ named. named == e) line.employer false

-- whether a firm is among these
abbrev pub is_among : ℕ → List ℕ → Bool
is_among e firms = list_any (λ firm. firm == e) firms

-- a firm's number as its key
abbrev pub firm_key : ℕ → List ℕ
firm_key e = e ∷ []

-- the number that serves for the credits of a firm for a purpose, or else how many there are
abbrev pub credits_viewed : Option ℕ → Tables → ℕ → Purpose → ℕ
credits_viewed serving t e purpose =
    unwrap_or serving (count_by (is_credit_of e purpose) t.credits)

-- a registered firm, as it is viewed
abbrev pub counted_firm : Option ℕ → Tables → ℕ → EmployerCredits
counted_firm serving t e =
    record {
      employer = e;
      contribution_count = credits_viewed serving t e Contribution;
      interest_count = credits_viewed serving t e Interest;
    }

-- a firm, as it is viewed, if it is registered
abbrev pub firm_viewed : Option ℕ → Tables → ℕ → Option EmployerCredits
firm_viewed serving t e =
    option_map (λ row. counted_firm serving t e) (find_row employer_key t.employers (e ∷ []))

-- a number in place of a count that is at most the serials: the serials, where so many more lines
-- are within the limit
abbrev pub IsServing : ℕ → ℕ → ℕ → ℕ → Type 0
IsServing serials more limit n = (n ≡ serials) × (n + more ≤ limit)

-- the firms that these lines name, each once: of them the registered ones are found as they are
-- viewed, in order, and whether that is all of them
pub record AreNamed (serving : Option ℕ) (t : Tables) (lines : List BankLine)
    (found : NamedFirms) : Type 0 where
  pub firms : List ℕ
  pub named : (e : ℕ) → is_among e firms ≡ list_any (names e) lines
  pub once : AreOnce firm_key firms
  pub registered : found.registered.items ≡ filter_map (firm_viewed serving t) firms
  pub all : found.all ≡ list_all (λ e. is_some (firm_viewed serving t e)) firms

-- the line names a firm, which is among the registered ones
abbrev pub is_placed : List EmployerCredits → BankLine → Bool
is_placed registered line =
    option_map_or (λ e. is_some (employer_under registered e)) line.employer false

-- a number for the lines in suspense, where these come in: their count; or the serials; or the limit,
-- where each line names a firm, and all of these are registered
abbrev pub IsSuspenseViewed : Tables → ℕ → List BankLine → Bool → ℕ → Type 0
IsSuspenseViewed t serials lines all n =
    (n ≡ count_by is_in_suspense t.bank)
    ⊎ IsServing serials (length lines) most_suspense n
    ⊎ ((n ≡ most_suspense) × (all ≡ true)
    × (list_all (λ line. is_some line.employer) lines ≡ true))

-- the number that serves for the credits of a firm, where these lines come in: the serials, if they
-- and the lines are within the limit
abbrev pub serving_for : ℕ → List BankLine → Option ℕ
serving_for serials lines =
    if nat_le (serials + length lines) most_credits then Some serials else None

-- the lines in suspense were not counted: the serials serve, or the limit does
abbrev pub IsUncounted : ℕ → ℕ → Type 0
IsUncounted serials n = (n ≡ serials) ⊎ (n ≡ most_suspense)

-- what was read for these lines: under each of their references what stands there, each firm that
-- they name, and a number for the lines in suspense: these aren't counted where the serials serve, nor
-- where each line names a registered firm
pub record IsImportRead (t : Tables) (serials : ℕ) (lines : List BankLine)
    (view : ImportView) : Type 0 where
  pub known : view.known.items ≡ filter_map (line_found t) lines
  pub employers : AllByRecursion (λ line. IfSome line.employer (λ e.
      employer_under view.employers.items e ≡ firm_viewed (serving_for serials lines) t e)) lines
  pub suspense : (view.suspense ≡ count_by is_in_suspense t.bank)
      ⊎ IsServing serials (length lines) most_suspense view.suspense
      ⊎ ((view.suspense ≡ most_suspense)
      × AllByRecursion (λ line. is_placed view.employers.items line ≡ true) lines)
  pub few : serials + length lines ≤ most_suspense → IsUncounted serials view.suspense
  pub placed : AllByRecursion (λ line. is_placed view.employers.items line ≡ true) lines
      → IsUncounted serials view.suspense
  pub serials_is : view.serials ≡ serials
