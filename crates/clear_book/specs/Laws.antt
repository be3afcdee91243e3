-- What follows from the definitions alone, of lawful books.
use Rattle.std.specs.Prelude.{◌≡◌, ℕ, ◌≤◌, List, Option, Some, None, is_some, length, map}
use Rattle.std.specs.List.{AllByRecursion, range_with_len}
use Rattle.clear_money.specs.Rates.{rate_in_force}
use Rattle.clear_account.specs.Account.{charged, credited}
use Rattle.clear_values.specs.declared.rows.ClaimRow.{ClaimRow}
use Rattle.clear_values.specs.declared.texts.WageLine.{WageLine}
use Rattle.clear_book.specs.Book.{Book, Entry, rates_of, ledger_day, latest_lines, version_of}
use Rattle.clear_book.specs.Book.{employer_count, member_of}
use Rattle.clear_book.specs.Accounts.{base_of, contribution_of_lines, charges_of, credits_of}
use Rattle.clear_book.specs.Accounts.{interest_credits_of, credits_standing}
use Rattle.clear_values.specs.Keyed.{find_row, AreInOrder, AreOnce}
use Rattle.clear_values.specs.Limits.{most_entries, most_lines, most_gross, most_base, most_charged}
use Rattle.clear_values.specs.Limits.{most_credits, most_credited, most_suspense, most_serials}
use Rattle.clear_values.specs.Limits.{most_versions, most_entitled, most_claimed}
use Rattle.clear_book.specs.Lines.{lines_seen, lines_standing, suspense_count, serial_count}
use Rattle.clear_book.specs.Lines.{serials_given}
use Rattle.clear_book.specs.Tables.{bank_key, claim_key, serial_key}
use Rattle.clear_book.specs.Workers.{claimed, employers_of, entitlement_of, number_key}

-- the limits on a report's lines
pub record AreFew (lines : List WageLine) : Type 0 where
  pub few : length lines ≤ most_lines
  pub small : AllByRecursion (λ line. line.gross ≤ most_gross) lines

-- the day lies on or before the ledger day
abbrev pub IsBy : Option ℕ → ℕ → Type 0
IsBy None day = ⊥
IsBy (Some ledger) day = day ≤ ledger

-- what no sum over a book goes beyond, and that each credit's day has come
pub record IsSmall (b : Book) : Type 0 where
  pub entries : length b.entries ≤ most_entries
  pub lines : (e m : ℕ) (lines : List WageLine) → latest_lines b.entries e m ≡ Some lines
      → AreFew lines
  pub versions : (e m : ℕ) → version_of b.entries e m ≤ most_versions
  pub base : (e m : ℕ) (lines : List WageLine) → latest_lines b.entries e m ≡ Some lines
      → base_of lines ≤ most_base
  pub contribution : (e m : ℕ) (lines : List WageLine) → latest_lines b.entries e m ≡ Some lines
      → contribution_of_lines (rate_in_force (rates_of b) m) lines ≤ most_base
  pub total : (e : ℕ) → charged (charges_of b e) ≤ most_charged
  pub credits : (e : ℕ) → length (credits_of b e) ≤ most_credits
  pub interest_credits : (e : ℕ) → length (interest_credits_of b e) ≤ most_credits
  pub paid : (e : ℕ) → credited (credits_of b e) ≤ most_credited
  pub interest_paid : (e : ℕ) → credited (interest_credits_of b e) ≤ most_credited
  pub suspense : suspense_count (lines_standing b.entries) ≤ most_suspense
  pub seen : length (lines_seen b.entries) ≤ most_serials
  pub serials : serial_count b.entries ≤ most_serials
  pub days : AllByRecursion (λ row. IsBy (ledger_day b.entries) row.day)
      (credits_standing b.entries)
  pub entitlement : (w : ℕ) → entitlement_of b w ≤ most_entitled
  pub claimed : (w : ℕ) → claimed b w ≤ most_claimed

-- of the bank lines and the releases of a book, in the order of its entries, the first takes serial
-- 1 and each further one the next; so those of the lines rise; and no reference stands twice
pub record AreCounted (xs : List Entry) : Type 0 where
  pub serials : serials_given xs ≡ range_with_len 1 (serial_count xs)
  pub rising : AreInOrder serial_key (lines_seen xs)
  pub references : AreOnce bank_key (lines_seen xs)

-- the employers rise, each is one that the book has registered, and there are as many
pub record AreEmployers (b : Book) : Type 0 where
  pub order : AreInOrder number_key (employers_of b.entries)
  pub registered : (e : ℕ) → is_some (find_row number_key (employers_of b.entries) (number_key e))
      ≡ is_some (member_of b.entries e)
  pub count : length (employers_of b.entries) ≡ employer_count b.entries

-- the claims of a book: the first takes number 1 and each further one the next
pub record AreNumbered (claims : List ClaimRow) : Type 0 where
  pub numbers : map (λ claim. claim.claim) claims ≡ range_with_len 1 (length claims)
  pub order : AreInOrder claim_key claims

-- the rows in the strict order of their keys: under each key the same row is found, and no other
pub record AreSorted {Row : Type 0} (key : Row → List ℕ) (sorted rows : List Row) : Type 0 where
  pub order : AreInOrder key sorted
  pub found : (k : List ℕ) → find_row key sorted k ≡ find_row key rows k
