-- One row of a rate file: the table that writes it, and the rate that it means.
use Rattle.std.specs.Prelude.{ℕ, ℤ, pos, negsuc, List, [], ◌∷◌, codes, Bool, true, ◌&&◌}
use Rattle.std.specs.Prelude.{if◌then◌else◌, Option, Some, None, option_and_then, nat_le, bytes_eq}
use Rattle.std.specs.List.{list_any}
use Rattle.toml.specs.Data.{Data, Members, no_members, member, get, as_str, as_integer, as_table}
use Rattle.clear_money.specs.Options.{◌>>=◌}
use Rattle.clear_money.specs.Rates.{Rate}
use Rattle.clear_money.specs.Texts.{month_spelled}
use Rattle.clear_toml.specs.declared.rate_file.WrittenRow.{WrittenRow}

-- a row as it is written: a text and five whole numbers
pub record Written : Type 0 where
  pub from : List ℕ
  pub contribution_rate : ℤ
  pub report_day : ℤ
  pub due_day : ℤ
  pub interest_rate : ℤ
  pub entitlement_rate : ℤ

-- the text of the member of a name
abbrev pub text_of : List ℕ → Data → Option (List ℕ)
text_of name row = option_and_then as_str (get name row)

-- the whole number of the member of a name
abbrev pub number_of : List ℕ → Data → Option ℤ
number_of name row = option_and_then as_integer (get name row)

-- each member has one of these names
abbrev pub has_only : List (List ℕ) → Members → Bool
has_only names no_members = true
has_only names (member name d ms) = list_any (bytes_eq name) names && has_only names ms

-- the six members of a row
abbrev pub row_names : List (List ℕ)
row_names =
    codes "from" ∷ codes "contribution" ∷ codes "report_day" ∷ codes "due_day" ∷ codes "interest"
    ∷ codes "entitlement" ∷ []

-- the members, if each has one of these names
abbrev pub members_only : List (List ℕ) → Members → Option Members
members_only names ms = if has_only names ms then Some ms else None

-- the row that a table of exactly the six members writes
unfoldable pub written_row : Data → Option Written
written_row row = do
  members ← as_table row
  _ ← members_only row_names members
  from ← text_of (codes "from") row
  contribution_rate ← number_of (codes "contribution") row
  report_day ← number_of (codes "report_day") row
  due_day ← number_of (codes "due_day") row
  interest_rate ← number_of (codes "interest") row
  entitlement_rate ← number_of (codes "entitlement") row
  Some (record {
    from = from;
    contribution_rate = contribution_rate;
    report_day = report_day;
    due_day = due_day;
    interest_rate = interest_rate;
    entitlement_rate = entitlement_rate;
  })

-- a whole number from low to high
abbrev pub within : ℕ → ℕ → ℤ → Option ℕ
within low high (pos n) = if nat_le low n && nat_le n high then Some n else None
within low high (negsuc n) = None

-- the rate that a written row means, if each part is in its range
unfoldable pub rate_meant : Written → Option Rate
rate_meant w = do
  first ← month_spelled w.from
  contribution_rate ← within 0 10000 w.contribution_rate
  report_day ← within 1 28 w.report_day
  due_day ← within 1 28 w.due_day
  interest_rate ← within 0 1000 w.interest_rate
  entitlement_rate ← within 0 10000 w.entitlement_rate
  Some (record {
    first = first;
    contribution_rate = contribution_rate;
    report_day = report_day;
    due_day = due_day;
    interest_rate = interest_rate;
    entitlement_rate = entitlement_rate;
  })

-- what a row that the code has read says
abbrev pub row_view : WrittenRow → Written
row_view w = record {
  from = w.from.now;
  contribution_rate = w.contribution_rate;
  report_day = w.report_day;
  due_day = w.due_day;
  interest_rate = w.interest_rate;
  entitlement_rate = w.entitlement_rate;
}
