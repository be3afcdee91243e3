-- The lines of charges, row by row; and what the calls of a source gave, call by call.
use Rattle.std.proofs.Common.{◌≡◌, ℕ, ◌+◌, Bool, true, false, List, [], ◌∷◌, ◌++◌, ◌≤◌, length, refl, inl, inr, ⊎_elim, sym, ◌∙◌, ap, subst, append_assoc, append-nil, length-append}
use Rattle.std.specs.Prelude.{Option, None, Some, ◌==◌, if◌then◌else◌}
use Rattle.std.specs.Iterator.{Yields, YieldsThen}
use Rattle.std.specs.List.{flat_map}
use Rattle.std.proofs.lemmas.List.Concat.{flat_map-cons}
use Rattle.clear_book.specs.Documents.Lines.{charge_line}
use Rattle.clear_texts.specs.Charges.{piece_line, MonthRows, with_row, by_month, month_lines, charge_lines}
use Rattle.clear_texts.specs.RowSteps.{row_lines, IsNotTheEnd}
use Rattle.clear_texts.specs.Rows.{most_rows, IsRefused}
use Rattle.clear_book.specs.declared.rules.StoreCause.TheVariants.{Row as row_cause}
use Rattle.clear_values.specs.declared.causes.Fault.{Fault}
use Rattle.clear_values.specs.declared.causes.Fault.TheVariants.{Memory, Store}
use Rattle.clear_texts.specs.declared.rows.ChargeRow.{ChargeRow}

-- the month of the last row, or this one without rows
abbrev pub month_after : Option ℕ → List ChargeRow → Option ℕ
month_after month [] = month
month_after month (row ∷ rows) = month_after (Some row.state.month) rows

-- the lines of rows behind a row of this month
abbrev pub lines_after : Option ℕ → List ChargeRow → List ℕ
lines_after month [] = []
lines_after month (row ∷ rows) = row_lines month row ++ lines_after (Some row.state.month) rows

pub month_after-append : (month : Option ℕ) (rows : List ChargeRow) (row : ChargeRow) → month_after month (rows ++ row ∷ []) ≡ Some row.state.month
month_after-append month [] row = refl
month_after-append month (x ∷ rows) row = month_after-append (Some x.state.month) rows row

pub lines_after-append : (month : Option ℕ) (rows : List ChargeRow) (row : ChargeRow) → lines_after month (rows ++ row ∷ []) ≡ lines_after month rows ++ row_lines (month_after month rows) row
lines_after-append month [] row = append-nil _
lines_after-append month (x ∷ rows) row = rw (lines_after-append (Some x.state.month) rows row) (sym (append_assoc (row_lines month x) (lines_after (Some x.state.month) rows) (row_lines (month_after (Some x.state.month) rows) row)))

-- the lines of the pieces of a month
abbrev paid_lines : MonthRows → List ℕ
paid_lines group = flat_map (λ row. piece_line row.piece) (group.first ∷ group.more)

-- the lines of groups, where this stands in front of the pieces of the first one
abbrev lines_with : List ℕ → List MonthRows → List ℕ
lines_with front [] = []
lines_with front (group ∷ groups) = front ++ paid_lines group ++ flat_map month_lines groups

-- the lines of groups behind a row of this month
abbrev grouped_after : ℕ → List MonthRows → List ℕ
grouped_after month [] = []
grouped_after month (group ∷ groups) = lines_with (if month == group.first.state.month then [] else charge_line group.first.state) (group ∷ groups)

-- a row in front of groups
put : (front : List ℕ) (row : ChargeRow) (groups : List MonthRows) → front ++ piece_line row.piece ++ grouped_after row.state.month groups ≡ lines_with front (with_row row groups)
put front row [] = simp (flat_map-cons, append_assoc, append-nil)
put front row (group ∷ groups) = by (row.state.month == group.first.state.month)
  where
    by : (t : Bool) → front ++ piece_line row.piece ++ lines_with (if t then [] else charge_line group.first.state) (group ∷ groups)
        ≡ lines_with front (if t then record { first = row; more = group.first ∷ group.more } ∷ groups else record { first = row; more = [] } ∷ group ∷ groups)
    by true = simp (flat_map-cons, append_assoc, append-nil)
    by false = simp (flat_map-cons, append_assoc, append-nil)

-- the first group with a row begins with it
begins_after : (month : ℕ) (row : ChargeRow) (groups : List MonthRows) → grouped_after month (with_row row groups) ≡ lines_with (if month == row.state.month then [] else charge_line row.state) (with_row row groups)
begins_after month row [] = refl
begins_after month row (group ∷ groups) = by (row.state.month == group.first.state.month)
  where
    by : (t : Bool) → grouped_after month (if t then record { first = row; more = group.first ∷ group.more } ∷ groups else record { first = row; more = [] } ∷ group ∷ groups)
        ≡ lines_with (if month == row.state.month then [] else charge_line row.state) (if t then record { first = row; more = group.first ∷ group.more } ∷ groups else record { first = row; more = [] } ∷ group ∷ groups)
    by true = refl
    by false = refl

begins : (row : ChargeRow) (groups : List MonthRows) → flat_map month_lines (with_row row groups) ≡ lines_with (charge_line row.state) (with_row row groups)
begins row [] = simp (flat_map-cons, append_assoc, append-nil)
begins row (group ∷ groups) = by (row.state.month == group.first.state.month)
  where
    by : (t : Bool) → flat_map month_lines (if t then record { first = row; more = group.first ∷ group.more } ∷ groups else record { first = row; more = [] } ∷ group ∷ groups)
        ≡ lines_with (charge_line row.state) (if t then record { first = row; more = group.first ∷ group.more } ∷ groups else record { first = row; more = [] } ∷ group ∷ groups)
    by true = simp (flat_map-cons, append_assoc, append-nil)
    by false = simp (flat_map-cons, append_assoc, append-nil)

after_is : (month : ℕ) (rows : List ChargeRow) → lines_after (Some month) rows ≡ grouped_after month (by_month rows)
after_is month [] = refl
after_is month (row ∷ rows) = rw (after_is row.state.month rows) (put (if month == row.state.month then [] else charge_line row.state) row (by_month rows) ∙ sym (begins_after month row (by_month rows)))

pub charge_lines_is : (rows : List ChargeRow) → lines_after None rows ≡ charge_lines rows
unfolding charge_lines
charge_lines_is [] = refl
charge_lines_is (row ∷ rows) = rw (after_is row.state.month rows) (put (charge_line row.state) row (by_month rows) ∙ sym (begins row (by_month rows)))

-- ---- a run of calls

-- the calls from the first source to the second gave so many rows, whose lines stand behind the text
-- from the start; this is the month of the last one
pub record HasGiven {S : Type 0} (gives : S → Option ChargeRow → S → Type 0) (old new : S) (count : ℕ) (month : Option ℕ) (start text : List ℕ) : Type 0 where
  pub given : List ChargeRow
  pub run : Yields gives old given new
  pub few : length given ≡ count
  pub last : month_after None given ≡ month
  pub lines : text ≡ start ++ lines_after None given

pub Yields-append : {S Row : Type 0} (gives : S → Option Row → S → Type 0) (old : S) (given : List Row) (mid : S) (row : Row) (new : S) → Yields gives old given mid → gives mid (Some row) new → Yields gives old (given ++ row ∷ []) new
Yields-append gives old [] mid row new start step = (new, subst (λ s. gives s (Some row) new) (sym start) step, refl)
Yields-append gives old (x ∷ given) mid row new (j, step, run) more = (j, step, Yields-append gives j given mid row new run more)

pub begun : {S : Type 0} (gives : S → Option ChargeRow → S → Type 0) (old : S) (start : List ℕ) → HasGiven gives old old 0 None start start
begun gives old start = record { given = []; run = refl; few = refl; last = refl; lines = sym (append-nil start) }

pub goes_on : {S : Type 0} (gives : S → Option ChargeRow → S → Type 0) (old mid new : S) (count : ℕ) (month : Option ℕ) (start text next : List ℕ) (row : ChargeRow)
    → HasGiven gives old mid count month start text → gives mid (Some row) new → next ≡ text ++ row_lines month row
    → HasGiven gives old new (count + 1) (Some row.state.month) start next
goes_on gives old mid new count month start text next row so_far step added = record {
  given = so_far.given ++ row ∷ [];
  run = Yields-append gives old so_far.given mid row new so_far.run step;
  few = length-append so_far.given (row ∷ []) ∙ ap (λ n. n + 1) so_far.few;
  last = month_after-append None so_far.given row;
  lines = rw (added, so_far.lines, sym so_far.last, lines_after-append None so_far.given row) (append_assoc start (lines_after None so_far.given) (row_lines (month_after None so_far.given) row));
}

module _ {S : Type 0} (gives : S → Option ChargeRow → S → Type 0) (old mid new : S) (count : ℕ) (month : Option ℕ) (start text : List ℕ) where
  pub ends : HasGiven gives old mid count month start text → gives mid None new → count ≤ most_rows
      → (given : List ChargeRow) × YieldsThen gives old given None new × (length given ≤ most_rows) × (text ≡ start ++ charge_lines given)
  ends so_far end few = (so_far.given, (mid, so_far.run, end), rw so_far.few few, so_far.lines ∙ ap (λ lines. start ++ lines) (charge_lines_is so_far.given))

  pub lacks_memory : (refuses : S → Fault → S → Type 0) (row : ChargeRow) → HasGiven gives old mid count month start text → gives mid (Some row) new → IsRefused gives refuses old Memory new
  lacks_memory refuses row so_far step = inl (refl, (so_far.given ++ row ∷ [], inl (Yields-append gives old so_far.given mid row new so_far.run step)))

  pub refused_one : (refuses : S → Fault → S → Type 0) (fault : Fault) → HasGiven gives old mid count month start text → refuses mid fault new → IsRefused gives refuses old fault new
  refused_one refuses fault so_far step = inr (inr (so_far.given, mid, so_far.run, step))

  pub is_not_the_end : (refuses : S → Fault → S → Type 0) (fault : Fault) → HasGiven gives old mid count month start text → count ≡ most_rows → IsNotTheEnd gives refuses mid fault new → IsRefused gives refuses old fault new
  is_not_the_end refuses fault so_far full why = ⊎_elim
      (λ (further : (fault ≡ Store row_cause) × (row : ChargeRow) × gives mid (Some row) new). inr (inl (further.0, (so_far.given ++ further.1 ∷ [], Yields-append gives old so_far.given mid further.1 new so_far.run further.2, length-append so_far.given (further.1 ∷ []) ∙ ap (λ n. n + 1) (so_far.few ∙ full)))))
      (λ (step : refuses mid fault new). refused_one refuses fault so_far step)
      why
