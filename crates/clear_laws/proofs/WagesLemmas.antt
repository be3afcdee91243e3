-- The wage rows of a month's report, and the rows with those of a month in place.
use Rattle.std.proofs.Common.{◌≡◌, ℕ, List, [], ◌∷◌, Option, Some, None, Bool, true, false, cond, ◌&&◌, ◌==◌, refl, sym, ap, ◌∙◌, arith}
use Rattle.std.proofs.lemmas.Bool.Decides.{nat_tests}
use Rattle.std.specs.List.{AllByRecursion}
use Rattle.std.specs.Option.{option_map}
use Rattle.clear_values.specs.declared.rows.WageRow.{WageRow}
use Rattle.clear_values.specs.declared.texts.WageLine.{WageLine}
use Rattle.clear_book.specs.Book.{newer}
use Rattle.clear_values.specs.Keyed.{is_key, find_row, AreInOrder, with_rows, without_rows, AreOnce}
use Rattle.clear_book.specs.Tables.{wage_key, gross_at, gross_of, wage_row, wage_rows, is_wage_key_of, with_wages}
use Rattle.clear_laws.proofs.DistinctLemmas.{AreDistinct}
use Rattle.clear_values.proofs.KeyedChangesLemmas.{find_row-without_rows, AreInOrder-without_rows, without_rows-none}
use Rattle.clear_values.proofs.KeyedRowsLemmas.{AreNew, find_row-with_rows, AreInOrder-with_rows}

-- the amount of a row
abbrev gross_in : WageRow → ℕ
gross_in row = row.gross

-- no amount means no row
no_gross : (o : Option WageRow) → option_map gross_in o ≡ None → o ≡ None
no_gross None h = refl
no_gross (Some row) h = absurd (cc)

-- nothing in both cases is nothing
none_either : (b : Bool) → cond {A = Option ℕ} b None None ≡ None
none_either true = refl
none_either false = refl

-- an employer and month are themselves
same_month : (e m : ℕ) → (e == e) && (m == m) ≡ true
same_month e m = grind (arith, nat_tests)

-- ---- the rows of a report

-- a worker's amount in the rows of a month's lines is that of the lines, and other months have none
pub gross_at-wage_rows : (e m : ℕ) (lines : List WageLine) (f n w : ℕ) → gross_at (wage_rows e m lines) f n w ≡ cond ((e == f) && (m == n)) (gross_of lines w) None
gross_at-wage_rows e m [] f n w = sym (none_either ((e == f) && (m == n)))
gross_at-wage_rows e m (line ∷ lines) f n w =
    told (e == f) (m == n) (line.worker == w) (find_row wage_key (wage_rows e m lines) (f ∷ n ∷ w ∷ [])) (gross_at-wage_rows e m lines f n w)
  where
    told : (p q c : Bool) (o : Option WageRow) → option_map gross_in o ≡ cond (p && q) (gross_of lines w) None → option_map gross_in (cond (p && (q && (c && true))) (Some (wage_row e m line)) o) ≡ cond (p && q) (cond c (Some line.gross) (gross_of lines w)) None
    told true true true o rest = refl
    told true true false o rest = rest
    told true false c o rest = rest
    told false q c o rest = rest

-- lines for a worker each give rows with a key each
pub wage_rows-once : (e m : ℕ) (lines : List WageLine) → AreDistinct lines → AreOnce wage_key (wage_rows e m lines)
wage_rows-once e m [] apart = tt
wage_rows-once e m (line ∷ lines) apart =
    let none : gross_at (wage_rows e m lines) e m line.worker ≡ None = gross_at-wage_rows e m lines e m line.worker ∙ ap (λ (o : Option ℕ). cond ((e == e) && (m == m)) o None) apart.0 ∙ none_either ((e == e) && (m == m)) in
    (no_gross (find_row wage_key (wage_rows e m lines) (e ∷ m ∷ line.worker ∷ [])) none, wage_rows-once e m lines apart.1)

-- the rows of a month's lines are new where the month has no row
pub wage_rows-new : (e m : ℕ) (rows : List WageRow) (lines : List WageLine) → ((w : ℕ) → gross_at rows e m w ≡ None) → AreNew wage_key rows (wage_rows e m lines)
wage_rows-new e m rows [] none = tt
wage_rows-new e m rows (line ∷ lines) none =
    (no_gross (find_row wage_key rows (e ∷ m ∷ line.worker ∷ [])) (none line.worker), wage_rows-new e m rows lines none)

-- ---- the rows of a report in the place of what stood for its month

-- the rows of the other employers and months
abbrev others : ℕ → ℕ → List WageRow → List WageRow
others e m rows = without_rows wage_key (is_wage_key_of e m) rows

-- the month's amounts are taken out, and the others stay
gross_at-others : (e m : ℕ) (rows : List WageRow) (f n w : ℕ) → gross_at (others e m rows) f n w ≡ cond ((e == f) && (m == n)) None (gross_at rows f n w)
gross_at-others e m rows f n w =
    ap (option_map gross_in) (find_row-without_rows wage_key (is_wage_key_of e m) rows (f ∷ n ∷ w ∷ []))
    ∙ told ((e == f) && (m == n)) (find_row wage_key rows (f ∷ n ∷ w ∷ []))
  where
    told : (b : Bool) (o : Option WageRow) → option_map gross_in (cond b None o) ≡ cond b None (option_map gross_in o)
    told true o = refl
    told false o = refl

-- so the rows of a month's lines are new among the others
others_new : (e m : ℕ) (rows : List WageRow) (lines : List WageLine) → AreNew wage_key (others e m rows) (wage_rows e m lines)
others_new e m rows lines =
    wage_rows-new e m (others e m rows) lines (λ w. gross_at-others e m rows e m w ∙ ap (λ b. cond b None (gross_at rows e m w)) (same_month e m))

-- the month has the amounts of the lines, and the other months have theirs
pub gross_at-with_wages : (e m : ℕ) (lines : List WageLine) (rows : List WageRow) → AreDistinct lines → (f n w : ℕ) → gross_at (with_wages e m lines rows) f n w ≡ cond ((e == f) && (m == n)) (gross_of lines w) (gross_at rows f n w)
gross_at-with_wages e m lines rows apart f n w =
    ap (option_map gross_in) (find_row-with_rows wage_key (others e m rows) (wage_rows e m lines) (f ∷ n ∷ w ∷ []) (others_new e m rows lines) (wage_rows-once e m lines apart))
    ∙ both (find_row wage_key (others e m rows) (f ∷ n ∷ w ∷ [])) (find_row wage_key (wage_rows e m lines) (f ∷ n ∷ w ∷ []))
    ∙ (λ i. newer (gross_at-others e m rows f n w i) (gross_at-wage_rows e m lines f n w i))
    ∙ told ((e == f) && (m == n)) (gross_of lines w) (gross_at rows f n w)
  where
    both : (o p : Option WageRow) → option_map gross_in (newer o p) ≡ newer (option_map gross_in o) (option_map gross_in p)
    both None p = refl
    both (Some row) p = refl

    told : (b : Bool) (new old : Option ℕ) → newer (cond b None old) (cond b new None) ≡ cond b new old
    told true new old = refl
    told false new None = refl
    told false new (Some gross) = refl

-- the rows stay in order
pub with_wages-in_order : (e m : ℕ) (lines : List WageLine) (rows : List WageRow) → AreDistinct lines → AreInOrder wage_key rows → AreInOrder wage_key (with_wages e m lines rows)
with_wages-in_order e m lines rows apart order =
    AreInOrder-with_rows wage_key (others e m rows) (wage_rows e m lines) (AreInOrder-without_rows wage_key (is_wage_key_of e m) rows order) (others_new e m rows lines) (wage_rows-once e m lines apart)

-- ---- the first report of a month

-- a month that has no amount has no row
no_row_of : (e m : ℕ) (rows : List WageRow) → ((w : ℕ) → gross_at rows e m w ≡ None) → AllByRecursion (λ row. is_wage_key_of e m (wage_key row) ≡ false) rows
no_row_of e m [] none = tt
no_row_of e m (row ∷ rows) none = (
  differs row.employer row.month row.worker (lacks (is_key (wage_key row) (e ∷ m ∷ row.worker ∷ [])) (find_row wage_key rows (e ∷ m ∷ row.worker ∷ [])) (none row.worker)).0,
  no_row_of e m rows (λ w. (lacks (is_key (wage_key row) (e ∷ m ∷ w ∷ [])) (find_row wage_key rows (e ∷ m ∷ w ∷ [])) (none w)).1),
)
  where
    differs : (f n w : ℕ) → is_key (f ∷ n ∷ w ∷ []) (e ∷ m ∷ w ∷ []) ≡ false → (e == f) && (m == n) ≡ false
    differs f n w h = grind (arith, nat_tests)

    lacks : (b : Bool) (o : Option WageRow) → option_map gross_in (cond b (Some row) o) ≡ None → (b ≡ false) × (option_map gross_in o ≡ None)
    lacks true o h = absurd (cc)
    lacks false o h = (refl, h)

-- nothing is taken out for a month that has no rows
pub with_wages-first : (e m : ℕ) (lines : List WageLine) (rows : List WageRow) → ((w : ℕ) → gross_at rows e m w ≡ None) → with_wages e m lines rows ≡ with_rows wage_key rows (wage_rows e m lines)
with_wages-first e m lines rows none =
    ap (λ some. with_rows wage_key some (wage_rows e m lines)) (without_rows-none wage_key (is_wage_key_of e m) rows (no_row_of e m rows none))
