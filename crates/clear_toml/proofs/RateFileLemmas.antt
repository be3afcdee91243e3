-- What a rate file says, row by row.
use Rattle.std.proofs.Common.{◌≡◌, ℕ, suc, pos, ◌+◌, ◌<◌, ◌≤◌, Bool, true, false, cond, codes, map, List, [], ◌∷◌, ◌++◌, Some, None, Result, Ok, Err, refl, sym, ap, arith, append_assoc, drop, get_or, length, lt-ltb}
use Rattle.std.proofs.lemmas.List.{drop_all, append-nil}
use Rattle.std.proofs.lemmas.Str.{IsUtf8-from_is_utf8, is_utf8-from_IsUtf8}
use Rattle.std.specs.List.{AllByRecursion}
use Rattle.std.specs.Prelude.{IsUtf8}
use Rattle.std.specs.Str.{is_utf8}
use Rattle.toml.proofs.Views.{items_view-drop}
use Rattle.toml.specs.Data.{Data, Items, item, Members, get_member, as_array}
use Rattle.toml.specs.Parse.{parse_document}
use Rattle.toml.specs.View.{items_of, items_view, view}
use Rattle.toml.specs.declared.value.Value.{Value}
use Rattle.clear_money.specs.Rates.{Rate, IsRate, AllAfter, IsRising, last_first}
use Rattle.clear_money.specs.Texts.{month_text}
use Rattle.clear_money.specs.Results.{◌>>=◌}
use Rattle.clear_toml.specs.RateFile.{document_of, rates_in, rows_in, rows_after, row_alone, row_after, rate_table, WrittenRatesAreRead}
use Rattle.clear_toml.specs.declared.rate_file.RateFault.{RateFault}
use Rattle.clear_toml.proofs.WrittenRateLemmas.{rate_meant-some}
use Rattle.clear_toml.specs.WrittenRate.{Written, written_row, rate_meant, has_only}
use Rattle.clear_toml.specs.declared.rate_file.RateFault.TheVariants.{Field, Empty}

-- ---- the document

-- a document that is read, and a text that is none
pub document_of-text : (bytes : List ℕ) (ms : Members) → IsUtf8 bytes → parse_document bytes ≡ Some ms → document_of bytes ≡ Some ms
unfolding document_of
document_of-text bytes ms utf8 e = rw (is_utf8-from_IsUtf8 bytes utf8) e

no_text : (bytes : List ℕ) (b : Bool) → is_utf8 bytes ≡ b → (IsUtf8 bytes → parse_document bytes ≡ None) → cond b (parse_document bytes) None ≡ None
no_text bytes true e none = none (IsUtf8-from_is_utf8 bytes e)
no_text bytes false e none = refl

pub document_of-none : (bytes : List ℕ) → (IsUtf8 bytes → parse_document bytes ≡ None) → document_of bytes ≡ None
unfolding document_of
document_of-none bytes none = no_text bytes (is_utf8 bytes) refl none

-- ---- the array of rows

-- a document without the array, with another value in its place, and with it
pub rates_in-none : (ms : Members) → has_only (codes "rate" ∷ []) ms ≡ true → get_member (codes "rate") ms ≡ None → rates_in ms ≡ Err Empty
unfolding rates_in
rates_in-none ms only none = rw (only, none)

pub rates_in-no_array : (ms : Members) (d : Data) → has_only (codes "rate" ∷ []) ms ≡ true → get_member (codes "rate") ms ≡ Some d → as_array d ≡ None → rates_in ms ≡ Err (Field 0)
unfolding rates_in
rates_in-no_array ms d only some none = rw (only, some, none)

pub rates_in-array : (ms : Members) (d : Data) (rows : Items) → has_only (codes "rate" ∷ []) ms ≡ true → get_member (codes "rate") ms ≡ Some d → as_array d ≡ Some rows → rates_in ms ≡ rows_in rows
unfolding rates_in
rates_in-array ms d rows only some array = rw (only, some, array)

-- ---- rows one behind the other

-- rows that are read, and what those behind them say
abbrev joined : List Rate → Result (List Rate) RateFault → Result (List Rate) RateFault
joined rows more = more >>= (λ rest. Ok (rows ++ rest))

last_first-push : (rows : List Rate) (row : Rate) → last_first (rows ++ row ∷ []) ≡ row.first
last_first-push [] row = refl
last_first-push (r ∷ []) row = refl
last_first-push (r ∷ q ∷ rows) row = last_first-push (q ∷ rows) row

joined-push : (rows : List Rate) (row : Rate) (more : Result (List Rate) RateFault) → joined rows (more >>= (λ rest. Ok (row ∷ rest))) ≡ joined (rows ++ row ∷ []) more
joined-push rows row (Ok rest) = ap Ok (sym (append_assoc rows (row ∷ []) rest))
joined-push rows row (Err fault) = refl

-- the next row joins those before it
joined-row : (rows : List Rate) (n : ℕ) (d : Data) (ds : Items) (row : Rate) → row_after (last_first rows) n d ≡ Ok row
    → joined rows (rows_after (last_first rows) n (item d ds)) ≡ joined (rows ++ row ∷ []) (rows_after (last_first (rows ++ row ∷ [])) (suc n) ds)
joined-row rows n d ds row e =
    rw (e, last_first-push rows row) (joined-push rows row (rows_after row.first (suc n) ds))

-- ---- a step of the loop over the rows, and its end

-- the rows read so far, and what those from place i of the rest on say
abbrev pub read_on : List Rate → ℕ → List Value → Result (List Rate) RateFault
read_on rows i rest = joined rows (rows_after (last_first rows) (i + 2) (items_view (drop i rest)))

-- one more row
pub read_on-row : (rows next : List Rate) (i : ℕ) (rest : List Value) (v d : Value) (row : Rate) → i < length rest → v ≡ get_or rest i d
    → row_after (last_first rows) (i + 2) (view v) ≡ Ok row → next ≡ rows ++ row ∷ [] → read_on rows i rest ≡ read_on next (i + 1) rest
read_on-row rows next i rest v d row h is e pushed =
    let number : suc (i + 2) ≡ i + 1 + 2 = omega arith in
    rw (items_view-drop rest i d h, ← is, joined-row rows (i + 2) (view v) (items_view (drop (i + 1) rest)) row e, number, ← pushed)

-- no row is left
pub read_on-end : (rows : List Rate) (i : ℕ) (rest : List Value) → length rest ≤ i → read_on rows i rest ≡ Ok rows
read_on-end rows i rest h = rw (drop_all i rest h) (ap Ok (append-nil rows))

-- ---- the rates that a document writes

-- the table that writes a rate is read as that rate
row_alone-written : (n : ℕ) (r : Rate) → IsRate r → row_alone n (rate_table r) ≡ Ok r
unfolding row_alone written_row
row_alone-written n r h =
    let w : Written = record { from = month_text r.first; contribution_rate = pos r.contribution_rate; report_day = pos r.report_day; due_day = pos r.due_day; interest_rate = pos r.interest_rate; entitlement_rate = pos r.entitlement_rate } in
    let means : rate_meant w ≡ Some r = rate_meant-some w r (record { from = refl; contribution_rate = refl; report_day = refl; due_day = refl; interest_rate = refl; entitlement_rate = refl; rate = h }) in
    rw means

row_after-written : (before n : ℕ) (r : Rate) → IsRate r → before < r.first → row_after before n (rate_table r) ≡ Ok r
unfolding row_after
row_after-written before n r h later = rw (row_alone-written n r h) (rw (lt-ltb before r.first later))

rows_after-written : (before n : ℕ) (rs : List Rate) → AllByRecursion IsRate rs → AllAfter before rs → IsRising rs → rows_after before n (items_of (map rate_table rs)) ≡ Ok rs
rows_after-written before n [] all after rising = refl
rows_after-written before n (r ∷ rs) all after rising =
    rw (row_after-written before n r all.0 after.0, rows_after-written r.first (suc n) rs all.1 rising.0 rising.1)

pub written_rates : WrittenRatesAreRead
unfolding rates_in
written_rates row rows all rising =
    rw (row_alone-written 1 row all.0, rows_after-written row.first 2 rows all.1 rising.0 rising.1)
