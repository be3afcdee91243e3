-- The places of a subcommand: the rule of each, and the rows of the words that are given for them.
use Rattle.std.proofs.Common.{◌≡◌, ℕ, Bool, true, false, List, [], ◌∷◌, ◌++◌, length, map, refl, ap, subst, ◌∙◌, ◌+◌, ◌<◌, ◌≤◌, arith}
use Rattle.std.specs.Prelude.{Option, Some, None, find, codes, if◌then◌else◌, ◌==◌, ◌||◌, ◌&&◌, not, suc, zero, slice_get, option_and_then}
use Rattle.std.specs.List.{list_any}
use Rattle.std.specs.Option.{option_map_or}
use Rattle.std.specs.Str.{bytes_eq}
use Rattle.std.proofs.Math.Bool.{or-false}
use Rattle.std.proofs.lemmas.Bool.{and_parts, eq-eqb, ne_eqb, not-true, or_parts}
use Rattle.std.proofs.lemmas.Slice.Eq.{bytes_eq-Decides}
use Rattle.clap.specs.Facts.{explicit_source}
use Rattle.clap.specs.Simple.{filled, with_index}
use Rattle.clap.specs.Takes.{is_given}
use Rattle.clap.specs.Walk.{Row, Rule, Text, arg_by_id, arg_by_index, arg_by_long, arg_by_short, at_row, has_row, reading_by}
use Rattle.clap.specs.declared.parser.matches.ValueSource.TheVariants.{CommandLine}
use Rattle.clear_cli.specs.Command.{required}
use Rattle.clear_cli.specs.Rows.{AreWords}
use Rattle.clear_cli.proofs.WordLemmas.{help}

-- the rule of the i-th place
abbrev pub place_rule : ℕ → Text → Rule
place_rule i id = with_index i (filled (required id))

-- the rules of places with these names, numbered from i, and that of help
abbrev pub rules_from : ℕ → List Text → List Rule
rules_from i [] = help ∷ []
rules_from i (id ∷ ids) = place_rule i id ∷ rules_from (i + 1) ids

-- the row of a place for which a word was given
abbrev pub row : Text → Text → Row
row id x = record { id = id; values = x ∷ []; count = None; source = Some CommandLine; reading = reading_by (place_rule 1 id) }

-- the rows where these words are given for the first places
abbrev pub rows_for : List Text → List Text → List Row
rows_for ids [] = []
rows_for [] (x ∷ xs) = []
rows_for (id ∷ ids) (x ∷ xs) = row id x ∷ rows_for ids xs

-- each name stands once
abbrev pub are_apart : List Text → Bool
are_apart [] = true
are_apart (id ∷ ids) = not (list_any (bytes_eq id) ids) && are_apart ids

apart_parts : (id : Text) (ids : List Text) → are_apart (id ∷ ids) ≡ true → (list_any (bytes_eq id) ids ≡ false) × (are_apart ids ≡ true)
apart_parts id ids apart =
    let both = and_parts (not (list_any (bytes_eq id) ids)) (are_apart ids) apart in
    (not-true (list_any (bytes_eq id) ids) both.0, both.1)

-- ---- one place

-- the place behind the first k of those numbered from i
pub record IsPlace (ids : List Text) (i k : ℕ) : Type 0 where
  pub id : Text
  pub among : (test : Text → Bool) → list_any test ids ≡ false → test id ≡ false
  pub by_index : arg_by_index (rules_from i ids) (k + i) ≡ Some (place_rule (k + i) id)
  pub by_id : arg_by_id (rules_from i ids) id ≡ Some (place_rule (k + i) id)
  pub unused : (xs : List Text) → length xs ≡ k → has_row id (rows_for ids xs) ≡ false
  pub more : (xs : List Text) (x : Text) → length xs ≡ k → rows_for ids (xs ++ x ∷ []) ≡ rows_for ids xs ++ row id x ∷ []

first_place : (id : Text) (ids : List Text) (i : ℕ) → IsPlace (id ∷ ids) i 0
first_place id ids i = record {
  id = id;
  among = λ test none. (or_parts (test id) (list_any test ids) none).0;
  by_index = subst (λ (m : ℕ). arg_by_index (rules_from i (id ∷ ids)) m ≡ Some (place_rule m id)) same
      (ap (λ t. if t then Some (place_rule i id) else arg_by_index (rules_from (i + 1) ids) i) (eq-eqb i i refl));
  by_id = subst (λ (m : ℕ). arg_by_id (rules_from i (id ∷ ids)) id ≡ Some (place_rule m id)) same
      (ap (λ t. if t then Some (place_rule i id) else arg_by_id (rules_from (i + 1) ids) id) ((bytes_eq-Decides id id).1 refl));
  unused = λ xs e. none xs e;
  more = λ xs x e. one xs x e;
}
  where
    same : i ≡ 0 + i
    same = omega arith

    none : (xs : List Text) → length xs ≡ 0 → has_row id (rows_for (id ∷ ids) xs) ≡ false
    none [] e = refl
    none (x ∷ xs) e = absurd (omega arith)

    one : (xs : List Text) (x : Text) → length xs ≡ 0 → rows_for (id ∷ ids) (xs ++ x ∷ []) ≡ rows_for (id ∷ ids) xs ++ row id x ∷ []
    one [] x e = refl
    one (y ∷ ys) x e = absurd (omega arith)

next_place : (id : Text) (ids : List Text) (i k : ℕ) → list_any (bytes_eq id) ids ≡ false → IsPlace ids (i + 1) k → IsPlace (id ∷ ids) i (suc k)
next_place id ids i k alone p = record {
  id = p.id;
  among = λ test none. p.among test (or_parts (test id) (list_any test ids) none).1;
  by_index = ap (λ t. if t then Some (place_rule i id) else arg_by_index (rules_from (i + 1) ids) (suc k + i)) (ne_eqb i (suc k + i) (λ e. omega arith))
      ∙ subst (λ (m : ℕ). arg_by_index (rules_from (i + 1) ids) m ≡ Some (place_rule m p.id)) same p.by_index;
  by_id = ap (λ t. if t then Some (place_rule i id) else arg_by_id (rules_from (i + 1) ids) p.id) other
      ∙ subst (λ (m : ℕ). arg_by_id (rules_from (i + 1) ids) p.id ≡ Some (place_rule m p.id)) same p.by_id;
  unused = λ xs e. none xs e;
  more = λ xs x e. one xs x e;
}
  where
    same : k + (i + 1) ≡ suc k + i
    same = omega arith

    other : bytes_eq id p.id ≡ false
    other = p.among (bytes_eq id) alone

    none : (xs : List Text) → length xs ≡ suc k → has_row p.id (rows_for (id ∷ ids) xs) ≡ false
    none [] e = absurd (omega arith)
    none (x ∷ xs) e = ap (λ t. t || has_row p.id (rows_for ids xs)) other ∙ p.unused xs (omega arith)

    one : (xs : List Text) (x : Text) → length xs ≡ suc k → rows_for (id ∷ ids) (xs ++ x ∷ []) ≡ rows_for (id ∷ ids) xs ++ row p.id x ∷ []
    one [] x e = absurd (omega arith)
    one (y ∷ ys) x e = ap (λ rs. row id y ∷ rs) (p.more ys x (omega arith))

pub place_at : (ids : List Text) (i k : ℕ) → are_apart ids ≡ true → k < length ids → IsPlace ids i k
place_at [] i k apart lt = absurd (omega arith)
place_at (id ∷ ids) i zero apart lt = first_place id ids i
place_at (id ∷ ids) i (suc k) apart lt =
    let parts = apart_parts id ids apart in
    next_place id ids i k parts.0 (place_at ids (i + 1) k parts.1 (omega arith))

-- behind the last place there is none
pub no_place : (ids : List Text) (i k : ℕ) → length ids ≤ k → arg_by_index (rules_from i ids) (k + i) ≡ None
no_place [] i k le = refl
no_place (id ∷ ids) i zero le = absurd (omega arith)
no_place (id ∷ ids) i (suc k) le =
    ap (λ t. if t then Some (place_rule i id) else arg_by_index (rules_from (i + 1) ids) (suc k + i)) (ne_eqb i (suc k + i) (λ e. omega arith))
    ∙ subst (λ (m : ℕ). arg_by_index (rules_from (i + 1) ids) m ≡ None) same (no_place ids (i + 1) k (omega arith))
  where
    same : k + (i + 1) ≡ suc k + i
    same = omega arith

-- a row that isn't there is put behind the others
pub at_no_row : (id : Text) (change : Row → List Row) (missing rows : List Row) → has_row id rows ≡ false → at_row id change missing rows ≡ rows ++ missing
at_no_row id change missing [] none = refl
at_no_row id change missing (r ∷ rs) none =
    let parts = or_parts (bytes_eq r.id id) (has_row id rs) none in
    ap (λ t. if t then change r ++ rs else r ∷ at_row id change missing rs) parts.0 ∙ ap (λ l. r ∷ l) (at_no_row id change missing rs parts.1)

-- ---- options

pub long_help : (i : ℕ) (ids : List Text) (name : Text) → arg_by_long (rules_from i ids) name ≡ (if bytes_eq (codes "help") name then Some help else None)
long_help i [] name = ap (λ t. if t then Some help else None) (or-false (bytes_eq (codes "help") name))
long_help i (id ∷ ids) name = long_help (i + 1) ids name

pub short_help : (i : ℕ) (ids : List Text) (x : ℕ) → arg_by_short (rules_from i ids) x ≡ (if 104 == x then Some help else None)
short_help i [] x = ap (λ t. if t then Some help else None) (or-false (104 == x))
short_help i (id ∷ ids) x = short_help (i + 1) ids x

-- ---- all places

abbrev pub found : List Row → Text → Option Row
found rows id = find (λ r. bytes_eq r.id id) rows

-- a row for each place that has a word
abbrev pub rows_or_none : List Text → List Text → List (Option Row)
rows_or_none [] xs = []
rows_or_none (id ∷ ids) [] = None ∷ rows_or_none ids []
rows_or_none (id ∷ ids) (x ∷ xs) = Some (row id x) ∷ rows_or_none ids xs

-- a first row of another name is passed over
passed_over : (id x : Text) (rows : List Row) (ids : List Text) → list_any (bytes_eq id) ids ≡ false → map (found (row id x ∷ rows)) ids ≡ map (found rows) ids
passed_over id x rows [] none = refl
passed_over id x rows (n ∷ ns) none =
    let parts = or_parts (bytes_eq id n) (list_any (bytes_eq id) ns) none in
    ap (λ t. (if t then Some (row id x) else found rows n) ∷ map (found (row id x ∷ rows)) ns) parts.0
    ∙ ap (λ os. found rows n ∷ os) (passed_over id x rows ns parts.1)

pub rows_found : (ids xs : List Text) → are_apart ids ≡ true → map (found (rows_for ids xs)) ids ≡ rows_or_none ids xs
rows_found [] xs apart = refl
rows_found (id ∷ ids) [] apart = ap (λ os. None ∷ os) (rows_found ids [] (apart_parts id ids apart).1)
rows_found (id ∷ ids) (x ∷ xs) apart =
    let parts = apart_parts id ids apart in
    ap (λ t. (if t then Some (row id x) else found (rows_for ids xs) id) ∷ map (found (rows_for (id ∷ ids) (x ∷ xs))) ids) ((bytes_eq-Decides id id).1 refl)
    ∙ ap (λ os. Some (row id x) ∷ os) (passed_over id x (rows_for ids xs) ids parts.0 ∙ rows_found ids xs parts.1)

-- a place lacks its word
abbrev pub lacks : Option Row → Bool
lacks o = not (option_map_or (λ r. explicit_source r.source) o false)

pub wants_is : (i : ℕ) (ids : List Text) (rows : List Row) → list_any (λ a. a.required && not (is_given a.id rows)) (rules_from i ids) ≡ list_any lacks (map (found rows) ids)
wants_is i [] rows = refl
wants_is i (id ∷ ids) rows = ap (λ t. lacks (found rows id) || t) (wants_is (i + 1) ids rows)

pub none_lacks : (ids xs : List Text) → length xs ≡ length ids → list_any lacks (rows_or_none ids xs) ≡ false
none_lacks [] xs all = refl
none_lacks (id ∷ ids) [] all = absurd (omega arith)
none_lacks (id ∷ ids) (x ∷ xs) all = none_lacks ids xs (omega arith)

pub some_lacks : (ids xs : List Text) → length xs < length ids → list_any lacks (rows_or_none ids xs) ≡ true
some_lacks [] xs lt = absurd (omega arith)
some_lacks (id ∷ ids) [] lt = refl
some_lacks (id ∷ ids) (x ∷ xs) lt = some_lacks ids xs (omega arith)

pub words_found : (rows : List Row) (ids xs : List Text) → map (found rows) ids ≡ rows_or_none ids xs → length xs ≡ length ids → AreWords rows ids xs
words_found rows [] [] e all = tt
words_found rows [] (x ∷ xs) e all = absurd (omega arith)
words_found rows (id ∷ ids) [] e all = absurd (omega arith)
words_found rows (id ∷ ids) (x ∷ xs) e all =
    let first : found rows id ≡ Some (row id x) = cc in
    let rest : map (found rows) ids ≡ rows_or_none ids xs = cc in
    (ap (option_and_then (λ (r : Row). slice_get r.values 0)) first, words_found rows ids xs rest (omega arith))
