-- Rows put into the tables, some and then those that are left.
use Rattle.std.proofs.Common.{◌≡◌, ℕ, ◌+◌, ◌<◌, List, [], ◌∷◌, ◌++◌, length, get_or, drop, Bool, false, Result, Ok, Err, sym, ap, ◌∙◌, subst}
use Rattle.std.proofs.lemmas.List.{drop_more}
use Rattle.std.specs.Prelude.{◌↔◌}
use Rattle.sqlite.specs.Held.{Held}
use Rattle.sqlite.specs.Store.{Ghosts}
use Rattle.clear_values.specs.Tables.{Tables}
use Rattle.clear_schema.specs.Frame.{Writes}
use Rattle.clear_schema.specs.declared.fault.Fault.{Fault}
use Rattle.clear_store.specs.Changes.{Puts}
use Rattle.clear_store.proofs.JoinLemmas.{Always, first_failed, put_by, put_none, put_then}

module _ {S Row : Type 0} (g : Ghosts S) (free : List Row → Tables → Type 0) (good : List Row → Type 0) (changed : List Row → Tables → Tables) where
  -- what is promised of rows
  abbrev pub PutsRows : List Row → Held S → Held S → Result (Unit {0}) Fault → Type 0
  PutsRows rows old new r = Puts {A = Unit {0}} g old new r Always (free rows) (good rows) (changed rows)

  -- some rows were put: what comes of those that are left comes of all
  pub record AreLeft (rows rest : List Row) (old now : Held S) : Type 0 where
    pub on : (new : Held S) (r : Result (Unit {0}) Fault) → PutsRows rest now new r → PutsRows rows old new r

-- what one statement puts, whose keys are free just where the statement finds them so
put_just : {S A : Type 0} {g : Ghosts S} {old new : Held S} {r : Result A Fault} {fits : Type 0} {held : Tables → Bool} {one : Tables → Tables} → Writes g old new r fits held one → Puts g old new r Always (λ t. held t ≡ false) fits one
put_just writes = put_by writes (λ t. (λ free. free, λ free. free))

-- those that are left from a row on
pub from_row : {Row : Type 0} (rows : List Row) (i : ℕ) (row : Row) → i < length rows → row ≡ get_or rows i row → (row ∷ []) ++ drop (i + 1) rows ≡ drop i rows
from_row rows i row h is = sym (drop_more rows i row h ∙ ap (λ x. x ∷ drop (i + 1) rows) (sym is))

module _ {S Row : Type 0} {g : Ghosts S} {free : List Row → Tables → Type 0} {good : List Row → Type 0} {changed : List Row → Tables → Tables} {rows rest : List Row} {old now : Held S} where
  -- those that are left, once they are known
  on_with : (known : List Row) → known ≡ rest → AreLeft g free good changed rows rest old now → (new : Held S) (r : Result (Unit {0}) Fault) → PutsRows g free good changed known now new r → PutsRows g free good changed rows old new r
  on_with known is left new r puts = left.on new r (subst (λ (xs : List Row). PutsRows g free good changed xs now new r) is puts)

  -- some more were put
  pub some_more : {mid : Held S} {fits : Type 0} {held : Tables → Bool} {one : Tables → Tables} (part more : List Row) → part ++ more ≡ rest → AreLeft g free good changed rows rest old now → Writes {A = Unit {0}} g now mid (Ok tt) fits held one
      → ((t : Tables) → changed more (one t) ≡ changed (part ++ more) t)
      → ((t : Tables) → free (part ++ more) t ↔ ((held t ≡ false) × free more (one t))) → (good (part ++ more) ↔ (fits × good more)) → AreLeft g free good changed rows more old mid
  some_more part more is left writes same frees fine = record { on = λ new r puts. on_with (part ++ more) is left new r (put_then (put_just writes) puts (λ t there. tt) (λ t there. same t) frees fine) }

  -- some were refused
  pub some_refused : {mid : Held S} {fault : Fault} {fits : Type 0} {held : Tables → Bool} {one : Tables → Tables} (part more : List Row) → part ++ more ≡ rest → AreLeft g free good changed rows rest old now → Writes {A = Unit {0}} g now mid (Err fault) fits held one
      → ((t : Tables) → free (part ++ more) t ↔ ((held t ≡ false) × free more (one t))) → (good (part ++ more) ↔ (fits × good more)) → PutsRows g free good changed rows old mid (Err fault)
  some_refused part more is left writes frees fine = on_with (part ++ more) is left _ _ (first_failed (put_just writes) (λ t free. ((frees t).0 free).0) (λ good. (fine.0 good).0))

  -- none are left
  pub all_put : rest ≡ [] → AreLeft g free good changed rows rest old now → ((t : Tables) → t ≡ changed [] t) → ((t : Tables) → free [] t) → good [] → PutsRows g free good changed rows old now (Ok tt)
  all_put is left same frees fine = on_with [] (sym is) left now (Ok tt) (put_none now tt same frees fine)
