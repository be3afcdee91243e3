-- The lines of a month's report, put into the tables by statements that take several at once.
use Rattle.std.proofs.Common.{◌≡◌, ℕ, List, [], ◌∷◌, ◌++◌, false, refl, sym, ap, subst, ◌∙◌}
use Rattle.std.proofs.lemmas.Bool.{or_from, or_parts}
use Rattle.std.proofs.lemmas.List.{map-append}
use Rattle.std.specs.Prelude.{◌↔◌}
use Rattle.clear_values.specs.Keyed.{is_held, find_row, with_row, with_rows}
use Rattle.clear_values.specs.Tables.{Tables, wage_key, wage_row, wage_rows}
use Rattle.clear_values.specs.declared.texts.WageLine.{WageLine}
use Rattle.clear_columns.specs.Keys.{are_held}
use Rattle.clear_store.specs.Changes.{AreFree, AreGross}
use Rattle.clear_store.proofs.RowLemmas.{not_held}

module _ {Row : Type 0} (key : Row → List ℕ) where
  -- rows that are added in two parts
  with_rows-append : (rows part more : List Row) → with_rows key (with_rows key rows part) more ≡ with_rows key rows (part ++ more)
  with_rows-append rows [] more = refl
  with_rows-append rows (row ∷ part) more = with_rows-append (with_row key rows row) part more

  -- keys are free where those of the first part are not held, and those of the second are free behind it
  free_by_parts : (rows part more : List Row) → AreFree key rows (part ++ more) ↔ ((are_held (is_held key) key part rows ≡ false) × AreFree key (with_rows key rows part) more)
  free_by_parts rows [] more = (λ free. (refl, free), λ both. both.1)
  free_by_parts rows (row ∷ part) more =
      let first = not_held (find_row key rows (key row)) in
      let rest = free_by_parts (with_row key rows row) part more in (
        λ free. (or_from _ _ (first.0 free.0) (rest.0 free.1).0, (rest.0 free.1).1),
        λ both. let parts = or_parts _ _ both.0 in (first.1 parts.0, rest.1 (parts.1, both.1)),
      )

module _ (e m : ℕ) (part more : List WageLine) where
  pub wages_by_parts : (t : Tables) → ◌≡◌ {A = Tables} (record t { wages = with_rows wage_key (with_rows wage_key t.wages (wage_rows e m part)) (wage_rows e m more) }) (record t { wages = with_rows wage_key t.wages (wage_rows e m (part ++ more)) })
  wages_by_parts t = ap (λ rows. record t { wages = rows }) (with_rows-append wage_key t.wages (wage_rows e m part) (wage_rows e m more) ∙ ap (with_rows wage_key t.wages) (sym (map-append (wage_row e m) part more)))

  pub wages_free_by_parts : (t : Tables) → AreFree wage_key t.wages (wage_rows e m (part ++ more)) ↔ ((are_held (is_held wage_key) wage_key (wage_rows e m part) t.wages ≡ false) × AreFree wage_key (with_rows wage_key t.wages (wage_rows e m part)) (wage_rows e m more))
  wages_free_by_parts t =
      let both = free_by_parts wage_key t.wages (wage_rows e m part) (wage_rows e m more) in
      let is = map-append (wage_row e m) part more in (
        λ free. both.0 (subst (AreFree wage_key t.wages) is free),
        λ parts. subst (AreFree wage_key t.wages) (sym is) (both.1 parts),
      )

pub gross_by_parts : (part more : List WageLine) → AreGross (part ++ more) ↔ (AreGross part × AreGross more)
gross_by_parts [] more = (λ all. (tt, all), λ both. both.1)
gross_by_parts (line ∷ part) more =
    let rest = gross_by_parts part more in (
      λ all. ((all.0, (rest.0 all.1).0), (rest.0 all.1).1),
      λ both. (both.0.0, rest.1 (both.0.1, both.1)),
    )
