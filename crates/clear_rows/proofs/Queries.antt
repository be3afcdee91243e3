-- What a plain query answers over typed rows.
use Rattle.std.proofs.Common.{◌≡◌, ℕ, Bool, true, false, cond, List, [], ◌∷◌, map, filter, refl, sym, ap, subst, ◌∙◌, slice_get, take, None, ◌^◌, ◌-◌, Ordering, Less, IsPermutation, IsSorted, length, ◌≤◌, arith, nat_le, unwrap_or}
use Rattle.std.proofs.lemmas.List.Sorted.{IsPermutation-map, IsPermutation-trans, IsPermutation-sym}
use Rattle.sqlite.specs.declared.types.Value.TheVariants.{Null}
use Rattle.sqlite.specs.Order.{Row}
use Rattle.sqlite.specs.Term.{Term}
use Rattle.sqlite.specs.Tree.{Trees, IsAscending}
use Rattle.sqlite.specs.Query.{Query, IsAnswer, Output, output, output_cmp, matches, page}
use Rattle.sqlite.specs.Program.{overlay, given_at}
use Rattle.sqlite.specs.Effect.{Answers}
use Rattle.sqlite.specs.Schema.{Schema}
use Rattle.sqlite_value.specs.declared.keys.Key.{Key}
use Rattle.sqlite_sql.proofs.QueryLemmas.{output_cmp_total}
use Rattle.sqlite_keyed.proofs.ListLemmas.{map-map, filter-map, filter_as_flat_map, filter_same, map_same, ascending-map, ascending-filter, ascending_weaker, IsPermutation-filter, map-flat_map, flat_map_same_on}
use Rattle.sqlite_keyed.proofs.SortLemmas.{sorted_unique}
use Rattle.sqlite.proofs.Callers.{one_permutation}
use Rattle.clear_rows.proofs.Edits.{no_rows}
use Rattle.clear_rows.specs.Plain.{limited_query, limited_program, plain_query, plain_program, first_program, passes}

no_given : (t : ℕ) → given_at [] t ≡ None
no_given t = elim (nat_le (2 ^ 31) t) as (λ b. cond b (slice_get {X = List Row} [] (t - 2 ^ 31)) None ≡ None) [ true ↦ refl | false ↦ refl ]

-- the rows of the table that pass, in the order that is asked, and of each the columns
pub record IsPlainAnswer (t : ℕ) (conditions columns : List Term) (order : List (Term × Key)) (db : Trees) (params : Row) (rows : List Row) : Type 0 where
  pub ordered : List Output
  pub same : IsPermutation (map (λ r. output (plain_query t conditions columns order) (params ∷ r ∷ [])) (filter (passes conditions params) (db t))) ordered
  pub sorted : IsSorted (output_cmp (plain_query t conditions columns order)) ordered
  pub shown : rows ≡ map (λ (o : Output). o.1) ordered

module _ (t : ℕ) (conditions columns : List Term) (order : List (Term × Key)) (params : Row) where
  -- the query
  abbrev q : Query
  q = plain_query t conditions columns order

  matches_are : (db : Trees) → matches db conditions q.from (params ∷ []) ≡ map (λ r. params ∷ r ∷ []) (filter (passes conditions params) (db t))
  matches_are db =
      sym (ap (map (λ r. params ∷ r ∷ [])) (filter_as_flat_map (passes conditions params) (db t)) ∙ map-flat_map (λ r. params ∷ r ∷ []) _ (db t)
      ∙ flat_map_same_on _ _ (λ r. one (passes conditions params r) r) (db t))
    where
      one : (b : Bool) (r : Row) → map (λ x. params ∷ x ∷ []) (cond b (r ∷ []) []) ≡ cond b ((params ∷ r ∷ []) ∷ []) []
      one true r = refl
      one false r = refl

  -- a query answers no less and no more than its limit leaves
  limited_answer : (limit : Term) (schema : Schema) (db : Trees) (rows : List Row) → Answers (record { schema = schema; trees = db }) (limited_program t conditions columns order limit) params rows
      → (all : List Row) × IsPlainAnswer t conditions columns order db params all × (rows ≡ page (limited_query t conditions columns order limit) params all)
  limited_answer limit schema db rows h =
      let a : IsAnswer (limited_query t conditions columns order limit) (overlay db []) params rows = h.answer Null in
      let there : overlay db [] t ≡ db t = ap (λ o. unwrap_or o (db t)) (no_given t) in
      let all : a.kept ≡ map (λ r. output q (params ∷ r ∷ [])) (filter (passes conditions params) (db t)) =
      a.distinct ∙ ap (map (output q)) (a.grouped ∙ matches_are (overlay db []) ∙ ap (λ l. map (λ r. params ∷ r ∷ []) (filter (passes conditions params) l)) there) ∙ map-map (output q) _ _ in
      (map (λ (o : Output). o.1) a.ordered, record { ordered = a.ordered; same = subst (λ l. IsPermutation l a.ordered) all a.same; sorted = a.sorted; shown = refl }, a.shown)

  -- without one, all rows
  pub plain_answer : (schema : Schema) (db : Trees) (rows : List Row) → Answers (record { schema = schema; trees = db }) (plain_program t conditions columns order) params rows → IsPlainAnswer t conditions columns order db params rows
  plain_answer schema db rows h =
      let it = limited_answer _ schema db rows h in
      subst (IsPlainAnswer t conditions columns order db params) (sym it.2) it.1

  -- and with one of one row, the first of them
  pub first_answer : (schema : Schema) (db : Trees) (rows : List Row) → Answers (record { schema = schema; trees = db }) (first_program t conditions columns order) params rows → (all : List Row) × IsPlainAnswer t conditions columns order db params all × (rows ≡ take 1 all)
  first_answer schema db rows h = limited_answer _ schema db rows h

  -- over typed rows: `get` is what a row of the tree has of the type
  module _ {X Y : Type 0} (to_row : Y → Row) (get : Y → X) (p : X → Bool) (tests : (y : Y) → passes conditions params (to_row y) ≡ p (get y)) (out : X → Output)
      (shows : (y : Y) → output q (params ∷ to_row y ∷ []) ≡ out (get y)) where
    typed_matches : (ys : List Y) → map (λ r. output q (params ∷ r ∷ [])) (filter (passes conditions params) (map to_row ys)) ≡ map out (filter p (map get ys))
    typed_matches ys =
        ap (map (λ r. output q (params ∷ r ∷ []))) (filter-map (passes conditions params) to_row ys) ∙ map-map _ to_row _ ∙ ap (map (λ y. output q (params ∷ to_row y ∷ []))) (filter_same _ (λ y. p (get y)) tests ys)
        ∙ map_same _ (λ y. out (get y)) shows _ ∙ sym (ap (map out) (filter-map p get ys) ∙ map-map out get _)

    module _ (db : Trees) (ys : List Y) (stored : db t ≡ map to_row ys) (rows : List Row) (found : IsPlainAnswer t conditions columns order db params rows) where
      -- the outputs of the rows that pass, in some order
      some_order : IsPermutation (map out (filter p (map get ys))) found.ordered
      some_order = subst (λ l. IsPermutation l found.ordered) (ap (λ l. map (λ r. output q (params ∷ r ∷ [])) (filter (passes conditions params) l)) stored ∙ typed_matches ys) found.same

      -- ORDER BY leaves no tie, so the answer is in the order of the rows that rise by it
      pub in_sorted_order : (zs : List X) → IsPermutation (filter p (map get ys)) zs → IsAscending (λ a b. output_cmp q (out a) (out b) ≡ Less) zs → rows ≡ map (λ x. (out x).1) zs
      in_sorted_order zs same rises =
          let all = IsPermutation-trans _ _ _ (IsPermutation-sym _ _ (IsPermutation-map out _ _ same)) some_order in
          let up = ascending-map (λ x y. output_cmp q x y ≡ Less) out _ rises in
          found.shown ∙ ap (map (λ (o : Output). o.1)) (sorted_unique (output_cmp q) (output_cmp_total q) _ found.ordered up all found.sorted) ∙ map-map (λ (o : Output). o.1) out _

    module _ (schema : Schema) (db : Trees) (ys : List Y) (stored : db t ≡ map to_row ys) (rows : List Row) (answer : Answers (record { schema = schema; trees = db }) (plain_program t conditions columns order) params rows) where
      -- what the query answers
      found : IsPlainAnswer t conditions columns order db params rows
      found = plain_answer schema db rows answer

      -- the rows of the answer are the rows that pass, in some order
      pub shown_in_some_order : IsPermutation (map (λ x. (out x).1) (filter p (map get ys))) rows
      shown_in_some_order =
          subst (IsPermutation (map (λ x. (out x).1) (filter p (map get ys)))) (sym found.shown)
          (subst (λ l. IsPermutation l (map (λ (o : Output). o.1) found.ordered)) (map-map (λ (o : Output). o.1) out _) (IsPermutation-map (λ (o : Output). o.1) _ _ (some_order db ys stored rows found)))

      -- they are in this order, where it rises
      pub in_this_order : (cmp : X → X → Ordering) → ((a b : X) → cmp a b ≡ Less → output_cmp q (out a) (out b) ≡ Less) → (zs : List X) → IsPermutation (filter p (map get ys)) zs → IsAscending (λ a b. cmp a b ≡ Less) zs
          → rows ≡ map (λ x. (out x).1) zs
      in_this_order cmp orders zs same rises = in_sorted_order db ys stored rows found zs same (ascending_weaker _ (λ a b. output_cmp q (out a) (out b) ≡ Less) orders zs rises)

      -- so it is in the order of the list, where this rises
      pub in_order : (cmp : X → X → Ordering) → ((a b : X) → cmp a b ≡ Less → output_cmp q (out a) (out b) ≡ Less) → (xs : List X) → IsPermutation (map get ys) xs → IsAscending (λ a b. cmp a b ≡ Less) xs
          → rows ≡ map (λ x. (out x).1) (filter p xs)
      in_order cmp orders xs same rises = in_this_order cmp orders (filter p xs) (IsPermutation-filter p _ _ same) (ascending-filter _ p xs rises)

    -- the first row alone is the first of the rows that rise
    pub first_in_order : (schema : Schema) (db : Trees) (ys : List Y) → db t ≡ map to_row ys → (rows : List Row) → Answers (record { schema = schema; trees = db }) (first_program t conditions columns order) params rows
        → (zs : List X) → IsPermutation (filter p (map get ys)) zs → IsAscending (λ a b. output_cmp q (out a) (out b) ≡ Less) zs → rows ≡ take 1 (map (λ x. (out x).1) zs)
    first_in_order schema db ys stored rows answer zs same rises =
        let it = first_answer schema db rows answer in
        it.2 ∙ ap (take 1) (in_sorted_order db ys stored it.0 it.1 zs same rises)

-- of at most one row there is one order
pub one_row : {A : Type 0} (found rows : List A) → length found ≤ 1 → IsPermutation found rows → rows ≡ found
one_row [] rows few same = no_rows rows same
one_row (x ∷ []) rows few same = one_permutation x rows same
one_row (x ∷ y ∷ more) rows few same = absurd (omega arith)
