-- Rows by their keys: the order of the database is that of the tables.
use Rattle.std.proofs.Common.{◌≡◌, ℕ, ℤ, Bool, true, false, not, ◌&&◌, ◌||◌, ◌==◌, nat_lt, cond, List, [], ◌∷◌, Option, None, Some, IsSome, is_some, filter, map, length, ◌≤◌, refl, sym, ap, ap₂, subst, ◌∙◌, arith, Ordering, Less, Equal, Greater, is_eq, is_lt, is_gt, int_cmp, int_eq, map-id, nat_cmp, slice_get, true≢false}
use Rattle.std.proofs.lemmas.Bool.Decides.{nat_tests}
use Rattle.std.specs.Cmp.{IsTotalOrder}
use Rattle.std.specs.Cmp.Lexicographic.{slice_cmp, on_texts, nat_list_cmp_total}
use Rattle.std.specs.List.{list_any, AllByRecursion}
use Rattle.std.specs.Option.{option_map_or}
use Rattle.std.specs.Ordering.{match_ordering, ordering_then, ordering_reverse}
use Rattle.std.proofs.lemmas.Map.Text.{is_eq-slice_cmp}
use Rattle.sqlite.specs.Tree.{IsAscending}
use Rattle.sqlite_keyed.specs.Keyed.{get_by, has_key, insert_by}
use Rattle.sqlite_keyed.specs.Lists.{insert_sorted, update_where}
use Rattle.sqlite_keyed.proofs.ListLemmas.{filter_all, filter_none, all_weaker}
use Rattle.clear_values.specs.Keyed.{is_key, is_before, find_row, AllBehind, AreInOrder, AreOnce, with_row, without_rows, put_row, replaced}
use Rattle.clear_values.proofs.KeyedLemmas.{is_key-refl, is_key-true, found_key}
use Rattle.clear_values.proofs.KeyedMapLemmas.{put_row-map}
use Rattle.clear_values.proofs.CreditRowsLemmas.{is_key-bytes_eq}
use Rattle.clear_schema.specs.Held.{by_key}
use Rattle.clear_columns.specs.Keys.{changed_at}
use Rattle.clear_columns.proofs.ListLemmas.{none_replaced}
use Rattle.clear_columns.proofs.StoredLemmas.{KeepsOrder}

pub turned : (o p : Ordering) → p ≡ ordering_reverse o → is_eq p ≡ is_eq o
turned Less p e = ap is_eq e
turned Equal p e = ap is_eq e
turned Greater p e = ap is_eq e

-- two keys are one as the order says
pub is_key_is : (k l : List ℕ) → is_key k l ≡ is_eq (slice_cmp nat_cmp k l)
is_key_is k l = is_key-bytes_eq k l ∙ sym (is_eq-slice_cmp l k) ∙ turned (slice_cmp nat_cmp k l) (slice_cmp nat_cmp l k) (nat_list_cmp_total.antisymm l k)

-- one key comes before another as lists of numbers do
pub before_is : (k l : List ℕ) → is_before k l ≡ is_lt (slice_cmp nat_cmp k l)
before_is [] [] = refl
before_is [] (b ∷ l) = refl
before_is (a ∷ k) [] = refl
before_is (a ∷ k) (b ∷ l) = go (nat_lt a b) (a == b) (before_is k l)
  where
    go : (less same : Bool) → is_before k l ≡ is_lt (slice_cmp nat_cmp k l) → (less || (same && is_before k l)) ≡ is_lt (ordering_then (cond less Less (cond same Equal Greater)) (slice_cmp nat_cmp k l))
    go true same more = refl
    go false true more = more
    go false false more = refl

-- ---- rows that may be there

pub none_if : {X : Type 0} (o : Option X) → is_some o ≡ false → o ≡ None
none_if None h = refl
none_if (Some x) h = absurd (true≢false h)

module _ {X : Type 0} (key : X → List ℕ) where
  pub by_key_total : IsTotalOrder (by_key key)
  by_key_total = on_texts key

  -- rows have one key as the order says
  pub key_is : (new x : X) → is_key (key x) (key new) ≡ is_eq (by_key key new x)
  key_is new x = is_key-bytes_eq (key x) (key new) ∙ sym (is_eq-slice_cmp (key new) (key x))

  -- a new row whose key is free goes where the table has it
  pub placed : (new : X) (xs : List X) → AllByRecursion (λ x. is_eq (by_key key new x) ≡ false) xs → insert_sorted (by_key key) new xs ≡ with_row key xs new
  placed new [] apart = refl
  placed new (x ∷ xs) apart = go (by_key key new x) (is_before (key new) (key x)) (before_is (key new) (key x)) apart.0 (placed new xs apart.1)
    where
      go : (o : Ordering) (before : Bool) → before ≡ is_lt o → is_eq o ≡ false → insert_sorted (by_key key) new xs ≡ with_row key xs new
          → cond (is_gt o) (x ∷ insert_sorted (by_key key) new xs) (new ∷ x ∷ xs) ≡ cond before (new ∷ x ∷ xs) (x ∷ with_row key xs new)
      go Less before e other more = rw e refl
      go Equal before e other more = absurd (true≢false other)
      go Greater before e other more = rw e (ap (λ l. x ∷ l) more)

  -- a key is held as a row is found under it
  pub found_any : (xs : List X) (k : List ℕ) → is_some (find_row key xs k) ≡ list_any (λ x. is_key (key x) k) xs
  found_any [] k = refl
  found_any (x ∷ xs) k = go (is_key (key x) k) (found_any xs k)
    where
      go : (b : Bool) → is_some (find_row key xs k) ≡ list_any (λ x. is_key (key x) k) xs → is_some (cond b (Some x) (find_row key xs k)) ≡ (b || list_any (λ x. is_key (key x) k) xs)
      go true more = refl
      go false more = more

  -- where no row has the key, it is free
  pub none_found : (new : X) (xs : List X) → AllByRecursion (λ x. is_eq (by_key key new x) ≡ false) xs → is_some (find_row key xs (key new)) ≡ false
  none_found new [] apart = refl
  none_found new (x ∷ xs) apart = rw (key_is new x ∙ apart.0) (none_found new xs apart.1)

  -- the first row of the key is the one that is found
  pub first_found : (xs : List X) (k : List ℕ) → slice_get (filter (λ x. is_key (key x) k) xs) 0 ≡ find_row key xs k
  first_found [] k = refl
  first_found (x ∷ xs) k = go (is_key (key x) k) (first_found xs k)
    where
      go : (b : Bool) → slice_get (filter (λ x. is_key (key x) k) xs) 0 ≡ find_row key xs k → slice_get (cond b (x ∷ filter (λ x. is_key (key x) k) xs) (filter (λ x. is_key (key x) k) xs)) 0 ≡ cond b (Some x) (find_row key xs k)
      go true more = refl
      go false more = more

-- ---- keys

-- numbers are equal whichever comes first
pub turned_nat : (a b : ℕ) → (a == b) ≡ (b == a)
turned_nat a b = grind (arith, nat_tests)

pub one_key : (a b : ℕ) → (a == b) ≡ is_key (a ∷ []) (b ∷ [])
one_key a b = grind (arith, nat_tests)

less_first : (a b : ℕ) → nat_cmp a b ≡ Less → is_before (b ∷ []) (a ∷ []) ≡ false
less_first a b h = grind (arith, nat_tests)

greater_first : (a b : ℕ) → nat_cmp a b ≡ Greater → is_before (b ∷ []) (a ∷ []) ≡ true
greater_first a b h = grind (arith, nat_tests)

equal_same : (a b : ℕ) → nat_cmp a b ≡ Equal → (a == b) ≡ true
equal_same a b h = grind (arith, nat_tests)

-- ---- rows by a number

module _ {X : Type 0} (n : X → ℕ) (held : ℕ → ℤ) (keeps : KeepsOrder held) where
  -- the row of a number is that of the key
  pub get_is : (ys : List X) (k : ℕ) → get_by (λ y. held (n y)) ys (held k) ≡ find_row (λ y. n y ∷ []) ys (k ∷ [])
  get_is [] k = refl
  get_is (y ∷ ys) k = ap₂ (λ b o. cond b (Some y) o) (keeps.same (n y) k ∙ one_key (n y) k) (get_is ys k)

  -- a row with a free number goes to its place
  pub put_is : (ys : List X) (new : X) → has_key (λ y. held (n y)) ys (held (n new)) ≡ false → insert_by (λ y. held (n y)) ys new ≡ with_row (λ y. n y ∷ []) ys new
  put_is [] new free = refl
  put_is (y ∷ ys) new free = go (int_cmp (held (n y)) (held (n new))) (int_eq (held (n y)) (held (n new))) refl refl free (put_is ys new)
    where
      go : (o : Ordering) (same : Bool) → int_cmp (held (n y)) (held (n new)) ≡ o → int_eq (held (n y)) (held (n new)) ≡ same → is_some (cond same (Some y) (get_by (λ y. held (n y)) ys (held (n new)))) ≡ false
          → (has_key (λ y. held (n y)) ys (held (n new)) ≡ false → insert_by (λ y. held (n y)) ys new ≡ with_row (λ y. n y ∷ []) ys new)
          → match_ordering o (y ∷ insert_by (λ y. held (n y)) ys new) (new ∷ ys) (new ∷ y ∷ ys) ≡ cond (is_before (n new ∷ []) (n y ∷ [])) (new ∷ y ∷ ys) (y ∷ with_row (λ y. n y ∷ []) ys new)
      go o true p q h more = absurd (true≢false h)
      go Less false p q h more = ap (λ l. y ∷ l) (more h) ∙ sym (ap (λ b. cond b (new ∷ y ∷ ys) (y ∷ with_row (λ y. n y ∷ []) ys new)) (less_first (n y) (n new) (sym (keeps.order (n y) (n new)) ∙ p)))
      go Equal false p q h more = absurd (true≢false (sym (keeps.same (n y) (n new) ∙ equal_same (n y) (n new) (sym (keeps.order (n y) (n new)) ∙ p)) ∙ q))
      go Greater false p q h more = sym (ap (λ b. cond b (new ∷ y ∷ ys) (y ∷ with_row (λ y. n y ∷ []) ys new)) (greater_first (n y) (n new) (sym (keeps.order (n y) (n new)) ∙ p)))

-- ---- rows by a key

module _ {X : Type 0} (key : X → List ℕ) where
  -- where none is found under a key, no row has it
  pub none_of_key : (xs : List X) (k : List ℕ) → find_row key xs k ≡ None → AllByRecursion (λ x. is_key (key x) k ≡ false) xs
  none_of_key [] k h = tt
  none_of_key (x ∷ xs) k h = told (is_key (key x) k) refl h (none_of_key xs k)
    where
      told : (b : Bool) → is_key (key x) k ≡ b → cond b (Some x) (find_row key xs k) ≡ None → (find_row key xs k ≡ None → AllByRecursion (λ y. is_key (key y) k ≡ false) xs) → AllByRecursion (λ y. is_key (key y) k ≡ false) (x ∷ xs)
      told true e h more = absurd cc
      told false e h more = (e, more h)

  -- of keys that stand once there is one row each
  pub few_once : (xs : List X) (k : List ℕ) → AreOnce key xs → length (filter (λ x. is_key (key x) k) xs) ≤ 1
  few_once [] k once = omega arith
  few_once (x ∷ xs) k once = told (is_key (key x) k) refl (few_once xs k once.1)
    where
      told : (b : Bool) → is_key (key x) k ≡ b → length (filter (λ y. is_key (key y) k) xs) ≤ 1 → length (cond b (x ∷ filter (λ y. is_key (key y) k) xs) (filter (λ y. is_key (key y) k) xs)) ≤ 1
      told true on few =
          let none = ap length (filter_none (λ y. is_key (key y) k) xs (none_of_key xs k (subst (λ l. find_row key xs l ≡ None) (is_key-true (key x) k on) once.0))) in
          omega (arith, none)
      told false on few = few

  -- keys that rise stand once
  rising_once : (xs : List X) → IsAscending (λ a b. by_key key a b ≡ Less) xs → AreOnce key xs
  rising_once [] up = tt
  rising_once (x ∷ xs) up = (none_if _ (none_found key x xs (all_weaker (λ y. by_key key x y ≡ Less) (λ y. is_eq (by_key key x y) ≡ false) (λ y less. ap is_eq less) xs up.0)), rising_once xs up.1)

  -- so none has two rows
  pub one_found : (xs : List X) (k : List ℕ) → IsAscending (λ a b. by_key key a b ≡ Less) xs → length (filter (λ x. is_key (key x) k) xs) ≤ 1
  one_found xs k up = few_once xs k (rising_once xs up)

  -- rows rise in the database as in the tables
  pub in_order_if_rising : (xs : List X) → IsAscending (λ a b. by_key key a b ≡ Less) xs → AreInOrder key xs
  in_order_if_rising [] up = tt
  in_order_if_rising (x ∷ xs) up = (behind xs up.0, in_order_if_rising xs up.1)
    where
      behind : (ys : List X) → AllByRecursion (λ y. by_key key x y ≡ Less) ys → AllBehind key (key x) ys
      behind [] all = tt
      behind (y ∷ ys) all = (before_is (key x) (key y) ∙ ap is_lt all.0, behind ys all.1)

  pub rising_if_in_order : (xs : List X) → AreInOrder key xs → IsAscending (λ a b. by_key key a b ≡ Less) xs
  rising_if_in_order [] order = tt
  rising_if_in_order (x ∷ xs) order = (ahead xs order.0, rising_if_in_order xs order.1)
    where
      less : (o : Ordering) → is_lt o ≡ true → o ≡ Less
      less Less h = refl
      less Equal h = absurd (true≢false (sym h))
      less Greater h = absurd (true≢false (sym h))

      ahead : (ys : List X) → AllBehind key (key x) ys → AllByRecursion (λ y. by_key key x y ≡ Less) ys
      ahead [] all = tt
      ahead (y ∷ ys) all = (less (by_key key x y) (sym (before_is (key x) (key y)) ∙ all.0), ahead ys all.1)

  -- no later row has the key of one
  later_keys : (x : X) (xs : List X) (k : List ℕ) → is_key (key x) k ≡ true → AllByRecursion (λ y. by_key key x y ≡ Less) xs → AllByRecursion (λ y. is_key (key y) k ≡ false) xs
  later_keys x xs k h all = all_weaker (λ y. by_key key x y ≡ Less) (λ y. is_key (key y) k ≡ false) one xs all
    where
      one : (y : X) → by_key key x y ≡ Less → is_key (key y) k ≡ false
      one y less = told (is_key (key y) k) refl
        where
          told : (b : Bool) → is_key (key y) k ≡ b → is_key (key y) k ≡ false
          told false e = e
          told true e =
              let same : key x ≡ key y = is_key-true (key x) k h ∙ sym (is_key-true (key y) k e) in
              let here : is_key (key x) (key y) ≡ true = subst (λ (l : List ℕ). is_key (key x) l ≡ true) same (is_key-refl (key x)) in
              absurd (true≢false (sym here ∙ is_key_is (key x) (key y) ∙ ap is_eq less))

  -- a row comes before one whose key a later row has
  after_found : (x : X) (xs : List X) (k : List ℕ) → AllByRecursion (λ y. by_key key x y ≡ Less) xs → IsSome (find_row key xs k) → slice_cmp nat_cmp (key x) k ≡ Less
  after_found x [] k all h = absurd (cc)
  after_found x (y ∷ ys) k all h = told (is_key (key y) k) refl h (after_found x ys k all.1)
    where
      told : (b : Bool) → is_key (key y) k ≡ b → IsSome (cond b (Some y) (find_row key ys k)) → (IsSome (find_row key ys k) → slice_cmp nat_cmp (key x) k ≡ Less) → slice_cmp nat_cmp (key x) k ≡ Less
      told true e h more = subst (λ (l : List ℕ). slice_cmp nat_cmp (key x) l ≡ Less) (is_key-true (key y) k e) all.0
      told false e h more = more h

  goes_first : (new : X) (xs : List X) → AllByRecursion (λ y. is_before (key new) (key y) ≡ true) xs → with_row key xs new ≡ new ∷ xs
  goes_first new [] all = refl
  goes_first new (y ∷ ys) all = ap (λ b. cond b (new ∷ y ∷ ys) (y ∷ with_row key ys new)) all.0

  -- a row in place of the one that has its key
  pub replaced_is : (xs : List X) (new : X) → IsAscending (λ a b. by_key key a b ≡ Less) xs → IsSome (find_row key xs (key new)) → update_where (λ x. is_key (key x) (key new)) (λ x. new) xs ≡ put_row key xs new
  replaced_is [] new up h = absurd (cc)
  replaced_is (x ∷ xs) new up h = told (is_key (key x) (key new)) refl h (replaced_is xs new up.1)
    where
      others : List X
      others = without_rows key (λ k. is_key k (key new)) xs

      told : (b : Bool) → is_key (key x) (key new) ≡ b → IsSome (cond b (Some x) (find_row key xs (key new)))
          → (IsSome (find_row key xs (key new)) → update_where (λ x. is_key (key x) (key new)) (λ x. new) xs ≡ put_row key xs new)
          → (cond b new x ∷ update_where (λ x. is_key (key x) (key new)) (λ x. new) xs) ≡ with_row key (cond (not b) (x ∷ others) others) new
      told true e h more =
          let none = later_keys x xs (key new) e up.0 in
          let left : others ≡ xs = filter_all (λ x. not (is_key (key x) (key new))) xs (all_weaker (λ x. is_key (key x) (key new) ≡ false) (λ x. not (is_key (key x) (key new)) ≡ true) (λ x no. ap not no) xs none) in
          let ahead : AllByRecursion (λ y. is_before (key new) (key y) ≡ true) xs = all_weaker (λ y. by_key key x y ≡ Less) (λ y. is_before (key new) (key y) ≡ true)
          (λ y less. before_is (key new) (key y) ∙ ap is_lt (subst (λ (k : List ℕ). slice_cmp nat_cmp k (key y) ≡ Less) (is_key-true (key x) (key new) e) less)) xs up.0 in
          ap (λ l. new ∷ l) (none_replaced (λ x. is_key (key x) (key new)) (λ x. new) xs none)
          ∙ sym (goes_first new xs ahead) ∙ ap (λ l. with_row key l new) (sym left)
      told false e h more =
          let less = after_found x xs (key new) up.0 h in
          let behind : is_before (key new) (key x) ≡ false = before_is (key new) (key x) ∙ ap is_lt (nat_list_cmp_total.antisymm (key new) (key x) ∙ ap ordering_reverse less) in
          ap (λ l. x ∷ l) (more h) ∙ sym (ap (λ b. cond b (new ∷ x ∷ others) (x ∷ with_row key others new)) behind)

  -- an update of the row of a key to a row that has it
  pub becomes : (xs : List X) (new : X) (f : X → X) → ((x : X) → is_key (key x) (key new) ≡ true → f x ≡ new) → IsAscending (λ a b. by_key key a b ≡ Less) xs → update_where (λ x. is_key (key x) (key new)) f xs ≡ replaced key new xs
  becomes xs new f to up = each_is xs ∙ told (find_row key xs (key new)) refl
    where
      each_is : (xs : List X) → update_where (λ x. is_key (key x) (key new)) f xs ≡ update_where (λ x. is_key (key x) (key new)) (λ x. new) xs
      each_is [] = refl
      each_is (x ∷ xs) = ap₂ (λ a l. a ∷ l) (here (is_key (key x) (key new)) refl) (each_is xs)
        where
          here : (b : Bool) → is_key (key x) (key new) ≡ b → cond b (f x) x ≡ cond b new x
          here true e = to x e
          here false e = refl

      told : (o : Option X) → find_row key xs (key new) ≡ o → update_where (λ x. is_key (key x) (key new)) (λ x. new) xs ≡ cond (is_some (find_row key xs (key new))) (put_row key xs new) xs
      told (Some x) e = replaced_is xs new up (subst IsSome (sym e) refl) ∙ sym (ap (λ o. cond (is_some o) (put_row key xs new) xs) e)
      told None e = none_replaced (λ x. is_key (key x) (key new)) (λ x. new) xs (none_of_key xs (key new) e) ∙ sym (ap (λ o. cond (is_some o) (put_row key xs new) xs) e)

  -- an update of the row of a key to a row that has it, unless the row may stay
  pub corrects : (xs : List X) (new : X) (stays : X → Bool) (f : X → X) → ((x : X) → key (f x) ≡ key x) → ((x : X) → is_key (key x) (key new) ≡ true → f x ≡ new) → IsAscending (λ a b. by_key key a b ≡ Less) xs
      → update_where (λ x. is_key (key x) (key new) && not (stays x)) f xs ≡ cond (option_map_or stays (find_row key xs (key new)) true) xs (put_row key xs new)
  corrects xs new stays f keeps to up = told (find_row key xs (key new)) refl
    where
      here : X → Bool
      here x = is_key (key x) (key new)

      -- what a row becomes
      after : X → X
      after x = cond (here x && not (stays x)) (f x) x

      kept : (x : X) → key (after x) ≡ key x
      kept x = elim (here x && not (stays x)) as (λ b. key (cond b (f x) x) ≡ key x) [ true ↦ keeps x | false ↦ refl ]

      passed_over : (x : X) → here x ≡ false → after x ≡ x
      passed_over x other = ap (λ b. cond (b && not (stays x)) (f x) x) other

      one : (x : X) → find_row key xs (key new) ≡ Some x → (b : Bool) → stays x ≡ b → map after xs ≡ cond b xs (put_row key xs new)
      one x found true stay =
          let is : key x ≡ key new = found_key key xs (key new) x found in
          let same = put_row-map key (λ y. y) (λ y. refl) xs (key new) x x (in_order_if_rising xs up) found is refl (λ y other. refl) in
          sym (put_row-map key after kept xs (key new) x x (in_order_if_rising xs up) found is (leaves (here x) (stays x) stay) passed_over) ∙ same ∙ map-id xs
        where
          leaves : (a b : Bool) → b ≡ true → cond (a && not b) (f x) x ≡ x
          leaves true b e = ap (λ c. cond (not c) (f x) x) e
          leaves false b e = refl
      one x found false stay =
          let is : key x ≡ key new = found_key key xs (key new) x found in
          let passes : here x ≡ true = subst (λ (l : List ℕ). is_key l (key new) ≡ true) (sym is) (is_key-refl (key new)) in
          let turns : after x ≡ new = ap₂ (λ a b. cond (a && not b) (f x) x) passes stay ∙ to x passes in
          sym (put_row-map key after kept xs (key new) x new (in_order_if_rising xs up) found refl turns passed_over)

      told : (o : Option X) → find_row key xs (key new) ≡ o → map after xs ≡ cond (option_map_or stays o true) xs (put_row key xs new)
      told None none = none_replaced (λ x. here x && not (stays x)) f xs (all_weaker (λ x. here x ≡ false) (λ x. (here x && not (stays x)) ≡ false) (λ x no. ap (λ b. b && not (stays x)) no) xs (none_of_key xs (key new) none))
      told (Some x) found = one x found (stays x) refl

  -- an update of the row of a key to another row that has it
  pub changes : (xs : List X) (k : List ℕ) (f : X → X) → ((x : X) → key (f x) ≡ key x) → IsAscending (λ a b. by_key key a b ≡ Less) xs → update_where (λ x. is_key (key x) k) f xs ≡ changed_at key k f xs
  changes xs k f keeps up = told (find_row key xs k) refl
    where
      -- what a row becomes
      after : X → X
      after x = cond (is_key (key x) k) (f x) x

      kept : (x : X) → key (after x) ≡ key x
      kept x = elim (is_key (key x) k) as (λ b. key (cond b (f x) x) ≡ key x) [ true ↦ keeps x | false ↦ refl ]

      told : (o : Option X) → find_row key xs k ≡ o → map after xs ≡ option_map_or (λ x. put_row key xs (f x)) o xs
      told None none = none_replaced (λ x. is_key (key x) k) f xs (none_of_key xs k none)
      told (Some x) found =
          let is : key x ≡ k = found_key key xs k x found in
          let here : is_key (key x) k ≡ true = subst (λ (l : List ℕ). is_key l k ≡ true) (sym is) (is_key-refl k) in
          sym (put_row-map key after kept xs k x (f x) (in_order_if_rising xs up) found (keeps x ∙ is) (ap (λ b. cond b (f x) x) here) (λ y other. ap (λ b. cond b (f y) y) other))
