-- Rows in the order of their keys. A key is a list of numbers.
use Rattle.std.specs.Prelude.{◌≡◌, ℕ, List, [], ◌∷◌, Option, Some, None, Bool, true, false, ◌&&◌}
use Rattle.std.specs.Prelude.{◌||◌, ◌==◌, nat_lt, if◌then◌else◌, is_some, not, filter}

-- whether two keys are one
abbrev pub is_key : List ℕ → List ℕ → Bool
is_key [] [] = true
is_key (a ∷ k) (b ∷ l) = (a == b) && is_key k l
is_key [] (b ∷ l) = false
is_key (a ∷ k) [] = false

-- the first number in which they differ tells; a key comes before those that go on behind it
abbrev pub is_before : List ℕ → List ℕ → Bool
is_before (a ∷ k) (b ∷ l) = nat_lt a b || ((a == b) && is_before k l)
is_before [] (b ∷ l) = true
is_before [] [] = false
is_before (a ∷ k) [] = false

-- the newer of two, if it is there, else the old one
abbrev pub newer : {A : Type 0} → Option A → Option A → Option A
newer (Some x) old = Some x
newer None old = old

module _ {Row : Type 0} (key : Row → List ℕ) where
  -- the row of a key
  abbrev pub find_row : List Row → List ℕ → Option Row
  find_row [] k = None
  find_row (row ∷ rows) k = if is_key (key row) k then Some row else find_row rows k

  -- the key comes before those of the rows
  abbrev pub AllBehind : List ℕ → List Row → Type 0
  AllBehind k [] = Unit {0}
  AllBehind k (row ∷ rows) = (is_before k (key row) ≡ true) × AllBehind k rows

  -- the keys rise strictly
  abbrev pub AreInOrder : List Row → Type 0
  AreInOrder [] = Unit {0}
  AreInOrder (row ∷ rows) = AllBehind (key row) rows × AreInOrder rows

  -- the rows and one more, at its place
  abbrev pub with_row : List Row → Row → List Row
  with_row [] new = new ∷ []
  with_row (row ∷ rows) new =
      if is_before (key new) (key row) then new ∷ row ∷ rows else row ∷ with_row rows new

  -- the rows and several more, one after another
  abbrev pub with_rows : List Row → List Row → List Row
  with_rows rows [] = rows
  with_rows rows (new ∷ news) = with_rows (with_row rows new) news

  -- the rows, each at its place
  abbrev pub in_key_order : List Row → List Row
  in_key_order rows = with_rows [] rows

  -- the rows whose key does not meet the test
  abbrev pub without_rows : (List ℕ → Bool) → List Row → List Row
  without_rows test rows = filter (λ row. not (test (key row))) rows

  -- the rows and the new one, in place of the row with its key, if there is one
  abbrev pub put_row : List Row → Row → List Row
  put_row rows new = with_row (without_rows (λ k. is_key k (key new)) rows) new

  -- a row has the key of this one
  abbrev pub is_held : Row → List Row → Bool
  is_held row rows = is_some (find_row rows (key row))

  -- the rows, this one in the place of the one with its key, where there is one
  abbrev pub replaced : Row → List Row → List Row
  replaced row rows = if is_held row rows then put_row rows row else rows

  -- the rows, these in the place of those with their keys, where there are such, one after another
  abbrev pub replaced_rows : List Row → List Row → List Row
  replaced_rows rows [] = rows
  replaced_rows rows (new ∷ news) = replaced_rows (replaced new rows) news

  -- the rows and several new ones, each in place of the row with its key, one after another
  abbrev pub put_rows : List Row → List Row → List Row
  put_rows rows [] = rows
  put_rows rows (new ∷ news) = put_rows (put_row rows new) news

  -- no key is that of a later row too
  abbrev pub AreOnce : List Row → Type 0
  AreOnce [] = Unit {0}
  AreOnce (row ∷ rows) = (find_row rows (key row) ≡ None) × AreOnce rows
