-- The rows of accepted requests.
use Rattle.std.proofs.Common.{◌≡◌, ℕ, List, [], ◌∷◌, Option, Some, None, Bool, true, false, cond, refl, ap, ◌∙◌}
use Rattle.std.specs.Option.{option_map}
use Rattle.clear_book.specs.Book.{Book, Entry, request_number, entry_under}
use Rattle.clear_values.specs.Keyed.{is_key, find_row, with_row, AreInOrder}
use Rattle.clear_book.specs.Tables.{RequestRow, Tables, Stands, request_key, request_row, requests_of}
use Rattle.clear_values.proofs.KeyedLemmas.{find_row-with_row, AreInOrder-with_row}

-- what an entry is known by
abbrev entry_key : Entry → List ℕ
entry_key x = request_number x.caller x.number

-- the row of an entry is found where the entry is
pub row_of_entry : (xs : List Entry) (k : List ℕ) → find_row request_key (requests_of xs) k ≡ option_map request_row (find_row entry_key xs k)
row_of_entry [] k = refl
row_of_entry (x ∷ xs) k = told (is_key (entry_key x) k) (row_of_entry xs k)
  where
    told : (b : Bool) → find_row request_key (requests_of xs) k ≡ option_map request_row (find_row entry_key xs k)
        → cond b (Some (request_row x)) (find_row request_key (requests_of xs) k) ≡ option_map request_row (cond b (Some x) (find_row entry_key xs k))
    told true rest = refl
    told false rest = rest

module _ (b : Book) (t : Tables) (stands : Stands b t) (x : Entry) (free : entry_under b.entries x.caller x.number ≡ None) where
  -- no row has the key of a request whose number is free
  no_request : find_row request_key t.requests (request_key (request_row x)) ≡ None
  no_request =
      stands.requests (request_key (request_row x)) ∙ row_of_entry b.entries (request_key (request_row x)) ∙ ap (option_map request_row) free

  -- with its row they are those of the next book
  pub requests_found : (k : List ℕ) → find_row request_key (with_row request_key t.requests (request_row x)) k ≡ find_row request_key (requests_of (x ∷ b.entries)) k
  requests_found k =
      find_row-with_row request_key t.requests (request_row x) k no_request
      ∙ ap (λ (o : Option RequestRow). cond (is_key (request_key (request_row x)) k) (Some (request_row x)) o) (stands.requests k)

  pub requests_still_in_order : AreInOrder request_key (with_row request_key t.requests (request_row x))
  requests_still_in_order = AreInOrder-with_row request_key t.requests (request_row x) stands.requests_in_order no_request
