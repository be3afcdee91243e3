-- What is open of the contributions follows a change of the tables, firm by firm.
use Rattle.std.proofs.Common.{◌≡◌, ℕ, zero, suc, List, [], ◌∷◌, ◌++◌, length, map, filter, drop, take, Bool, true, false, cond, ◌==◌, nat_lt, refl, sym, ap, ◌∙◌, subst, arith}
use Rattle.std.proofs.lemmas.Bool.{eq-eqb, eqb-true, or_from, or_left, or_right}
use Rattle.std.proofs.lemmas.Bool.Decides.{nat_tests}
use Rattle.std.proofs.lemmas.List.{length-map, map-append, take-append-drop}
use Rattle.std.specs.List.{AllByRecursion, list_any}
use Rattle.clear_account.specs.Account.{IsAccount, credited}
use Rattle.clear_account.specs.Places.{Ends}
use Rattle.clear_account.specs.declared.entries.Charge.{Charge}
use Rattle.clear_account.specs.declared.entries.Credit.{Credit}
use Rattle.clear_kept.specs.Changes.{charges_before, credits_before}
use Rattle.clear_kept.specs.Weighed.{weighed_charges}
use Rattle.clear_kept.specs.declared.rows.WeighedCharge.{WeighedCharge}
use Rattle.clear_kept.proofs.LawLemmas.{charge_rows_stand, credit_rows_stand}
use Rattle.clear_values.specs.Keyed.{is_before, AllBehind, AreInOrder, replaced_rows}
use Rattle.clear_values.specs.declared.rows.KeptCharge.{KeptCharge}
use Rattle.clear_values.specs.declared.rows.PieceRow.{PieceRow}
use Rattle.clear_book.specs.Accounts.{row_credit}
use Rattle.clear_book.specs.Allocated.{AreSameCharges, IsWeighed, contribution_rows, kept_charges, weighed_in, weighed_rows}
use Rattle.clear_book.specs.Tables.{Tables, charge_in, charge_key, table_credits}
use Rattle.clear_laws.proofs.AccountChangeLemmas.{ChangesCharge, firm_rows}
use Rattle.clear_laws.proofs.KeyedFilterLemmas.{filter-shown}
use Rattle.clear_laws.proofs.OtherKeyLemmas.{in_order-filter}
use Rattle.clear_laws.proofs.SameChargesLemmas.{firm_own, same_kept}
use Rattle.clear_laws.proofs.SettledLemmas.{settled_others, settled_own, settled_same}
use Rattle.clear_laws.proofs.WeighedLemmas.{same_from}

take-shown : {X Y : Type 0} (f : X → Y) (n : ℕ) (xs : List X) → take n (map f xs) ≡ map f (take n xs)
take-shown f zero xs = refl
take-shown f (suc n) [] = refl
take-shown f (suc n) (x ∷ xs) = ap (λ rest. f x ∷ rest) (take-shown f n xs)

-- the firm is one of these
abbrev pub is_among : List ℕ → ℕ → Bool
is_among firms f = list_any (λ e. f == e) firms

-- what is open of the contributions of all firms follows the change but for those that are left, whose rows are as before
pub record WeighsBut (t u : Tables) (firms : List ℕ) : Type 0 where
  pub done : (f : ℕ) → is_among firms f ≡ false → IsWeighed t f → IsWeighed u f
  pub as_before : (f : ℕ) → is_among firms f ≡ true → firm_rows u f ≡ firm_rows t f

-- the pieces are put beside it
pub weighs_beside : (t u : Tables) (firms : List ℕ) (pieces : List PieceRow) → WeighsBut t u firms → WeighsBut t (record u { pieces = pieces }) firms
weighs_beside t u firms pieces weighs = record { done = weighs.done; as_before = weighs.as_before }

-- a firm whose rows and credits are the same
pub still_weighed : (t u : Tables) (f : ℕ) → firm_rows u f ≡ firm_rows t f → contribution_rows u f ≡ contribution_rows t f → IsWeighed t f → IsWeighed u f
still_weighed t u f rows credits weighed =
    ap (map weighed_in) rows ∙ weighed ∙ sym (λ i. weighed_charges (map charge_in (rows i)) (map row_credit (credits i)))

-- at first those are left of which something has changed
pub weighs_first : (t v : Tables) (firms : List ℕ) → v.charges ≡ t.charges → ((f : ℕ) → is_among firms f ≡ false → contribution_rows v f ≡ contribution_rows t f) → WeighsBut t v firms
weighs_first t v firms charges credits = record {
  done = λ f is. still_weighed t v f (there f) (credits f is);
  as_before = λ f is. there f;
}
  where
    there : (f : ℕ) → firm_rows v f ≡ firm_rows t f
    there f = ap (λ (rows : List KeptCharge). filter (λ row. row.employer == f) rows) charges

-- ---- new rows of a firm

module _ (e : ℕ) (v : Tables) (order : AreInOrder charge_key v.charges) (n : ℕ) (news : List KeptCharge) (own : AllByRecursion (λ row. row.employer ≡ e) news)
    (are : map weighed_in news ≡ drop n (weighed_charges (kept_charges v e) (table_credits v e))) where
  -- the tables with the new rows in the place of those of their months
  abbrev pub after : Tables
  after = record v { charges = replaced_rows charge_key v.charges news }

  same_behind : AreSameCharges (drop n (firm_rows v e)) news
  same_behind = same_from e n (firm_rows v e) news (table_credits v e) (firm_own e v.charges) own are

  -- all contributions are the same
  pub settled_alike : AreSameCharges v.charges after.charges
  settled_alike = settled_same e v.charges news order own n same_behind

  -- those of other firms stay
  pub settled_beside : (f : ℕ) → (f == e) ≡ false → firm_rows after f ≡ firm_rows v f
  settled_beside f apart = settled_others e v.charges news order own f apart

  -- those of the firm have what is open of them, where the first n had it
  pub settled_weighed : take n (weighed_rows v e) ≡ take n (weighed_charges (kept_charges v e) (table_credits v e)) → IsWeighed after e
  settled_weighed stand =
      let all : List WeighedCharge = weighed_charges (kept_charges v e) (table_credits v e) in
      ap (map weighed_in) (settled_own e v.charges news order own n same_behind)
      ∙ map-append weighed_in (take n (firm_rows v e)) news
      ∙ (λ i. sym (take-shown weighed_in n (firm_rows v e)) i ++ are i)
      ∙ ap (λ ws. ws ++ drop n all) stand
      ∙ take-append-drop n all
      ∙ ap (λ (cs : List Charge). weighed_charges cs (table_credits v e)) (same_kept v.charges after.charges settled_alike e)

-- ---- the next of those that are left

module _ (e : ℕ) (firms : List ℕ) (once : is_among firms e ≡ false) (t v : Tables) (before : WeighsBut t v (e ∷ firms)) (order : AreInOrder charge_key v.charges) where
  same_firm : (f : ℕ) → (f == e) ≡ true → e ≡ f
  same_firm f is = sym (eqb-true f e is)

  -- one that is left behind it is another
  apart : (f : ℕ) → is_among firms f ≡ true → (f == e) ≡ false
  apart f is = told (f == e) refl
    where
      told : (b : Bool) → (f == e) ≡ b → (f == e) ≡ false
      told false h = h
      told true h = absurd (cc (sym once ∙ ap (is_among firms) (same_firm f h) ∙ is))

  -- its rows are as before
  rows_there : firm_rows v e ≡ firm_rows t e
  rows_there = before.as_before e (or_left (e == e) (is_among firms e) (eq-eqb e e refl))

  module _ (n : ℕ) (news : List KeptCharge) (own : AllByRecursion (λ row. row.employer ≡ e) news) (are : map weighed_in news ≡ drop n (weighed_charges (kept_charges v e) (table_credits v e))) where
    abbrev then : Tables
    then = after e v order n news own are

    -- new rows stand in the place of those from the n-th on, where the first n have what is open of them
    pub next_settled : (IsWeighed t e → take n (weighed_rows v e) ≡ take n (weighed_charges (kept_charges v e) (table_credits v e))) → WeighsBut t then firms
    next_settled stand = record {
      done = λ f is. told f is (f == e) refl;
      as_before = λ f is. settled_beside e v order n news own are f (apart f is) ∙ before.as_before f (or_right (f == e) (is_among firms f) is);
    }
      where
        told : (f : ℕ) → is_among firms f ≡ false → (b : Bool) → (f == e) ≡ b → IsWeighed t f → IsWeighed then f
        told f is true h =
            subst (λ (k : ℕ). IsWeighed t k → IsWeighed then k) (same_firm f h)
            (λ weighed. settled_weighed e v order n news own are (stand weighed))
        told f is false h =
            λ weighed. still_weighed v then f (settled_beside e v order n news own are f h) refl (before.done f (or_from (f == e) (is_among firms f) h is) weighed)

  -- credits are put in: those that reach beyond the place are settled
  module _ (first : Credit) (place a : ℕ) (old : IsAccount (kept_charges t e) (table_credits t e)) (new : IsAccount (kept_charges v e) (table_credits v e))
      (same : credits_before first (table_credits t e) ≡ credits_before first (table_credits v e)) (at : place ≡ credited (credits_before first (table_credits v e))) (ends : Ends (λ c. c.cents) (kept_charges v e) place a) where
    credit_front : IsWeighed t e → take a (weighed_rows v e) ≡ take a (weighed_charges (kept_charges v e) (table_credits v e))
    credit_front weighed =
        let charges : kept_charges t e ≡ kept_charges v e = ap (map charge_in) (sym rows_there) in
        ap (λ rows. take a (map weighed_in rows)) rows_there
        ∙ ap (take a) weighed
        ∙ ap (λ (cs : List Charge). take a (weighed_charges cs (table_credits t e))) charges
        ∙ credit_rows_stand (kept_charges v e) (table_credits t e) (table_credits v e) first place a (subst (λ (cs : List Charge). IsAccount cs (table_credits t e)) charges old) new same at ends

    pub credits_settled : (news : List KeptCharge) (own : AllByRecursion (λ row. row.employer ≡ e) news) (are : map weighed_in news ≡ drop a (weighed_charges (kept_charges v e) (table_credits v e)))
        → WeighsBut t (record v { charges = replaced_rows charge_key v.charges news }) firms
    credits_settled news own are = next_settled a news own are credit_front

-- ---- the firm of a report

-- the rows of earlier months are the first of a firm's
module _ (m e : ℕ) where
  abbrev is_earlier : KeptCharge → Bool
  is_earlier row = nat_lt row.month m

  not_earlier : (r s : KeptCharge) → r.employer ≡ e → s.employer ≡ e → is_before (charge_key r) (charge_key s) ≡ true → is_earlier r ≡ false → is_earlier s ≡ false
  not_earlier r s of_e also behind is = grind (arith, nat_tests)

  none_earlier : (r : KeptCharge) (rows : List KeptCharge) → r.employer ≡ e → AllByRecursion (λ row. row.employer ≡ e) rows → AllBehind charge_key (charge_key r) rows → is_earlier r ≡ false → filter is_earlier rows ≡ []
  none_earlier r [] of_e own all is = refl
  none_earlier r (s ∷ rows) of_e own all is =
      ap (λ b. cond b (s ∷ filter is_earlier rows) (filter is_earlier rows)) (not_earlier r s of_e own.0 all.0 is) ∙ none_earlier r rows of_e own.1 all.1 is

  first_rows : (rows : List KeptCharge) → AllByRecursion (λ row. row.employer ≡ e) rows → AreInOrder charge_key rows → take (length (filter is_earlier rows)) rows ≡ filter is_earlier rows
  first_rows [] own order = refl
  first_rows (r ∷ rows) own order = told (is_earlier r) refl (first_rows rows own.1 order.1)
    where
      told : (b : Bool) → is_earlier r ≡ b → take (length (filter is_earlier rows)) rows ≡ filter is_earlier rows
          → take (length (cond b (r ∷ filter is_earlier rows) (filter is_earlier rows))) (r ∷ rows) ≡ cond b (r ∷ filter is_earlier rows) (filter is_earlier rows)
      told true is rest = ap (λ xs. r ∷ xs) rest
      told false is rest =
          let none = none_earlier r rows own.0 own.1 order.0 is in
          ap (λ xs. take (length xs) (r ∷ rows)) none ∙ sym none

  front_rows : (rows : List KeptCharge) → AllByRecursion (λ row. row.employer ≡ e) rows → AreInOrder charge_key rows → take (length (charges_before m (map charge_in rows))) rows ≡ filter is_earlier rows
  front_rows rows own order =
      ap (λ n. take n rows) (ap length (filter-shown charge_in is_earlier (λ c. nat_lt c.month m) (λ row. refl) rows) ∙ length-map (filter is_earlier rows) charge_in)
      ∙ first_rows rows own order

module _ (t v : Tables) (e m : ℕ) (changes : ChangesCharge t v e m) (before : AreInOrder charge_key t.charges) (order : AreInOrder charge_key v.charges)
    (old : IsAccount (kept_charges t e) (table_credits t e)) (new : IsAccount (kept_charges v e) (table_credits v e)) where
  abbrev front : ℕ
  front = length (charges_before m (kept_charges v e))

  first_of : (u : Tables) → AreInOrder charge_key u.charges → take (length (charges_before m (kept_charges u e))) (firm_rows u e) ≡ filter (is_earlier m e) (firm_rows u e)
  first_of u rises = front_rows m e (firm_rows u e) (firm_own e u.charges) (in_order-filter charge_key (λ row. row.employer == e) u.charges rises)

  as_long : length (charges_before m (kept_charges t e)) ≡ front
  as_long = ap length changes.earlier

  same_credits : table_credits t e ≡ table_credits v e
  same_credits = ap (map row_credit) (sym (changes.rows e))

  charge_front : IsWeighed t e → take front (weighed_rows v e) ≡ take front (weighed_charges (kept_charges v e) (table_credits v e))
  charge_front weighed =
      take-shown weighed_in front (firm_rows v e)
      ∙ ap (map weighed_in) (first_of v order ∙ changes.front ∙ sym (first_of t before) ∙ ap (λ n. take n (firm_rows t e)) as_long)
      ∙ sym (take-shown weighed_in front (firm_rows t e))
      ∙ ap (take front) weighed
      ∙ ap (λ ks. take front (weighed_charges (kept_charges t e) ks)) same_credits
      ∙ charge_rows_stand (kept_charges t e) (kept_charges v e) (table_credits v e) m (subst (IsAccount (kept_charges t e)) same_credits old) new changes.earlier

  -- the rows of its month and of later ones are settled
  module _ (news : List KeptCharge) (own : AllByRecursion (λ row. row.employer ≡ e) news) (are : map weighed_in news ≡ drop front (weighed_charges (kept_charges v e) (table_credits v e))) where
    abbrev with_charge : Tables
    with_charge = after e v order front news own are

    pub charge_settled : WeighsBut t with_charge []
    charge_settled = record {
      done = λ f is. told f (f == e) refl;
      as_before = λ f is. absurd (cc is);
    }
      where
        told : (f : ℕ) (b : Bool) → (f == e) ≡ b → IsWeighed t f → IsWeighed with_charge f
        told f true h =
            subst (λ (k : ℕ). IsWeighed t k → IsWeighed with_charge k) (sym (eqb-true f e h))
            (λ weighed. settled_weighed e v order front news own are (charge_front weighed))
        told f false h =
            λ weighed. still_weighed t with_charge f (settled_beside e v order front news own are f h ∙ changes.others f h) (changes.rows f) weighed
