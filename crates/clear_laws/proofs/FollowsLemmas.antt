-- The pieces follow a change of the tables, firm by firm.
use Rattle.std.proofs.Common.{◌≡◌, ℕ, ◌<◌, ◌≤◌, List, [], ◌∷◌, length, filter, map, Bool, true, false, ◌==◌, refl, sym, ap, ◌∙◌, subst}
use Rattle.std.proofs.lemmas.Bool.{eq-eqb, eqb-true, or_from, or_left, or_parts, or_right}
use Rattle.std.specs.List.{All, AllByRecursion, Contains}
use Rattle.clear_account.specs.Account.{IsAccount, charge_at, charged, credit_at, credited}
use Rattle.clear_account.specs.Places.{Ends}
use Rattle.clear_account.specs.declared.entries.Charge.{Charge}
use Rattle.clear_account.specs.declared.entries.Credit.{Credit}
use Rattle.clear_kept.specs.Changes.{charges_before, credits_before}
use Rattle.clear_values.specs.Keyed.{AreInOrder}
use Rattle.clear_values.specs.declared.lines.Purpose.TheVariants.{Contribution}
use Rattle.clear_values.specs.declared.rows.CreditRow.{CreditRow}
use Rattle.clear_values.specs.declared.rows.KeptCharge.{KeptCharge}
use Rattle.clear_values.specs.declared.rows.PieceRow.{PieceRow}
use Rattle.clear_book.specs.Allocated.{AreAllocated, AreSameCharges, FirstCredit, FirstMonth, Follows, IsAllocated, KeepsKeys, LeavesChange, LeavesChanged, contribution_rows, kept_charges}
use Rattle.clear_book.specs.Lines.{is_credit_of}
use Rattle.clear_book.specs.Tables.{Tables, charge_in, piece_key, table_credits}
use Rattle.clear_laws.proofs.AccountChangeLemmas.{AddsCredits, ChangesCharge, contributions_in, no_new_credit}
use Rattle.clear_laws.proofs.AllocatedLemmas.{charge_allocated, charge_left, charge_puttable, credits_allocated, credits_left, credits_puttable, leaves_before, others_left, pieces_from, pieces_from-own, pieces_in, still_allocated, with_pieces_put}
use Rattle.clear_laws.proofs.PieceRowLemmas.{IsOf, pieces_for}
use Rattle.clear_laws.proofs.SameChargesLemmas.{same_kept}
pub use Rattle.clear_laws.proofs.WeighedFollowsLemmas.{WeighsBut, is_among, weighs_first}

-- a firm's pieces follow the change
abbrev pub FollowsAt : Tables → Tables → ℕ → Type 0
FollowsAt t u e = (g : PieceRow → PieceRow) → KeepsKeys g → LeavesChanged g t u e → AreAllocated g t → IsAllocated g u e

-- the pieces of all firms follow the change but for those that are left, whose pieces are as before
pub record FollowsBut (t u : Tables) (firms : List ℕ) : Type 0 where
  pub done : (f : ℕ) → is_among firms f ≡ false → FollowsAt t u f
  pub as_before : (f : ℕ) → is_among firms f ≡ true → pieces_in f u ≡ pieces_in f t
  pub in_order : (g : PieceRow → PieceRow) → KeepsKeys g → AreAllocated g t → AreInOrder piece_key u.pieces

-- at first those are left of which something has changed
pub follows_first : (t v : Tables) (firms : List ℕ) → v.pieces ≡ t.pieces
    → ((f : ℕ) → is_among firms f ≡ false → (kept_charges v f ≡ kept_charges t f) × (contribution_rows v f ≡ contribution_rows t f)) → FollowsBut t v firms
follows_first t v firms pieces others = record {
  done = λ f is g keeps leaves allocated. still_allocated g t v f (there f) (others f is).0 (others f is).1 (allocated.pieces f);
  as_before = λ f is. there f;
  in_order = λ g keeps allocated. subst (AreInOrder piece_key) (sym pieces) allocated.in_order;
}
  where
    there : (f : ℕ) → pieces_in f v ≡ pieces_in f t
    there f = ap (λ (rows : List PieceRow). filter (λ row. row.employer == f) rows) pieces

-- that is the firm of a report
pub charge_first : (t v : Tables) (e m : ℕ) → v.pieces ≡ t.pieces → ChangesCharge t v e m → FollowsBut t v (e ∷ [])
charge_first t v e m pieces changes = follows_first t v (e ∷ []) pieces (λ f is. (ap (map charge_in) (changes.others f (or_parts (f == e) false is).0), changes.rows f))

-- and the firms of new credits for contributions
pub credits_first : (t v : Tables) (news : List CreditRow) (firms : List ℕ) → v.pieces ≡ t.pieces → AddsCredits t v news → ((f : ℕ) → is_among firms f ≡ false → contributions_in f news ≡ []) → FollowsBut t v firms
credits_first t v news firms pieces adds none = follows_first t v firms pieces (λ f is. (adds.charges f, no_new_credit t v news adds f (none f is)))

-- other parts may be paid of the contributions
pub follows_beside : (t u : Tables) (firms : List ℕ) (charges : List KeptCharge) → FollowsBut t u firms → AreSameCharges u.charges charges → FollowsBut t (record u { charges = charges }) firms
follows_beside t u firms charges follows same = record {
  done = λ f is g keeps leaves allocated.
      follows.done f is g keeps (subst (λ (cs : List Charge). LeavesChange g f (kept_charges t f) cs (table_credits t f) (table_credits u f)) (sym (same_kept u.charges charges same f)) leaves) allocated
      ∙ ap (λ (cs : List Charge). map g (pieces_for cs (contribution_rows u f))) (same_kept u.charges charges same f);
  as_before = follows.as_before;
  in_order = follows.in_order;
}

-- in the end none is left
pub follows_last : (t u : Tables) → FollowsBut t u [] → WeighsBut t u [] → Follows t u
follows_last t u follows weighs g keeps leaves allocated = record {
  pieces = λ e. follows.done e refl g keeps (leaves e) allocated;
  in_order = follows.in_order g keeps allocated;
  weighed = λ e. weighs.done e refl (allocated.weighed e);
}

-- ---- the next of those that are left

module _ (e : ℕ) (firms : List ℕ) (once : is_among firms e ≡ false) where
  same_firm : (f : ℕ) → (f == e) ≡ true → e ≡ f
  same_firm f is = sym (eqb-true f e is)

  -- one that is left behind it is another
  apart : (f : ℕ) → is_among firms f ≡ true → (f == e) ≡ false
  apart f is = told (f == e) refl
    where
      told : (b : Bool) → (f == e) ≡ b → (f == e) ≡ false
      told false h = h
      told true h = absurd (cc (sym once ∙ ap (is_among firms) (same_firm f h) ∙ is))

  module _ (t v : Tables) (before : FollowsBut t v (e ∷ firms)) where
    -- its pieces are as before, and in order
    pub next_there : pieces_in e v ≡ pieces_in e t
    next_there = before.as_before e (or_left (e == e) (is_among firms e) (eq-eqb e e refl))

    -- they are right already
    pub follows_left : FollowsAt t v e → FollowsBut t v firms
    follows_left here = record {
      done = λ f is. told f is (f == e) refl;
      as_before = λ f is. before.as_before f (or_right (f == e) (is_among firms f) is);
      in_order = before.in_order;
    }
      where
        told : (f : ℕ) → is_among firms f ≡ false → (b : Bool) → (f == e) ≡ b → FollowsAt t v f
        told f is true h = subst (FollowsAt t v) (same_firm f h) here
        told f is false h = before.done f (or_from (f == e) (is_among firms f) h is)

    -- others are put in their place
    module _ (month day serial : ℕ) (news : List PieceRow) (own : AllByRecursion (IsOf e) news) where
      abbrev after : Tables
      after = with_pieces_put v e month day serial news

      pub follows_put : FollowsAt t after e → ((g : PieceRow → PieceRow) → KeepsKeys g → AreAllocated g t → AreInOrder piece_key after.pieces) → FollowsBut t after firms
      follows_put here in_order = record {
        done = λ f is. told f is (f == e) refl;
        as_before = λ f is. others_left v e month day serial f news (apart f is) own ∙ before.as_before f (or_right (f == e) (is_among firms f) is);
        in_order = in_order;
      }
        where
          told : (f : ℕ) → is_among firms f ≡ false → (b : Bool) → (f == e) ≡ b → FollowsAt t after f
          told f is true h = subst (FollowsAt t after) (same_firm f h) here
          told f is false h = λ g keeps leaves allocated.
              others_left v e month day serial f news h own ∙ before.done f (or_from (f == e) (is_among firms f) h is) g keeps (leaves_before g t v f after.pieces leaves) allocated

-- ---- where the account of the next has changed

module _ (e : ℕ) (firms : List ℕ) (once : is_among firms e ≡ false) (t v : Tables) (before : FollowsBut t v (e ∷ firms))
    (old : IsAccount (kept_charges t e) (table_credits t e)) (new : IsAccount (kept_charges v e) (table_credits v e)) where
  -- a contribution is another one, or new
  module _ (m place a b : ℕ) (rows : contribution_rows v e ≡ contribution_rows t e) (first : FirstMonth (kept_charges t e) (kept_charges v e) m) (at : place ≡ charged (charges_before m (kept_charges v e)))
      (ends_c : Ends (λ c. c.cents) (kept_charges v e) place a) (ends_k : Ends (λ k. k.cents) (table_credits v e) place b) where
    pub charge_follows : b < length (table_credits v e) → FollowsBut t (with_pieces_put v e m (credit_at (table_credits v e) b).day (credit_at (table_credits v e) b).serial (pieces_from v e a b)) firms
    charge_follows within =
        follows_put e firms once t v before m (credit_at (table_credits v e) b).day (credit_at (table_credits v e) b).serial (pieces_from v e a b) (pieces_from-own v e a b)
        (λ g keeps leaves allocated. charge_allocated g keeps t v e (before.in_order g keeps allocated) (next_there e firms once t v before) (allocated.pieces e) old new m place a b rows first.0 at ends_c ends_k within first.1 leaves)
        (λ g keeps allocated. (charge_puttable g keeps t v e (before.in_order g keeps allocated) (next_there e firms once t v before) (allocated.pieces e) old new m place a b rows first.0 at ends_c ends_k within).in_order)

    pub charge_follows-left : length (table_credits v e) ≤ b → FollowsBut t v firms
    charge_follows-left past =
        follows_left e firms once t v before
        (λ g keeps leaves allocated. charge_left g keeps t v e (before.in_order g keeps allocated) (next_there e firms once t v before) (allocated.pieces e) old new m place a b rows first.0 at ends_c ends_k past)

  -- credits are put in
  module _ (first : Credit) (place a b : ℕ) (charges : kept_charges v e ≡ kept_charges t e) (kept : All (Contains (contribution_rows v e)) (contribution_rows t e))
      (is_first : FirstCredit (table_credits t e) (table_credits v e) first) (at : place ≡ credited (credits_before first (table_credits v e)))
      (ends_c : Ends (λ c. c.cents) (kept_charges v e) place a) (ends_k : Ends (λ k. k.cents) (table_credits v e) place b) where
    pub credits_follow : a < length (kept_charges v e) → FollowsBut t (with_pieces_put v e (charge_at (kept_charges v e) a).month first.day first.serial (pieces_from v e a b)) firms
    credits_follow within =
        follows_put e firms once t v before (charge_at (kept_charges v e) a).month first.day first.serial (pieces_from v e a b) (pieces_from-own v e a b)
        (λ g keeps leaves allocated. credits_allocated g keeps t v e (before.in_order g keeps allocated) (next_there e firms once t v before) (allocated.pieces e) old new first place a b charges kept is_first.0 at ends_c ends_k within is_first.1 is_first.2 leaves)
        (λ g keeps allocated. (credits_puttable g keeps t v e (before.in_order g keeps allocated) (next_there e firms once t v before) (allocated.pieces e) old new first place a b charges kept is_first.0 at ends_c ends_k within).in_order)

    pub credits_follow-left : length (kept_charges v e) ≤ a → FollowsBut t v firms
    credits_follow-left past =
        follows_left e firms once t v before
        (λ g keeps leaves allocated. credits_left g keeps t v e (before.in_order g keeps allocated) (next_there e firms once t v before) (allocated.pieces e) old new first place a b charges kept is_first.0 at ends_c ends_k past)

-- ---- where no account changes

pub accounts_left-follows : (t v : Tables) → v.pieces ≡ t.pieces → v.charges ≡ t.charges → v.credits ≡ t.credits → Follows t v
accounts_left-follows t v pieces charges credits =
    follows_last t v
    (follows_first t v [] pieces (λ f is. (ap (λ (rows : List KeptCharge). map charge_in (filter (λ row. row.employer == f) rows)) charges, rows_left f)))
    (weighs_first t v [] charges (λ f is. rows_left f))
  where
    rows_left : (f : ℕ) → contribution_rows v f ≡ contribution_rows t f
    rows_left f = ap (λ (rows : List CreditRow). filter (is_credit_of f Contribution) rows) credits
