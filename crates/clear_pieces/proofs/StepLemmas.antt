-- The pieces of a firm that is left are put, and what is open of its contributions: then one firm less is left.
use Rattle.std.proofs.Common.{◌≡◌, ◌≢◌, ℕ, ◌<◌, ◌≤◌, List, [], ◌∷◌, ◌⊎◌, inl, inr, ◌==◌, drop, find, length, map, false, refl, sym, ap, subst, ◌∙◌}
use Rattle.std.specs.List.{All, AllByRecursion, Any, Contains}
use Rattle.std.proofs.lemmas.Bool.{cases_lt, ne_eqb, or_right}
use Rattle.clear_account.specs.Account.{IsAccount, charge_at, credit_at}
use Rattle.clear_account.specs.Places.{Ends}
use Rattle.clear_account.specs.declared.entries.Charge.{Charge}
use Rattle.clear_account.specs.declared.entries.Credit.{Credit}
use Rattle.clear_kept.specs.Changes.{charges_before, credits_before}
use Rattle.clear_kept.specs.Weighed.{weighed_charges}
use Rattle.clear_kept.specs.declared.rows.WeighedCharge.{WeighedCharge}
use Rattle.clear_values.specs.Keyed.{AreInOrder, with_rows, without_rows}
use Rattle.clear_values.specs.Tables.{is_piece_key_from}
use Rattle.clear_values.specs.declared.rows.KeptCharge.{KeptCharge}
use Rattle.clear_values.specs.declared.rows.PieceRow.{PieceRow}
use Rattle.clear_book.specs.Allocated.{AreAllocated, AreSameCharges, FirstCredit, FirstMonth, KeepsKeys, contribution_rows, kept_charges, weighed_in}
use Rattle.clear_book.specs.Tables.{IsPaidInRange, Tables, charge_key, piece_key, table_credits, with_pieces}
use Rattle.clear_laws.proofs.AccountChangeLemmas.{ChangesCharge}
use Rattle.clear_laws.proofs.AllocatedLemmas.{charge_puttable, credits_puttable, others_left, pieces_from-own}
use Rattle.clear_laws.proofs.FollowsLemmas.{FollowsAt, FollowsBut, charge_follows, charge_follows-left, credits_follow, credits_follow-left, follows_beside, follows_last, next_there}
use Rattle.clear_laws.proofs.SameChargesLemmas.{same_in_order, same_kept}
use Rattle.clear_laws.proofs.SettledLemmas.{settled_all}
use Rattle.clear_laws.proofs.WeighedFollowsLemmas.{WeighsBut, charge_settled, credits_settled, is_among, settled_alike, weighs_beside}
use Rattle.clear_laws.proofs.WeighedLemmas.{news_in_range, settled_row-own, settled_row-weighed}
use Rattle.clear_store.proofs.OnceLemmas.{in_order_free}
use Rattle.clear_store.specs.Changes.{AreFree}
use Rattle.clear_pieces.specs.Anew.{ArePut, FromCharge, FromCredit, IsFreeBehind, IsFreeFromCharge, IsFreeFromCredit, credit_place, month_place, pieces_beyond, settled_charges}
use Rattle.clear_pieces.specs.Behind.{AreLast}
use Rattle.clear_pieces.specs.Firm.{settled_from}
use Rattle.clear_pieces.specs.Keeping.{AreFollowing, IsSameAccount, firm_pieces}
use Rattle.clear_pieces.specs.declared.behind.NewCredits.{NewCredits}
use Rattle.clear_pieces.proofs.SoonerLemmas.{none_taken, others_beside, others_stay}

-- ---- the pieces

module _ (t u : Tables) (e : ℕ) (firms : List ℕ) (once : is_among firms e ≡ false) (before : FollowsBut t u (e ∷ firms))
    (old : IsAccount (kept_charges t e) (table_credits t e)) (new : IsAccount (kept_charges u e) (table_credits u e)) where
  -- pieces that were put follow but for the firms that are left
  abbrev Follow : List PieceRow → Type 0
  Follow pieces = FollowsBut t (record u { pieces = pieces }) firms

  -- ---- its contribution of a month is another one, or new

  module _ (m : ℕ) (rows : contribution_rows u e ≡ contribution_rows t e) (first : FirstMonth (kept_charges t e) (kept_charges u e) m) where
    pub charge_put : (pieces : List PieceRow) (settled : List KeptCharge) → FromCharge u e m pieces settled → Follow pieces
    charge_put pieces settled from = told (cases_lt from.b (length (table_credits u e)))
      where
        told : (from.b < length (table_credits u e)) ⊎ (length (table_credits u e) ≤ from.b) → Follow pieces
        told (inl within) =
            subst Follow (sym (from.anew within))
            (charge_follows e firms once t u before old new m (month_place u e m) from.a from.b rows first refl from.charges_end from.credits_end within)
        told (inr past) =
            subst Follow (sym (from.stay past))
            (charge_follows-left e firms once t u before old new m (month_place u e m) from.a from.b rows first refl from.charges_end from.credits_end past)

    -- the keys of its pieces were free
    pub charge_free : (g : PieceRow → PieceRow) → KeepsKeys g → AreAllocated g t → IsFreeFromCharge u e m
    charge_free g keeps allocated a b ends_c ends_k within =
        let k : Credit = credit_at (table_credits u e) b in
        in_order_free piece_key (without_rows piece_key (is_piece_key_from e m k.day k.serial) u.pieces) (pieces_beyond u e a b)
        (charge_puttable g keeps t u e (before.in_order g keeps allocated) (next_there e firms once t u before) (allocated.pieces e) old new m (month_place u e m) a b rows first.0 refl ends_c ends_k within).in_order

  -- ---- credits were put in

  module _ (credits : NewCredits) (charges : kept_charges u e ≡ kept_charges t e) (kept : All (Contains (contribution_rows u e)) (contribution_rows t e))
      (first : FirstCredit (table_credits t e) (table_credits u e) credits.first) (sooner : AreLast u e credits → credits_before credits.first (table_credits t e) ≡ table_credits t e) where
    abbrev k : Credit
    k = credits.first

    -- no piece stands from the first new credit on
    none_there : AreLast u e credits → (month : ℕ) (g : PieceRow → PieceRow) → KeepsKeys g → AreAllocated g t → without_rows piece_key (is_piece_key_from e month k.day k.serial) u.pieces ≡ u.pieces
    none_there last month g keeps allocated =
        none_taken e month k g keeps (kept_charges t e) (contribution_rows t e) (sooner last) u.pieces (next_there e firms once t u before ∙ allocated.pieces e)

    -- its pieces come to those that stand
    module _ (last : AreLast u e credits) (a b : ℕ) (ends_c : Ends (λ c. c.cents) (kept_charges u e) (credit_place u e k) a) (ends_k : Ends (λ l. l.cents) (table_credits u e) (credit_place u e k) b)
        (within : a < length (kept_charges u e)) where
      abbrev added : List PieceRow
      added = with_rows piece_key u.pieces (pieces_beyond u e a b)

      abbrev month : ℕ
      month = (charge_at (kept_charges u e) a).month

      put_anew : Follow (with_pieces e month k.day k.serial (pieces_beyond u e a b) u.pieces)
      put_anew = credits_follow e firms once t u before old new k (credit_place u e k) a b charges kept first refl ends_c ends_k within

      same_put : (g : PieceRow → PieceRow) → KeepsKeys g → AreAllocated g t → with_pieces e month k.day k.serial (pieces_beyond u e a b) u.pieces ≡ added
      same_put g keeps allocated = ap (λ rows. with_rows piece_key rows (pieces_beyond u e a b)) (none_there last month g keeps allocated)

      credit_added : Follow added
      credit_added = record {
        done = λ f is g keeps leaves allocated.
            subst (λ (rows : List PieceRow). FollowsAt t (record u { pieces = rows }) f) (same_put g keeps allocated) (put_anew.done f is) g keeps leaves allocated;
        as_before = λ f is. others_stay e firms once f is u.pieces (pieces_beyond u e a b) (pieces_from-own u e a b) ∙ before.as_before f (or_right (f == e) (is_among firms f) is);
        in_order = λ g keeps allocated. subst (AreInOrder piece_key) (same_put g keeps allocated) (put_anew.in_order g keeps allocated);
      }

    pub credit_put : (pieces : List PieceRow) (settled : List KeptCharge) → FromCredit u e credits pieces settled → Follow pieces
    credit_put pieces settled from = told (cases_lt from.a (length (kept_charges u e)))
      where
        put : from.a < length (kept_charges u e) → ArePut u e credits from.a from.b pieces → Follow pieces
        put within (inl is) =
            subst Follow (sym is)
            (credits_follow e firms once t u before old new k (credit_place u e k) from.a from.b charges kept first refl from.charges_end from.credits_end within)
        put within (inr added) = subst Follow (sym added.1) (credit_added added.0 from.a from.b from.charges_end from.credits_end within)

        told : (from.a < length (kept_charges u e)) ⊎ (length (kept_charges u e) ≤ from.a) → Follow pieces
        told (inl within) = put within (from.anew within)
        told (inr past) =
            subst Follow (sym (from.stay past))
            (credits_follow-left e firms once t u before old new k (credit_place u e k) from.a from.b charges kept first refl from.charges_end from.credits_end past)

    -- the keys of its pieces were free
    pub credit_free : (g : PieceRow → PieceRow) → KeepsKeys g → AreAllocated g t → IsFreeFromCredit u e k
    credit_free g keeps allocated a b ends_c ends_k within =
        in_order_free piece_key (without_rows piece_key (is_piece_key_from e (charge_at (kept_charges u e) a).month k.day k.serial) u.pieces) (pieces_beyond u e a b)
        (credits_puttable g keeps t u e (before.in_order g keeps allocated) (next_there e firms once t u before) (allocated.pieces e) old new k (credit_place u e k) a b charges kept first.0 refl ends_c ends_k within).in_order

    -- also among all that stand
    pub credit_free-behind : (g : PieceRow → PieceRow) → KeepsKeys g → AreAllocated g t → IsFreeBehind u e credits
    credit_free-behind g keeps allocated last a b ends_c ends_k within =
        subst (λ (rows : List PieceRow). AreFree piece_key rows (pieces_beyond u e a b)) (none_there last (charge_at (kept_charges u e) a).month g keeps allocated)
        (credit_free g keeps allocated a b ends_c ends_k within)

-- ---- the pieces of another firm stay, whatever they hold

module _ (u : Tables) (e f : ℕ) (apart : f ≢ e) where
  anew_beside : (m d s a b : ℕ) → firm_pieces f (with_pieces e m d s (pieces_beyond u e a b) u.pieces) ≡ firm_pieces f u.pieces
  anew_beside m d s a b = others_left u e m d s f (pieces_beyond u e a b) (ne_eqb f e apart) (pieces_from-own u e a b)

  charge_beside : (m : ℕ) (pieces : List PieceRow) (settled : List KeptCharge) → FromCharge u e m pieces settled → firm_pieces f pieces ≡ firm_pieces f u.pieces
  charge_beside m pieces settled from = told (cases_lt from.b (length (table_credits u e)))
    where
      told : (from.b < length (table_credits u e)) ⊎ (length (table_credits u e) ≤ from.b) → firm_pieces f pieces ≡ firm_pieces f u.pieces
      told (inl within) = ap (firm_pieces f) (from.anew within) ∙ anew_beside m (credit_at (table_credits u e) from.b).day (credit_at (table_credits u e) from.b).serial from.a from.b
      told (inr past) = ap (firm_pieces f) (from.stay past)

  credit_beside : (news : NewCredits) (pieces : List PieceRow) (settled : List KeptCharge) → FromCredit u e news pieces settled → firm_pieces f pieces ≡ firm_pieces f u.pieces
  credit_beside news pieces settled from = told (cases_lt from.a (length (kept_charges u e)))
    where
      put : ArePut u e news from.a from.b pieces → firm_pieces f pieces ≡ firm_pieces f u.pieces
      put (inl anew) = ap (firm_pieces f) anew ∙ anew_beside (charge_at (kept_charges u e) from.a).month news.first.day news.first.serial from.a from.b
      put (inr added) =
          ap (firm_pieces f) added.1
          ∙ others_beside e f (ne_eqb e f (λ same. apart (sym same))) u.pieces (pieces_beyond u e from.a from.b) (pieces_from-own u e from.a from.b)

      told : (from.a < length (kept_charges u e)) ⊎ (length (kept_charges u e) ≤ from.a) → firm_pieces f pieces ≡ firm_pieces f u.pieces
      told (inl within) = put (from.anew within)
      told (inr past) = ap (firm_pieces f) (from.stay past)

-- a firm whose account is the same is another one
not_of_charge : (t v : Tables) (e m : ℕ) → FirstMonth (kept_charges t e) (kept_charges v e) m → (f : ℕ) → IsSameAccount t v f → f ≢ e
not_of_charge t v e m first f same is =
    first.1 (ap (find (λ (c : Charge). c.month == m)) (subst (λ (k : ℕ). kept_charges t k ≡ kept_charges v k) is same.0))

not_of_credit : (t v : Tables) (e : ℕ) (k : Credit) → FirstCredit (table_credits t e) (table_credits v e) k → (f : ℕ) → IsSameAccount t v f → f ≢ e
not_of_credit t v e k first f same is =
    first.2 (subst (Any (λ (l : Credit). l ≡ k)) (sym (subst (λ (n : ℕ). table_credits t n ≡ table_credits v n) is same.1)) first.1)

-- ---- with what is open of the contributions

-- with these pieces and rows of contributions the tables follow but for the firms that are left
pub record FollowSoFar (t v : Tables) (firms : List ℕ) (pieces : List PieceRow) (charges : List KeptCharge) : Type 0 where
  pub follows : FollowsBut t (record v { pieces = pieces; charges = charges }) firms
  pub weighs : WeighsBut t (record v { pieces = pieces; charges = charges }) firms
  pub same : AreSameCharges v.charges charges
  pub paid : AllByRecursion IsPaidInRange v.charges → AllByRecursion IsPaidInRange charges
  pub others : (f : ℕ) → IsSameAccount t v f → firm_pieces f pieces ≡ firm_pieces f v.pieces

-- at first nothing is put
pub none_put : (t v : Tables) (firms : List ℕ) → FollowsBut t v firms → WeighsBut t v firms → FollowSoFar t v firms v.pieces v.charges
none_put t v firms follows weighs = record { follows = follows; weighs = weighs; same = refl; paid = λ all. all; others = λ f same. refl }

-- in the end no firm is left
pub all_put : (t v : Tables) (pieces : List PieceRow) (charges : List KeptCharge) → FollowSoFar t v [] pieces charges → AreFollowing t v pieces charges
all_put t v pieces charges so_far = record {
  same = so_far.same;
  paid = so_far.paid;
  follows = follows_last t (record v { pieces = pieces; charges = charges }) so_far.follows so_far.weighs;
  others = so_far.others;
}

-- the rows of a firm's contributions from one on, put in the places of those that stood
module _ (u : Tables) (e : ℕ) (order : AreInOrder charge_key u.charges) (account : IsAccount (kept_charges u e) (table_credits u e)) (n : ℕ) where
  abbrev rest : List WeighedCharge
  rest = drop n (weighed_charges (kept_charges u e) (table_credits u e))

  abbrev news : List KeptCharge
  news = settled_from e (kept_charges u e) (table_credits u e) n

  own : AllByRecursion (λ row. row.employer ≡ e) news
  own = settled_row-own e rest

  weighed : map weighed_in news ≡ rest
  weighed = settled_row-weighed e rest

  settled_same : AreSameCharges u.charges (settled_charges u e n)
  settled_same = settled_alike e u order n news own weighed

  settled_paid : AllByRecursion IsPaidInRange u.charges → AllByRecursion IsPaidInRange (settled_charges u e n)
  settled_paid all = settled_all e u.charges news order own IsPaidInRange all (news_in_range n (kept_charges u e) (table_credits u e) news account weighed)

-- the firm of a report
module _ (t v : Tables) (e m : ℕ) (changes : ChangesCharge t v e m) (first : FirstMonth (kept_charges t e) (kept_charges v e) m) (sooner : AreInOrder charge_key t.charges) (rises : AreInOrder charge_key v.charges)
    (before : FollowsBut t v (e ∷ [])) (old : IsAccount (kept_charges t e) (table_credits t e)) (new : IsAccount (kept_charges v e) (table_credits v e)) where
  pub charge_done : (pieces : List PieceRow) (charges : List KeptCharge) → FromCharge v e m pieces charges → AreFollowing t v pieces charges
  charge_done pieces charges from =
      all_put t v pieces charges
      (record {
        follows = follows_beside t (record v { pieces = pieces }) [] charges (charge_put t v e [] refl before old new m (changes.rows e) first pieces charges from) same;
        weighs = weighs_beside t (record v { charges = charges }) [] pieces (subst (λ (cs : List KeptCharge). WeighsBut t (record v { charges = cs }) []) (sym from.settled) settled);
        same = same;
        paid = λ all. subst (AllByRecursion IsPaidInRange) (sym from.settled) (settled_paid v e rises new n all);
        others = λ f alike. charge_beside v e f (not_of_charge t v e m first f alike) m pieces charges from;
      })
    where
      n : ℕ
      n = length (charges_before m (kept_charges v e))

      same : AreSameCharges v.charges charges
      same = subst (AreSameCharges v.charges) (sym from.settled) (settled_same v e rises new n)

      settled : WeighsBut t (record v { charges = settled_charges v e n }) []
      settled = charge_settled t v e m changes sooner rises old new (news v e rises new n) (own v e rises new n) (weighed v e rises new n)

-- a firm of new credits
module _ (t v : Tables) (e : ℕ) (firms : List ℕ) (once : is_among firms e ≡ false) (rises : AreInOrder charge_key v.charges) (old : IsAccount (kept_charges t e) (table_credits t e)) (new : IsAccount (kept_charges v e) (table_credits v e))
    (so_far : List PieceRow) (rows : List KeptCharge) (before : FollowSoFar t v (e ∷ firms) so_far rows) where
  abbrev u : Tables
  u = record v { pieces = so_far; charges = rows }

  kept_so_far : kept_charges v e ≡ kept_charges u e
  kept_so_far = same_kept v.charges rows before.same e

  order : AreInOrder charge_key rows
  order = same_in_order v.charges rows before.same rises

  -- its account is still that
  pub account_so_far : IsAccount (kept_charges u e) (table_credits u e)
  account_so_far = subst (λ (cs : List Charge). IsAccount cs (table_credits v e)) kept_so_far new

  module _ (credits : NewCredits) (charges : kept_charges v e ≡ kept_charges t e) (kept : All (Contains (contribution_rows v e)) (contribution_rows t e)) (first : FirstCredit (table_credits t e) (table_credits v e) credits.first)
      (sooner : AreLast v e credits → credits_before credits.first (table_credits t e) ≡ table_credits t e) where
    charges_so_far : kept_charges u e ≡ kept_charges t e
    charges_so_far = sym kept_so_far ∙ charges

    pub credit_next : (pieces : List PieceRow) (settled : List KeptCharge) → FromCredit u e credits pieces settled → FollowSoFar t v firms pieces settled
    credit_next pieces settled from = record {
      follows = follows_beside t (record u { pieces = pieces }) firms settled (credit_put t u e firms once before.follows old account_so_far credits charges_so_far kept first sooner pieces settled from) same;
      weighs = weighs_beside t (record u { charges = settled }) firms pieces (subst (λ (cs : List KeptCharge). WeighsBut t (record u { charges = cs }) firms) (sym from.settled) put);
      same = before.same ∙ same;
      paid = λ all. subst (AllByRecursion IsPaidInRange) (sym from.settled) (settled_paid u e order account_so_far from.a (before.paid all));
      others = λ f alike. credit_beside u e f (not_of_credit t v e credits.first first f alike) credits pieces settled from ∙ before.others f alike;
    }
      where
        same : AreSameCharges rows settled
        same = subst (AreSameCharges rows) (sym from.settled) (settled_same u e order account_so_far from.a)

        put : WeighsBut t (record u { charges = settled_charges u e from.a }) firms
        put =
            credits_settled e firms once t u before.weighs order credits.first (credit_place u e credits.first) from.a old account_so_far first.0 refl from.charges_end
            (news u e order account_so_far from.a) (own u e order account_so_far from.a) (weighed u e order account_so_far from.a)

    pub credit_next-free : (g : PieceRow → PieceRow) → KeepsKeys g → AreAllocated g t → IsFreeFromCredit u e credits.first
    credit_next-free = credit_free t u e firms once before.follows old account_so_far credits charges_so_far kept first sooner

    pub credit_next-free_behind : (g : PieceRow → PieceRow) → KeepsKeys g → AreAllocated g t → IsFreeBehind u e credits
    credit_next-free_behind = credit_free-behind t u e firms once before.follows old account_so_far credits charges_so_far kept first sooner
