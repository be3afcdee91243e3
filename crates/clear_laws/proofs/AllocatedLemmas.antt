-- The pieces that the tables keep of a firm, where its contributions or its credits have changed: those that are put in the
-- place of others make them right again.
use Rattle.std.proofs.Common.{◌≡◌, ◌≢◌, ℕ, ◌<◌, ◌≤◌, List, [], ◌∷◌, ◌++◌, length, map, filter, drop, Bool, true, false, cond, ◌==◌, refl, sym, ap, ◌∙◌, subst}
use Rattle.std.proofs.lemmas.List.{map-id}
use Rattle.std.specs.List.{All, AllByRecursion, Any, Contains, find}
use Rattle.clear_account.specs.Account.{IsAccount, charge_at, charged, charged_up_to, credit_at, credited, credited_up_to}
use Rattle.clear_account.specs.Places.{Ends}
use Rattle.clear_account.specs.declared.entries.Charge.{Charge}
use Rattle.clear_account.specs.declared.entries.Credit.{Credit}
use Rattle.clear_kept.specs.Changes.{charges_before, credits_before}
use Rattle.clear_values.specs.Keyed.{AreInOrder, AreOnce, without_rows}
use Rattle.clear_values.specs.Tables.{Tables, is_piece_key_from, piece_key, with_pieces}
use Rattle.clear_values.specs.declared.lines.Purpose.TheVariants.{Contribution}
use Rattle.clear_values.specs.declared.rows.CreditRow.{CreditRow}
use Rattle.clear_values.specs.declared.rows.PieceRow.{PieceRow}
use Rattle.clear_values.proofs.KeyedRowsLemmas.{AreNew}
use Rattle.clear_book.specs.Accounts.{row_credit}
use Rattle.clear_book.specs.Allocated.{IsAllocated, KeepsKeys, LeavesBeyond, LeavesChanged, contribution_rows, kept_charges, pieces_left}
use Rattle.clear_book.specs.Lines.{is_credit_of}
use Rattle.clear_book.specs.Tables.{table_credits}
use Rattle.clear_laws.proofs.AccountPiecesLemmas.{Leaves, all_drop, charge_rewritten, charge_unchanged, credits_rewritten, credits_unchanged, leaves_beyond}
use Rattle.clear_laws.proofs.PieceOrderLemmas.{pieces_for-in_order}
use Rattle.clear_laws.proofs.PieceRowLemmas.{IsOf, pieces_for, pieces_left-own}
use Rattle.clear_laws.proofs.PutPiecesLemmas.{news_free, news_once, with_pieces-in_order, with_pieces-other, with_pieces-own}
use Rattle.clear_laws.proofs.TableAccountLemmas.{own_credit}

-- the pieces that are kept of a firm
abbrev pub pieces_in : ℕ → Tables → List PieceRow
pieces_in e t = filter (λ row. row.employer == e) t.pieces

-- the pieces of a firm's contributions from a on, of its credits from b on
abbrev pub pieces_from : Tables → ℕ → ℕ → ℕ → List PieceRow
pieces_from v e a b =
    pieces_left (charged_up_to (kept_charges v e) a) (credited_up_to (table_credits v e) b) (drop a (kept_charges v e)) (drop b (contribution_rows v e))

-- the tables with such pieces in the place of a firm's from a month and a credit on
abbrev pub with_pieces_put : Tables → ℕ → ℕ → ℕ → ℕ → List PieceRow → Tables
with_pieces_put v e month day serial news = record v { pieces = with_pieces e month day serial news v.pieces }

-- new pieces of a firm can be put so: the keys of each are free among those that are left, and stand once, and all are
-- then in order
pub record ArePuttable (v : Tables) (e month day serial : ℕ) (news : List PieceRow) : Type 0 where
  pub free : AreNew piece_key (without_rows piece_key (is_piece_key_from e month day serial) v.pieces) news
  pub once : AreOnce piece_key news
  pub in_order : AreInOrder piece_key (with_pieces e month day serial news v.pieces)

-- ---- the rows of a firm

pub contribution_rows-own : (t : Tables) (e : ℕ) → AllByRecursion (λ row. row.employer ≡ e) (contribution_rows t e)
contribution_rows-own t e = own t.credits
  where
    own : (rows : List CreditRow) → AllByRecursion (λ (row : CreditRow). row.employer ≡ e) (filter (is_credit_of e Contribution) rows)
    own [] = tt
    own (row ∷ rows) = told (is_credit_of e Contribution row) refl (own rows)
      where
        told : (b : Bool) → is_credit_of e Contribution row ≡ b → AllByRecursion (λ (r : CreditRow). r.employer ≡ e) (filter (is_credit_of e Contribution) rows)
            → AllByRecursion (λ (r : CreditRow). r.employer ≡ e) (cond b (row ∷ filter (is_credit_of e Contribution) rows) (filter (is_credit_of e Contribution) rows))
        told true is rest = ((own_credit e Contribution row is).0, rest)
        told false is rest = rest

pub pieces_from-own : (v : Tables) (e a b : ℕ) → AllByRecursion (IsOf e) (pieces_from v e a b)
pieces_from-own v e a b =
    pieces_left-own e (charged_up_to (kept_charges v e) a) (credited_up_to (table_credits v e) b) (drop a (kept_charges v e)) (drop b (contribution_rows v e))
    (all_drop (λ (row : CreditRow). row.employer ≡ e) b (contribution_rows v e) (contribution_rows-own v e))

-- what g leaves doesn't go by the pieces
pub leaves_before : (g : PieceRow → PieceRow) (t v : Tables) (e : ℕ) (rows : List PieceRow) → LeavesChanged g t (record v { pieces = rows }) e → LeavesChanged g t v e
leaves_before g t v e rows leaves = record { charges = leaves.charges; credits = leaves.credits }

-- ---- a firm of which nothing has changed

pub still_allocated : (g : PieceRow → PieceRow) (t v : Tables) (e : ℕ) → pieces_in e v ≡ pieces_in e t → kept_charges v e ≡ kept_charges t e → contribution_rows v e ≡ contribution_rows t e → IsAllocated g t e → IsAllocated g v e
still_allocated g t v e there charges rows allocated =
    there ∙ allocated ∙ sym (λ i. map g (pieces_for (charges i) (rows i)))

-- another firm's pieces are put
pub others_left : (v : Tables) (e month day serial f : ℕ) (news : List PieceRow) → (f == e) ≡ false → AllByRecursion (IsOf e) news → pieces_in f (with_pieces_put v e month day serial news) ≡ pieces_in f v
others_left v e month day serial f news apart own = with_pieces-other e month day serial f apart news v.pieces own

-- ---- a firm of which something has changed

module _ (e month day serial : ℕ) (g : PieceRow → PieceRow) (keeps : KeepsKeys g) (v : Tables) (news old new : List PieceRow) (order : AreInOrder piece_key v.pieces)
    (there : pieces_in e v ≡ map g old) (own : AllByRecursion (IsOf e) news)
    (plain : without_rows piece_key (is_piece_key_from e month day serial) (map (λ r. r) old) ++ news ≡ map (λ r. r) new) (rises : AreInOrder piece_key new) where
  plainly : without_rows piece_key (is_piece_key_from e month day serial) old ++ news ≡ new
  plainly = ap (λ rows. without_rows piece_key (is_piece_key_from e month day serial) rows ++ news) (sym (map-id old)) ∙ plain ∙ map-id new

  puttable : ArePuttable v e month day serial news
  puttable = record {
    free = news_free e month day serial g keeps v.pieces news old new order there own plainly rises;
    once = news_once e month day serial g keeps v.pieces news old new order there own plainly rises;
    in_order = with_pieces-in_order e month day serial g keeps v.pieces news old new order there own plainly rises;
  }

  put_right : without_rows piece_key (is_piece_key_from e month day serial) (map g old) ++ news ≡ map g new → pieces_in e (with_pieces_put v e month day serial news) ≡ map g new
  put_right = with_pieces-own e month day serial g keeps v.pieces news old new order there own plainly rises

same_itself : KeepsKeys (λ r. r)
same_itself = record { employer = λ r. refl; month = λ r. refl; day = λ r. refl; serial = λ r. refl; reference = λ r. refl }

module _ (g : PieceRow → PieceRow) (keeps : KeepsKeys g) (t v : Tables) (e : ℕ) (order : AreInOrder piece_key v.pieces) (there : pieces_in e v ≡ pieces_in e t) (allocated : IsAllocated g t e)
    (before : IsAccount (kept_charges t e) (table_credits t e)) (after : IsAccount (kept_charges v e) (table_credits v e)) where
  -- ---- a contribution is another one, or new

  module _ (m place a b : ℕ) (rows : contribution_rows v e ≡ contribution_rows t e) (same : charges_before m (kept_charges t e) ≡ charges_before m (kept_charges v e))
      (at : place ≡ charged (charges_before m (kept_charges v e))) (ends_c : Ends (λ c. c.cents) (kept_charges v e) place a) (ends_k : Ends (λ k. k.cents) (table_credits v e) place b) where
    earlier : IsAccount (kept_charges t e) (table_credits v e)
    earlier = subst (λ (rs : List CreditRow). IsAccount (kept_charges t e) (map row_credit rs)) (sym rows) before

    kept_of : pieces_in e v ≡ map g (pieces_for (kept_charges t e) (contribution_rows v e))
    kept_of = there ∙ allocated ∙ ap (λ (rs : List CreditRow). map g (pieces_for (kept_charges t e) rs)) (sym rows)

    charge_told : b < length (table_credits v e) → (h : PieceRow → PieceRow) → KeepsKeys h → Leaves h e (drop a (kept_charges v e))
        → without_rows piece_key (is_piece_key_from e m (credit_at (table_credits v e) b).day (credit_at (table_credits v e) b).serial) (map h (pieces_for (kept_charges t e) (contribution_rows v e))) ++ pieces_from v e a b
        ≡ map h (pieces_for (kept_charges v e) (contribution_rows v e))
    charge_told within h keep leaves =
        charge_rewritten e (kept_charges t e) (kept_charges v e) (contribution_rows v e) m place (contribution_rows-own v e) earlier after same at a b ends_c ends_k within h keep leaves

    pub charge_puttable : b < length (table_credits v e) → ArePuttable v e m (credit_at (table_credits v e) b).day (credit_at (table_credits v e) b).serial (pieces_from v e a b)
    charge_puttable within =
        puttable e m (credit_at (table_credits v e) b).day (credit_at (table_credits v e) b).serial g keeps v (pieces_from v e a b)
        (pieces_for (kept_charges t e) (contribution_rows v e)) (pieces_for (kept_charges v e) (contribution_rows v e)) order kept_of (pieces_from-own v e a b)
        (charge_told within (λ r. r) same_itself (λ j d lt r is month. refl))
        (pieces_for-in_order e (kept_charges v e) (contribution_rows v e) (contribution_rows-own v e) after)

    pub charge_allocated : b < length (table_credits v e) → find (λ c. c.month == m) (kept_charges t e) ≢ find (λ c. c.month == m) (kept_charges v e)
        → LeavesChanged g t (with_pieces_put v e m (credit_at (table_credits v e) b).day (credit_at (table_credits v e) b).serial (pieces_from v e a b)) e
        → IsAllocated g (with_pieces_put v e m (credit_at (table_credits v e) b).day (credit_at (table_credits v e) b).serial (pieces_from v e a b)) e
    charge_allocated within differs leaves =
        put_right e m (credit_at (table_credits v e) b).day (credit_at (table_credits v e) b).serial g keeps v (pieces_from v e a b)
        (pieces_for (kept_charges t e) (contribution_rows v e)) (pieces_for (kept_charges v e) (contribution_rows v e)) order kept_of (pieces_from-own v e a b)
        (charge_told within (λ r. r) same_itself (λ j d lt r is month. refl))
        (pieces_for-in_order e (kept_charges v e) (contribution_rows v e) (contribution_rows-own v e) after)
        (charge_told within g keeps
        (leaves_beyond g e (kept_charges v e) place a ends_c (subst (LeavesBeyond g e (kept_charges v e)) (sym at) (leaves.charges m (same, differs)))))

    -- no credit reaches beyond the place
    pub charge_left : length (table_credits v e) ≤ b → IsAllocated g v e
    charge_left past =
        kept_of
        ∙ ap (map g) (charge_unchanged e (kept_charges t e) (kept_charges v e) (contribution_rows v e) m place (contribution_rows-own v e) earlier after same at b ends_k past)

  -- ---- credits are put in

  module _ (first : Credit) (place a b : ℕ) (charges : kept_charges v e ≡ kept_charges t e) (kept : All (Contains (contribution_rows v e)) (contribution_rows t e))
      (same : credits_before first (table_credits t e) ≡ credits_before first (table_credits v e))
      (at : place ≡ credited (credits_before first (table_credits v e))) (ends_c : Ends (λ c. c.cents) (kept_charges v e) place a) (ends_k : Ends (λ k. k.cents) (table_credits v e) place b) where
    so_far : IsAccount (kept_charges v e) (table_credits t e)
    so_far = subst (λ (cs : List Charge). IsAccount cs (table_credits t e)) (sym charges) before

    kept_for : pieces_in e v ≡ map g (pieces_for (kept_charges v e) (contribution_rows t e))
    kept_for = there ∙ allocated ∙ ap (λ (cs : List Charge). map g (pieces_for cs (contribution_rows t e))) (sym charges)

    credits_told : a < length (kept_charges v e) → (h : PieceRow → PieceRow) → KeepsKeys h → Leaves h e (drop a (kept_charges v e))
        → without_rows piece_key (is_piece_key_from e (charge_at (kept_charges v e) a).month first.day first.serial) (map h (pieces_for (kept_charges v e) (contribution_rows t e))) ++ pieces_from v e a b
        ≡ map h (pieces_for (kept_charges v e) (contribution_rows v e))
    credits_told within h keep leaves =
        credits_rewritten e (kept_charges v e) (contribution_rows t e) (contribution_rows v e) first place (contribution_rows-own v e) kept so_far after same at a b ends_c ends_k within h keep leaves

    pub credits_puttable : a < length (kept_charges v e) → ArePuttable v e (charge_at (kept_charges v e) a).month first.day first.serial (pieces_from v e a b)
    credits_puttable within =
        puttable e (charge_at (kept_charges v e) a).month first.day first.serial g keeps v (pieces_from v e a b)
        (pieces_for (kept_charges v e) (contribution_rows t e)) (pieces_for (kept_charges v e) (contribution_rows v e)) order kept_for (pieces_from-own v e a b)
        (credits_told within (λ r. r) same_itself (λ j d lt r is month. refl))
        (pieces_for-in_order e (kept_charges v e) (contribution_rows v e) (contribution_rows-own v e) after)

    pub credits_allocated : a < length (kept_charges v e) → Any (λ l. l ≡ first) (table_credits v e) → ¬ Any (λ l. l ≡ first) (table_credits t e)
        → LeavesChanged g t (with_pieces_put v e (charge_at (kept_charges v e) a).month first.day first.serial (pieces_from v e a b)) e
        → IsAllocated g (with_pieces_put v e (charge_at (kept_charges v e) a).month first.day first.serial (pieces_from v e a b)) e
    credits_allocated within new not_old leaves =
        put_right e (charge_at (kept_charges v e) a).month first.day first.serial g keeps v (pieces_from v e a b)
        (pieces_for (kept_charges v e) (contribution_rows t e)) (pieces_for (kept_charges v e) (contribution_rows v e)) order kept_for (pieces_from-own v e a b)
        (credits_told within (λ r. r) same_itself (λ j d lt r is month. refl))
        (pieces_for-in_order e (kept_charges v e) (contribution_rows v e) (contribution_rows-own v e) after)
        (credits_told within g keeps
        (leaves_beyond g e (kept_charges v e) place a ends_c (subst (LeavesBeyond g e (kept_charges v e)) (sym at) (leaves.credits first (same, new, not_old)))))

    -- no contribution reaches beyond the place
    pub credits_left : length (kept_charges v e) ≤ a → IsAllocated g v e
    credits_left past =
        kept_for
        ∙ ap (map g) (credits_unchanged e (kept_charges v e) (contribution_rows t e) (contribution_rows v e) first place (contribution_rows-own v e) kept so_far after same at a ends_c past)
