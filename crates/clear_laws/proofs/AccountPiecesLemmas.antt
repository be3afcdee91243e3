-- The rows of an account's pieces, where a contribution changes or credits are put in: which are taken out, and which are
-- put behind the others.
use Rattle.std.proofs.Common.{◌≡◌, ℕ, zero, suc, ◌+◌, ◌<◌, ◌≤◌, List, [], ◌∷◌, ◌++◌, length, get_or, map, take, drop, sym, ap, ◌∙◌, subst, arith}
use Rattle.std.proofs.lemmas.List.{drop-map, get_or-drop, get_or_default, length-drop, map-append}
use Rattle.std.proofs.lemmas.List.Elements.{All-contains, All-from_recursion, All-weaker, recursion_from_All}
use Rattle.std.proofs.lemmas.List.Sums.{sum_by-cons}
use Rattle.std.specs.List.{All, AllByRecursion, Contains, sum_by}
use Rattle.clear_account.specs.Account.{IsAccount, charge_at, charged, charged_up_to, credit_at, credited, credited_up_to}
use Rattle.clear_account.specs.Places.{Ends}
use Rattle.clear_account.specs.declared.entries.Charge.{Charge}
use Rattle.clear_account.specs.declared.entries.Credit.{Credit}
use Rattle.clear_kept.specs.Changes.{charges_before, cleared, credits_before}
use Rattle.clear_kept.specs.Dated.{dated_behind, dated_pieces}
use Rattle.clear_kept.proofs.LawLemmas.{charge_leaves_all, charge_rewrites, credits_leave_all, credits_rewrite}
use Rattle.clear_values.specs.Keyed.{without_rows}
use Rattle.clear_values.specs.Tables.{is_piece_key_from, piece_key}
use Rattle.clear_values.specs.declared.rows.CreditRow.{CreditRow}
use Rattle.clear_values.specs.declared.rows.PieceRow.{PieceRow}
use Rattle.clear_book.specs.Accounts.{row_credit}
use Rattle.clear_book.specs.Allocated.{KeepsKeys, LeavesBeyond, pieces_left}
use Rattle.clear_laws.proofs.PieceRowLemmas.{Refers, blurred, blurs, map-blurred, pieces_for, pieces_for-dated, pieces_left-dated, refer, reference_in, rowed, without-dated}

-- ---- what g leaves

-- of the contributions from a on, which reach beyond the place
abbrev pub Leaves : (PieceRow → PieceRow) → ℕ → List Charge → Type 0
Leaves g e charges = All (λ c. (r : PieceRow) → r.employer ≡ e → r.month ≡ c.month → g r ≡ r) charges

up_to_grows : {X : Type 0} (f : X → ℕ) (a k : ℕ) (xs : List X) → sum_by f (take a xs) ≤ sum_by f (take (a + k) xs)
up_to_grows f zero k xs = omega arith
up_to_grows f (suc a) k [] = omega arith
up_to_grows f (suc a) k (x ∷ xs) =
    let more : suc a + k ≡ suc (a + k) = omega arith in
    subst (λ n. sum_by f (take (suc a) (x ∷ xs)) ≤ sum_by f (take n (x ∷ xs))) (sym more)
    (omega (arith, up_to_grows f a k xs, sum_by-cons f x (take a xs), sum_by-cons f x (take (a + k) xs)))

pub leaves_beyond : (g : PieceRow → PieceRow) (e : ℕ) (charges : List Charge) (place a : ℕ) → Ends (λ c. c.cents) charges place a → LeavesBeyond g e charges place → Leaves g e (drop a charges)
leaves_beyond g e charges place a ends leaves j d lt row of_firm month =
    let within : a + j < length charges = omega (arith, length-drop a charges) in
    let one : a + j + 1 ≡ a + 1 + j = omega arith in
    let far : place < charged_up_to charges (a + j + 1) =
    subst (λ n. place < charged_up_to charges n) (sym one) (omega (arith, ends.beyond (omega arith), up_to_grows (λ (c : Charge). c.cents) (a + 1) j charges)) in
    let here : get_or (drop a charges) j d ≡ charge_at charges (a + j) = get_or-drop a charges j d ∙ get_or_default charges (a + j) d (record { month = 0; due = 0; cents = 0 }) within in
    leaves (a + j) within far row of_firm (month ∙ ap (λ (c : Charge). c.month) here)

-- ---- from dated pieces to rows

pub all_drop : {X : Type 0} (P : X → Type 0) (n : ℕ) (xs : List X) → AllByRecursion P xs → AllByRecursion P (drop n xs)
all_drop P zero xs all = all
all_drop P (suc n) [] all = all
all_drop P (suc n) (x ∷ xs) all = all_drop P n xs all.1

module _ (e : ℕ) (reference : ℕ → List ℕ) (g : PieceRow → PieceRow) (keeps : KeepsKeys g) where
  -- what is taken out of dated pieces and put behind them is so of their rows
  rows_rewritten : (cs cs2 left : List Charge) (rows rows2 behind : List CreditRow) (month s p : ℕ) (k : Credit)
      → AllByRecursion (Refers e reference) rows → AllByRecursion (Refers e reference) rows2 → AllByRecursion (Refers e reference) behind
      → cleared month k (map (blurred e reference g keeps) (dated_pieces cs (map row_credit rows))) ++ dated_behind s p left (map row_credit behind) ≡ map (blurred e reference g keeps) (dated_pieces cs2 (map row_credit rows2))
      → without_rows piece_key (is_piece_key_from e month k.day k.serial) (map g (pieces_for cs rows)) ++ pieces_left s p left behind ≡ map g (pieces_for cs2 rows2)
  rows_rewritten cs cs2 left rows rows2 behind month s p k refers refers2 refers3 law =
      let show : List _ → List PieceRow = map (rowed e reference) in
      let blur : List _ → List _ = map (blurred e reference g keeps) in
      let old : List _ = dated_pieces cs (map row_credit rows) in
      let new : List _ = dated_pieces cs2 (map row_credit rows2) in
      let fresh : List _ = dated_behind s p left (map row_credit behind) in
      (λ i. without_rows piece_key (is_piece_key_from e month k.day k.serial) (map g (pieces_for-dated e reference cs rows refers i)) ++ pieces_left-dated e reference left behind refers3 s p i)
      ∙ ap (λ (ps : List PieceRow). without_rows piece_key (is_piece_key_from e month k.day k.serial) ps ++ show fresh) (map-blurred e reference g keeps old)
      ∙ ap (λ (ps : List PieceRow). ps ++ show fresh) (without-dated e reference month k (blur old))
      ∙ sym (map-append (rowed e reference) (cleared month k (blur old)) fresh)
      ∙ ap show law
      ∙ sym (map-blurred e reference g keeps new)
      ∙ sym (ap (map g) (pieces_for-dated e reference cs2 rows2 refers2))

-- ---- a contribution that changes

module _ (e : ℕ) (old new : List Charge) (rows : List CreditRow) (m place : ℕ) (own : AllByRecursion (λ row. row.employer ≡ e) rows)
    (before : IsAccount old (map row_credit rows)) (after : IsAccount new (map row_credit rows))
    (same : charges_before m old ≡ charges_before m new) (at : place ≡ charged (charges_before m new)) where
  refers_all : AllByRecursion (Refers e (reference_in rows)) rows
  refers_all = refer e rows own before.serials_differ

  pub charge_rewritten : (a b : ℕ) → Ends (λ c. c.cents) new place a → Ends (λ k. k.cents) (map row_credit rows) place b → b < length (map row_credit rows)
      → (g : PieceRow → PieceRow) → KeepsKeys g → Leaves g e (drop a new)
      → without_rows piece_key (is_piece_key_from e m (credit_at (map row_credit rows) b).day (credit_at (map row_credit rows) b).serial) (map g (pieces_for old rows))
      ++ pieces_left (charged_up_to new a) (credited_up_to (map row_credit rows) b) (drop a new) (drop b rows)
      ≡ map g (pieces_for new rows)
  charge_rewritten a b ends_c ends_k within g keeps leaves =
      let reference : ℕ → List ℕ = reference_in rows in
      let credits : List Credit = map row_credit rows in
      let blur : List _ → List _ = map (blurred e reference g keeps) in
      let left : List Charge = drop a new in
      rows_rewritten e reference g keeps old new left rows rows (drop b rows) m (charged_up_to new a) (credited_up_to credits b) (credit_at credits b)
      refers_all refers_all (all_drop (Refers e reference) b rows refers_all)
      (ap (λ (ks : List Credit). cleared m (credit_at credits b) (blur (dated_pieces old credits)) ++ dated_behind (charged_up_to new a) (credited_up_to credits b) left ks) (sym (drop-map row_credit b rows))
      ∙ charge_rewrites old new credits m place a b (blurred e reference g keeps) before after same at ends_c ends_k within (blurs e reference g keeps left leaves))

  -- nothing, where no credit reaches beyond the place
  pub charge_unchanged : (b : ℕ) → Ends (λ k. k.cents) (map row_credit rows) place b → length (map row_credit rows) ≤ b → pieces_for old rows ≡ pieces_for new rows
  charge_unchanged b ends_k past =
      pieces_for-dated e (reference_in rows) old rows refers_all
      ∙ ap (map (rowed e (reference_in rows))) (charge_leaves_all old new (map row_credit rows) m place b before after same at ends_k past)
      ∙ sym (pieces_for-dated e (reference_in rows) new rows refers_all)

-- ---- credits that are put in

module _ (e : ℕ) (charges : List Charge) (old new : List CreditRow) (first : Credit) (place : ℕ) (own : AllByRecursion (λ row. row.employer ≡ e) new) (kept : All (Contains new) old)
    (before : IsAccount charges (map row_credit old)) (after : IsAccount charges (map row_credit new))
    (same : credits_before first (map row_credit old) ≡ credits_before first (map row_credit new)) (at : place ≡ credited (credits_before first (map row_credit new))) where
  refers_new : AllByRecursion (Refers e (reference_in new)) new
  refers_new = refer e new own after.serials_differ

  refers_old : AllByRecursion (Refers e (reference_in new)) old
  refers_old =
      let P : CreditRow → Type 0 = Refers e (reference_in new) in
      recursion_from_All P old (All-weaker (Contains new) P (λ row there. All-contains P new row (All-from_recursion P new refers_new) there) old kept)

  pub credits_rewritten : (a b : ℕ) → Ends (λ c. c.cents) charges place a → Ends (λ k. k.cents) (map row_credit new) place b → a < length charges
      → (g : PieceRow → PieceRow) → KeepsKeys g → Leaves g e (drop a charges)
      → without_rows piece_key (is_piece_key_from e (charge_at charges a).month first.day first.serial) (map g (pieces_for charges old))
      ++ pieces_left (charged_up_to charges a) (credited_up_to (map row_credit new) b) (drop a charges) (drop b new)
      ≡ map g (pieces_for charges new)
  credits_rewritten a b ends_c ends_k within g keeps leaves =
      let reference : ℕ → List ℕ = reference_in new in
      let credits : List Credit = map row_credit new in
      let blur : List _ → List _ = map (blurred e reference g keeps) in
      let left : List Charge = drop a charges in
      let month : ℕ = (charge_at charges a).month in
      rows_rewritten e reference g keeps charges charges left old new (drop b new) month (charged_up_to charges a) (credited_up_to credits b) first
      refers_old refers_new (all_drop (Refers e reference) b new refers_new)
      (ap (λ (ks : List Credit). cleared month first (blur (dated_pieces charges (map row_credit old))) ++ dated_behind (charged_up_to charges a) (credited_up_to credits b) left ks) (sym (drop-map row_credit b new))
      ∙ credits_rewrite charges (map row_credit old) credits first place a b (blurred e reference g keeps) before after same at ends_c ends_k within (blurs e reference g keeps left leaves))

  -- nothing, where no contribution reaches beyond the place
  pub credits_unchanged : (a : ℕ) → Ends (λ c. c.cents) charges place a → length charges ≤ a → pieces_for charges old ≡ pieces_for charges new
  credits_unchanged a ends_c past =
      pieces_for-dated e (reference_in new) charges old refers_old
      ∙ ap (map (rowed e (reference_in new))) (credits_leave_all charges (map row_credit old) (map row_credit new) first place a before after same at ends_c past)
      ∙ sym (pieces_for-dated e (reference_in new) charges new refers_new)
