-- What a change leaves of the rows, and what it writes anew.
use Rattle.std.proofs.Common.{◌≡◌, ℕ, ◌+◌, ◌<◌, ◌≤◌, Bool, true, false, nat_le, List, [], ◌∷◌, ◌++◌, map, inl, inr, refl, sym, ap, subst, ◌∙◌, arith}
use Rattle.std.specs.Prelude.{◌&&◌, not}
use Rattle.std.specs.List.{All, filter}
use Rattle.std.proofs.lemmas.Bool.{le-leb, lt-leb}
use Rattle.std.proofs.lemmas.List.{append-nil, map-append}
use Rattle.std.proofs.lemmas.List.Elements.{All-append, All-weaker, filter-append}
use Rattle.std.proofs.lemmas.List.Folds.{map_fixed}
use Rattle.clear_account.specs.declared.entries.Charge.{Charge}
use Rattle.clear_account.specs.declared.entries.Credit.{Credit}
use Rattle.clear_account.specs.Account.{charged, comes_before, credited}
use Rattle.clear_account.proofs.GridLemmas.{Reaches, below, cell, grid, grid_cut, grid_each, grid_late, line, line_reaching, parts_from-append}
use Rattle.clear_account.proofs.PlaceLemmas.{filter_all, filter_none}
use Rattle.clear_account.proofs.WalkLemmas.{grid_all}
use Rattle.clear_kept.specs.declared.rows.DatedPiece.{DatedPiece}
use Rattle.clear_kept.specs.Changes.{Blurs, cleared, is_from}
use Rattle.clear_kept.specs.Dated.{dated_behind, dated_piece_of, dated_pieces}
use Rattle.clear_kept.proofs.RowLemmas.{dated_behind-walk, dated_pieces-walk, filter-map, no_row, row_each}

-- ---- which rows are removed
stays_earlier : (m n : ℕ) (v : Bool) → n < m → not (nat_le m n && v) ≡ true
stays_earlier m n v h = ap (λ b. not (b && v)) (lt-leb m n h)

stays_before : (u v : Bool) → v ≡ true → not (u && not v) ≡ true
stays_before true v is = ap (λ b. not (not b)) is
stays_before false v is = refl

goes : (m n : ℕ) (v : Bool) → m ≤ n → v ≡ false → not (nat_le m n && not v) ≡ false
goes m n v h is = (λ i. not (le-leb m n h i && not (is i)))

pub not_true : (v : Bool) → not v ≡ true → v ≡ false
not_true true is = sym is
not_true false is = refl

not_false : (v : Bool) → not v ≡ false → v ≡ true
not_false true is = refl
not_false false is = sym is

-- the rows that end at or below a place
abbrev pub low : ℕ → ℕ → ℕ → List Charge → List Credit → List DatedPiece
low place s p cs ks = grid dated_piece_of no_row (below dated_piece_of no_row place) s p cs ks

abbrev low_line : ℕ → ℕ → ℕ → Charge → ℕ → List Credit → List DatedPiece
low_line place s e c p ks = line dated_piece_of no_row (below dated_piece_of no_row place) s e c p ks

-- where payments reach beyond the place, a charge that does has the rows of those before them
line_cut : (place s e : ℕ) (c : Charge) (p : ℕ) (us vs : List Credit) → place < e → Reaches place (λ (k : Credit). k.cents) (p + credited us) vs → low_line place s e c p (us ++ vs) ≡ low_line place s e c p us
line_cut place s e c p us vs far near =
    parts_from-append (λ (k : Credit). k.cents) (λ q r k. cell dated_piece_of no_row (below dated_piece_of no_row place) s e c q r k) p us vs
    ∙ ap (λ ys. low_line place s e c p us ++ ys) (line_reaching dated_piece_of no_row place s e c (p + credited us) vs (inr far) near)
    ∙ append-nil (low_line place s e c p us)

grid_cut_credits : (place s p : ℕ) (bs : List Charge) (us vs : List Credit) → Reaches place (λ (c : Charge). c.cents) s bs → Reaches place (λ (k : Credit). k.cents) (p + credited us) vs → low place s p bs (us ++ vs) ≡ low place s p bs us
grid_cut_credits place s p [] us vs far near = refl
grid_cut_credits place s p (b ∷ bs) us vs (inl at) near =
    grid_late dated_piece_of no_row place s p (b ∷ bs) (us ++ vs) (omega arith)
    ∙ sym (grid_late dated_piece_of no_row place s p (b ∷ bs) us (omega arith))
grid_cut_credits place s p (b ∷ bs) us vs (inr far) near =
    (λ i. line_cut place s (s + b.cents) b p us vs far near i ++ (grid_late dated_piece_of no_row place (s + b.cents) p bs (us ++ vs) (omega arith) ∙ sym (grid_late dated_piece_of no_row place (s + b.cents) p bs us (omega arith))) i)

-- what ends at or below the place has a charge or a payment that does
grid_low : (place s p : ℕ) (ds bs : List Charge) (us vs : List Credit) → Reaches place (λ (c : Charge). c.cents) (s + charged ds) bs → Reaches place (λ (k : Credit). k.cents) (p + credited us) vs → low place s p (ds ++ bs) (us ++ vs) ≡ low place s p ds (us ++ vs) ++ low place (s + charged ds) p bs us
grid_low place s p ds bs us vs far near =
    parts_from-append (λ (c : Charge). c.cents) (λ t e c. low_line place t e c p (us ++ vs)) s ds bs
    ∙ ap (λ ys. low place s p ds (us ++ vs) ++ ys) (grid_cut_credits place (s + charged ds) p bs us vs far near)

-- the lists of charges and of payments, each parted by the place, before and after a change
module _ (place : ℕ) (ds bs : List Charge) (us vs : List Credit) (charges_end : charged ds ≤ place) (credits_end : credited us ≤ place) (far : Reaches place (λ (c : Charge). c.cents) (charged ds) bs) (near : Reaches place (λ (k : Credit). k.cents) (credited us) vs) where
  zero_s : 0 + charged ds ≡ charged ds
  zero_s = omega arith

  zero_p : 0 + credited us ≡ credited us
  zero_p = omega arith

  far_0 : Reaches place (λ (c : Charge). c.cents) (0 + charged ds) bs
  far_0 = subst (λ n. Reaches place (λ (c : Charge). c.cents) n bs) (sym zero_s) far

  near_0 : Reaches place (λ (k : Credit). k.cents) (0 + credited us) vs
  near_0 = subst (λ n. Reaches place (λ (k : Credit). k.cents) n vs) (sym zero_p) near

  pub parted : dated_pieces (ds ++ bs) (us ++ vs) ≡ low place 0 0 (ds ++ bs) (us ++ vs) ++ dated_behind (charged ds) (credited us) bs vs
  parted =
      dated_pieces-walk (ds ++ bs) (us ++ vs)
      ∙ grid_cut dated_piece_of no_row place 0 0 ds bs us vs (omega arith) (omega arith) far_0 near_0
      ∙ (λ i. low place 0 0 (ds ++ bs) (us ++ vs) ++ grid_all dated_piece_of (zero_s i) (zero_p i) bs vs)
      ∙ ap (λ ys. low place 0 0 (ds ++ bs) (us ++ vs) ++ ys) (sym (dated_behind-walk (charged ds) (credited us) bs vs))

  module _ (month : ℕ) (k : Credit) (earlier : All (λ c. c.month < month) ds) (later : All (λ c. month ≤ c.month) bs) (before : All (λ l. comes_before l k ≡ true) us) (from : All (λ l. comes_before l k ≡ false) vs) where
    abbrev Stays : DatedPiece → Type 0
    Stays r = not (is_from month k r) ≡ true

    abbrev Goes : DatedPiece → Type 0
    Goes r = not (is_from month k r) ≡ false

    low_stays : All Stays (low place 0 0 (ds ++ bs) (us ++ vs))
    low_stays =
        let all : All (λ (l : Credit). Unit) (us ++ vs) = (λ i d lt. tt) in
        let every : All (λ (c : Charge). Unit) bs = (λ i d lt. tt) in
        subst (All Stays) (sym (grid_low place 0 0 ds bs us vs far_0 near_0))
        (All-append Stays (low place 0 0 ds (us ++ vs)) (low place (0 + charged ds) 0 bs us)
        (grid_each dated_piece_of no_row Stays (λ c. c.month < month) (λ l. Unit) (λ c l n h u. row_each Stays c l n (λ z. stays_earlier month c.month (not (comes_before l k)) h)) (below dated_piece_of no_row place) 0 0 ds (us ++ vs) earlier all)
        (grid_each dated_piece_of no_row Stays (λ c. Unit) (λ l. comes_before l k ≡ true) (λ c l n u is. row_each Stays c l n (λ z. stays_before (nat_le month c.month) (comes_before l k) is)) (below dated_piece_of no_row place) (0 + charged ds) 0 bs us every before))

    behind_goes : All Goes (dated_behind (charged ds) (credited us) bs vs)
    behind_goes =
        subst (All Goes) (sym (dated_behind-walk (charged ds) (credited us) bs vs))
        (grid_each dated_piece_of no_row Goes (λ c. month ≤ c.month) (λ l. comes_before l k ≡ false) (λ c l n h is. row_each Goes c l n (λ z. goes month c.month (comes_before l k) h is)) (λ n. true) (charged ds) (credited us) bs vs later from)

    pub cleared_is : cleared month k (dated_pieces (ds ++ bs) (us ++ vs)) ≡ low place 0 0 (ds ++ bs) (us ++ vs)
    cleared_is =
        ap (cleared month k) parted
        ∙ filter-append (λ r. not (is_from month k r)) (low place 0 0 (ds ++ bs) (us ++ vs)) (dated_behind (charged ds) (credited us) bs vs)
        ∙ (λ i. filter_all (λ r. not (is_from month k r)) (low place 0 0 (ds ++ bs) (us ++ vs)) low_stays i ++ filter_none (λ r. not (is_from month k r)) (dated_behind (charged ds) (credited us) bs vs) behind_goes i)
        ∙ append-nil (low place 0 0 (ds ++ bs) (us ++ vs))

    -- and those that are removed are the ones behind
    pub removed_is : filter (is_from month k) (dated_pieces (ds ++ bs) (us ++ vs)) ≡ dated_behind (charged ds) (credited us) bs vs
    removed_is =
        ap (filter (is_from month k)) parted
        ∙ filter-append (is_from month k) (low place 0 0 (ds ++ bs) (us ++ vs)) (dated_behind (charged ds) (credited us) bs vs)
        ∙ (λ i. filter_none (is_from month k) (low place 0 0 (ds ++ bs) (us ++ vs)) (All-weaker Stays (λ r. is_from month k r ≡ false) (λ r. not_true (is_from month k r)) (low place 0 0 (ds ++ bs) (us ++ vs)) low_stays) i ++ filter_all (is_from month k) (dated_behind (charged ds) (credited us) bs vs) (All-weaker Goes (λ r. is_from month k r ≡ true) (λ r. not_false (is_from month k r)) (dated_behind (charged ds) (credited us) bs vs) behind_goes) i)

  -- rows of charges beyond the place are not blurred
  pub behind_blurred : (g : DatedPiece → DatedPiece) → Blurs g bs → map g (dated_behind (charged ds) (credited us) bs vs) ≡ dated_behind (charged ds) (credited us) bs vs
  behind_blurred g blurs =
      map_fixed g (dated_behind (charged ds) (credited us) bs vs)
      (subst (All (λ r. g r ≡ r)) (sym (dated_behind-walk (charged ds) (credited us) bs vs))
      (grid_each dated_piece_of no_row (λ r. g r ≡ r) (λ c. (r : DatedPiece) → r.month ≡ c.month → g r ≡ r) (λ l. Unit) (λ c l n same u. row_each (λ r. g r ≡ r) c l n (λ z. same (record { month = c.month; day = l.day; serial = l.serial; cents = z }) refl)) (λ n. true) (charged ds) (credited us) bs vs blurs.leaves (λ i d lt. tt)))

-- a removed row is known by what is not blurred
blurred_from : (g : DatedPiece → DatedPiece) (cs : List Charge) (month : ℕ) (k : Credit) → Blurs g cs → (r : DatedPiece) → not (is_from month k (g r)) ≡ not (is_from month k r)
blurred_from g cs month k blurs r = (λ i. not (nat_le month (blurs.month r i) && not (comes_before (record { day = blurs.day r i; serial = blurs.serial r i; cents = 0 }) k)))

-- ---- a change
module _ (place : ℕ) (cs ds bs : List Charge) (ks us vs : List Credit) (is_cs : cs ≡ ds ++ bs) (is_ks : ks ≡ us ++ vs) (charges_end : charged ds ≤ place) (credits_end : credited us ≤ place) (far : Reaches place (λ (c : Charge). c.cents) (charged ds) bs) (near : Reaches place (λ (k : Credit). k.cents) (credited us) vs)
    (cs2 ds2 bs2 : List Charge) (ks2 us2 vs2 : List Credit) (is_cs2 : cs2 ≡ ds2 ++ bs2) (is_ks2 : ks2 ≡ us2 ++ vs2) (charges_end2 : charged ds2 ≤ place) (credits_end2 : credited us2 ≤ place) (far2 : Reaches place (λ (c : Charge). c.cents) (charged ds2) bs2) (near2 : Reaches place (λ (k : Credit). k.cents) (credited us2) vs2)
    (same : low place 0 0 cs ks ≡ low place 0 0 cs2 ks2) where
  low_same : low place 0 0 (ds ++ bs) (us ++ vs) ≡ low place 0 0 (ds2 ++ bs2) (us2 ++ vs2)
  low_same = (λ i. low place 0 0 (sym is_cs i) (sym is_ks i)) ∙ same ∙ (λ i. low place 0 0 (is_cs2 i) (is_ks2 i))

  pub rewritten : (month : ℕ) (k : Credit) (g : DatedPiece → DatedPiece) → All (λ c. c.month < month) ds → All (λ c. month ≤ c.month) bs → All (λ l. comes_before l k ≡ true) us → All (λ l. comes_before l k ≡ false) vs → Blurs g bs2 → cleared month k (map g (dated_pieces cs ks)) ++ dated_behind (charged ds2) (credited us2) bs2 vs2 ≡ map g (dated_pieces cs2 ks2)
  rewritten month k g earlier later before from blurs =
      let left : List DatedPiece = low place 0 0 (ds2 ++ bs2) (us2 ++ vs2) in
      let fresh : List DatedPiece = dated_behind (charged ds2) (credited us2) bs2 vs2 in
      (λ i. cleared month k (map g (dated_pieces (is_cs i) (is_ks i))) ++ fresh)
      ∙ ap (λ ys. ys ++ fresh) (filter-map (λ r. not (is_from month k r)) g (blurred_from g bs2 month k blurs) (dated_pieces (ds ++ bs) (us ++ vs)))
      ∙ ap (λ ys. map g ys ++ fresh) (cleared_is place ds bs us vs charges_end credits_end far near month k earlier later before from ∙ low_same)
      ∙ ap (λ ys. map g left ++ ys) (sym (behind_blurred place ds2 bs2 us2 vs2 charges_end2 credits_end2 far2 near2 g blurs))
      ∙ sym (map-append g left fresh)
      ∙ ap (map g) (sym (parted place ds2 bs2 us2 vs2 charges_end2 credits_end2 far2 near2))
      ∙ (λ i. map g (dated_pieces (sym is_cs2 i) (sym is_ks2 i)))

  -- where nothing reaches beyond the place
  pub unchanged : dated_behind (charged ds) (credited us) bs vs ≡ [] → dated_behind (charged ds2) (credited us2) bs2 vs2 ≡ [] → dated_pieces cs ks ≡ dated_pieces cs2 ks2
  unchanged none none2 =
      (λ i. dated_pieces (is_cs i) (is_ks i))
      ∙ parted place ds bs us vs charges_end credits_end far near
      ∙ (λ i. low_same i ++ (none ∙ sym none2) i)
      ∙ sym (parted place ds2 bs2 us2 vs2 charges_end2 credits_end2 far2 near2)
      ∙ (λ i. dated_pieces (sym is_cs2 i) (sym is_ks2 i))
