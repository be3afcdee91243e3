-- What a changed charge and a new payment write anew.
use Rattle.std.proofs.Common.{◌≡◌, ℕ, ◌+◌, ◌<◌, ◌≤◌, true, false, nat_lt, List, ◌∷◌, ◌++◌, length, take, drop, sym, ap, subst, ◌∙◌, arith, append_assoc}
use Rattle.std.specs.List.{All, filter}
use Rattle.std.proofs.lemmas.Bool.{le-ltb, lt-ltb}
use Rattle.std.proofs.lemmas.List.{length-drop, take-append-drop}
use Rattle.std.proofs.lemmas.List.Elements.{All-drop, All-weaker}
use Rattle.std.proofs.lemmas.List.Sums.{sum_by-append, sum_by-take-le}
use Rattle.clear_account.specs.declared.entries.Charge.{Charge}
use Rattle.clear_account.specs.declared.entries.Credit.{Credit}
use Rattle.clear_account.specs.declared.entries.Piece.{Piece}
use Rattle.clear_account.specs.Account.{IsAccount, charged, charged_up_to, comes_before, credited, credited_up_to, with_charge, with_credit}
use Rattle.clear_account.specs.Allocation.{right_pieces}
use Rattle.clear_account.proofs.AccountLemmas.{charged-le, credited-le, few_charges}
use Rattle.clear_account.proofs.PlaceLemmas.{filter_front}
use Rattle.clear_account.specs.Places.{Ends}
use Rattle.clear_account.specs.Suffix.{pieces_behind}
use Rattle.clear_account.proofs.GridLemmas.{Reaches, grid_same_charges, grid_same_credits}
use Rattle.clear_account.proofs.ReachLemmas.{drop_over, ends_behind, ends_reaches, reaches_at, take_over}
use Rattle.clear_account.specs.Kept.{CountsTurns}
use Rattle.clear_account.proofs.KeptLemmas.{front_taken, low, no_piece, parted}
use Rattle.clear_account.specs.Allocation.{piece_of}

-- a charge c: before charges are for earlier months, skip of it and those of later months are of nothing
module _ (c : Charge) (cs : List Charge) (ks : List Credit) (before skip paid : ℕ) (place : ℕ) (a : IsAccount cs ks) (a2 : IsAccount (with_charge c cs) ks) (sooner : All (λ d. d.month < c.month) (take before cs)) (later : All (λ d. c.month ≤ d.month) (drop before cs)) (sum : place ≡ charged_up_to cs before) where
  abbrev owed : List Charge
  owed = c ∷ filter (λ d. nat_lt c.month d.month) cs

  front : filter (λ d. nat_lt d.month c.month) cs ≡ take before cs
  front =
      filter_front (λ (d : Charge). nat_lt d.month c.month) before cs
      (All-weaker (λ d. d.month < c.month) (λ d. nat_lt d.month c.month ≡ true) (λ d h. lt-ltb d.month c.month h) (take before cs) sooner)
      (All-weaker (λ d. c.month ≤ d.month) (λ d. nat_lt d.month c.month ≡ false) (λ d h. le-ltb d.month c.month h) (drop before cs) later)

  pub charge_place : place ≡ charged (filter (λ d. nat_lt d.month c.month) cs)
  charge_place = sum ∙ ap charged (sym front)

  new_is : with_charge c cs ≡ take before cs ++ owed
  new_is = ap (λ xs. xs ++ owed) front

  pub charge_owed_low : charged owed ≤ 12000000000000
  charge_owed_low = omega (arith, charged-le (with_charge c cs) ks a2, ap charged new_is, sum_by-append (λ (d : Charge). d.cents) (take before cs) owed)

  pub charge_place_low : place ≤ 12000000000000
  charge_place_low = omega (arith, sum, charged-le cs ks a, sum_by-take-le (λ (d : Charge). d.cents) cs before)

  pub charge_paid_low : credited_up_to ks paid ≤ 10000000000000000
  charge_paid_low = omega (arith, credited-le cs ks a, sum_by-take-le (λ (k : Credit). k.cents) ks paid)

  behind_is : drop skip owed ≡ drop (length (take before cs) + skip) (with_charge c cs)
  behind_is = sym (drop_over (take before cs) owed skip) ∙ ap (drop (length (take before cs) + skip)) (sym new_is)

  pub charge_few : length (drop skip owed) ≤ 2400
  charge_few = omega (arith, few_charges (with_charge c cs) ks a2, ap length behind_is, length-drop (length (take before cs) + skip) (with_charge c cs))

  pub charge_each : All (λ d. d.cents ≤ 5000000000) (drop skip owed)
  charge_each =
      subst (All (λ (d : Charge). d.cents ≤ 5000000000)) (sym behind_is)
      (All-drop (λ (d : Charge). d.cents ≤ 5000000000) (length (take before cs) + skip) (with_charge c cs) (λ i d lt. (a2.each_charge i d lt).cents))

  module _ (none : Ends (λ (d : Charge). d.cents) owed 0 skip) (ends_k : Ends (λ (k : Credit). k.cents) ks place paid) where
    new_front : charged (take before cs ++ take skip owed) ≡ place
    new_front = omega (arith, sum_by-append (λ (d : Charge). d.cents) (take before cs) (take skip owed), none.below, sum)

    same : low place 0 0 (take before cs ++ drop before cs) (take paid ks ++ drop paid ks) ≡ low place 0 0 ((take before cs ++ take skip owed) ++ drop skip owed) (take paid ks ++ drop paid ks)
    same =
        let kss : List Credit = take paid ks ++ drop paid ks in
        let whole : take before cs ++ owed ≡ (take before cs ++ take skip owed) ++ drop skip owed =
        ap (λ xs. take before cs ++ xs) (sym (take-append-drop skip owed)) ∙ sym (append_assoc (take before cs) (take skip owed) (drop skip owed)) in
        grid_same_charges piece_of no_piece place 0 0 (take before cs) (drop before cs) kss (omega (arith, sum))
        ∙ sym (grid_same_charges piece_of no_piece place 0 0 (take before cs) owed kss (omega (arith, sum)))
        ∙ ap (λ xs. low place 0 0 xs kss) whole

    pub charge_reworked : (keep : ℕ) (ps fresh : List Piece) → ps ≡ right_pieces cs ks → Ends (λ (p : Piece). p.cents) ps place keep → fresh ≡ pieces_behind place (credited_up_to ks paid) (drop skip owed) (drop paid ks) → take keep ps ++ fresh ≡ right_pieces (with_charge c cs) ks
    charge_reworked keep ps fresh right kept is =
        let f : Charge → ℕ = λ (d : Charge). d.cents in
        let old_cs : cs ≡ take before cs ++ drop before cs = sym (take-append-drop before cs) in
        let all_ks : ks ≡ take paid ks ++ drop paid ks = sym (take-append-drop paid ks) in
        let new_cs : with_charge c cs ≡ (take before cs ++ take skip owed) ++ drop skip owed =
        new_is ∙ ap (λ xs. take before cs ++ xs) (sym (take-append-drop skip owed)) ∙ sym (append_assoc (take before cs) (take skip owed) (drop skip owed)) in
        let whole : ps ≡ right_pieces (take before cs ++ drop before cs) (take paid ks ++ drop paid ks) = right ∙ (λ i. right_pieces (old_cs i) (all_ks i)) in
        let near : Reaches place (λ (k : Credit). k.cents) (credited (take paid ks)) (drop paid ks) = ends_reaches place (λ k. k.cents) ks paid ends_k in
        (λ i. take keep (whole i) ++ is i)
        ∙ ap (λ xs. xs ++ pieces_behind place (credited_up_to ks paid) (drop skip owed) (drop paid ks))
        (front_taken place (take before cs) (drop before cs) (take paid ks) (drop paid ks) (omega (arith, sum)) ends_k.below (reaches_at place f (charged (take before cs)) (drop before cs) (omega (arith, sum))) near keep (omega (arith, sum, ends_k.below))
        (subst (λ (xs : List Piece). Ends (λ (p : Piece). p.cents) xs place keep) whole kept)
        ∙ same)
        ∙ ap (λ n. low place 0 0 ((take before cs ++ take skip owed) ++ drop skip owed) (take paid ks ++ drop paid ks) ++ pieces_behind n (credited_up_to ks paid) (drop skip owed) (drop paid ks)) (sym new_front)
        ∙ sym (parted place (take before cs ++ take skip owed) (drop skip owed) (take paid ks) (drop paid ks) (omega (arith, new_front)) ends_k.below (reaches_at place f (charged (take before cs ++ take skip owed)) (drop skip owed) (omega (arith, new_front))) near)
        ∙ (λ i. right_pieces (sym new_cs i) (sym all_ks i))

    pub charge_turns : (turns : ℕ) (fresh : List Piece) → fresh ≡ pieces_behind place (credited_up_to ks paid) (drop skip owed) (drop paid ks) → length fresh ≤ turns → turns ≤ length (drop skip owed) + length (drop paid ks) + 1 → CountsTurns (charged (filter (λ d. nat_lt d.month c.month) cs)) (with_charge c cs) ks turns
    charge_turns turns fresh is enough few =
        let f : Charge → ℕ = λ (d : Charge). d.cents in
        let n : ℕ = length (take before cs) + skip in
        let ends_c : Ends f (with_charge c cs) place n =
        subst (λ (xs : List Charge). Ends f xs place n) (sym new_is) (subst (λ m. Ends f (take before cs ++ owed) m n) (sym sum) (ends_behind f (take before cs) owed skip none)) in
        let cents_are : place ≡ charged_up_to (with_charge c cs) n = sym new_front ∙ ap charged (sym (take_over (take before cs) owed skip) ∙ ap (take n) (sym new_is)) in
        subst (λ m. CountsTurns m (with_charge c cs) ks turns) charge_place (record {
          charges_ended = n;
          credits_ended = paid;
          charges_end = ends_c;
          credits_end = ends_k;
          enough = subst (λ m. m ≤ turns) (ap length (is ∙ (λ i. pieces_behind (cents_are i) (credited_up_to ks paid) (behind_is i) (drop paid ks)))) enough;
          few = omega (arith, ap length behind_is);
        })

-- a payment k: before payments come before it, skip of it and those after it are of nothing
module _ (k : Credit) (cs : List Charge) (ks : List Credit) (before skip owed : ℕ) (place : ℕ) (a : IsAccount cs ks) (a2 : IsAccount cs (with_credit k ks)) (sooner : All (λ l. comes_before l k ≡ true) (take before ks)) (later : All (λ l. comes_before l k ≡ false) (drop before ks)) (sum : place ≡ credited_up_to ks before) where
  abbrev paid : List Credit
  paid = k ∷ filter (λ l. comes_before k l) ks

  front_k : filter (λ l. comes_before l k) ks ≡ take before ks
  front_k = filter_front (λ (l : Credit). comes_before l k) before ks sooner later

  pub credit_place : place ≡ credited (filter (λ l. comes_before l k) ks)
  credit_place = sum ∙ ap credited (sym front_k)

  new_ks : with_credit k ks ≡ take before ks ++ paid
  new_ks = ap (λ xs. xs ++ paid) front_k

  pub credit_paid_low : credited paid ≤ 10000000000000000
  credit_paid_low = omega (arith, credited-le cs (with_credit k ks) a2, ap credited new_ks, sum_by-append (λ (l : Credit). l.cents) (take before ks) paid)

  pub credit_place_low : place ≤ 10000000000000000
  credit_place_low = omega (arith, sum, credited-le cs ks a, sum_by-take-le (λ (l : Credit). l.cents) ks before)

  pub credit_owed_low : charged_up_to cs owed ≤ 12000000000000
  credit_owed_low = omega (arith, charged-le cs ks a, sum_by-take-le (λ (c : Charge). c.cents) cs owed)

  behind_k : drop skip paid ≡ drop (length (take before ks) + skip) (with_credit k ks)
  behind_k = sym (drop_over (take before ks) paid skip) ∙ ap (drop (length (take before ks) + skip)) (sym new_ks)

  pub credit_few : length (drop skip paid) ≤ 100000
  credit_few = omega (arith, a2.few_credits, ap length behind_k, length-drop (length (take before ks) + skip) (with_credit k ks))

  pub credit_few_charges : length (drop owed cs) ≤ 2400
  credit_few_charges = omega (arith, few_charges cs ks a, length-drop owed cs)

  pub credit_each : All (λ c. c.cents ≤ 5000000000) (drop owed cs)
  credit_each = All-drop (λ (c : Charge). c.cents ≤ 5000000000) owed cs (λ i d lt. (a.each_charge i d lt).cents)

  module _ (none : Ends (λ (l : Credit). l.cents) paid 0 skip) (ends_c : Ends (λ (c : Charge). c.cents) cs place owed) where
    new_front_k : credited (take before ks ++ take skip paid) ≡ place
    new_front_k = omega (arith, sum_by-append (λ (l : Credit). l.cents) (take before ks) (take skip paid), none.below, sum)

    whole_k : take before ks ++ paid ≡ (take before ks ++ take skip paid) ++ drop skip paid
    whole_k = ap (λ xs. take before ks ++ xs) (sym (take-append-drop skip paid)) ∙ sym (append_assoc (take before ks) (take skip paid) (drop skip paid))

    same_k : low place 0 0 (take owed cs ++ drop owed cs) (take before ks ++ drop before ks) ≡ low place 0 0 (take owed cs ++ drop owed cs) ((take before ks ++ take skip paid) ++ drop skip paid)
    same_k =
        let css : List Charge = take owed cs ++ drop owed cs in
        grid_same_credits piece_of no_piece place 0 0 css (take before ks) (drop before ks) (omega (arith, sum))
        ∙ sym (grid_same_credits piece_of no_piece place 0 0 css (take before ks) paid (omega (arith, sum)))
        ∙ ap (λ xs. low place 0 0 css xs) whole_k

    pub credit_reworked : (keep : ℕ) (ps fresh : List Piece) → ps ≡ right_pieces cs ks → Ends (λ (p : Piece). p.cents) ps place keep → fresh ≡ pieces_behind (charged_up_to cs owed) place (drop owed cs) (drop skip paid) → take keep ps ++ fresh ≡ right_pieces cs (with_credit k ks)
    credit_reworked keep ps fresh right kept is =
        let h : Credit → ℕ = λ (l : Credit). l.cents in
        let all_cs : cs ≡ take owed cs ++ drop owed cs = sym (take-append-drop owed cs) in
        let old_ks : ks ≡ take before ks ++ drop before ks = sym (take-append-drop before ks) in
        let now_ks : with_credit k ks ≡ (take before ks ++ take skip paid) ++ drop skip paid = new_ks ∙ whole_k in
        let whole : ps ≡ right_pieces (take owed cs ++ drop owed cs) (take before ks ++ drop before ks) = right ∙ (λ i. right_pieces (all_cs i) (old_ks i)) in
        let far : Reaches place (λ (c : Charge). c.cents) (charged (take owed cs)) (drop owed cs) = ends_reaches place (λ c. c.cents) cs owed ends_c in
        (λ i. take keep (whole i) ++ is i)
        ∙ ap (λ xs. xs ++ pieces_behind (charged_up_to cs owed) place (drop owed cs) (drop skip paid))
        (front_taken place (take owed cs) (drop owed cs) (take before ks) (drop before ks) ends_c.below (omega (arith, sum)) far (reaches_at place h (credited (take before ks)) (drop before ks) (omega (arith, sum))) keep (omega (arith, sum, ends_c.below))
        (subst (λ (xs : List Piece). Ends (λ (p : Piece). p.cents) xs place keep) whole kept)
        ∙ same_k)
        ∙ ap (λ n. low place 0 0 (take owed cs ++ drop owed cs) ((take before ks ++ take skip paid) ++ drop skip paid) ++ pieces_behind (charged_up_to cs owed) n (drop owed cs) (drop skip paid)) (sym new_front_k)
        ∙ sym (parted place (take owed cs) (drop owed cs) (take before ks ++ take skip paid) (drop skip paid) ends_c.below (omega (arith, new_front_k)) far (reaches_at place h (credited (take before ks ++ take skip paid)) (drop skip paid) (omega (arith, new_front_k))))
        ∙ (λ i. right_pieces (sym all_cs i) (sym now_ks i))

    pub credit_turns : (turns : ℕ) (fresh : List Piece) → fresh ≡ pieces_behind (charged_up_to cs owed) place (drop owed cs) (drop skip paid) → length fresh ≤ turns → turns ≤ length (drop owed cs) + length (drop skip paid) + 1 → CountsTurns (credited (filter (λ l. comes_before l k) ks)) cs (with_credit k ks) turns
    credit_turns turns fresh is enough few =
        let h : Credit → ℕ = λ (l : Credit). l.cents in
        let n : ℕ = length (take before ks) + skip in
        let ends_k : Ends h (with_credit k ks) place n =
        subst (λ (xs : List Credit). Ends h xs place n) (sym new_ks) (subst (λ m. Ends h (take before ks ++ paid) m n) (sym sum) (ends_behind h (take before ks) paid skip none)) in
        let cents_are : place ≡ credited_up_to (with_credit k ks) n = sym new_front_k ∙ ap credited (sym (take_over (take before ks) paid skip) ∙ ap (take n) (sym new_ks)) in
        subst (λ m. CountsTurns m cs (with_credit k ks) turns) credit_place (record {
          charges_ended = owed;
          credits_ended = n;
          charges_end = ends_c;
          credits_end = ends_k;
          enough = subst (λ m. m ≤ turns) (ap length (is ∙ (λ i. pieces_behind (charged_up_to cs owed) (cents_are i) (drop owed cs) (behind_k i)))) enough;
          few = omega (arith, ap length behind_k);
        })
