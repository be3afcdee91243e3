-- The arrears, from the rows of charges.
use Rattle.std.proofs.Common.{◌≡◌, ℕ, ◌+◌, ◌-◌, ◌≤◌, Bool, true, false, cond, nat_lt, List, [], ◌∷◌, get_or, refl, ap, ◌∙◌, arith}
use Rattle.std.specs.List.{All, AllPairs, filter, sum_by}
use Rattle.std.proofs.lemmas.Bool.{le-ltb, ltb-false}
use Rattle.std.proofs.lemmas.List.Elements.{All-cons, All-head, All-tail}
use Rattle.std.proofs.lemmas.List.Sums.{sum_by-cons}
use Rattle.clear_account.specs.declared.entries.Charge.{Charge}
use Rattle.clear_account.specs.declared.entries.Credit.{Credit}
use Rattle.clear_account.specs.Account.{credited}
use Rattle.clear_account.specs.Arrears.{charged_before}
use Rattle.clear_account.proofs.PlaceLemmas.{AllPairs-head, AllPairs-tail}
use Rattle.clear_kept.specs.declared.rows.WeighedCharge.{WeighedCharge}
use Rattle.clear_kept.specs.Owing.{ArrearsFromRows}
use Rattle.clear_kept.proofs.WeighedLemmas.{left_is, row_between, rows_walk, weighed_charges-walk}

abbrev open_before : ℕ → List WeighedCharge → ℕ
open_before day rows = sum_by (λ (r : WeighedCharge). r.left) (filter (λ r. nat_lt r.due day) rows)

none_due : (day s : ℕ) (cs : List Charge) (ks : List Credit) → All (λ c. day ≤ c.due) cs → (open_before day (rows_walk s cs ks) ≡ 0) × (charged_before cs day ≡ 0)
none_due day s [] ks all = (refl, refl)
none_due day s (c ∷ cs) ks all =
    let late : nat_lt c.due day ≡ false = le-ltb c.due day (All-head (λ d. day ≤ d.due) c cs all) in
    let rest : (open_before day (rows_walk (s + c.cents) cs ks) ≡ 0) × (charged_before cs day ≡ 0) = none_due day (s + c.cents) cs ks (All-tail (λ d. day ≤ d.due) c cs all) in (
      ap (λ b. sum_by (λ (r : WeighedCharge). r.left) (cond b (row_between s (s + c.cents) c ks ∷ filter (λ r. nat_lt r.due day) (rows_walk (s + c.cents) cs ks)) (filter (λ r. nat_lt r.due day) (rows_walk (s + c.cents) cs ks)))) late ∙ rest.0,
      ap (λ b. sum_by (λ (d : Charge). d.cents) (cond b (c ∷ filter (λ d. nat_lt d.due day) cs) (filter (λ d. nat_lt d.due day) cs))) late ∙ rest.1,
    )

due_step : (day s : ℕ) (c : Charge) (cs : List Charge) (ks : List Credit) (v : Bool) → nat_lt c.due day ≡ v → AllPairs (λ d e. d.due ≤ e.due) (c ∷ cs) → open_before day (rows_walk (s + c.cents) cs ks) ≡ (s + c.cents + charged_before cs day - credited ks) - (s + c.cents - credited ks) → open_before day (rows_walk s (c ∷ cs) ks) ≡ (s + charged_before (c ∷ cs) day - credited ks) - (s - credited ks)
due_step day s c cs ks true is rise rest =
    let rows : List WeighedCharge = filter (λ r. nat_lt r.due day) (rows_walk (s + c.cents) cs ks) in
    let here : open_before day (rows_walk s (c ∷ cs) ks) ≡ sum_by (λ (r : WeighedCharge). r.left) (row_between s (s + c.cents) c ks ∷ rows) =
    ap (λ b. sum_by (λ (r : WeighedCharge). r.left) (cond b (row_between s (s + c.cents) c ks ∷ rows) rows)) is in
    let sum : charged_before (c ∷ cs) day ≡ sum_by (λ (d : Charge). d.cents) (c ∷ filter (λ d. nat_lt d.due day) cs) =
    ap (λ b. sum_by (λ (d : Charge). d.cents) (cond b (c ∷ filter (λ d. nat_lt d.due day) cs) (filter (λ d. nat_lt d.due day) cs))) is in
    omega (arith, sum_by-cons (λ (r : WeighedCharge). r.left) (row_between s (s + c.cents) c ks) rows, sum_by-cons (λ (d : Charge). d.cents) c (filter (λ d. nat_lt d.due day) cs), left_is s c ks)
due_step day s c cs ks false is rise rest =
    let late : day ≤ c.due = ltb-false c.due day is in
    let all : All (λ d. day ≤ d.due) (c ∷ cs) =
    All-cons (λ d. day ≤ d.due) c cs late (λ i d lt. let step : c.due ≤ (get_or cs i d).due = AllPairs-head (λ e f. e.due ≤ f.due) c cs rise i d lt in omega arith) in
    let none : (open_before day (rows_walk s (c ∷ cs) ks) ≡ 0) × (charged_before (c ∷ cs) day ≡ 0) = none_due day s (c ∷ cs) ks all in
    omega (arith, none.0, none.1)

arrears_walk : (day s : ℕ) (cs : List Charge) (ks : List Credit) → AllPairs (λ c d. c.due ≤ d.due) cs → open_before day (rows_walk s cs ks) ≡ (s + charged_before cs day - credited ks) - (s - credited ks)
arrears_walk day s [] ks rise = omega arith
arrears_walk day s (c ∷ cs) ks rise = due_step day s c cs ks (nat_lt c.due day) refl rise (arrears_walk day (s + c.cents) cs ks (AllPairs-tail (λ d e. d.due ≤ e.due) c cs rise))

pub arrears_from_rows : ArrearsFromRows
arrears_from_rows cs ks day rise = ap (open_before day) (weighed_charges-walk cs ks) ∙ arrears_walk day 0 cs ks rise ∙ omega arith
