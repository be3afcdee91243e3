-- An account that is filled row by row holds the rows' charges and credits in order.
use Rattle.std.proofs.Common.{◌≡◌, List, [], ◌∷◌, ◌++◌, filter, Bool, true, false, cond, nat_lt, append_assoc, refl, sym, ap, ◌∙◌}
use Rattle.std.proofs.lemmas.List.{append-nil}
use Rattle.clear_account.specs.declared.entries.Charge.{Charge}
use Rattle.clear_account.specs.declared.entries.Credit.{Credit}
use Rattle.clear_account.specs.Account.{comes_before}
use Rattle.clear_pieces.specs.Filled.{with_charges, with_credits}

-- ---- what is put at its place behind all others comes last

module _ {X : Type 0} (lt : X → X → Bool) where
  abbrev pub IsLess : X → X → Type 0
  IsLess x y = (lt x y ≡ true) × (lt y x ≡ false)

  -- each of the held comes before the one
  abbrev pub AreBefore : List X → X → Type 0
  AreBefore [] x = Unit {0}
  AreBefore (y ∷ held) x = IsLess y x × AreBefore held x

  -- the one comes before each
  abbrev pub AreAfter : X → List X → Type 0
  AreAfter x [] = Unit {0}
  AreAfter x (y ∷ ys) = IsLess x y × AreAfter x ys

  -- each comes before all later ones
  abbrev pub Rise : List X → Type 0
  Rise [] = Unit {0}
  Rise (x ∷ xs) = AreAfter x xs × Rise xs

  -- each of the held comes before each of the others
  abbrev pub Precede : List X → List X → Type 0
  Precede held [] = Unit {0}
  Precede held (x ∷ xs) = AreBefore held x × Precede held xs

  lower_kept : (held : List X) (x : X) → AreBefore held x → filter (λ y. lt y x) held ≡ held
  lower_kept [] x h = refl
  lower_kept (y ∷ held) x h = ap (λ b. cond b (y ∷ filter (λ z. lt z x) held) (filter (λ z. lt z x) held)) h.0.0 ∙ ap (λ ys. y ∷ ys) (lower_kept held x h.1)

  none_higher : (held : List X) (x : X) → AreBefore held x → filter (λ y. lt x y) held ≡ []
  none_higher [] x h = refl
  none_higher (y ∷ held) x h = ap (λ b. cond b (y ∷ filter (λ z. lt x z) held) (filter (λ z. lt x z) held)) h.0.1 ∙ none_higher held x h.1

  pub placed_last : (held : List X) (x : X) → AreBefore held x → filter (λ y. lt y x) held ++ x ∷ filter (λ y. lt x y) held ≡ held ++ x ∷ []
  placed_last held x h = (λ i. lower_kept held x h i ++ x ∷ none_higher held x h i)

  before_push : (held : List X) (x y : X) → AreBefore held y → IsLess x y → AreBefore (held ++ x ∷ []) y
  before_push [] x y h less = (less, tt)
  before_push (z ∷ held) x y h less = (h.0, before_push held x y h.1 less)

  pub precede_push : (held : List X) (x : X) (xs : List X) → Precede held xs → AreAfter x xs → Precede (held ++ x ∷ []) xs
  precede_push held x [] h after = tt
  precede_push held x (y ∷ xs) h after = (before_push held x y h.0 after.0, precede_push held x xs h.1 after.1)

  pub precede_none : (xs : List X) → Precede [] xs
  precede_none [] = tt
  precede_none (x ∷ xs) = (tt, precede_none xs)

-- ---- charges whose months rise, and credits that come one before the other

abbrev pub month_before : Charge → Charge → Bool
month_before c d = nat_lt c.month d.month

pub charges_rise : (cs held : List Charge) → Rise month_before cs → Precede month_before held cs → with_charges cs held ≡ held ++ cs
charges_rise [] held rise before = sym (append-nil held)
charges_rise (c ∷ cs) held rise before =
    ap (with_charges cs) (placed_last month_before held c before.0)
    ∙ charges_rise cs (held ++ c ∷ []) rise.1 (precede_push month_before held c cs before.1 rise.0)
    ∙ append_assoc held (c ∷ []) cs

pub credits_rise : (ks held : List Credit) → Rise comes_before ks → Precede comes_before held ks → with_credits ks held ≡ held ++ ks
credits_rise [] held rise before = sym (append-nil held)
credits_rise (k ∷ ks) held rise before =
    ap (with_credits ks) (placed_last comes_before held k before.0)
    ∙ credits_rise ks (held ++ k ∷ []) rise.1 (precede_push comes_before held k ks before.1 rise.0)
    ∙ append_assoc held (k ∷ []) ks
