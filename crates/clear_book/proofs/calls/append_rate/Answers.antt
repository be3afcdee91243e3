use Rattle.std.proofs.Common.{◌≡◌, ◌++◌, ◌∙◌, ℕ, List, [], ◌∷◌, append_assoc, codes}
use Rattle.std.proofs.lemmas.Result.{IfOk-weaker}
use Rattle.clear_money.specs.Texts.{month_text}
use Rattle.clear_book.specs.Calls.{numbers_text}
use Rattle.clear_book.proofs.calls.append_rate.Goals as goal

-- the numbers come behind the word and the month
behind : (before month numbers : List ℕ) → (before ++ codes "rate " ++ month) ++ numbers ≡ before ++ (codes "rate " ++ month ++ numbers)
behind before month numbers = append_assoc (before ++ codes "rate ") month numbers ∙ append_assoc before (codes "rate ") (month ++ numbers)

numbers : (a b c d e f g h k l : ℕ) (before after : List ℕ) → before ≡ after → a ≡ f → b ≡ g → c ≡ h → d ≡ k → e ≡ l → before ++ numbers_text (a ∷ b ∷ c ∷ d ∷ e ∷ []) ≡ after ++ numbers_text (f ∷ g ∷ h ∷ k ∷ l ∷ [])
numbers a b c d e f g h k l before after same p q r s t = (λ i. same i ++ numbers_text (p i ∷ q i ∷ r i ∷ s i ∷ t i ∷ []))

-- src/calls.rt:209:1
pub returns : goal.returns
returns c =
    IfOk-weaker c.append_numbers.result _ _ (λ _ text.
    text
    ∙ numbers _ _ _ _ _ c.args.row.now.contribution_rate c.args.row.now.report_day c.args.row.now.due_day c.args.row.now.interest_rate c.args.row.now.entitlement_rate _
    (c.args.out.now.items ++ codes "rate " ++ month_text c.args.row.now.first)
    (c.in_ok-append_month.ensures ∙ (λ i. c.args.out.now.items ++ codes "rate " ++ month_text (c.first.ensures i)))
    (c.from.ensures ∙ c.contribution_rate.ensures.value) (c.from-2.ensures ∙ c.report_day.ensures.value) (c.from-3.ensures ∙ c.due_day.ensures.value)
    (c.from-4.ensures ∙ c.interest_rate.ensures.value) (c.from-5.ensures ∙ c.entitlement_rate.ensures.value)
    ∙ behind c.args.out.now.items (month_text c.args.row.now.first) _) c.append_numbers.ensures
