-- The bytes of an answer, appended to others.
use Rattle.std.proofs.Common.{◌≡◌, ℕ, Bool, List, ◌++◌, length, ap, ◌∙◌}
use Rattle.std.proofs.lemmas.List.{append_assoc}
use Rattle.clear_answers.specs.declared.said.Said.{Said}
use Rattle.clear_answers.specs.Answer.{answer_of, body_of, head_of, sent_body}

-- a head with the length of a body, and the body as it is sent, are the answer with that body
pub joined : (said : Said) (close bare : Bool) (old head body sent new : List ℕ) → body ≡ body_of said → head ≡ head_of said (length body) close → sent ≡ sent_body bare body → new ≡ (old ++ head) ++ sent
    → new ≡ old ++ answer_of said close bare
unfolding answer_of
joined said close bare old head body sent new is heads sends made =
    made ∙ append_assoc old head sent ∙ ap (λ t. old ++ t) ((λ i. heads i ++ sends i) ∙ ap (λ b. head_of said (length b) close ++ sent_body bare b) is)
