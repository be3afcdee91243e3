-- What is counted of the rows of a source, call by call.
use Rattle.std.proofs.Common.{◌≡◌, ◌∙◌, ◌^◌, ◌≤◌, ℕ, ◌+◌, List, [], ◌∷◌, ◌++◌, Option, Some, ap, inr, length, length-append, refl, sum_by, sym}
use Rattle.std.specs.Iterator.{Yields}
use Rattle.clear_texts.proofs.RowLemmas.{Yields-append}
use Rattle.clear_texts.specs.Rows.{IsCutOffAdding}
use Rattle.clear_schema.specs.declared.fault.Fault.{Fault}
use Rattle.clear_schema.specs.declared.fault.Fault.TheVariants.{Store}
use Rattle.clear_values.specs.declared.causes.StoreCause.TheVariants.{Row as OutOfRange}

module _ {S X Count : Type 0} (counted : List X → Count) (gives : S → Option X → S → Type 0) where
  -- the calls from the first source to the second gave so many rows, of which this is the count
  pub record HasCounted (old new : S) (turn : ℕ) (count : Count) : Type 0 where
    pub given : List X
    pub run : Yields gives old given new
    pub is : count ≡ counted given
    pub many : turn ≡ length given

  module _ (old mid new : S) (turn : ℕ) (count : Count) (so_far : HasCounted old mid turn count) where
    pub one_more : (row : X) (more : Count) → gives mid (Some row) new → more ≡ counted (so_far.given ++ row ∷ []) → HasCounted old new (turn + 1) more
    one_more row more step is = record {
      given = so_far.given ++ row ∷ [];
      run = Yields-append gives old so_far.given mid row new so_far.run step;
      is = is;
      many = ap (λ n. n + 1) so_far.many ∙ sym (length-append so_far.given (row ∷ []));
    }

    module _ (amount : X → ℕ) (refuses : S → Fault → S → Type 0) where
      pub too_much : (row : X) → gives mid (Some row) new → 2 ^ 64 ≤ sum_by amount (so_far.given ++ row ∷ []) → IsCutOffAdding gives refuses amount old (Store OutOfRange) new
      too_much row step much = inr (refl, (so_far.given ++ row ∷ [], Yields-append gives old so_far.given mid row new so_far.run step, much))
