-- A word is written by one number alone.
use Rattle.std.proofs.Common.{◌≡◌, ℕ, ◌<◌, ◌^◌, List, false, true, refl, subst, sym}
use Rattle.std.specs.Prelude.{◌↔◌, Option, Some, None, IsSome, IfSome}
use Rattle.std.specs.Fmt.{decimal}
use Rattle.std.proofs.lemmas.Fmt.{decimal_injective}
use Rattle.clap.specs.Words.{Row, Text}
use Rattle.clear_cli.specs.Rows.{IsWord, ReadsPlace}

pub one_number : (rows : List Row) (id : Text) (m n : ℕ) → IsWord rows id (decimal m) → m < 2 ^ 64 → IsWord rows id (decimal n) → n < 2 ^ 64 → m ≡ n
one_number rows id m n p small q small₂ =
    let same : decimal m ≡ decimal n = cc in
    decimal_injective m n small small₂ same

-- the number of a place's word, or none if it isn't one of those meant
pub if_meant : (rows : List Row) (id : Text) (IsMeant : ℕ → Type 0) → ((m : ℕ) → IsMeant m → m < 2 ^ 64)
    → (n : ℕ) → IsWord rows id (decimal n) × (n < 2 ^ 64) → (result : Option ℕ) → (IsSome result ↔ IsMeant n) → IfSome result (λ m. m ≡ n)
    → ReadsPlace rows id decimal IsMeant result
if_meant rows id IsMeant fits n is (Some m) meant same = (
  subst (λ (k : ℕ). IsWord rows id (decimal k) × IsMeant k) (sym same) (is.0, meant.0 refl),
  tt,
)
if_meant rows id IsMeant fits n is None meant same = (
  tt,
  λ m wanted other.
      let some : false ≡ true = meant.1 (subst IsMeant (one_number rows id m n other (fits m wanted) is.0 is.1) wanted) in
      absurd cc,
)
