-- Why a store isn't opened, and what stood in the way of a connection on it.
use Rattle.std.proofs.Common.{◌≡◌, ◌⊎◌, ◌∙◌, inl, inr, Option, None, Some, refl, sym, ap, subst}
use Rattle.std.specs.Prelude.{MatchOption}
use Rattle.sqlite.specs.Held.{Held}
use Rattle.sqlite.specs.Store.{Ghosts}
use Rattle.sqlite.specs.declared.error.Error.{Error}
use Rattle.sqlite.specs.declared.error.Error.TheVariants.{SqliteFailure}
use Rattle.sqlite.specs.declared.error.ErrorCode.TheVariants.{CannotOpen, DatabaseBusy, NotADatabase}
use Rattle.sqlite_wal.specs.Recovery.{Image}
use Rattle.clear_book.specs.declared.rules.StoreCause.TheVariants.{Other}
use Rattle.clear_schema.specs.Faults.{fault_of}
use Rattle.clear_schema.specs.declared.fault.Fault.TheVariants.{Store}
use Rattle.clear_schema.specs.declared.fault.OpenFault.TheVariants.{Failed}
use Rattle.clear_host.specs.Contents.{IsByError, IsWhyUnopened}
use Rattle.clear_host.specs.Hindrances.{hindrance_of}
use Rattle.clear_host.specs.declared.offices.NotOpened.{NotOpened}
use Rattle.clear_program.specs.Opening.{IsRefused}
use Rattle.clear_program.specs.Reasons.{IsWhyRefused}
use Rattle.clear_program.specs.declared.opening.Unopened.{Unopened}

-- what stands in the way is told as a fault of the store
stands_so : (e : Error) → (hindrance_of e ≡ None) ⊎ (fault_of e ≡ Store Other)
stands_so (SqliteFailure CannotOpen) = inr refl
stands_so (SqliteFailure DatabaseBusy) = inr refl
stands_so (SqliteFailure NotADatabase) = inr refl
stands_so error = inl refl

module _ {S : Type 0} (g : Ghosts S) (image : Image) where
  of_files : (refused : NotOpened S) → IsWhyUnopened refused → (refused.hindrance ≡ None) ⊎ (refused.fault ≡ Failed (Store Other))
  of_files refused why = told refused.connection why
    where
      told : (o : Option (Held S)) → MatchOption o (IsByError refused) (λ connection. refused.hindrance ≡ None) → (refused.hindrance ≡ None) ⊎ (refused.fault ≡ Failed (Store Other))
      told (Some connection) none = inl none
      told None (error, fault, stood) = elim (stands_so error) [
        | inl none ↦ inl (stood ∙ none)
        | inr other ↦ inr (fault ∙ ap Failed other)
      ]

  pub why_refused : (why : Unopened) → IsRefused g image why → IsWhyRefused why.kind why.hindrance why.fault
  why_refused why (inl (known, none)) =
      subst (λ o. MatchOption o ((why.hindrance ≡ None) ⊎ (why.fault ≡ Failed (Store Other))) (λ fault. (why.fault ≡ fault) × (why.hindrance ≡ None))) (sym known) (refl, none)
  why_refused why (inr (inl is)) = subst (λ (x : Unopened). IsWhyRefused x.kind x.hindrance x.fault) (sym is) (inr refl)
  why_refused why (inr (inr (refused, tells, unopened, is))) = subst (λ (x : Unopened). IsWhyRefused x.kind x.hindrance x.fault) (sym is) (of_files refused unopened)
