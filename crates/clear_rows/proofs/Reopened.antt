-- What stands after a crash, and what an open finds: a database is known by its trees, since trees
-- list one schema at most.
use Rattle.std.proofs.Common.{◌≡◌, ◌∙◌, inl, inr, refl, sym, subst, true, arith, ℕ, List, IsTrue}
use Rattle.sqlite.specs.Effect.{Database, IsDatabase}
use Rattle.sqlite.specs.State.{State, HasCleanDisk, Survives, CommitsShowing, KeepsCommit, IsRolledBack}
use Rattle.sqlite.specs.Steps.{FailsToCommit}
use Rattle.sqlite.specs.declared.error.Error.{Error}
use Rattle.sqlite.specs.Held.{Held, state}
use Rattle.sqlite.specs.Store.{Ghosts}
use Rattle.sqlite.specs.Tree.{Trees}
use Rattle.sqlite.proofs.StateLemmas.{survives_then}
use Rattle.sqlite.proofs.Callers.{survives_begin, never_commits, IsPlain}
use Rattle.sqlite.specs.Listing.{understood}
use Rattle.sqlite.specs.Order.{Row}
use Rattle.sqlite.specs.Schema.{Schema}
use Rattle.sqlite_trees.specs.Objects.{catalog_tree}
use Rattle.sqlite_catalog.specs.Listing.{Lists}
use Rattle.sqlite_catalog.proofs.ReadLemmas.{lists_once}
use Rattle.clear_rows.specs.Stands.{Stands}

-- two sound databases with the same trees are one
pub database_once : (a b : Database) → IsDatabase a → IsDatabase b → a.trees ≡ b.trees → a ≡ b
database_once a b p q same =
    let schema = lists_once (b.trees catalog_tree) a.schema b.schema (subst (λ (t : Trees). Lists (t catalog_tree) a.schema) same p.lists) q.lists in
    λ i. record { schema = schema i; trees = same i }

module _ (P : Database → Type 0) (sound : (db : Database) → P db → IsDatabase db) where
  -- a database whose trees stand for P has P
  pub found_by_trees : (db : Database) → IsDatabase db → Stands P db.trees → P db
  found_by_trees db obeys stands = subst P (sym (database_once db stands.0 obeys (sound stands.0 stands.1) stands.2)) stands.1

-- one transaction: a crash leaves what it could leave before, or what was committed
pub commits_survive : {S : Type 0} (g : Ghosts S) (old : Held S) (mid end : State) (P : Database → Type 0) → (HasCleanDisk mid → P mid.now)
    → Survives (state g (record old { in_transaction = true })) mid (λ _. ⊥) → Survives mid end (λ db. db ≡ mid.now.trees) → Survives (state g old) end (Stands P)
commits_survive g old mid end P has inside commits =
    survives_then (state g old) mid end (λ _. ⊥) _ (Stands P) (λ _ db none. absurd none) (λ clean db is. (mid.now, has (omega (arith, commits.clean)), is))
    (survives_begin g old mid (λ _. ⊥) inside) commits

-- while the store is open, a crash leaves the last commit alone
pub stands_alone : (s : State) (P : Database → Type 0) → ((db : Trees) → s.may_leave db → db ≡ s.committed.trees) → P s.committed → (trees : Trees) → s.may_leave trees → Stands P trees
stands_alone s P settled has trees may = (s.committed, has, settled trees may)

-- a query commits nothing
pub query_survives : (sql : List ℕ) (params : Row) (old new : State) (schema : Schema) → old.now.schema ≡ schema → IsPlain (understood schema sql) → Survives old new (CommitsShowing sql params old) → Survives old new (λ _. ⊥)
query_survives sql params old new schema has plain s =
    let known : IsPlain (understood old.now.schema sql) = subst (λ k. IsPlain (understood k sql)) (sym has) plain in
    survives_then old old new (λ _. ⊥) _ (λ _. ⊥) (λ _ db none. none) (λ _ db may. never_commits sql params old db known may) (survives_same old) s
  where
    survives_same : (a : State) → Survives a a (λ _. ⊥)
    survives_same a = record {
      clean = omega arith;
      shield = λ h. h;
      counts = omega arith;
      limit = refl;
      closes = λ _ h. inl h;
      crash = λ _ db h. inl h;
    }

-- ---- a transaction that is not committed

module _ (begun mid end : State) (kept : KeepsCommit begun mid) (on : IsTrue end.is_open) where
  -- a rollback leaves the last commit
  pub rolled_back : IsRolledBack mid end → (end.now ≡ begun.committed) × (end.committed ≡ begun.committed)
  rolled_back back =
      let was = kept.committed (back.was_open on) in
      ((back.undone on).0 ∙ was, (back.undone on).1 ∙ was)

  -- so does a commit that fails
  pub not_committed : (e : Error) → IsTrue mid.in_transaction → FailsToCommit mid end e → (end.now ≡ begun.committed) × (end.committed ≡ begun.committed)
  not_committed e inside (inl (cause, is, why, back, told)) = rolled_back back
  not_committed e inside (inr (is, outside, same)) = absurd (let e = subst IsTrue outside inside in cc)
