-- The parameters of its path that each request needs.
use Rattle.std.specs.Prelude.{◌≡◌, ℕ, List, [], ◌∷◌, All}
use Rattle.clear_routes.specs.declared.kinds.Kind.{Kind}
use Rattle.clear_routes.specs.declared.kinds.Kind.TheVariants as kind
use Rattle.clear_routes.specs.declared.methods.Action.{Action}
use Rattle.clear_routes.specs.declared.methods.Action.TheVariants.{Do, Ask}
use Rattle.clear_routes.specs.declared.parameters.Parameters.{Parameters}
use Rattle.clear_routes.specs.declared.table.CommandKind.TheVariants as command
use Rattle.clear_routes.specs.declared.table.QueryKind.TheVariants as query

-- the kinds of the parameters by which a path must say what a request is about
abbrev pub needs : Action → List Kind
needs (Do command.AddRate) = []
needs (Do command.Register) = []
needs (Do command.EndMembership) = kind.Employer ∷ []
needs (Do command.Report) = kind.Employer ∷ kind.Month ∷ []
needs (Do command.Correct) = kind.Employer ∷ kind.Month ∷ []
needs (Do command.Claim) = kind.Employer ∷ []
needs (Do command.Withdraw) = kind.Employer ∷ kind.Claim ∷ []
needs (Do command.Release) = kind.Claim ∷ []
needs (Do command.PayoutList) = []
needs (Do command.RemindRun) = []
needs (Do command.ImportBank) = []
needs (Do command.Assign) = []
needs (Ask query.Owed) = kind.Employer ∷ []
needs (Ask query.Statement) = kind.Employer ∷ []
needs (Ask query.Worker) = kind.Worker ∷ []
needs (Ask query.Suspense) = []
needs (Ask query.Payout) = kind.List ∷ []
needs (Ask query.Reminder) = kind.Run ∷ []

-- the value of a kind
abbrev pub value_at : Kind → Parameters → ℕ
value_at kind.Employer p = p.employer
value_at kind.Month p = p.month
value_at kind.Claim p = p.claim
value_at kind.Worker p = p.worker
value_at kind.List p = p.list
value_at kind.Run p = p.run

-- both have the same value of each of these kinds
abbrev pub AgreeOn : List Kind → Parameters → Parameters → Type 0
AgreeOn kinds p q = All (λ kind. value_at kind p ≡ value_at kind q) kinds
