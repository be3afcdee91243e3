-- By which method and which path each request is asked for.
use Rattle.std.specs.Prelude.{ℕ, List, codes}
use Rattle.clear_routes.specs.declared.methods.Action.{Action}
use Rattle.clear_routes.specs.declared.methods.Action.TheVariants.{Do, Ask}
use Rattle.clear_routes.specs.declared.table.CommandKind.TheVariants as command
use Rattle.clear_routes.specs.declared.table.QueryKind.TheVariants as query
use Rattle.clear_wire.specs.declared.method.Method.{Method}
use Rattle.clear_wire.specs.declared.method.Method.TheVariants.{Get, Post, Put}

-- the method, and the text of the path
abbrev pub asked_by : Action → Method × List ℕ
asked_by (Do command.AddRate) = (Post, codes "/rates")
asked_by (Do command.Register) = (Post, codes "/employers")
asked_by (Do command.EndMembership) = (Post, codes "/employers/{employer}/end")
asked_by (Do command.Report) = (Post, codes "/employers/{employer}/reports/{month}")
asked_by (Do command.Correct) = (Put, codes "/employers/{employer}/reports/{month}")
asked_by (Do command.Claim) = (Post, codes "/employers/{employer}/claims")
asked_by (Do command.Withdraw) = (Post, codes "/employers/{employer}/claims/{claim}/withdraw")
asked_by (Do command.Release) = (Post, codes "/claims/{claim}/release")
asked_by (Do command.PayoutList) = (Post, codes "/payouts")
asked_by (Do command.RemindRun) = (Post, codes "/reminders")
asked_by (Do command.ImportBank) = (Post, codes "/bank")
asked_by (Do command.Assign) = (Post, codes "/assign")
asked_by (Ask query.Owed) = (Get, codes "/employers/{employer}/owed")
asked_by (Ask query.Statement) = (Get, codes "/employers/{employer}/statement")
asked_by (Ask query.Worker) = (Get, codes "/workers/{worker}")
asked_by (Ask query.Suspense) = (Get, codes "/suspense")
asked_by (Ask query.Payout) = (Get, codes "/payouts/{list}")
asked_by (Ask query.Reminder) = (Get, codes "/reminders/{run}")
