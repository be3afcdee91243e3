-- What a route calls for: the call, or the first part of the request that is wrong.
use Rattle.std.specs.Prelude.{ℕ, List, Option, Some, None, Result, Ok, ◌&&◌, nat_le}
use Rattle.std.specs.Prelude.{bytes_eq, if◌then◌else◌, option_and_then}
use Rattle.std.specs.Fmt.{decimal}
use Rattle.std.specs.Str.Parse.{digits_value}
use Rattle.clear_book.specs.declared.calls.Call.{Call}
use Rattle.clear_book.specs.declared.calls.Call.TheVariants.{Do, Ask}
use Rattle.clear_book.specs.declared.calls.Command.{Command}
use Rattle.clear_book.specs.declared.calls.Command.TheVariants as command
use Rattle.clear_book.specs.declared.calls.Query.{Query}
use Rattle.clear_book.specs.declared.calls.Query.TheVariants as query
use Rattle.clear_routes.specs.Bodies.{registration_of, report_of, correction_of, claim_of}
use Rattle.clear_routes.specs.Bodies.{rate_of, end_of, assignment_of, nothing_of}
use Rattle.clear_money.specs.Results.{◌>>=◌, or_fault}
use Rattle.clear_routes.specs.Faults.{Part, request_number}
use Rattle.clear_book.specs.Limits.{most_request_no}
use Rattle.clear_book.specs.declared.calls.Caller.{Caller}
use Rattle.clear_routes.specs.declared.methods.Action.{Action}
use Rattle.clear_routes.specs.declared.methods.Action.TheVariants as action
use Rattle.clear_routes.specs.declared.parameters.Parameters.{Parameters}
use Rattle.clear_routes.specs.declared.route.Route.{Route}
use Rattle.clear_routes.specs.declared.table.CommandKind.{CommandKind}
use Rattle.clear_routes.specs.declared.table.CommandKind.TheVariants as kind
use Rattle.clear_routes.specs.declared.table.QueryKind.{QueryKind}
use Rattle.clear_routes.specs.declared.table.QueryKind.TheVariants as asked
use Rattle.clear_wire.specs.Head.{Heading}

-- the number, if the text is its decimal digits and it is 1 to 999,999,999,999,999,999
abbrev pub where_spelled : ℕ → List ℕ → Option ℕ
where_spelled n text =
    if bytes_eq text (decimal n) && nat_le 1 n && nat_le n most_request_no then Some n else None

-- the number of a request that the text spells
abbrev pub number_spelled : List ℕ → Option ℕ
number_spelled text = where_spelled (digits_value 10 text) text

-- the number that the head gives the request
abbrev pub number_of : Heading → Result ℕ Part
number_of heading =
    or_fault request_number (option_and_then number_spelled heading.request_number)

-- the command of this kind that the path's parameters and the body make
abbrev pub command_for : CommandKind → Parameters → List ℕ → Result Command Part
command_for kind.AddRate at body = do
  rate ← rate_of body
  Ok (command.AddRate rate)
command_for kind.Register at body = do
  registration ← registration_of body
  Ok (command.Register registration)
command_for kind.EndMembership at body = do
  end ← end_of at.employer body
  Ok (command.EndMembership end)
command_for kind.Report at body = do
  report ← report_of at.employer at.month body
  Ok (command.Report report)
command_for kind.Correct at body = do
  correction ← correction_of at.employer at.month body
  Ok (command.Correct correction)
command_for kind.Claim at body = do
  claim ← claim_of at.employer body
  Ok (command.Claim claim)
command_for kind.Withdraw at body = do
  _ ← nothing_of body
  Ok (command.Withdraw (record { employer = at.employer; claim = at.claim }))
command_for kind.Release at body = do
  _ ← nothing_of body
  Ok (command.Release at.claim)
command_for kind.PayoutList at body = do
  _ ← nothing_of body
  Ok command.PayoutList
command_for kind.RemindRun at body = do
  _ ← nothing_of body
  Ok command.RemindRun
command_for kind.ImportBank at body = Ok (command.ImportBank body)
command_for kind.Assign at body = do
  assignment ← assignment_of body
  Ok (command.Assign assignment)

-- the query of this kind about the path's parameters
abbrev pub query_for : QueryKind → Parameters → Query
query_for asked.Owed at = query.Owed at.employer
query_for asked.Statement at = query.Statement at.employer
query_for asked.Worker at = query.Worker at.worker
query_for asked.Suspense at = query.Suspense
query_for asked.Payout at = query.Payout at.list
query_for asked.Reminder at = query.Reminder at.run

-- what a request of this route and this caller calls for on a day. Of a command the number in the
-- head is judged before the body; a query needs no number, and its body isn't looked at
abbrev pub called_by : Action → Parameters → Caller → ℕ → Heading → List ℕ → Result Call Part
called_by (action.Do what) at caller day heading body = do
  number ← number_of heading
  told ← command_for what at body
  Ok (Do caller number day told)
called_by (action.Ask what) at caller day heading body = Ok (Ask caller day (query_for what at))

-- what a request of this route calls for
abbrev pub called_for : Route → Caller → ℕ → Heading → List ℕ → Result Call Part
called_for route caller day heading body =
    called_by route.action route.parameters caller day heading body
