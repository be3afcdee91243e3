-- What is said to a request.
use Rattle.clear_book.specs.declared.outcomes.Outcome.{Outcome}
use Rattle.clear_book.specs.declared.outcomes.Outcome.TheVariants as outcome
use Rattle.clear_book.specs.declared.rules.Rule.{Rule}
pub use Rattle.clear_routes.specs.Refusals.{by_rule, by_stream}
use Rattle.clear_answers.specs.declared.said.Said.{Said}
use Rattle.clear_answers.specs.declared.said.Said.TheVariants.{Reply, Answer, No}

-- what is said where a request is refused by this rule
abbrev pub refused_by : Rule → Said
refused_by r = No (by_rule r)

-- what is said of what the office answers a call with
abbrev pub said_of : Outcome → Said
said_of (outcome.Replied reply) = Reply reply
said_of (outcome.Answered answer) = Answer answer
said_of (outcome.Refused r) = refused_by r
