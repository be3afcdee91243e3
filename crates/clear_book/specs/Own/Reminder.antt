-- Reminder: a reminder run, as a document.
use Rattle.std.specs.Prelude.{Option, Bool, not}
use Rattle.clear_book.specs.declared.rules.Rule.{Rule}
use Rattle.clear_book.specs.declared.rules.Rule.TheVariants.{UnknownDocument}
use Rattle.clear_book.specs.Checks.{when}

-- the own rule, from whether there is a run of the number
abbrev pub own_reminder : Bool → Option Rule
own_reminder is_there = when (not is_there) UnknownDocument
