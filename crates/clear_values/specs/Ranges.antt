-- The values that callers, tables of rates and bank lines may hold.
use Rattle.std.specs.Prelude.{◌≡◌, ◌<◌, List, length, true, IfSome}
use Rattle.std.specs.List.{AllByRecursion}
use Rattle.clear_money.specs.Calendar.{IsDay}
use Rattle.clear_money.specs.Numbers.{IsAmount, IsEmployerNo}
use Rattle.clear_money.specs.Rates.{Rate, IsRate, IsRising}
use Rattle.clear_values.specs.Texts.{is_reference, is_note}
use Rattle.clear_values.specs.declared.callers.Caller.{Caller}
use Rattle.clear_values.specs.declared.callers.Caller.TheVariants.{Firm, Clerk}
use Rattle.clear_values.specs.declared.lines.BankLine.{BankLine}

-- the number of a firm that calls
abbrev pub IsCaller : Caller → Type 0
IsCaller (Firm e) = IsEmployerNo e
IsCaller Clerk = Unit {0}

-- one rate row at least, the first months rising, each in its ranges
pub record AreRates (rates : List Rate) : Type 0 where
  pub some : 0 < length rates
  pub rising : IsRising rates
  pub ranges : AllByRecursion IsRate rates

-- the values of a line are in range; it may name no firm, and its purpose is any
pub record IsBankLine (line : BankLine) : Type 0 where
  pub reference : is_reference line.reference ≡ true
  pub value : IsDay line.value
  pub employer : IfSome line.employer IsEmployerNo
  pub cents : IsAmount line.cents
  pub note : is_note line.note ≡ true
