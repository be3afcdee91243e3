-- Short names for the values of examples.
use Rattle.std.specs.Prelude.{ℕ, List, [], ◌∷◌, Option, Some, None, codes}
use Rattle.clear_account.specs.declared.entries.Charge.{Charge}
use Rattle.clear_account.specs.declared.entries.Credit.{Credit}
use Rattle.clear_account.specs.declared.entries.Piece.{Piece}
use Rattle.clear_values.specs.declared.lines.Purpose.TheVariants.{Contribution}
use Rattle.clear_values.specs.declared.rows.BankRow.{BankRow}
use Rattle.clear_values.specs.declared.rows.ClaimRow.{ClaimRow}
use Rattle.clear_values.specs.declared.rows.ClaimState.{ClaimState}
use Rattle.clear_values.specs.declared.rows.ClaimState.TheVariants.{Open, Released}
use Rattle.clear_values.specs.declared.rows.ReminderRow.{ReminderRow}
use Rattle.clear_values.specs.declared.texts.WageLine.{WageLine}
use Rattle.clear_values.specs.Members.{Member}
use Rattle.clear_book.specs.Reminders.{LastReminder, Overdue, reminder}

-- January 2024, as a number
abbrev pub january : ℕ
january = 24288

-- and February
abbrev pub february : ℕ
february = 24289

-- the contribution of a month; the day on which it is due is left open
abbrev pub charge : ℕ → ℕ → Charge
charge month cents = record { month = month; due = 0; cents = cents }

-- a payment with a serial, its day left open
abbrev pub credit : ℕ → ℕ → Credit
credit serial cents = record { day = 0; serial = serial; cents = cents }

-- so many cents of the payment of a serial, for a month
abbrev pub piece : ℕ → ℕ → ℕ → Piece
piece month serial cents = record { month = month; serial = serial; cents = cents }

-- a line for contributions with a serial, of a firm or in suspense, its value date left open
abbrev pub line : Option ℕ → ℕ → ℕ → BankRow
line firm serial cents =
    record {
      line = record {
        reference = codes "E2E";
        value = 0;
        employer = firm;
        cents = cents;
        purpose = Contribution;
        note = [];
      };
      serial = serial;
      employer = firm;
    }

-- two lines, one of firm 1001 and one in suspense
abbrev pub two_lines : List BankRow
two_lines = line (Some 1001) 1 250000 ∷ line None 2 50000 ∷ []

-- the line of a worker in a report
abbrev pub wage : ℕ → ℕ → WageLine
wage worker gross = record { worker = worker; gross = gross }

-- a firm that is a member from a month on, up to a last one or with no end
abbrev pub member : ℕ → Option ℕ → Member
member start last = record { name = codes "Bau Nord"; start = start; last = last }

-- a claim of firm 1001 for worker 7, with a number and its cents; its day is left open
abbrev pub claim : ℕ → ℕ → ClaimState → ClaimRow
claim number cents state =
    record { claim = number; employer = 1001; worker = 7; cents = cents; made = 0; state = state }

-- a claim is released: so many cents are set off to contributions, so many are paid out, and it is
-- on a list or on none; its day is left open
abbrev pub released : ℕ → ℕ → Option ℕ → ClaimState
released set_off paid list =
    Released (record {
      day = 0;
      settlement = record { to_contributions = set_off; to_interest = 0; paid = paid };
      list = list;
    })

-- four claims: one that is paid out, one that is set off whole, one of which a part is paid out,
-- and an open one; the first and the third on a list or on none
abbrev pub four_claims : Option ℕ → List ClaimRow
four_claims list =
    claim 1 40000 (released 0 40000 list)
    ∷ claim 2 5000 (released 5000 0 None)
    ∷ claim 3 12000 (released 2500 9500 list)
    ∷ claim 4 1425 Open
    ∷ []

-- the last reminder of a firm: its level and its day
abbrev pub last_of : ℕ → ℕ → LastReminder
last_of level day = record { level = level; day = day }

-- what is overdue of a firm: its missing months, and what is in arrears of contributions and of
-- interest
abbrev pub overdue : List ℕ → ℕ → ℕ → Overdue
overdue months owed interest =
    record { months = months; owed = owed; interest = interest }

-- two reminders of a run: a first one to firm 1001, of which two months are missing, and one of the
-- greatest level to firm 1002, of which none is
abbrev pub two_reminders : ℕ → List ReminderRow
two_reminders run =
    reminder run 1001 (overdue (january ∷ february ∷ []) 49990 0) 1
    ∷ reminder run 1002 (overdue [] 0 125) 3
    ∷ []
