-- What is told once connections are taken, and of work that was done.
use Rattle.std.specs.Prelude.{ℕ, ◌+◌, nat_lt, List, [], ◌++◌, codes, if◌then◌else◌, Option, Some, None}
use Rattle.std.specs.Fmt.{decimal}
use Rattle.clear_money.specs.Texts.{day_text}

-- a day, or that there is none
abbrev pub day_or_none : Option ℕ → List ℕ
day_or_none (Some day) = day_text day
day_or_none None = codes "-"

-- the port, the office's day, and the ledger day
unfoldable pub ready_line : ℕ → ℕ → Option ℕ → List ℕ
ready_line port day ledger_day =
    codes "ready on 127.0.0.1:" ++ decimal port
    ++ codes ", day " ++ day_text day
    ++ codes ", ledger day " ++ day_or_none ledger_day
    ++ codes "\n"

-- a store was copied, whose last accepted request is of this day
unfoldable pub copied_line : Option ℕ → List ℕ
copied_line ledger_day = codes "copied, ledger day " ++ day_or_none ledger_day ++ codes "\n"

-- a store was made or brought to this program's schema
unfoldable pub schema_line : ℕ → List ℕ
schema_line schema = codes "schema " ++ decimal schema ++ codes "\n"

-- so many connections were served
unfoldable pub served_line : ℕ → List ℕ
served_line count = codes "served " ++ decimal count ++ codes "\n"

-- a bank file was imported, with so many new lines and repeats
unfoldable pub imported_line : ℕ → ℕ → List ℕ
imported_line new repeats =
    codes "new " ++ decimal new ++ codes " repeats " ++ decimal repeats ++ codes "\n"

-- what it means where the day lies before the ledger day, or more than 31 days after it
unfoldable pub meaning : ℕ → Option ℕ → List ℕ
meaning day None = []
meaning day (Some last) =
    if nat_lt day last
    then codes "this day lies before the ledger day: every new request will be refused\n"
    else (if nat_lt (last + 31) day
    then codes "this day lies more than 31 days after the ledger day: "
    ++ codes "the first accepted request moves the ledger day there for good\n"
    else [])

-- both
unfoldable pub ready_text : ℕ → ℕ → Option ℕ → List ℕ
ready_text port day ledger_day = ready_line port day ledger_day ++ meaning day ledger_day
