-- What stands in a store, line by line. A dash stands in the place of a day or a number that isn't
-- there.
use Rattle.std.specs.Prelude.{ℕ, List, ◌++◌, codes, Option, Some, None}
use Rattle.std.specs.Fmt.{decimal}
use Rattle.clear_money.specs.Texts.{day_text}
use Rattle.clear_book.specs.declared.rows.ListRow.{ListRow}
use Rattle.clear_book.specs.declared.rows.RunRow.{RunRow}
use Rattle.clear_book.specs.Documents.Amounts.{euros_text}
use Rattle.clear_texts.specs.declared.look.Look.{Look}

-- a day
abbrev pub day_or_dash : Option ℕ → List ℕ
day_or_dash None = codes "-"
day_or_dash (Some day) = day_text day

-- a number
abbrev pub number_or_dash : Option ℕ → List ℕ
number_or_dash None = codes "-"
number_or_dash (Some number) = decimal number

-- the number and the day of a payout list or of a reminder run
abbrev pub dated : ℕ → ℕ → List ℕ
dated number day = decimal number ++ codes " " ++ day_text day

-- a payout list
abbrev pub list_or_dash : Option ListRow → List ℕ
list_or_dash None = codes "-"
list_or_dash (Some list) = dated list.list list.day

-- a reminder run
abbrev pub run_or_dash : Option RunRow → List ℕ
run_or_dash None = codes "-"
run_or_dash (Some run) = dated run.run run.day

-- the lines on the requests
unfoldable pub request_lines : ℕ → Look → List ℕ
request_lines schema look =
    codes "schema " ++ decimal schema
    ++ codes "\nledger day " ++ day_or_dash look.day
    ++ codes "\nrequests " ++ decimal look.requests
    ++ codes "\ngreatest number of the desk " ++ number_or_dash look.greatest
    ++ codes "\n"

-- the lines on the firms, their reports and the bank lines
unfoldable pub bank_lines : Look → List ℕ
bank_lines look =
    codes "firms " ++ decimal look.firms
    ++ codes "\nreports " ++ decimal look.reports
    ++ codes "\nbank lines " ++ decimal look.lines
    ++ codes "\nin suspense " ++ decimal look.suspended
    ++ codes " " ++ euros_text look.suspended_cents
    ++ codes "\n"

-- the lines on the claims, the last payout list and the last reminder run
unfoldable pub claim_lines : Look → List ℕ
claim_lines look =
    codes "open claims " ++ decimal look.open_claims
    ++ codes "\nto pay out " ++ decimal look.payable_claims
    ++ codes "\nlast list " ++ list_or_dash look.list
    ++ codes "\nlast run " ++ run_or_dash look.run
    ++ codes "\n"

-- what stands in a store whose schema has this number
unfoldable pub look_text : ℕ → Look → List ℕ
look_text schema look = request_lines schema look ++ bank_lines look ++ claim_lines look
