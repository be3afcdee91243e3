-- Employers and workers: who is registered, what a worker has earned and claimed, and what of it is
-- still to be claimed.
use Rattle.std.specs.Prelude.{ℕ, ◌-◌, ◌*◌, ◌/◌, List, [], ◌∷◌, ◌++◌, Option, Some, None, Bool}
use Rattle.std.specs.Prelude.{◌&&◌, ◌==◌, if◌then◌else◌, not, filter, length, map}
use Rattle.std.specs.Prelude.{◌+◌, nat_lt, sum_by}
use Rattle.std.specs.List.{filter_map, flat_map}
use Rattle.std.specs.Option.{option_map, option_map_or}
use Rattle.clear_money.specs.Calendar.{months}
use Rattle.clear_money.specs.Rates.{Rate, rate_in_force}
use Rattle.clear_book.specs.declared.calls.Command.{Command}
use Rattle.clear_book.specs.declared.calls.Command.TheVariants.{Claim, Withdraw, Release}
use Rattle.clear_book.specs.declared.calls.Command.TheVariants.{PayoutList}
use Rattle.clear_book.specs.declared.calls.HolidayClaim.{HolidayClaim}
use Rattle.clear_book.specs.declared.documents.EarnedLine.{EarnedLine}
use Rattle.clear_values.specs.declared.replies.Reply.{Reply}
use Rattle.clear_values.specs.declared.replies.Reply.TheVariants.{Released as release_reply, Listed}
use Rattle.clear_values.specs.declared.replies.Settlement.{Settlement}
use Rattle.clear_values.specs.declared.rows.ClaimRow.{ClaimRow}
use Rattle.clear_values.specs.declared.rows.ListRow.{ListRow}
use Rattle.clear_values.specs.declared.rows.ClaimState.{ClaimState}
use Rattle.clear_values.specs.declared.rows.ClaimState.TheVariants.{Open, Withdrawn, Released}
use Rattle.clear_values.specs.declared.texts.WageLine.{WageLine}
use Rattle.clear_book.specs.Book.{Book, Entry, rates_of, registration_in, latest_lines}
use Rattle.clear_values.specs.Keyed.{find_row, in_key_order}
pub use Rattle.clear_values.specs.Payouts.{is_on, is_open, is_payable, is_payable_release}
pub use Rattle.clear_values.specs.Payouts.{is_released_since, is_withdrawn, paid_out}
use Rattle.clear_values.specs.Tables.{claim_key, list_key}

-- ---- employers

-- the employers that entries register, the last one first
abbrev pub registered_in : List Entry → List ℕ
registered_in xs = filter_map (λ x. option_map (λ r. r.employer) (registration_in x.command)) xs

-- employers come in the order of their numbers
abbrev pub number_key : ℕ → List ℕ
number_key e = e ∷ []

-- the registered employers, rising
abbrev pub employers_of : List Entry → List ℕ
employers_of xs = in_key_order number_key (registered_in xs)

-- ---- what a worker has earned

-- the entitlement for a gross amount at a rate row, rounded down, and 0 where none is in force
abbrev pub entitlement_for : Option Rate → ℕ → ℕ
entitlement_for rate gross = option_map_or (λ r. gross * r.entitlement_rate / 10000) rate 0

-- what a line earns in a firm's month
abbrev pub earned_by : Book → ℕ → ℕ → WageLine → EarnedLine
earned_by b e m line =
    record {
      employer = e;
      month = m;
      cents = entitlement_for (rate_in_force (rates_of b) m) line.gross;
    }

-- the lines of a worker in a report, and none where there is no report
abbrev pub lines_of_worker : ℕ → Option (List WageLine) → List WageLine
lines_of_worker w None = []
lines_of_worker w (Some lines) = filter (λ line. line.worker == w) lines

-- what a worker has earned in a firm's month, by its latest report
abbrev pub earned_in : Book → ℕ → ℕ → ℕ → List EarnedLine
earned_in b w e m = map (earned_by b e m) (lines_of_worker w (latest_lines b.entries e m))

-- what a worker has earned at a firm, the months rising
abbrev pub earned_at : Book → ℕ → ℕ → List EarnedLine
earned_at b w e = flat_map (earned_in b w e) months

-- what a worker has earned, by employer, then month
abbrev pub earned_of : Book → ℕ → List EarnedLine
earned_of b w = flat_map (earned_at b w) (employers_of b.entries)

-- all that a worker has earned
abbrev pub entitlement_of : Book → ℕ → ℕ
entitlement_of b w = sum_by (λ line. line.cents) (earned_of b w)

-- the latest reports of a firm have a line of the worker, be it of 0 cents
abbrev pub is_employed : Book → ℕ → ℕ → Bool
is_employed b e w = nat_lt 0 (length (earned_at b w e))

-- ---- claims

-- a claim as it is made on a day, under its number
abbrev pub new_claim : ℕ → ℕ → HolidayClaim → ClaimRow
new_claim number t c =
    record {
      claim = number;
      employer = c.employer;
      worker = c.worker;
      cents = c.cents;
      made = t;
      state = Open;
    }

-- the claims that a command makes, on its day and behind the last number that was given
abbrev pub claims_by : ℕ → ℕ → Command → List ClaimRow
claims_by last t (Claim c) = new_claim (last + 1) t c ∷ []
claims_by last t command = []

-- a claim that is withdrawn
abbrev pub withdrawn : ClaimRow → ClaimRow
withdrawn claim = record claim { state = Withdrawn }

-- a claim that is released on a day with a settlement, and on no list yet
abbrev pub released : ℕ → Settlement → ClaimRow → ClaimRow
released t settlement claim =
    record claim { state = Released (record { day = t; settlement = settlement; list = None }) }

-- a claim after a release on a day, with the reply to it
abbrev pub released_by : ℕ → Reply → ClaimRow → ClaimRow
released_by t (release_reply settlement) claim = released t settlement claim
released_by t reply claim = claim

-- the claim has the number
abbrev pub is_claim : ℕ → ClaimRow → Bool
is_claim number claim = claim.claim == number

-- a state, on a list where something is to be paid out
abbrev pub state_on : ℕ → ClaimState → ClaimState
state_on list Open = Open
state_on list Withdrawn = Withdrawn
state_on list (Released release) =
    if is_payable_release release then Released (record release { list = Some list })
    else Released release

-- a claim, on a list where something of it is to be paid out
abbrev pub on_list : ℕ → ClaimRow → ClaimRow
on_list list claim = record claim { state = state_on list claim.state }

-- a claim after a payout list, with the reply to it
abbrev pub listed_by : Reply → ClaimRow → ClaimRow
listed_by (Listed list items total) claim = on_list list claim
listed_by reply claim = claim

-- a claim that stands, after a command, on its day and with the reply to it
abbrev pub claim_after : ℕ → Reply → Command → ClaimRow → ClaimRow
claim_after t reply (Withdraw w) claim =
    if is_claim w.claim claim then withdrawn claim else claim
claim_after t reply (Release number) claim =
    if is_claim number claim then released_by t reply claim else claim
claim_after t reply PayoutList claim = listed_by reply claim
claim_after t reply command claim = claim

-- the claims of all workers by their numbers, as they stand
abbrev pub claims_of : List Entry → List ClaimRow
claims_of [] = []
claims_of (x ∷ xs) =
    map (claim_after x.day x.reply x.command) (claims_of xs)
    ++ claims_by (length (claims_of xs)) x.day x.command

-- the claim of a number, if there is one
abbrev pub claim_of : List Entry → ℕ → Option ClaimRow
claim_of xs number = find_row claim_key (claims_of xs) (number ∷ [])

-- the claims of a worker that aren't withdrawn, by their numbers
abbrev pub claims_of_worker : List Entry → ℕ → List ClaimRow
claims_of_worker xs w =
    filter (λ claim. (claim.worker == w) && not (is_withdrawn claim.state)) (claims_of xs)

-- all that is claimed for a worker
abbrev pub claimed : Book → ℕ → ℕ
claimed b w = sum_by (λ claim. claim.cents) (claims_of_worker b.entries w)

-- the balance of a worker: what was earned, less what is claimed, and 0 where that is more
abbrev pub balance_of : Book → ℕ → ℕ
balance_of b w = entitlement_of b w - claimed b w

-- ---- payout lists

-- the claims of which something is to be paid out, by their numbers
abbrev pub payable_claims : List Entry → List ClaimRow
payable_claims xs = filter (λ claim. is_payable claim.state) (claims_of xs)

-- the list that a reply on a day tells of
abbrev pub lists_in : ℕ → Reply → List ListRow
lists_in t (Listed list items total) =
    record { list = list; day = t; items = items; total = total } ∷ []
lists_in t reply = []

-- the list that a command makes, on its day and with the reply to it
abbrev pub lists_by : ℕ → Reply → Command → List ListRow
lists_by t reply PayoutList = lists_in t reply
lists_by t reply command = []

-- the payout lists, in the order in which they were made
abbrev pub lists_of : List Entry → List ListRow
lists_of [] = []
lists_of (x ∷ xs) = lists_of xs ++ lists_by x.day x.reply x.command

-- the list of a number, if there is one
abbrev pub list_of : List Entry → ℕ → Option ListRow
list_of xs number = find_row list_key (lists_of xs) (number ∷ [])

-- the claims on a list, by their numbers
abbrev pub claims_on : List Entry → ℕ → List ClaimRow
claims_on xs list = filter (λ claim. is_on list claim.state) (claims_of xs)

-- the day of the last list, and 0 before there is one
abbrev pub last_list_day : List Entry → ℕ
last_list_day xs =
    option_map_or (λ list. list.day) (list_of xs (length (lists_of xs))) 0
