-- A change that leads to the tables of a book.
use Rattle.std.proofs.Common.{◌≡◌, ℕ, ◌≤◌, List, [], ◌∷◌, None, sym, ap, subst, arith}
use Rattle.std.specs.List.{AllByRecursion}
use Rattle.clear_values.specs.declared.rows.Change.{Change}
use Rattle.clear_values.specs.declared.rows.Change.TheVariants.{AddRate, AddEmployer, EndMembership, AddReport, ReplaceReport, AddBankLines, AssignLine, AddClaim, WithdrawClaim, ReleaseClaim, AddList, AddRun}
use Rattle.clear_values.specs.declared.texts.WageLine.{WageLine}
use Rattle.clear_values.specs.Credits.{credit_key}
use Rattle.clear_values.specs.Tables.{request_number, serial_key}
use Rattle.clear_book.specs.Book.{Book, Entry}
use Rattle.clear_values.specs.Keyed.{is_key, find_row, without_rows, AreInOrder, AreOnce}
use Rattle.clear_values.specs.Credits.{credits_of_lines, set_offs_of}
use Rattle.clear_book.specs.Lines.{lines_standing}
use Rattle.clear_book.specs.Machine.{IsLawful}
use Rattle.clear_values.specs.RowRanges.{AreInRange, IsBankRow, IsClaimRow, IsCreditRow, IsKeptCharge, IsListRow, IsReminderRow, IsReply, IsReportRow, IsRequestRow, IsRunRow, IsSerial, IsWageRow}
use Rattle.clear_values.specs.Tables.{Tables, bank_key, changed, charge_key, claim_key, employer_key, is_wage_key_of, list_key, reminder_key, report_key, request_key, run_key, wage_key, wage_rows}
use Rattle.clear_book.specs.Tables.{Stands, noted, request_row}
use Rattle.clear_values.proofs.KeyedRowsLemmas.{count_by-ordered}
use Rattle.clear_laws.proofs.ClaimsLemmas.{claims_numbered}
use Rattle.clear_laws.proofs.ListNumbersLemmas.{lists_in_order}
use Rattle.clear_laws.proofs.RemindersLemmas.{reminders_in_order, runs_in_order}
use Rattle.clear_values.proofs.PutRowsLemmas.{all_put}
use Rattle.clear_laws.proofs.LinesLemmas.{references_standing, standing_once}
use Rattle.clear_laws.proofs.RowRangeLemmas.{rows_in_range}
use Rattle.sqlite_keyed.proofs.ListLemmas.{all_weaker}
use Rattle.clear_schema.specs.Values.{counts_of}
use Rattle.clear_schema.specs.declared.counts.Counts.{Counts}
use Rattle.clear_store.specs.Changes.{AreGross, HasRoom, IsFree, IsInRange, IsPuttable, IsThere, taken_by}
use Rattle.clear_store.proofs.ChangeLemmas.{counted}
use Rattle.clear_store.proofs.RateLemmas.{rising_free}
use Rattle.clear_store.proofs.OnceLemmas.{all_new, all_with, in_order_free, key_count, once_counted, once_free}

-- ---- keys

-- no serial stands twice in the tables of a book
serials_counted : (b : Book) (t : Tables) → Stands b t → (k : List ℕ) → key_count serial_key k t.bank ≤ 1
serials_counted b t stands k =
    let once : AreOnce serial_key (lines_standing b.entries) = standing_once b.entries in
    let same = count_by-ordered bank_key (λ row. is_key (serial_key row) k) t.bank (lines_standing b.entries) stands.bank_in_order (references_standing b.entries) stands.bank in
    omega (arith, same, once_counted serial_key k (lines_standing b.entries) once)

-- each key that the change adds was free
pub change_free : (next : Book) (t : Tables) (x : Entry) (change : Change) → IsLawful next → Stands next (noted x (changed change t)) → IsFree change t
change_free next t x (AddRate row) lawful stands =
    rising_free t.rates row (rows_in_range next (noted x (changed (AddRate row) t)) lawful stands).rates.rising
change_free next t x (EndMembership row) lawful stands = tt
change_free next t x (AddEmployer row) lawful stands =
    (in_order_free employer_key t.employers (row ∷ []) stands.employers_in_order).0
change_free next t x (AddReport row lines charge) lawful stands = (
  (
    (in_order_free report_key t.reports (row ∷ []) stands.reports_in_order).0,
    in_order_free wage_key t.wages (wage_rows row.employer row.month lines) stands.wages_in_order,
  ),
  (in_order_free charge_key t.charges (charge ∷ []) stands.charges_in_order).0,
)
change_free next t x (ReplaceReport row lines charge) lawful stands =
    in_order_free wage_key (without_rows wage_key (is_wage_key_of row.employer row.month) t.wages)
    (wage_rows row.employer row.month lines) stands.wages_in_order
change_free next t x (AssignLine row) lawful stands = in_order_free credit_key t.credits (credits_of_lines (row ∷ [])) stands.credits_in_order
change_free next t x (AddBankLines rows) lawful stands = (
  in_order_free bank_key t.bank rows stands.bank_in_order,
  once_free serial_key bank_key t.bank rows (serials_counted next (noted x (changed (AddBankLines rows) t)) stands),
  in_order_free credit_key t.credits (credits_of_lines rows) stands.credits_in_order,
)
change_free next t x (AddClaim row) lawful stands =
    (in_order_free claim_key t.claims (row ∷ []) (subst (AreInOrder claim_key) (sym stands.claims) (claims_numbered next.entries).order)).0
change_free next t x (WithdrawClaim row) lawful stands = tt
change_free next t x (ReleaseClaim row serial) lawful stands = in_order_free credit_key t.credits (set_offs_of row serial) stands.credits_in_order
change_free next t x (AddList row claims) lawful stands =
    (in_order_free list_key t.lists (row ∷ []) (subst (AreInOrder list_key) (sym stands.lists) (lists_in_order next.opening next.entries lawful))).0
change_free next t x (AddRun row reminders) lawful stands = (
  (in_order_free run_key t.runs (row ∷ []) (subst (AreInOrder run_key) (sym stands.runs) (runs_in_order next.opening next.entries lawful))).0,
  in_order_free reminder_key t.reminders reminders (subst (AreInOrder reminder_key) (sym stands.reminders) (reminders_in_order next.opening next.entries lawful)),
)

-- and the number of the request
pub number_free : (next : Book) (t : Tables) (x : Entry) (change : Change) → Stands next (noted x (changed change t)) → find_row request_key t.requests (request_number x.caller x.number) ≡ None
number_free next t x (AddRate row) stands = (in_order_free request_key t.requests (request_row x ∷ []) stands.requests_in_order).0
number_free next t x (EndMembership row) stands = (in_order_free request_key t.requests (request_row x ∷ []) stands.requests_in_order).0
number_free next t x (AssignLine row) stands = (in_order_free request_key t.requests (request_row x ∷ []) stands.requests_in_order).0
number_free next t x (AddEmployer row) stands = (in_order_free request_key t.requests (request_row x ∷ []) stands.requests_in_order).0
number_free next t x (AddReport row lines charge) stands = (in_order_free request_key t.requests (request_row x ∷ []) stands.requests_in_order).0
number_free next t x (ReplaceReport row lines charge) stands = (in_order_free request_key t.requests (request_row x ∷ []) stands.requests_in_order).0
number_free next t x (AddBankLines rows) stands = (in_order_free request_key t.requests (request_row x ∷ []) stands.requests_in_order).0
number_free next t x (AddClaim row) stands = (in_order_free request_key t.requests (request_row x ∷ []) stands.requests_in_order).0
number_free next t x (WithdrawClaim row) stands = (in_order_free request_key t.requests (request_row x ∷ []) stands.requests_in_order).0
number_free next t x (ReleaseClaim row serial) stands = (in_order_free request_key t.requests (request_row x ∷ []) stands.requests_in_order).0
number_free next t x (AddList row claims) stands = (in_order_free request_key t.requests (request_row x ∷ []) stands.requests_in_order).0
number_free next t x (AddRun row reminders) stands = (in_order_free request_key t.requests (request_row x ∷ []) stands.requests_in_order).0

-- ---- ranges

-- the numbers of the reply are in range
pub reply_in_range : (next : Book) (t : Tables) (x : Entry) (change : Change) → IsLawful next → Stands next (noted x (changed change t)) → IsReply x.reply
reply_in_range next t x change lawful stands =
    (all_with request_key IsRequestRow (changed change t).requests (request_row x) (rows_in_range next (noted x (changed change t)) lawful stands).requests).1.reply

all_gross : (e m : ℕ) (lines : List WageLine) → AllByRecursion IsWageRow (wage_rows e m lines) → AreGross lines
all_gross e m [] all = tt
all_gross e m (line ∷ lines) all = (all.0.gross, all_gross e m lines all.1)

-- the numbers in the rows are those of rows in their ranges
rows_puttable : (t : Tables) (x : Entry) (change : Change) → IsThere change t → AreInRange (noted x (changed change t)) → IsInRange change
rows_puttable t x (AddRate row) there within = tt
rows_puttable t x (EndMembership row) there within = tt
rows_puttable t x (AddEmployer row) there within = tt
rows_puttable t x (AddReport row lines charge) there within =
    let report = (all_with report_key IsReportRow t.reports row within.reports).1 in
    let wages = all_new wage_key IsWageRow t.wages (wage_rows row.employer row.month lines) within.wages in
    let kept = (all_with charge_key IsKeptCharge t.charges charge within.charges).1 in
    (((report.some, report.few), all_gross row.employer row.month lines wages.1), (kept.cents, kept.left, kept.weight))
rows_puttable t x (ReplaceReport row lines charge) there within =
    let report = (all_with report_key IsReportRow (without_rows report_key (λ k. is_key k (report_key row)) t.reports) row within.reports).1 in
    let wages = all_new wage_key IsWageRow (without_rows wage_key (is_wage_key_of row.employer row.month) t.wages) (wage_rows row.employer row.month lines) within.wages in
    (((report.some, report.few), all_gross row.employer row.month lines wages.1), there.1)
rows_puttable t x (AssignLine row) there within =
    all_weaker IsCreditRow (λ credit. IsSerial credit.serial) (λ credit good. good.serial) (credits_of_lines (row ∷ []))
    (all_new credit_key IsCreditRow t.credits (credits_of_lines (row ∷ [])) within.credits).1
rows_puttable t x (AddBankLines rows) there within =
    all_weaker IsBankRow (λ row. IsSerial row.serial) (λ row good. good.serial) rows (all_new bank_key IsBankRow t.bank rows within.bank).1
rows_puttable t x (AddClaim row) there within = (all_with claim_key IsClaimRow t.claims row within.claims).1
rows_puttable t x (WithdrawClaim row) there within =
    (all_with claim_key IsClaimRow (without_rows claim_key (λ k. is_key k (claim_key row)) t.claims) row within.claims).1
rows_puttable t x (ReleaseClaim row serial) there within = (
  (all_with claim_key IsClaimRow (without_rows claim_key (λ k. is_key k (claim_key row)) t.claims) row within.claims).1,
  all_weaker IsCreditRow (λ credit. IsSerial credit.serial) (λ credit good. good.serial) (set_offs_of row serial)
      (all_new credit_key IsCreditRow t.credits (set_offs_of row serial) within.credits).1,
)
rows_puttable t x (AddList row claims) there within = (
  (all_with list_key IsListRow t.lists row within.lists).1,
  all_put claim_key IsClaimRow t.claims claims there.1 within.claims,
)
rows_puttable t x (AddRun row reminders) there within = (
  (all_with run_key IsRunRow t.runs row within.runs).1,
  (all_new reminder_key IsReminderRow t.reminders reminders within.reminders).1,
)

-- so the change can be put
pub change_puttable : (next : Book) (t : Tables) (x : Entry) (change : Change) (counts : Counts) → IsLawful next → Stands next (noted x (changed change t)) → counts ≡ counts_of t → IsThere change t → IsPuttable counts change
change_puttable next t x change counts lawful stands same there =
    let within = rows_in_range next (noted x (changed change t)) lawful stands in
    (rows_puttable t x change there within, room within)
  where
    entries : counts.entries ≡ t.entries
    entries = ap (λ (c : Counts). c.entries) same

    serial : counts.serial ≡ t.serial
    serial = ap (λ (c : Counts). c.serial) same

    claims : counts.claims ≡ t.last_claim
    claims = ap (λ (c : Counts). c.claims) same

    lists : counts.lists ≡ t.last_list
    lists = ap (λ (c : Counts). c.lists) same

    runs : counts.runs ≡ t.last_run
    runs = ap (λ (c : Counts). c.runs) same

    -- the counts that are put are those of the tables after the change
    room : AreInRange (noted x (changed change t)) → HasRoom counts (taken_by change)
    room within = (
      omega (arith, entries, ap (λ (u : Tables). u.entries) (counted x.day change t), within.entries),
      omega (arith, serial, ap (λ (u : Tables). u.serial) (counted x.day change t), within.serial),
      omega (arith, claims, ap (λ (u : Tables). u.last_claim) (counted x.day change t), within.last_claim),
      omega (arith, lists, ap (λ (u : Tables). u.last_list) (counted x.day change t), within.last_list),
      omega (arith, runs, ap (λ (u : Tables). u.last_run) (counted x.day change t), within.last_run),
    )
