use Rattle.std.proofs.Common.{ap, refl, ◌∙◌}
use Rattle.clear_money.specs.Rates.{last_first}
use Rattle.clear_book.specs.Book.{Book}
use Rattle.clear_book.specs.Tables.{Stands, member_in}
use Rattle.clear_book.specs.Workers.{new_claim}
use Rattle.clear_book.specs.declared.calls.Command.TheVariants.{AddRate, Assign, Claim, Correct, EndMembership, PayoutList, Register, Release, RemindRun, Report, Withdraw}
use Rattle.clear_laws.proofs.RowRangeLemmas.{rows_in_range}
use Rattle.clear_office.proofs.DecisionLemmas.{assignment_there, claim_there, correction_there, decides, decides_weighed, employer_there, end_there, list_there, rate_there, release_there, report_there, run_there, withdrawal_there}
use Rattle.clear_rules.specs.Views.Register.{registered_row}
use Rattle.clear_rules.specs.Views.Report.{charge_for, first_report}
use Rattle.clear_views.proofs.ViewLemmas.{end_viewed, report_viewed}
use Rattle.std.proofs.lemmas.Result.{err_from_is_err_and}
use Rattle.std.specs.Option.{option_map}
use Rattle.clear_office.proofs.decisions.decide.Goals as goal

pub returns-in_ok-add_rate_view-in-AddRate-clause-decided : goal.returns-in_ok-add_rate_view-in-AddRate-clause-decided
returns-in_ok-add_rate_view-in-AddRate-clause-decided g c clean t has counts back =
    let row = c.in-AddRate.row in
    let decided = c.decide_add_rate.ensures in
    let last = c.in_ok-add_rate_view-in-AddRate.ensures.last clean t has in
    rw (c.in-AddRate.is, c.or_stop.ensures)
    (decides c.args.day (AddRate row) t c.decide_add_rate.result
    (rate_there t c.args.day row c.decide_add_rate.result (decided.rule t.rates last) decided.made)
    (λ b lawful stands. decided.judged b (last ∙ ap last_first stands.rates))
    (λ b lawful stands. decided.change b))

pub returns-in_err-add_rate_view-in-AddRate-clause-decided : goal.returns-in_err-add_rate_view-in-AddRate-clause-decided
returns-in_err-add_rate_view-in-AddRate-clause-decided g c clean t has counts back =
    let p = err_from_is_err_and c.from_residual.result c.from_residual.ensures.1 in
    rw (p.1, p.2) (λ b lawful weighed. c.in_err-add_rate_view-in-AddRate.ensures.fault clean t has (rows_in_range b t lawful weighed.stands))

pub returns-in_ok-view-in-Register-clause-decided : goal.returns-in_ok-view-in-Register-clause-decided
returns-in_ok-view-in-Register-clause-decided g c clean t has counts back =
    let r = c.in-Register.registration in
    let decided = c.decide_register.ensures in
    rw (c.in-Register.is, c.or_stop-in-Register.ensures)
    (decides c.args.day (Register r) t c.decide_register.result
    (employer_there t c.decide_register.result (registered_row r) decided.made)
    (λ b lawful stands. decided.judged b (c.in_ok-view-in-Register.ensures.view clean t has counts b stands))
    (λ b lawful stands. decided.change b))

pub returns-in_err-view-in-Register-clause-decided : goal.returns-in_err-view-in-Register-clause-decided
returns-in_err-view-in-Register-clause-decided g c clean t has counts back =
    let p = err_from_is_err_and c.from_residual-in_err-view-in-Register.result c.from_residual-in_err-view-in-Register.ensures.1 in
    rw (p.1, p.2) (λ b lawful weighed. c.in_err-view-in-Register.ensures.fault clean t has (rows_in_range b t lawful weighed.stands))

pub returns-in_ok-end_view-in-EndMembership-clause-decided : goal.returns-in_ok-end_view-in-EndMembership-clause-decided
returns-in_ok-end_view-in-EndMembership-clause-decided g c clean t has counts back =
    let end = c.in-EndMembership.end in
    let view = c.in_ok-end_view-in-EndMembership.ensures in
    let decided = c.decide_end.ensures in
    rw (c.in-EndMembership.is, c.or_stop-in-EndMembership.ensures)
    (decides c.args.day (EndMembership end) t c.decide_end.result
    (end_there t c.decide_end.result end c.in_ok-end_view-in-EndMembership.field-0 (view.member clean t has) decided.made)
    (λ b lawful stands. decided.judged b c.args.day (end_viewed b t lawful stands end c.in_ok-end_view-in-EndMembership.field-0 (view.member clean t has) (view.reported clean t has)))
    (λ b lawful stands. decided.change b c.args.day (end_viewed b t lawful stands end c.in_ok-end_view-in-EndMembership.field-0 (view.member clean t has) (view.reported clean t has))))

pub returns-in_err-end_view-in-EndMembership-clause-decided : goal.returns-in_err-end_view-in-EndMembership-clause-decided
returns-in_err-end_view-in-EndMembership-clause-decided g c clean t has counts back =
    let p = err_from_is_err_and c.from_residual-in_err-end_view-in-EndMembership.result c.from_residual-in_err-end_view-in-EndMembership.ensures.1 in
    rw (p.1, p.2) (λ b lawful weighed. c.in_err-end_view-in-EndMembership.ensures.fault clean t has (rows_in_range b t lawful weighed.stands))

pub returns-in_ok-report_view-in-Report-clause-decided : goal.returns-in_ok-report_view-in-Report-clause-decided
returns-in_ok-report_view-in-Report-clause-decided g c clean t has counts back =
    let r = c.in-Report.report in
    let view = c.in_ok-report_view-in-Report.ensures in
    let decided = c.decide_report.ensures in
    let viewed = λ (b : Book) (stands : Stands b t). report_viewed b t stands r c.in_ok-report_view-in-Report.field-0 (view.member clean t has) (view.version clean t has) (view.row clean t has) in
    rw (c.in-Report.is, c.or_stop-in-Report.ensures)
    (decides c.args.day (Report r) t c.decide_report.result
    (report_there t c.decide_report.result (first_report r) r.lines (charge_for r c.in_ok-report_view-in-Report.field-0) decided.made)
    (λ b lawful stands. decided.judged b (viewed b stands))
    (λ b lawful stands. decided.change b (viewed b stands)))

pub returns-in_err-report_view-in-Report-clause-decided : goal.returns-in_err-report_view-in-Report-clause-decided
returns-in_err-report_view-in-Report-clause-decided g c clean t has counts back =
    let p = err_from_is_err_and c.from_residual-in_err-report_view-in-Report.result c.from_residual-in_err-report_view-in-Report.ensures.1 in
    rw (p.1, p.2) (λ b lawful weighed. c.in_err-report_view-in-Report.ensures.fault clean t has (rows_in_range b t lawful weighed.stands))

pub returns-in_ok-view-in-Correct-clause-decided : goal.returns-in_ok-view-in-Correct-clause-decided
returns-in_ok-view-in-Correct-clause-decided g c clean t has counts back =
    let correction = c.in-Correct.correction in
    let view = c.in_ok-view-in-Correct.ensures in
    let decided = c.decide_correct.ensures in
    let viewed = λ (b : Book) (stands : Stands b t). report_viewed b t stands correction.report c.in_ok-view-in-Correct.view (view.member clean t has) (view.version clean t has) (view.row clean t has) in
    rw (c.in-Correct.is, c.or_stop-in-Correct.ensures)
    (decides c.args.day (Correct correction) t c.decide_correct.result
    (correction_there t c.args.day correction (option_map member_in c.in_ok-view-in-Correct.view.member) c.in_ok-view-in-Correct.view.version (view.version clean t has) (charge_for correction.report c.in_ok-view-in-Correct.view) refl refl refl c.decide_correct.result decided.bound decided.rule decided.made)
    (λ b lawful stands. decided.judged b (viewed b stands))
    (λ b lawful stands. decided.change b (viewed b stands)))

pub returns-in_err-view-in-Correct-clause-decided : goal.returns-in_err-view-in-Correct-clause-decided
returns-in_err-view-in-Correct-clause-decided g c clean t has counts back =
    let p = err_from_is_err_and c.from_residual-in_err-view-in-Correct.result c.from_residual-in_err-view-in-Correct.ensures.1 in
    rw (p.1, p.2) (λ b lawful weighed. c.in_err-view-in-Correct.ensures.fault clean t has (rows_in_range b t lawful weighed.stands))

pub returns-in_ok-assign_view-in-Assign-clause-decided : goal.returns-in_ok-assign_view-in-Assign-clause-decided
returns-in_ok-assign_view-in-Assign-clause-decided g c clean t has counts back =
    let a = c.in-Assign.assignment in
    let decided = c.decide_assign.ensures in
    rw (c.in-Assign.is, c.or_stop-in-Assign.ensures)
    (decides c.args.day (Assign a) t c.decide_assign.result
    (assignment_there t c.decide_assign.result a c.in_ok-assign_view-in-Assign.field-0 (c.in_ok-assign_view-in-Assign.ensures.line clean t has) decided.made)
    (λ b lawful stands. decided.judged b c.args.day (c.in_ok-assign_view-in-Assign.ensures.view clean t has counts b stands))
    (λ b lawful stands. decided.change b c.args.day (c.in_ok-assign_view-in-Assign.ensures.view clean t has counts b stands)))

pub returns-in_err-assign_view-in-Assign-clause-decided : goal.returns-in_err-assign_view-in-Assign-clause-decided
returns-in_err-assign_view-in-Assign-clause-decided g c clean t has counts back =
    let p = err_from_is_err_and c.from_residual-in_err-assign_view-in-Assign.result c.from_residual-in_err-assign_view-in-Assign.ensures.1 in
    rw (p.1, p.2) (λ b lawful weighed. c.in_err-assign_view-in-Assign.ensures.fault clean t has (rows_in_range b t lawful weighed.stands))

pub returns-in_ok-claim_view-in-Claim-clause-decided : goal.returns-in_ok-claim_view-in-Claim-clause-decided
returns-in_ok-claim_view-in-Claim-clause-decided g c clean t has counts back =
    let claim = c.in-Claim.claim in
    let decided = c.decide_claim.ensures in
    rw (c.in-Claim.is, c.or_stop-in-Claim.ensures)
    (decides c.args.day (Claim claim) t c.decide_claim.result
    (claim_there t c.decide_claim.result (new_claim c.in_ok-claim_view-in-Claim.field-0.next c.args.day claim) decided.made)
    (λ b lawful stands. decided.judged b (c.in_ok-claim_view-in-Claim.ensures.view clean t has counts b lawful stands))
    (λ b lawful stands. decided.change b (c.in_ok-claim_view-in-Claim.ensures.view clean t has counts b lawful stands)))

pub returns-in_err-claim_view-in-Claim-clause-decided : goal.returns-in_err-claim_view-in-Claim-clause-decided
returns-in_err-claim_view-in-Claim-clause-decided g c clean t has counts back =
    let p = err_from_is_err_and c.from_residual-in_err-claim_view-in-Claim.result c.from_residual-in_err-claim_view-in-Claim.ensures.1 in
    rw (p.1, p.2) (λ b lawful weighed. c.in_err-claim_view-in-Claim.ensures.fault clean t has counts b lawful weighed.stands)

pub returns-in_ok-withdraw_view-in-Withdraw-clause-decided : goal.returns-in_ok-withdraw_view-in-Withdraw-clause-decided
returns-in_ok-withdraw_view-in-Withdraw-clause-decided g c clean t has counts back =
    let withdrawal = c.in-Withdraw.withdrawal in
    let decided = c.decide_withdraw.ensures in
    rw (c.in-Withdraw.is, c.or_stop-in-Withdraw.ensures)
    (decides c.args.day (Withdraw withdrawal) t c.decide_withdraw.result
    (withdrawal_there t c.decide_withdraw.result withdrawal.claim c.in_ok-withdraw_view-in-Withdraw.field-0 (c.in_ok-withdraw_view-in-Withdraw.ensures.claim clean t has) decided.made)
    (λ b lawful stands. decided.judged b c.args.day (c.in_ok-withdraw_view-in-Withdraw.ensures.view clean t has b lawful stands))
    (λ b lawful stands. decided.change b c.args.day (c.in_ok-withdraw_view-in-Withdraw.ensures.view clean t has b lawful stands)))

pub returns-in_err-withdraw_view-in-Withdraw-clause-decided : goal.returns-in_err-withdraw_view-in-Withdraw-clause-decided
returns-in_err-withdraw_view-in-Withdraw-clause-decided g c clean t has counts back =
    let p = err_from_is_err_and c.from_residual-in_err-withdraw_view-in-Withdraw.result c.from_residual-in_err-withdraw_view-in-Withdraw.ensures.1 in
    rw (p.1, p.2) (λ b lawful weighed. c.in_err-withdraw_view-in-Withdraw.ensures.fault clean t has b lawful weighed.stands)

pub returns-in_ok-view-in-Release-clause-decided : goal.returns-in_ok-view-in-Release-clause-decided
returns-in_ok-view-in-Release-clause-decided g c clean t has counts back =
    let claim = c.in-Release.claim in
    let decided = c.decide_release.ensures in
    rw (c.in-Release.is, c.or_stop-in-Release.ensures)
    (decides_weighed c.args.day (Release claim) t c.decide_release.result
    (release_there t c.decide_release.result c.args.day claim c.in_ok-view-in-Release.view (c.in_ok-view-in-Release.ensures.claim clean t has) decided.made)
    (λ b lawful weighed. decided.judged b claim (c.in_ok-view-in-Release.ensures.view clean t has counts back b lawful weighed))
    (λ b lawful weighed. decided.change b claim (c.in_ok-view-in-Release.ensures.view clean t has counts back b lawful weighed)))

pub returns-in_err-view-in-Release-clause-decided : goal.returns-in_err-view-in-Release-clause-decided
returns-in_err-view-in-Release-clause-decided g c clean t has counts back =
    let p = err_from_is_err_and c.from_residual-in_err-view-in-Release.result c.from_residual-in_err-view-in-Release.ensures.1 in
    rw (p.1, p.2) (λ b lawful weighed. c.in_err-view-in-Release.ensures.fault clean t has b lawful weighed)

pub returns-in_ok-payout_view-in-PayoutList-clause-decided : goal.returns-in_ok-payout_view-in-PayoutList-clause-decided
returns-in_ok-payout_view-in-PayoutList-clause-decided g c clean t has counts back =
    let decided = c.decide_payout.ensures in
    rw (c.in-PayoutList.is, c.or_stop-in-PayoutList.ensures)
    (decides c.args.day PayoutList t c.decide_payout.result
    (list_there t c.decide_payout.result c.args.day c.in_ok-payout_view-in-PayoutList.field-0 (c.in_ok-payout_view-in-PayoutList.ensures.claims clean t has) decided.made)
    (λ b lawful stands. decided.judged b (c.in_ok-payout_view-in-PayoutList.ensures.view clean t has counts b lawful stands))
    (λ b lawful stands. decided.change b (c.in_ok-payout_view-in-PayoutList.ensures.view clean t has counts b lawful stands)))

pub returns-in_err-payout_view-in-PayoutList-clause-decided : goal.returns-in_err-payout_view-in-PayoutList-clause-decided
returns-in_err-payout_view-in-PayoutList-clause-decided g c clean t has counts back =
    let p = err_from_is_err_and c.from_residual-in_err-payout_view-in-PayoutList.result c.from_residual-in_err-payout_view-in-PayoutList.ensures.1 in
    rw (p.1, p.2) (λ b lawful weighed. c.in_err-payout_view-in-PayoutList.ensures.fault clean t has counts b lawful weighed.stands)

pub returns-in_ok-view-in-RemindRun-clause-decided : goal.returns-in_ok-view-in-RemindRun-clause-decided
returns-in_ok-view-in-RemindRun-clause-decided g c clean t has counts back =
    let decided = c.decide_remind.ensures in
    rw (c.in-RemindRun.is, c.or_stop-in-RemindRun.ensures)
    (decides_weighed c.args.day RemindRun t c.decide_remind.result
    (run_there t c.decide_remind.result _ _ decided.made)
    (λ b lawful weighed. decided.judged b (c.in_ok-view-in-RemindRun.ensures.view clean t has counts back b lawful weighed))
    (λ b lawful weighed. decided.change b (c.in_ok-view-in-RemindRun.ensures.view clean t has counts back b lawful weighed)))

pub returns-in_err-view-in-RemindRun-clause-decided : goal.returns-in_err-view-in-RemindRun-clause-decided
returns-in_err-view-in-RemindRun-clause-decided g c clean t has counts back =
    let p = err_from_is_err_and c.from_residual-in_err-view-in-RemindRun.result c.from_residual-in_err-view-in-RemindRun.ensures.1 in
    rw (p.1, p.2) (λ b lawful weighed. c.in_err-view-in-RemindRun.ensures.fault clean t has counts b lawful weighed)
