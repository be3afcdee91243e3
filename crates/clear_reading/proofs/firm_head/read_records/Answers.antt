use Rattle.std.proofs.Common.{◌-◌, ◌∙◌, ◌==◌, refl}
use Rattle.std.proofs.lemmas.Result.{err_from_is_err_and}
use Rattle.sqlite.specs.Held.{state}
use Rattle.sqlite_trees.proofs.ListLemmas.{all-filter}
use Rattle.clear_bank.specs.declared.lines.Purpose.TheVariants.{Interest}
use Rattle.clear_book.specs.Lines.{is_credit_of}
use Rattle.clear_book.specs.RowRanges.{IsCreditRow, IsReportRow}
use Rattle.clear_book.specs.declared.rows.ReportRow.{ReportRow}
use Rattle.clear_laws.proofs.RowRangeLemmas.{rows_in_range}
use Rattle.clear_debts.proofs.ReadLemmas.{was_clean, still}
use Rattle.clear_reading.proofs.firm_head.read_records.Goals as goal

pub returns-in_err-rates-clause-fault : goal.returns-in_err-rates-clause-fault
returns-in_err-rates-clause-fault g c clean t has b lawful weighed =
    let p = err_from_is_err_and c.from_residual.result c.from_residual.ensures.1 in
    rw (p.1, p.2) (
      c.in_err-rates.ensures.looks.cause clean t has,
      λ told. c.in_err-rates.ensures.looks.range clean t has told (rows_in_range b t lawful weighed.stands).rates,
    )

pub returns-in_err-reports-clause-fault : goal.returns-in_err-reports-clause-fault
returns-in_err-reports-clause-fault g c clean t has b lawful weighed =
    let p = err_from_is_err_and c.from_residual-in_err-reports.result c.from_residual-in_err-reports.ensures.1 in
    let old = state g.S.Store c.args.tx.now.conn.now in
    let one = state g.S.Store c.rate_table.new.tx.conn.now in
    let two = state g.S.Store c.reports_of.new.tx.conn.now in
    let clean_one = was_clean one two c.in_err-reports.ensures.looks.survives clean in
    let has_one = still t old one (c.in_ok-rates.ensures.looks.same clean_one t has) has in
    rw (p.1, p.2) (
      c.in_err-reports.ensures.looks.cause clean t has_one,
      λ told. c.in_err-reports.ensures.looks.range clean t has_one told
          (all-filter IsReportRow (λ (row : ReportRow). row.employer == c.args.member.employer) t.reports (rows_in_range b t lawful weighed.stands).reports),
    )

pub returns-in_err-account-clause-fault : goal.returns-in_err-account-clause-fault
returns-in_err-account-clause-fault g c clean t has b lawful weighed =
    let p = err_from_is_err_and c.from_residual-in_err-account.result c.from_residual-in_err-account.ensures.1 in
    let old = state g.S.Store c.args.tx.now.conn.now in
    let one = state g.S.Store c.rate_table.new.tx.conn.now in
    let two = state g.S.Store c.reports_of.new.tx.conn.now in
    let three = state g.S.Store c.find_account.new.tx.conn.now in
    let clean_two = was_clean two three c.in_err-account.ensures.leaves.survives clean in
    let clean_one = was_clean one two c.in_ok-reports.ensures.looks.survives clean_two in
    let has_one = still t old one (c.in_ok-rates.ensures.looks.same clean_one t has) has in
    let has_two = still t one two (c.in_ok-reports.ensures.looks.same clean_two t has_one) has_one in
    rw (p.1, p.2) (c.in_err-account.ensures.fault clean t has_two b lawful weighed)

pub returns-in_err-interest_credits-clause-fault : goal.returns-in_err-interest_credits-clause-fault
returns-in_err-interest_credits-clause-fault g c clean t has b lawful weighed =
    let p = err_from_is_err_and c.from_residual-in_err-interest_credits.result c.from_residual-in_err-interest_credits.ensures.1 in
    let old = state g.S.Store c.args.tx.now.conn.now in
    let one = state g.S.Store c.rate_table.new.tx.conn.now in
    let two = state g.S.Store c.reports_of.new.tx.conn.now in
    let three = state g.S.Store c.find_account.new.tx.conn.now in
    let end = state g.S.Store c.credits_of.new.tx.conn.now in
    let clean_three = was_clean three end c.in_err-interest_credits.ensures.looks.survives clean in
    let clean_two = was_clean two three c.in_ok-account.ensures.leaves.survives clean_three in
    let clean_one = was_clean one two c.in_ok-reports.ensures.looks.survives clean_two in
    let has_one = still t old one (c.in_ok-rates.ensures.looks.same clean_one t has) has in
    let has_two = still t one two (c.in_ok-reports.ensures.looks.same clean_two t has_one) has_one in
    let has_three = still t two three (c.in_ok-account.ensures.leaves.same clean_three t has_two) has_two in
    rw (p.1, p.2) (
      c.in_err-interest_credits.ensures.looks.cause clean t has_three,
      λ told. c.in_err-interest_credits.ensures.looks.range clean t has_three told
          (all-filter IsCreditRow (is_credit_of c.args.member.employer Interest) t.credits (rows_in_range b t lawful weighed.stands).credits),
    )

pub returns-clause-read : goal.returns-clause-read
returns-clause-read g c clean t has b lawful weighed =
    let old = state g.S.Store c.args.tx.now.conn.now in
    let one = state g.S.Store c.rate_table.new.tx.conn.now in
    let two = state g.S.Store c.reports_of.new.tx.conn.now in
    let three = state g.S.Store c.find_account.new.tx.conn.now in
    let end = state g.S.Store c.credits_of.new.tx.conn.now in
    let clean_three = was_clean three end c.in_ok-interest_credits.ensures.looks.survives clean in
    let clean_two = was_clean two three c.in_ok-account.ensures.leaves.survives clean_three in
    let clean_one = was_clean one two c.in_ok-reports.ensures.looks.survives clean_two in
    let has_one = still t old one (c.in_ok-rates.ensures.looks.same clean_one t has) has in
    let has_two = still t one two (c.in_ok-reports.ensures.looks.same clean_two t has_one) has_one in
    let has_three = still t two three (c.in_ok-account.ensures.leaves.same clean_three t has_two) has_two in
    let account = c.in_ok-account.ensures.account clean_three t has_two b lawful weighed in
    record {
      member_is = refl;
      rates_are = c.in_ok-rates.ensures.looks.found clean_one t has;
      reports_are = c.in_ok-reports.ensures.looks.found clean_two t has_one;
      charges_are = account.0;
      interest_are = c.in_ok-interest_credits.ensures.looks.found clean t has_three;
      prepaid_is = c.saturating_sub-prepaid.ensures ∙ (λ i. account.1 i - c.charged.ensures i);
    }
