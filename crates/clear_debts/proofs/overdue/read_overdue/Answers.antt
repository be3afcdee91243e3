use Rattle.std.proofs.Common.{◌∙◌}
use Rattle.std.proofs.lemmas.Result.{err_from_is_err_and}
use Rattle.sqlite.specs.Held.{state}
use Rattle.clear_bank.specs.declared.lines.Purpose.TheVariants.{Interest}
use Rattle.clear_book.specs.Lines.{is_credit_of}
use Rattle.clear_laws.proofs.RowRangeLemmas.{rows_in_range}
use Rattle.clear_debts.proofs.OverdueLemmas.{amounts_found, few_found, kept_found}
use Rattle.clear_debts.proofs.OwedLemmas.{all_amounts, has_kept}
use Rattle.clear_debts.proofs.ReadLemmas.{was_clean, still}
use Rattle.clear_debts.proofs.overdue.read_overdue.Goals as goal

pub returns-in_err-charges-clause-fault : goal.returns-in_err-charges-clause-fault
returns-in_err-charges-clause-fault g c clean t has b lawful stands =
    let p = err_from_is_err_and c.from_residual.result c.from_residual.ensures.1 in
    rw (p.1, p.2) (c.in_err-charges.ensures.fault clean t has (has_kept b t lawful stands c.args.member.now.employer))

pub returns-in_err-paid-clause-fault : goal.returns-in_err-paid-clause-fault
returns-in_err-paid-clause-fault g c clean t has b lawful stands =
    let p = err_from_is_err_and c.from_residual-in_err-paid.result c.from_residual-in_err-paid.ensures.1 in
    let old = state g.S.Store c.args.tx.now.conn.now in
    let one = state g.S.Store c.find_charges.new.tx.conn.now in
    let end = state g.S.Store c.credit_amounts.new.tx.conn.now in
    let clean_one = was_clean one end c.in_err-paid.ensures.looks.survives clean in
    let has_one = still t old one (c.in_ok-charges.ensures.leaves.same clean_one t has) has in
    rw (p.1, p.2) (
      c.in_err-paid.ensures.looks.cause clean t has_one,
      λ told. c.in_err-paid.ensures.looks.range clean t has_one told (all_amounts (is_credit_of c.args.member.now.employer Interest) t.credits (rows_in_range b t lawful stands.stands).credits),
    )

pub returns-clause-overdue : goal.returns-clause-overdue
returns-clause-overdue g c clean t has b lawful stands back rated firm =
    let old = state g.S.Store c.args.tx.now.conn.now in
    let one = state g.S.Store c.find_charges.new.tx.conn.now in
    let end = state g.S.Store c.credit_amounts.new.tx.conn.now in
    let clean_one = was_clean one end c.in_ok-paid.ensures.looks.survives clean in
    let has_one = still t old one (c.in_ok-charges.ensures.leaves.same clean_one t has) has in
    c.overdue_on.ensures.overdue b
    (kept_found b t lawful stands c.args.day back c.args.rates.now c.args.member.now c.in_ok-charges.charges rated firm (c.in_ok-charges.ensures.charges clean_one t has))
    (amounts_found b t lawful stands c.args.member.now.employer c.as_slice.result.now (c.as_slice.ensures.value ∙ c.in_ok-paid.ensures.looks.found clean t has_one))

pub returns-clause-fault : goal.returns-clause-fault
returns-clause-fault g c clean t has b lawful stands =
    let old = state g.S.Store c.args.tx.now.conn.now in
    let one = state g.S.Store c.find_charges.new.tx.conn.now in
    let end = state g.S.Store c.credit_amounts.new.tx.conn.now in
    let clean_one = was_clean one end c.in_ok-paid.ensures.looks.survives clean in
    let has_one = still t old one (c.in_ok-charges.ensures.leaves.same clean_one t has) has in
    let amounts = c.as_slice.result.now in
    let e = c.args.member.now.employer in
    c.overdue_on.ensures.fault (few_found b t lawful stands e amounts (amounts_found b t lawful stands e amounts (c.as_slice.ensures.value ∙ c.in_ok-paid.ensures.looks.found clean t has_one)))
