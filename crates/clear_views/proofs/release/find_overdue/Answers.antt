use Rattle.std.proofs.Common.{◌≡◌, ◌∙◌, [], ◌∷◌, ℕ, sym, subst}
use Rattle.std.proofs.lemmas.Result.{err_from_is_err_and}
use Rattle.std.specs.Prelude.{IfOk}
use Rattle.sqlite.specs.Held.{state}
use Rattle.clear_book.specs.RowRanges.{IsEmployerRow}
use Rattle.clear_book.specs.Tables.{employer_key}
use Rattle.clear_laws.proofs.RowRangeLemmas.{rows_in_range}
use Rattle.clear_debts.proofs.FaultLemmas.{found_in_range}
use Rattle.clear_debts.proofs.ReadLemmas.{was_clean, still}
use Rattle.clear_views.proofs.ReleaseLemmas.{firm_found}
use Rattle.clear_debts.specs.Overdue.{overdue_told}
use Rattle.clear_views.proofs.release.find_overdue.Goals as goal

pub returns-in_err-member-clause-fault : goal.returns-in_err-member-clause-fault
returns-in_err-member-clause-fault g c clean t has b lawful stands there =
    let p = err_from_is_err_and c.from_residual.result c.from_residual.ensures.1 in
    rw (p.1, p.2) (found_in_range employer_key IsEmployerRow t.employers (c.args.employer ∷ []) c.in_err-member.field-0.0 (c.in_err-member.ensures.looks.cause clean t has) (c.in_err-member.ensures.looks.range clean t has) (rows_in_range b t lawful stands.stands).employers)

pub returns-in_err-rates-clause-fault : goal.returns-in_err-rates-clause-fault
returns-in_err-rates-clause-fault g c clean t has b lawful stands there =
    let p = err_from_is_err_and c.from_residual-in_err-rates.result c.from_residual-in_err-rates.ensures.1 in
    let old = state g.S.Store c.args.tx.now.conn.now in
    let one = state g.S.Store c.find_employer.new.tx.conn.now in
    let end = state g.S.Store c.rate_table.new.tx.conn.now in
    let clean_one = was_clean one end c.in_err-rates.ensures.looks.survives clean in
    let has_one = still t old one (c.in_ok-member.ensures.looks.same clean_one t has) has in
    rw (p.1, p.2) (
      c.in_err-rates.ensures.looks.cause clean t has_one,
      λ told. c.in_err-rates.ensures.looks.range clean t has_one told (rows_in_range b t lawful stands.stands).rates,
    )

pub returns-clause-overdue : goal.returns-clause-overdue
returns-clause-overdue g c clean t has back b lawful stands =
    let old = state g.S.Store c.args.tx.now.conn.now in
    let one = state g.S.Store c.find_employer.new.tx.conn.now in
    let two = state g.S.Store c.rate_table.new.tx.conn.now in
    let end = state g.S.Store c.read_overdue.new.tx.conn.now in
    let clean_two = was_clean two end c.read_overdue.ensures.leaves.survives clean in
    let clean_one = was_clean one two c.in_ok-rates.ensures.looks.survives clean_two in
    let has_one = still t old one (c.in_ok-member.ensures.looks.same clean_one t has) has in
    let has_two = still t one two (c.in_ok-rates.ensures.looks.same clean_two t has_one) has_one in
    let firm = firm_found b t stands.stands c.args.employer c.in-Some.member (sym (c.in_ok-member.ensures.looks.found clean_one t has) ∙ c.in-Some.is) in
    subst (λ (n : ℕ). IfOk c.read_overdue.result (λ overdue. overdue ≡ overdue_told b c.args.day n)) firm.0
    (c.read_overdue.ensures.overdue clean t has_two b lawful stands back (c.in_ok-rates.ensures.looks.found clean_two t has_one ∙ stands.stands.rates) firm.1)

pub returns-clause-fault : goal.returns-clause-fault
returns-clause-fault g c clean t has b lawful stands there =
    let old = state g.S.Store c.args.tx.now.conn.now in
    let one = state g.S.Store c.find_employer.new.tx.conn.now in
    let two = state g.S.Store c.rate_table.new.tx.conn.now in
    let end = state g.S.Store c.read_overdue.new.tx.conn.now in
    let clean_two = was_clean two end c.read_overdue.ensures.leaves.survives clean in
    let clean_one = was_clean one two c.in_ok-rates.ensures.looks.survives clean_two in
    let has_one = still t old one (c.in_ok-member.ensures.looks.same clean_one t has) has in
    let has_two = still t one two (c.in_ok-rates.ensures.looks.same clean_two t has_one) has_one in
    c.read_overdue.ensures.fault clean t has_two b lawful stands
