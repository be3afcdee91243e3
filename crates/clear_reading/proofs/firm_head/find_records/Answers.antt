use Rattle.std.proofs.Common.{◌≡◌, [], ◌∷◌, ◌∙◌, sym, ap}
use Rattle.std.proofs.lemmas.Result.{err_from_is_err_and}
use Rattle.std.specs.Option.{option_map}
use Rattle.sqlite.specs.Held.{state}
use Rattle.clear_book.specs.RowRanges.{IsEmployerRow}
use Rattle.clear_book.specs.Tables.{employer_key, member_in}
use Rattle.clear_values.proofs.KeyedLemmas.{found_key}
use Rattle.clear_laws.proofs.RowRangeLemmas.{rows_in_range}
use Rattle.clear_debts.proofs.FaultLemmas.{found_in_range}
use Rattle.clear_debts.proofs.ReadLemmas.{was_clean, still}
use Rattle.clear_reading.proofs.FirmHeadLemmas.{records_found}
use Rattle.clear_reading.proofs.firm_head.find_records.Goals as goal

pub returns-in_default-clause-records : goal.returns-in_default-clause-records
returns-in_default-clause-records g c clean t has day back b lawful weighed =
    sym (weighed.stands.employers c.args.employer) ∙ ap (option_map member_in) (sym (rw c.in_default.is at (c.in_ok-member.ensures.looks.found clean t has)))

pub returns-in_err-member-clause-fault : goal.returns-in_err-member-clause-fault
returns-in_err-member-clause-fault g c clean t has b lawful weighed =
    let p = err_from_is_err_and c.from_residual.result c.from_residual.ensures.1 in
    rw (p.1, p.2) (found_in_range employer_key IsEmployerRow t.employers (c.args.employer ∷ []) c.in_err-member.field-0.0 (c.in_err-member.ensures.looks.cause clean t has) (c.in_err-member.ensures.looks.range clean t has)
    (rows_in_range b t lawful weighed.stands).employers)

pub returns-clause-records : goal.returns-clause-records
returns-clause-records g c clean t has day back b lawful weighed =
    let old = state g.S.Store c.args.tx.now.conn.now in
    let one = state g.S.Store c.find_employer.new.tx.conn.now in
    let end = state g.S.Store c.read_records.new.tx.conn.now in
    let clean_one = was_clean one end c.in_ok-records.ensures.leaves.survives clean in
    let has_one = still t old one (c.in_ok-member.ensures.looks.same clean_one t has) has in
    records_found b t lawful weighed c.args.employer day back c.in-Some.member
    (sym (rw c.in-Some.is at (c.in_ok-member.ensures.looks.found clean_one t has)))
    c.in_ok-records.records (c.in_ok-records.ensures.read clean t has_one b lawful weighed)

pub returns-in_err-records-clause-fault : goal.returns-in_err-records-clause-fault
returns-in_err-records-clause-fault g c clean t has b lawful weighed =
    let p = err_from_is_err_and c.from_residual-in_err-records.result c.from_residual-in_err-records.ensures.1 in
    let old = state g.S.Store c.args.tx.now.conn.now in
    let one = state g.S.Store c.find_employer.new.tx.conn.now in
    let end = state g.S.Store c.read_records.new.tx.conn.now in
    let clean_one = was_clean one end c.in_err-records.ensures.leaves.survives clean in
    let has_one = still t old one (c.in_ok-member.ensures.looks.same clean_one t has) has in
    rw (p.1, p.2) (c.in_err-records.ensures.fault clean t has_one b lawful weighed)

pub returns-clause-firm : goal.returns-clause-firm
returns-clause-firm g c clean t has =
    let one = state g.S.Store c.find_employer.new.tx.conn.now in
    let end = state g.S.Store c.read_records.new.tx.conn.now in
    let clean_one = was_clean one end c.in_ok-records.ensures.leaves.survives clean in
    let key : c.in-Some.member.employer ∷ [] ≡ c.args.employer ∷ [] =
    found_key employer_key t.employers (c.args.employer ∷ []) c.in-Some.member (sym (rw c.in-Some.is at (c.in_ok-member.ensures.looks.found clean_one t has))) in
    ap (λ member. member.employer) c.in_ok-records.ensures.member ∙ cc key
