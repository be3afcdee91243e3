use Rattle.std.proofs.Common.{ap}
use Rattle.std.proofs.lemmas.Result.{err_from_is_err_and}
use Rattle.sqlite.specs.Held.{state}
use Rattle.clear_book.specs.RowRanges.{IsBankRow}
use Rattle.clear_book.specs.Tables.{bank_key}
use Rattle.clear_schema.specs.declared.counts.Counts.{Counts}
use Rattle.clear_debts.proofs.FaultLemmas.{found_in_range}
use Rattle.clear_debts.proofs.ReadLemmas.{was_clean, still}
use Rattle.clear_views.proofs.ViewLemmas.{assign_viewed}
use Rattle.clear_views.proofs.assign.assign_view.Goals as goal

pub returns-clause-view : goal.returns-clause-view
returns-clause-view g c clean t has same b stands =
    let old = state g.S.Store c.args.tx.now.conn.now in
    let one = state g.S.Store c.find_member.new.tx.conn.now in
    let two = state g.S.Store c.find_line.new.tx.conn.now in
    let end = state g.S.Store c.is_full.new.tx.conn.now in
    let clean_two = was_clean two end c.is_full.ensures.leaves.survives clean in
    let clean_one = was_clean one two c.find_line.ensures.looks.survives clean_two in
    let has_one = still t old one (c.in_ok-find_member.ensures.leaves.same clean_one t has) has in
    let has_two = still t one two (c.in_ok-line.ensures.looks.same clean_two t has_one) has_one in
    assign_viewed b t stands c.args.assignment.now _ c.args.counts.now.serial (ap (λ (x : Counts). x.serial) same)
    c.in_ok-find_member.field-0 c.is_some-registered.ensures (c.in_ok-find_member.ensures.member clean_one t has)
    (c.in_ok-line.ensures.looks.found clean_two t has_one)
    (c.in_ok-full.ensures.full clean t has_two)

pub returns-clause-full : goal.returns-clause-full
returns-clause-full g c clean t has =
    let old = state g.S.Store c.args.tx.now.conn.now in
    let one = state g.S.Store c.find_member.new.tx.conn.now in
    let two = state g.S.Store c.find_line.new.tx.conn.now in
    let end = state g.S.Store c.is_full.new.tx.conn.now in
    let clean_two = was_clean two end c.is_full.ensures.leaves.survives clean in
    let clean_one = was_clean one two c.find_line.ensures.looks.survives clean_two in
    let has_one = still t old one (c.in_ok-find_member.ensures.leaves.same clean_one t has) has in
    let has_two = still t one two (c.in_ok-line.ensures.looks.same clean_two t has_one) has_one in
    c.in_ok-full.ensures.full clean t has_two

pub returns-in_err-line-clause-fault : goal.returns-in_err-line-clause-fault
returns-in_err-line-clause-fault g c clean t has good =
    let p = err_from_is_err_and c.from_residual-in_err-line.result c.from_residual-in_err-line.ensures.1 in
    let one = state g.S.Store c.find_member.new.tx.conn.now in
    let clean_one = was_clean one (state g.S.Store c.find_line.new.tx.conn.now) c.find_line.ensures.looks.survives clean in
    let has_one = still t (state g.S.Store c.args.tx.now.conn.now) one (c.in_ok-find_member.ensures.leaves.same clean_one t has) has in
    rw (p.1, p.2) (found_in_range bank_key IsBankRow t.bank c.args.assignment.now.reference c.in_err-line.field-0.0 (c.in_err-line.ensures.looks.cause clean t has_one) (c.in_err-line.ensures.looks.range clean t has_one) good.bank)
