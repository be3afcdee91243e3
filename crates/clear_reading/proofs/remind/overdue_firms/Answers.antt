use Rattle.std.proofs.Common.{◌∙◌, Ok, map, ap}
use Rattle.std.proofs.lemmas.Result.{err_from_is_err_and}
use Rattle.std.proofs.lemmas.List.{take_all}
use Rattle.sqlite.specs.Held.{state}
use Rattle.clear_account.proofs.AccountLemmas.{All-read}
use Rattle.clear_book.specs.declared.rows.EmployerRow.{EmployerRow}
use Rattle.clear_laws.proofs.RowRangeLemmas.{rows_in_range}
use Rattle.clear_rows.proofs.Inside.{survives_both, survives_none}
use Rattle.clear_rules.specs.Views.RemindRun.{firm_on_day}
use Rattle.clear_debts.proofs.ReadLemmas.{was_clean, left_has, leaves_both, leaves_else}
use Rattle.clear_reading.proofs.RemindLemmas.{firm_more, firms_are, firms_of_book}
use Rattle.clear_debts.specs.Overdue.{IsFirm}
use Rattle.clear_reading.proofs.remind.overdue_firms.Goals as goal

pub returns-in_err-members-clause-fault : goal.returns-in_err-members-clause-fault
returns-in_err-members-clause-fault g c clean t has b lawful stands =
    let p = err_from_is_err_and c.from_residual.result c.from_residual.ensures.1 in
    rw (p.1, p.2) (
      c.in_err-members.ensures.looks.cause clean t has,
      λ told. c.in_err-members.ensures.looks.range clean t has told (rows_in_range b t lawful stands.stands).employers,
    )

pub loop-member-init : goal.loop-member-init
loop-member-init g c = record {
  same_reference = c.all_employers.ensures.same_reference;
  found = λ clean t has back b lawful stands rated. c.new-firms.ensures.items;
  leaves = record { same = c.in_ok-members.ensures.looks.same; kept = c.in_ok-members.ensures.looks.kept; survives = c.in_ok-members.ensures.looks.survives };
  since = survives_none (state g.S.Store c.all_employers.new.tx.conn.now);
}

pub returns-in_err-firm-clause-fault : goal.returns-in_err-firm-clause-fault
returns-in_err-firm-clause-fault g c clean t has b lawful stands =
    let p = err_from_is_err_and c.from_residual-in_err-firm.result c.from_residual-in_err-firm.ensures.1 in
    let mid = state g.S.Store c.loop-member.tx.conn.now in
    let last = state g.S.Store c.overdue_firm.new.tx.conn.now in
    let clean_mid = was_clean mid last c.overdue_firm.ensures.leaves.survives clean in
    let has_mid = left_has g.S.Store c.args.tx.now.conn.now c.loop-member.tx.conn.now c.overdue_firm.new.tx.conn.now c.loop-member.firms c.loop-member.invariant.leaves clean_mid t has in
    rw (p.1, p.2) (c.in_err-firm.ensures.fault clean t has_mid b lawful stands)

pub loop-member-preserved : goal.loop-member-preserved
loop-member-preserved g c =
    let first = c.args.tx.now.conn.now in
    let mid = c.loop-member.tx.conn.now in
    let last = c.overdue_firm.new.tx.conn.now in
    record {
      same_reference = c.overdue_firm.ensures.same_reference ∙ c.loop-member.invariant.same_reference;
      found = λ clean t has back b lawful stands rated.
          let clean_mid = was_clean (state g.S.Store mid) (state g.S.Store last) c.overdue_firm.ensures.leaves.survives clean in
          let clean_one = was_clean (state g.S.Store c.all_employers.new.tx.conn.now) (state g.S.Store mid) c.loop-member.invariant.since clean_mid in
          let has_mid = left_has g.S.Store first mid last c.loop-member.firms c.loop-member.invariant.leaves clean_mid t has in
          let of_book = firms_are b t stands.stands c.deref-member-items.result.now (c.deref-member-items.ensures.value ∙ c.in_ok-members.ensures.looks.found clean_one t has) in
          firm_more (λ (row : EmployerRow). firm_on_day b c.args.day row.employer) c.deref-member-items.result.now c.loop-member.member-index c.member-item.result
          c.loop-member.firms.items c.push.new.self.items c.in_ok-firm.firm c.loop-member-test.true c.member-item.is
          (c.loop-member.invariant.found clean_mid t has back b lawful stands rated)
          (c.in_ok-firm.ensures.firm clean t has_mid back b lawful stands rated (All-read (IsFirm b) c.deref-member-items.result.now c.loop-member.member-index c.member-item.result of_book c.loop-member-test.true c.member-item.is))
          c.in_ok-push.ensures.items;
      leaves =
          leaves_else g.S.Store first last c.in_ok-firm.firm c.push.new.self
          (leaves_both g.S.Store first mid last c.loop-member.firms (Ok c.in_ok-firm.firm) c.loop-member.invariant.leaves c.in_ok-firm.ensures.leaves);
      since = survives_both (state g.S.Store c.all_employers.new.tx.conn.now) (state g.S.Store mid) (state g.S.Store last) c.loop-member.invariant.since c.overdue_firm.ensures.leaves.survives;
    }

pub returns-clause-firms : goal.returns-clause-firms
returns-clause-firms g c clean t has back b lawful stands rated =
    let one = state g.S.Store c.all_employers.new.tx.conn.now in
    let mid = state g.S.Store c.loop-member.tx.conn.now in
    let clean_one = was_clean one mid c.loop-member.invariant.since clean in
    let firm = λ (row : EmployerRow). firm_on_day b c.args.day row.employer in
    c.loop-member.invariant.found clean t has back b lawful stands rated
    ∙ ap (map firm) (take_all c.loop-member.member-index c.deref-member-items.result.now c.loop-member-test.false ∙ c.deref-member-items.ensures.value ∙ c.in_ok-members.ensures.looks.found clean_one t has)
    ∙ firms_of_book b t stands.stands lawful c.args.day
