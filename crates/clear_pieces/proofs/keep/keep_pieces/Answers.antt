use Rattle.std.proofs.lemmas.Result.{on_ok_weaker}
use Rattle.clear_pieces.proofs.CreditLemmas.{line_put, lines_put, release_put}
use Rattle.clear_pieces.proofs.ReportLemmas.{correction_follows, correction_free, correction_stays, keeps_account, report_follows, report_free}
use Rattle.clear_pieces.proofs.keep.keep_pieces.Goals as goal

pub returns-in-AddReport-clause-keeps : goal.returns-in-AddReport-clause-keeps
returns-in-AddReport-clause-keeps g c =
    let at = c.in-AddReport in
    rw at.is
    (λ clean v has.
    on_ok_weaker c.allocate_from_charge.result
    (λ kept. (kept.0.0, kept.0.1, kept.1, λ t put told. report_follows at.field-0 at.field-1 at.charge t v put kept.0.0 kept.0.1 (kept.2 (put.after.account at.charge.employer))))
    (c.allocate_from_charge.ensures.allocates.put clean v has))

pub returns-in-AddReport-clause-fault : goal.returns-in-AddReport-clause-fault
returns-in-AddReport-clause-fault g c =
    let at = c.in-AddReport in
    rw at.is
    (λ clean v has t put told h keys allocated ranges.
    c.allocate_from_charge.ensures.allocates.fault clean v has (keeps_account v at.charge.employer put.after ranges, report_free at.field-0 at.field-1 at.charge t v put h keys allocated))

pub returns-then-stood-clause-keeps : goal.returns-then-stood-clause-keeps
returns-then-stood-clause-keeps g c =
    let at = c.in-ReplaceReport in
    rw (at.is, c.if-stood.true) (λ clean v has. (v.pieces, v.charges, has, λ t put stood. correction_stays at.field-0 at.field-1 at.charge t v put stood))

pub returns-else-stood-clause-keeps : goal.returns-else-stood-clause-keeps
returns-else-stood-clause-keeps g c =
    let at = c.in-ReplaceReport in
    let call = c.allocate_from_charge-in-ReplaceReport in
    rw (at.is, c.if-stood.false)
    (λ clean v has.
    on_ok_weaker call.result
    (λ kept. (kept.0.0, kept.0.1, kept.1, λ t put differs. correction_follows at.field-0 at.field-1 at.charge t v put differs kept.0.0 kept.0.1 (kept.2 (put.after.account at.charge.employer))))
    (call.ensures.allocates.put clean v has))

pub returns-else-stood-clause-fault : goal.returns-else-stood-clause-fault
returns-else-stood-clause-fault g c =
    let at = c.in-ReplaceReport in
    let call = c.allocate_from_charge-in-ReplaceReport in
    rw (at.is, c.if-stood.false)
    (λ clean v has t put differs h keys allocated ranges.
    call.ensures.allocates.fault clean v has (keeps_account v at.charge.employer put.after ranges, correction_free at.field-0 at.field-1 at.charge t v put differs h keys allocated))

pub returns-in-AssignLine-clause-keeps : goal.returns-in-AssignLine-clause-keeps
returns-in-AssignLine-clause-keeps g c =
    let lines = c.keep_lines-in-AssignLine in
    let call = rw c.from_ref.ensures.value at lines.ensures.keeps in
    rw c.in-AssignLine.is
    (λ clean v has.
    on_ok_weaker lines.result (λ kept. (kept.0.0, kept.0.1, kept.1, λ t put told. kept.2 t (line_put c.in-AssignLine.row t v put)))
    (call.put clean v has))

pub returns-in-ReleaseClaim-clause-keeps : goal.returns-in-ReleaseClaim-clause-keeps
returns-in-ReleaseClaim-clause-keeps g c =
    rw c.in-ReleaseClaim.is
    (λ clean v has.
    on_ok_weaker c.keep_release.result (λ kept. (kept.0.0, kept.0.1, kept.1, λ t put told. kept.2 t (release_put c.in-ReleaseClaim.claim c.in-ReleaseClaim.serial t v put)))
    (c.keep_release.ensures.keeps.put clean v has))

pub returns-in-AddBankLines-clause-keeps : goal.returns-in-AddBankLines-clause-keeps
returns-in-AddBankLines-clause-keeps g c =
    let call = rw c.as_slice.ensures at c.keep_lines.ensures.keeps in
    rw c.in-AddBankLines.is
    (λ clean v has.
    on_ok_weaker c.keep_lines.result (λ kept. (kept.0.0, kept.0.1, kept.1, λ t put told. kept.2 t (lines_put c.in-AddBankLines.rows t v put)))
    (call.put clean v has))

pub returns-in-AddReport-clause-rests : goal.returns-in-AddReport-clause-rests
returns-in-AddReport-clause-rests g c = rw c.in-AddReport.is (λ concerns. absurd concerns)

pub returns-else-stood-clause-rests : goal.returns-else-stood-clause-rests
returns-else-stood-clause-rests g c = rw (c.in-ReplaceReport.is, c.if-stood.false) (λ stood. absurd cc)

pub returns-in-AssignLine-clause-rests : goal.returns-in-AssignLine-clause-rests
returns-in-AssignLine-clause-rests g c = rw c.in-AssignLine.is (rw c.from_ref.ensures.value at c.keep_lines-in-AssignLine.ensures.rests)

pub returns-in-ReleaseClaim-clause-rests : goal.returns-in-ReleaseClaim-clause-rests
returns-in-ReleaseClaim-clause-rests g c = rw c.in-ReleaseClaim.is c.keep_release.ensures.rests

pub returns-in-AddBankLines-clause-rests : goal.returns-in-AddBankLines-clause-rests
returns-in-AddBankLines-clause-rests g c = rw c.in-AddBankLines.is (rw c.as_slice.ensures at c.keep_lines.ensures.rests)
