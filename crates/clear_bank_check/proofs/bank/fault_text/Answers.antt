use Rattle.std.proofs.Common.{map, ap, ◌∙◌}
use Rattle.std.proofs.lemmas.Result.{IfOk-weaker}
use Rattle.csv.specs.Records.{fields_of}
use Rattle.clear_bank_check.proofs.BankCheckLemmas.{tells_fault}
use Rattle.clear_bank_check.proofs.bank.fault_text.Goals as goal

pub returns-clause-tells : goal.returns-clause-tells
returns-clause-tells c =
    let rows = ap (map fields_of) c.as_slice-rows.ensures.value ∙ c.in_ok-records.ensures in
    let line = c.as_str.ensures.value ∙ c.in_ok-line.ensures.line in
    let below = c.as_str-2.ensures.value ∙ c.in_ok-text.ensures in
    IfOk-weaker c.joined.result _ _ (λ text is. tells_fault c.args.bytes.now _ _ _ _ c.args.fault c.in_ok-seen.seen c.in_ok-hints.hints rows c.in_ok-seen.ensures c.in_ok-hints.ensures line below is) c.joined.ensures
