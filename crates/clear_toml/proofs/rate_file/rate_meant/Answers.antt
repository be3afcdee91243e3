use Rattle.std.proofs.Common.{◌∙◌, sym, rules, arith}
use Rattle.clear_toml.specs.WrittenRate.{row_view}
use Rattle.clear_toml.proofs.WrittenRateLemmas.{rate_meant-none, rate_meant-made, narrow-none, narrow-some}
use Rattle.clear_toml.proofs.rate_file.rate_meant.Goals as goal

pub returns-in_err-read : goal.returns-in_err-read
returns-in_err-read c =
    c.from_residual.ensures ∙ sym (rate_meant-none (row_view c.args.row.now) (λ r m. c.in_err-read.ensures.only r.first m.rate.first (c.as_bytes.ensures.value ∙ m.from)))

pub returns-in_err-ok : goal.returns-in_err-ok
returns-in_err-ok c =
    c.from_residual-in_err-ok.ensures
    ∙ sym (rate_meant-none (row_view c.args.row.now) (λ r m. narrow-none 16 r.contribution_rate _ c.try_from.result (search rules) c.try_from.ensures c.in_err-ok.ensures.value (omega arith) m.contribution_rate))

pub returns-in_err-ok-2 : goal.returns-in_err-ok-2
returns-in_err-ok-2 c =
    c.from_residual-in_err-ok-2.ensures
    ∙ sym (rate_meant-none (row_view c.args.row.now) (λ r m. narrow-none 8 r.report_day _ c.try_from-2.result (search rules) c.try_from-2.ensures c.in_err-ok-2.ensures.value (omega arith) m.report_day))

pub returns-in_err-ok-3 : goal.returns-in_err-ok-3
returns-in_err-ok-3 c =
    c.from_residual-in_err-ok-3.ensures
    ∙ sym (rate_meant-none (row_view c.args.row.now) (λ r m. narrow-none 8 r.due_day _ c.try_from-3.result (search rules) c.try_from-3.ensures c.in_err-ok-3.ensures.value (omega arith) m.due_day))

pub returns-in_err-ok-4 : goal.returns-in_err-ok-4
returns-in_err-ok-4 c =
    c.from_residual-in_err-ok-4.ensures
    ∙ sym (rate_meant-none (row_view c.args.row.now) (λ r m. narrow-none 16 r.interest_rate _ c.try_from-4.result (search rules) c.try_from-4.ensures c.in_err-ok-4.ensures.value (omega arith) m.interest_rate))

pub returns-in_err-ok-5 : goal.returns-in_err-ok-5
returns-in_err-ok-5 c =
    c.from_residual-in_err-ok-5.ensures
    ∙ sym (rate_meant-none (row_view c.args.row.now) (λ r m. narrow-none 16 r.entitlement_rate _ c.try_from-5.result (search rules) c.try_from-5.ensures c.in_err-ok-5.ensures.value (omega arith) m.entitlement_rate))

pub returns : goal.returns
returns c =
    rate_meant-made (row_view c.args.row.now) c.new.result _ c.in_ok-read.ensures.found.0 (sym c.as_bytes.ensures.value ∙ c.in_ok-read.ensures.found.1)
    (narrow-some 16 _ c.try_from.result _ (search rules) c.try_from.ensures c.in_ok-ok.ensures.value)
    (narrow-some 8 _ c.try_from-2.result _ (search rules) c.try_from-2.ensures c.in_ok-ok-2.ensures.value)
    (narrow-some 8 _ c.try_from-3.result _ (search rules) c.try_from-3.ensures c.in_ok-ok-3.ensures.value)
    (narrow-some 16 _ c.try_from-4.result _ (search rules) c.try_from-4.ensures c.in_ok-ok-4.ensures.value)
    (narrow-some 16 _ c.try_from-5.result _ (search rules) c.try_from-5.ensures c.in_ok-ok-5.ensures.value)
    c.new.ensures.some c.new.ensures.value
