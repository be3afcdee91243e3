use Rattle.std.proofs.Common.{◌∙◌, [], ◌∷◌, ap, filter, map}
use Rattle.std.specs.Option.{option_map}
use Rattle.clear_values.specs.Tables.{request_number}
use Rattle.clear_values.specs.Keyed.{find_row, is_key}
use Rattle.clear_columns.proofs.KeyLemmas.{first_found}
use Rattle.clear_schema.specs.Held.{request_key}
use Rattle.clear_schema.specs.Values.{caller_number, number}
use Rattle.clear_ledger.specs.Kept.{IsKept, kept_of}
use Rattle.clear_ledger.specs.Shown.{kept_shown}
use Rattle.clear_schema.proofs.FrameLemmas.{finds}
use Rattle.clear_ledger.proofs.RequestTable.{answers, first_kept, get}
use Rattle.clear_ledger.proofs.requests.find_request.Goals as goal

pub returns-clause-looks : goal.returns-clause-looks
returns-clause-looks g c =
    let k = request_number c.args.caller c.args.number in
    finds g.S.Store c.args.tx.now.conn.now c.find.new.tx.conn.now kept_shown IsKept get (number (caller_number c.args.caller) ∷ number c.args.number ∷ []) c.find.result (λ t. map kept_of (filter (λ row. is_key (request_key row) k) t.requests)) (λ t. option_map kept_of (find_row request_key t.requests k))
    (λ t. first_kept _ ∙ ap (option_map kept_of) (first_found request_key t.requests k)) (λ t has. answers g.S.Store t _ (caller_number c.args.caller) c.args.number has) (rw (c.caller.ensures, c.request_no.ensures) at c.find.ensures.looks)
