use Rattle.std.proofs.Common.{◌≡◌, ◌-◌, ◌∙◌, length, drop, map, take, sym, ap, subst}
use Rattle.std.specs.List.{AllByRecursion}
use Rattle.std.proofs.lemmas.List.{take_rest}
use Rattle.std.proofs.lemmas.List.Elements.{All-drop}
use Rattle.clear_account.specs.Account.{IsCharge}
use Rattle.clear_account.specs.Suffix.{pieces_behind}
use Rattle.clear_kept.specs.Dated.{placed}
use Rattle.clear_values.specs.RowRanges.{IsCreditRow, IsPieceRow}
use Rattle.clear_laws.proofs.AccountPiecesLemmas.{all_drop}
use Rattle.clear_laws.proofs.PieceRowLemmas.{pieces_left-in_range}
use Rattle.clear_pieces.specs.Firm.{HasItsRows, pieces_from, rows_placed}
use Rattle.clear_pieces.proofs.PieceLemmas.{rows_behind}
use Rattle.clear_pieces.proofs.pieces.pieces_to_put.Goals as goal

rows_are : (c : goal.After-drop-placed-2) → HasItsRows c.args.firm.now → c.in_ok-rows_of.field-0.items ≡ pieces_from c.args.firm.now c.args.start.now
rows_are c same =
    let firm = c.args.firm.now in
    let start = c.args.start.now in
    let n = start.credits.count in
    let found = c.as_slice.result.now in
    let rows : take (length found - n) (drop n found) ≡ drop n firm.rows.items = take_rest found n ∙ ap (drop n) c.as_slice.ensures.value in
    let pieces = c.as_slice-2.ensures.value ∙ c.in_ok-placed.ensures.pieces in
    c.in_ok-rows_of.ensures
    ∙ (λ i. rows_placed (rows i) (pieces i))
    ∙ (λ i. rows_placed (drop n firm.rows.items) (map (placed (drop n (c.all_credits-credits.ensures i))) (pieces_behind start.charges.cents start.credits.cents (drop start.charges.count (c.all_charges.ensures.value i)) (drop n (c.all_credits-credits.ensures i)))))
    ∙ rows_behind start.charges.cents start.credits.cents n (drop start.charges.count firm.account.charges) firm.account.credits firm.rows.items c.all_charges.ensures.account.serials_differ same

pub returns-clause-rows : goal.returns-clause-rows
returns-clause-rows c same = rows_are c same

pub returns-clause-ranges : goal.returns-clause-ranges
returns-clause-ranges c same in_range =
    let firm = c.args.firm.now in
    let start = c.args.start.now in
    subst (AllByRecursion IsPieceRow) (sym (rows_are c same))
    (pieces_left-in_range (drop start.charges.count firm.account.charges) (All-drop IsCharge start.charges.count firm.account.charges c.all_charges.ensures.account.each_charge)
    start.charges.cents start.credits.cents (drop start.credits.count firm.rows.items) (all_drop IsCreditRow start.credits.count firm.rows.items in_range))
