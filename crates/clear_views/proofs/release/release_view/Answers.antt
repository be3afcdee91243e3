use Rattle.std.proofs.Common.{◌∙◌, [], ◌∷◌, List, ap}
use Rattle.clear_book.specs.Keyed.{find_row}
use Rattle.clear_book.specs.Tables.{claim_key}
use Rattle.clear_book.specs.declared.rows.ClaimRow.{ClaimRow}
use Rattle.clear_schema.specs.declared.counts.Counts.{Counts}
use Rattle.clear_views.proofs.release.release_view.Goals as goal

pub returns-clause-view : goal.returns-clause-view
returns-clause-view g c clean t has same back b lawful stands =
    let given = ap (λ (x : Counts). x.serial) same in
    record {
      claim_is = c.in_ok-found.ensures.claim clean t has ∙ ap (λ (claims : List ClaimRow). find_row claim_key claims (c.args.claim ∷ [])) stands.stands.claims;
      debts_are = c.in_ok-found.ensures.debts clean t has given back b lawful stands;
      serials_is = given ∙ stands.stands.serial;
    }

pub returns-clause-count : goal.returns-clause-count
returns-clause-count g c clean t has = c.in_ok-found.ensures.count clean t has
