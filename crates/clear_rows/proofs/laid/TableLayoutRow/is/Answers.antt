use Rattle.clear_rows.proofs.LayoutLemmas.{made_of, parts_of}
use Rattle.clear_rows.proofs.laid.TableLayoutRow.is.Goals as goal

pub returns : goal.returns
returns c = (λ yes. made_of c.args.self.now c.args.part.now (c.is_table.ensures.0 yes), λ same. c.is_table.ensures.1 (parts_of c.args.self.now c.args.part.now same))
