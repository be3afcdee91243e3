use Rattle.std.proofs.Common.{refl, sym, ap, ◌∙◌}
use Rattle.std.specs.Option.{option_map}
use Rattle.clear_book.specs.Tables.{member_in}
use Rattle.clear_laws.proofs.EndTablesLemmas.{Stands-ended}
use Rattle.clear_rules.proofs.decide.end.decide_end.Goals as goal

pub returns-clause-change : goal.returns-clause-change
returns-clause-change c b day is = λ t caller number lawful stands judged.
    Stands-ended b t stands caller number day c.args.end.now _ judged (member_in c.in-Some.member)
    (sym is.member_is ∙ ap (option_map member_in) c.in-Some.is) _ refl _ refl
