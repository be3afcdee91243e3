use Rattle.clear_columns.proofs.laws.law_counted.Goals as goal

pub returns : goal.returns
returns g c old new sql params rows n counts clean answers = counts.found clean rows answers
