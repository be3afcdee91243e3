use Rattle.std.proofs.Common.{refl}
use Rattle.std.specs.Str.{is_utf8, chars}
use Rattle.toml.proofs.OnLiterals.{toml_on_literals}
use Rattle.clear_money.specs.Calendar.{months}
use Rattle.clear_money.specs.Texts.{month_spelled}
use Rattle.clear_toml.specs.RateFile.{document_of, rates_in, rates_of, row_alone, row_after}
use Rattle.clear_toml.specs.WrittenRate.{rate_meant, written_row}
use Rattle.clear_toml.proofs.rate_file.law_rate_files_by_example.Goals as goal

pub returns-clause-good : goal.returns-clause-good
unfolding toml_on_literals is_utf8 chars document_of rates_in rates_of row_alone written_row rate_meant month_spelled months
returns-clause-good c = refl

pub returns-clause-no_text : goal.returns-clause-no_text
unfolding toml_on_literals is_utf8 chars document_of rates_in rates_of
returns-clause-no_text c = refl

pub returns-clause-no_toml : goal.returns-clause-no_toml
unfolding toml_on_literals is_utf8 chars document_of rates_in rates_of
returns-clause-no_toml c = refl

pub returns-clause-empty : goal.returns-clause-empty
unfolding toml_on_literals is_utf8 chars document_of rates_in rates_of
returns-clause-empty c = refl

pub returns-clause-no_array : goal.returns-clause-no_array
unfolding toml_on_literals is_utf8 chars document_of rates_in rates_of
returns-clause-no_array c = refl

pub returns-clause-other_member : goal.returns-clause-other_member
unfolding toml_on_literals is_utf8 chars document_of rates_in rates_of
returns-clause-other_member c = refl

pub returns-clause-no_table : goal.returns-clause-no_table
unfolding toml_on_literals is_utf8 chars document_of rates_in rates_of row_alone written_row
returns-clause-no_table c = refl

pub returns-clause-no_number : goal.returns-clause-no_number
unfolding toml_on_literals is_utf8 chars document_of rates_in rates_of row_alone written_row
returns-clause-no_number c = refl

pub returns-clause-no_month : goal.returns-clause-no_month
unfolding toml_on_literals is_utf8 chars document_of rates_in rates_of row_alone written_row rate_meant month_spelled months
returns-clause-no_month c = refl

pub returns-clause-due_day : goal.returns-clause-due_day
unfolding toml_on_literals is_utf8 chars document_of rates_in rates_of row_alone written_row rate_meant month_spelled months
returns-clause-due_day c = refl

pub returns-clause-order : goal.returns-clause-order
unfolding toml_on_literals is_utf8 chars document_of rates_in rates_of row_alone written_row rate_meant month_spelled months row_after
returns-clause-order c = refl

pub returns-clause-same_month : goal.returns-clause-same_month
unfolding toml_on_literals is_utf8 chars document_of rates_in rates_of row_alone written_row rate_meant month_spelled months row_after
returns-clause-same_month c = refl
