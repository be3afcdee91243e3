use Rattle.std.proofs.Common.{◌∷◌, [], Err, ap, refl}
use Rattle.csv.proofs.OnLiterals.{csv_on_literals}
use Rattle.clear_bank.specs.Files.{all_lines}
use Rattle.clear_bank.specs.declared.fault.BankFault.TheVariants.{BadCsv}
use Rattle.clear_bank.specs.declared.fields.RecordFault.TheVariants.{FieldCount}
use Rattle.clear_bank.proofs.ExampleLemmas.{cent-line, interest-line, no_cents-line}
use Rattle.clear_bank.proofs.laws.law_files_by_example.Goals as goal

pub returns-clause-no_header : goal.returns-clause-no_header
unfolding csv_on_literals
returns-clause-no_header c = refl

pub returns-clause-short_header : goal.returns-clause-short_header
unfolding csv_on_literals
returns-clause-short_header c = refl

pub returns-clause-header_alone : goal.returns-clause-header_alone
unfolding csv_on_literals
returns-clause-header_alone c = refl

pub returns-clause-one : goal.returns-clause-one
unfolding csv_on_literals
returns-clause-one c = ap (λ r. all_lines (r ∷ [])) cent-line

pub returns-clause-two : goal.returns-clause-two
unfolding csv_on_literals
returns-clause-two c = λ i. all_lines (cent-line i ∷ interest-line i ∷ [])

pub returns-clause-no_cents : goal.returns-clause-no_cents
unfolding csv_on_literals
returns-clause-no_cents c = ap (λ r. all_lines (r ∷ [])) no_cents-line

pub returns-clause-short_record : goal.returns-clause-short_record
unfolding csv_on_literals
returns-clause-short_record c = ap (λ r. all_lines (r ∷ Err (BadCsv 3 FieldCount) ∷ [])) cent-line

pub returns-clause-over_limit : goal.returns-clause-over_limit
unfolding csv_on_literals
returns-clause-over_limit c = refl

pub returns-clause-over_and_bad : goal.returns-clause-over_and_bad
unfolding csv_on_literals
returns-clause-over_and_bad c = refl

pub returns-clause-marked : goal.returns-clause-marked
unfolding csv_on_literals
returns-clause-marked c = refl

pub returns-clause-marked_twice : goal.returns-clause-marked_twice
unfolding csv_on_literals
returns-clause-marked_twice c = refl

pub returns-clause-blank_first : goal.returns-clause-blank_first
unfolding csv_on_literals
returns-clause-blank_first c = refl

pub returns-clause-quoted : goal.returns-clause-quoted
unfolding csv_on_literals
returns-clause-quoted c = refl

pub returns-clause-misnamed : goal.returns-clause-misnamed
unfolding csv_on_literals
returns-clause-misnamed c = refl
