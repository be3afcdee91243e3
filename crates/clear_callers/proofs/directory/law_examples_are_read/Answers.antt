use Rattle.std.proofs.Common.{refl}
use Rattle.std.specs.Str.{is_utf8, chars}
use Rattle.toml.proofs.OnLiterals.{toml_on_literals}
use Rattle.clear_toml.specs.RateFile.{document_of}
use Rattle.clear_callers.specs.CallerFile.{directory_of}
use Rattle.clear_callers.proofs.directory.law_examples_are_read.Goals as goal

pub returns-clause-empty : goal.returns-clause-empty
unfolding toml_on_literals is_utf8 chars document_of directory_of
returns-clause-empty c = refl

pub returns-clause-sample : goal.returns-clause-sample
unfolding toml_on_literals is_utf8 chars document_of directory_of
returns-clause-sample c = refl

pub returns-clause-repeated_key : goal.returns-clause-repeated_key
unfolding toml_on_literals is_utf8 chars document_of directory_of
returns-clause-repeated_key c = refl

pub returns-clause-past_64_bits : goal.returns-clause-past_64_bits
unfolding toml_on_literals is_utf8 chars document_of directory_of
returns-clause-past_64_bits c = refl

pub returns-clause-past_the_range : goal.returns-clause-past_the_range
unfolding toml_on_literals is_utf8 chars document_of directory_of
returns-clause-past_the_range c = refl

pub returns-clause-key_with_space : goal.returns-clause-key_with_space
unfolding toml_on_literals is_utf8 chars document_of directory_of
returns-clause-key_with_space c = refl
