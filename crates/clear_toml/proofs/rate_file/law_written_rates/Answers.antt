use Rattle.clear_toml.proofs.RateFileLemmas.{written_rates}
use Rattle.clear_toml.proofs.rate_file.law_written_rates.Goals as goal

pub returns : goal.returns
returns c = written_rates
