use Rattle.std.proofs.Common.{arith}
use Rattle.clap.specs.Words.{found_of, rows_of}
use Rattle.clear_cli.proofs.NumberLemmas.{one_number}
use Rattle.clear_cli.proofs.places.number_within.Goals as goal

pub returns-then-number-least : goal.returns-then-number-least
returns-then-number-least c = (
  tt,
  λ n range is.
      let same = one_number (rows_of (found_of c.args.words.now)) c.args.id.now c.in_ok-number.number n c.in_ok-number.ensures.0.0 c.in_ok-number.ensures.0.1 is
      (omega (arith, range, c.ranges.greatest)) in
      omega (arith, same, range, c.then-number-least.either),
)
