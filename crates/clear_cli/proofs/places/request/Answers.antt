use Rattle.std.proofs.Common.{codes, arith}
use Rattle.clap.specs.Words.{found_of, rows_of}
use Rattle.clear_book.specs.Numbers.{IsRequestNo}
use Rattle.clear_cli.proofs.NumberLemmas.{if_meant}
use Rattle.clear_cli.proofs.places.request.Goals as goal

pub returns : goal.returns
returns c = if_meant (rows_of (found_of c.args.words.now)) (codes "NUMBER") IsRequestNo (λ m range. omega (arith, range)) c.in_ok-number.field-0 c.in_ok-number.ensures.0
    c.new.result c.new.ensures.some c.new.ensures.value
