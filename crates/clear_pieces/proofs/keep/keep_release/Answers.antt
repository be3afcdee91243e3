use Rattle.std.proofs.Common.{◌≡◌}
use Rattle.std.proofs.lemmas.Result.{err_from_is_err_and}
use Rattle.clear_values.specs.Credits.{set_offs_of}
use Rattle.clear_pieces.proofs.AltersLemmas.{goes_none}
use Rattle.clear_pieces.proofs.CreditLemmas.{new_in_range}
use Rattle.clear_schema.specs.Faults.{IsOfDisk}
use Rattle.clear_schema.specs.declared.fault.Fault.{Fault}
use Rattle.clear_schema.specs.declared.fault.Fault.TheVariants.{Memory}
use Rattle.clear_pieces.proofs.keep.keep_release.Goals as goal

-- want of memory is a fault of no key and of no row
of_memory : (fault : Fault) → fault ≡ Memory → IsOfDisk fault
of_memory fault is = ((λ key. cc), (λ row. cc))

pub returns-in_err-news-clause-keeps : goal.returns-in_err-news-clause-keeps
returns-in_err-news-clause-keeps g c =
    let p = err_from_is_err_and c.from_residual.result c.from_residual.ensures.1 in
    rw (p.1, p.2) (record {
      put = λ clean v has. tt;
      fault = λ clean v has right. of_memory c.in_err-news.field-0.0 (c.in_err-news.ensures.fault (new_in_range (set_offs_of c.args.claim.now c.args.serial) right.t v right.put right.ranges));
      stays = goes_none g.S.Store c.args.tx.now.conn.now _;
    })
