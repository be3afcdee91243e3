use Rattle.clear_reading.proofs.ReaderLemmas.{counted}
use Rattle.clear_reading.proofs.counting.count_source.Goals as goal

pub returns : goal.returns
returns g c =
    let it = counted g.S.Store g.T.Table.StoredTable.shown g.T.Table.StoredTable.is_in_range c.args.source.now c.count_all.new.rows g.T.Tally.counted g.T.Tally.amount c.count_all.result c.count_all.ensures.counted c.count_all.ensures.refused in
    record { same_reference = it.0.0; same_connection = it.0.1; tells = it.1 }
