use Rattle.std.proofs.lemmas.Result.{err_from_is_err_and}
use Rattle.clear_book.specs.Book.{first_book}
use Rattle.clear_database.specs.First.{first_tables}
use Rattle.clear_office.proofs.OpenedLemmas.{first_represents, holds_still, honest_store, keeps_book, opens_still}
use Rattle.clear_office.proofs.made.make_office.Goals as goal

pub returns-clause-clean : goal.returns-clause-clean
returns-clause-clean g c honest =
    c.in_ok-store.ensures.created.clean (honest_store g.S.Store c.open.result c.in_ok-store.store.conn c.open.ensures.value honest)

pub returns-clause-created : goal.returns-clause-created
returns-clause-created g c honest =
    let store = c.in_ok-store.ensures.created in
    let clean = honest_store g.S.Store c.open.result c.in_ok-store.store.conn c.open.ensures.value honest in
    let made = store.made clean in
    holds_still g.S.Store c.open.result c.in_ok-store.store.conn c.open.ensures.value (first_tables c.args.rates.now) (record { now = made.now; committed = made.committed; left = store.left clean })

pub returns-clause-keeps : goal.returns-clause-keeps
returns-clause-keeps g c honest =
    let rates = c.args.rates.now in
    let store = c.in_ok-store.ensures.created in
    let clean = honest_store g.S.Store c.open.result c.in_ok-store.store.conn c.open.ensures.value honest in
    let made = store.made clean in
    keeps_book g.S.Store c.open.result c.in_ok-store.store.conn c.open.ensures.value (first_book rates) (first_tables rates) (first_represents rates) (record { now = made.now; committed = made.committed; left = store.left clean })

pub returns-clause-open : goal.returns-clause-open
returns-clause-open g c honest =
    let clean = honest_store g.S.Store c.open.result c.in_ok-store.store.conn c.open.ensures.value honest in
    opens_still g.S.Store c.open.result c.in_ok-store.store.conn c.open.ensures.value (c.in_ok-store.ensures.created.made clean).is_open

pub returns-in_err-store : goal.returns-in_err-store
returns-in_err-store g c =
    let p = err_from_is_err_and c.from_residual.result c.from_residual.ensures.1 in
    let left = c.in_err-store.ensures in
    rw (p.1, p.2) (record {
      working = tt;
      clean = tt;
      only_empty = tt;
      created = tt;
      keeps = tt;
      «open» = tt;
      mode_left = left.mode_left;
      refused = left.refused;
    })
