use Rattle.std.proofs.Common.{◌≤◌, rules}
use Rattle.std.specs.List.{AllByRecursion}
use Rattle.clear_values.specs.Limits.{most_gross}
use Rattle.clear_firms.proofs.WageTable.{puts_ten}
use Rattle.clear_firms.proofs.wages.insert_ten_wages.Goals as goal

pub returns-clause-writes : goal.returns-clause-writes
returns-clause-writes g c =
    let within : AllByRecursion (λ line. line.gross ≤ most_gross) c.args.lines.now = search rules in
    puts_ten g.S.Store c.args.tx.now.conn.now c.put.new.tx.conn.now c.args.no c.args.at c.args.lines.now c.requires.ten c.put.result _ within (rw c.ten_values.ensures at c.put.ensures.runs)
