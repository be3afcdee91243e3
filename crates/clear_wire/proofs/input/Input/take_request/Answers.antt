use Rattle.std.proofs.Common.{List, ℕ, take, Ok, Err, ap, subst}
use Rattle.std.proofs.lemmas.Result.{IfOk-weaker}
use Rattle.clear_wire.specs.Head.{Parses}
use Rattle.clear_wire.specs.Request.{next_item}
use Rattle.clear_wire.specs.Parsed.{meaning, heading}
use Rattle.clear_wire.proofs.KnownLemmas.{Leads-front}
use Rattle.clear_wire.proofs.NextLemmas.{next_broken, next_asked}
use Rattle.clear_wire.proofs.input.Input.take_request.Goals as goal

pub returns-in-Asks-clause-next : goal.returns-in-Asks-clause-next
returns-in-Asks-clause-next g c =
    let u = c.args.self.now.unused.items in
    let n = c.args.len in
    let parses : Parses (take n u) (Ok (heading c.in-Asks.head, c.in-Asks.len)) =
    subst (Parses (take n u)) (ap meaning c.in-Asks.is)
    (subst (λ (t : List ℕ). Parses (take n t) (meaning c.in-Ok.parsed)) c.deref.ensures.value c.in-Ok.ensures.parses) in
    IfOk-weaker c.take_body.result _ _
    (λ item p. next_asked n (take n u) (heading c.in-Asks.head) c.in-Asks.len (next_item item) parses _ _ _
    (Leads-front (g.R.Read.remaining c.args.self.now.reader) u c.drop_front.new.bytes.items n c.requires c.drop_front.ensures) p)
    c.take_body.ensures.next

pub returns-in-Breaks-clause-next : goal.returns-in-Breaks-clause-next
returns-in-Breaks-clause-next g c =
    let u = c.args.self.now.unused.items in
    let n = c.args.len in
    let parses : Parses (take n u) (Err (c.in-Breaks.rule, c.in-Breaks.bare)) =
    subst (Parses (take n u)) (ap meaning c.in-Breaks.is)
    (subst (λ (t : List ℕ). Parses (take n t) (meaning c.in-Ok.parsed)) c.deref.ensures.value c.in-Ok.ensures.parses) in
    next_broken n (take n u) c.in-Breaks.rule c.in-Breaks.bare parses _ _
    (Leads-front (g.R.Read.remaining c.args.self.now.reader) u c.drop_front.new.bytes.items n c.requires c.drop_front.ensures)
