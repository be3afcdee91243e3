use Rattle.clear_wire.specs.Parsed.{heading}
use Rattle.clear_routes.proofs.ReadingLemmas.{refused_by_route}
use Rattle.clear_routes.proofs.call.find_call.Goals as goal

pub returns-in-Err : goal.returns-in-Err
returns-in-Err c =
    refused_by_route c.args.directory.now c.args.day (heading c.args.request.now.head) c.args.request.now.body.items c.as_slice.result.now c.in-Err.unrouted c.by_route.result c.as_slice.ensures.value c.by_route.ensures c.in-Err.ensures.only
