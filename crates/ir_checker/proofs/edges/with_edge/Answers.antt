use Rattle.ir_checker.proofs.EnterLemmas.{edge_is}
use Rattle.ir_checker.proofs.edges.with_edge.Goals as goal

pub returns-in-Ok : goal.returns-in-Ok
returns-in-Ok c =
    edge_is c.args.to c.remove-found.new.self c.insert.new.self c.args.key c.args.from c.taken.result c.in_ok-list.list c.remove-found.ensures.updates.0 c.in-Ok.ensures.updates.0 (rw c.remove-found.ensures.value at c.taken.ensures) c.in_ok-list.ensures
