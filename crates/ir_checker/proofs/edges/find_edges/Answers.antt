use Rattle.ir_checker.proofs.EnterLemmas.{edges_are}
use Rattle.ir_checker.proofs.edges.find_edges.Goals as goal

pub returns : goal.returns
returns c = edges_are c.args.names.now c.args.function.now c.args.zero c.in_ok-to.to c.requires (rw c.as_slice.ensures at c.in_ok-to.ensures)
