use Rattle.std.proofs.Common.{sym}
use Rattle.ir_code.proofs.Going.{goes_into, goes_past}
use Rattle.ir_code.proofs.strides.stride.Goals as goal

pub returns-in-Some : goal.returns-in-Some
returns-in-Some c =
    goes_into c.args.tree.now c.args.of c.in_ok-body.body c.in-Some.node.now c.args.value c.stride_in.result (rw c.names.ensures at c.is_table.ensures) (rw c.names-2.ensures at (sym c.in-Some.ensures))
    c.in_ok-body.ensures c.stride_in.ensures

pub returns-in-None : goal.returns-in-None
returns-in-None c = goes_past c.args.tree.now c.args.of c.in_ok-body.body c.args.value (rw c.names-2.ensures at (sym c.in-None.ensures)) c.in_ok-body.ensures
