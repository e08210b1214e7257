use Rattle.std.proofs.Common.{sym, ◌∙◌, arith}
use Rattle.ir_rules.specs.Seen.{seen}
use Rattle.ir_checker.proofs.ScanLemmas.{functions_stop, functions_go, functions_end}
use Rattle.ir_checker.proofs.faults.functions_fault.Goals as goal

pub returns-then-is_some : goal.returns-then-is_some
returns-then-is_some c =
    rw c.functions-functions.ensures at (
    functions_stop (seen c.args.tree.now) c.args.tree.now.names c.functions-functions.result.now c.loop-i.i c.index-functions-i.result c.in_ok-number.number c.in_ok-found.found c.fault_in-fault.result
    (omega arith) c.index-functions-i.is c.in_ok-number.ensures c.in_ok-found.ensures c.fault_in-fault.ensures (sym c.is_some.ensures ∙ c.if-is_some.true)
    ∙ sym c.loop-i.invariant)

pub loop-i-preserved : goal.loop-i-preserved
loop-i-preserved c =
    c.loop-i.invariant
    ∙ functions_go (seen c.args.tree.now) c.args.tree.now.names c.functions-functions.result.now c.loop-i.i c.index-functions-i.result c.in_ok-number.number c.in_ok-found.found c.fault_in-fault.result
    (omega arith) c.index-functions-i.is c.in_ok-number.ensures c.in_ok-found.ensures c.fault_in-fault.ensures (sym c.is_some.ensures ∙ c.if-is_some.false)

pub returns : goal.returns
returns c =
    rw c.functions-functions.ensures at (functions_end (seen c.args.tree.now) c.args.tree.now.names c.functions-functions.result.now c.loop-i.i (omega arith) ∙ sym c.loop-i.invariant)
