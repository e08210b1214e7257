use Rattle.std.proofs.Common.{sym, ◌∙◌, arith, refl}
use Rattle.ir_rules.specs.Seen.{seen}
use Rattle.ir_checker.proofs.ScanLemmas.{globals_stop, globals_go, globals_end}
use Rattle.ir_checker.proofs.faults.globals_fault.Goals as goal

pub returns-then-is_some : goal.returns-then-is_some
returns-then-is_some c =
    rw c.globals-globals.ensures at (
    globals_stop (seen c.args.tree.now) c.args.tree.now.names c.globals-globals.result.now c.loop-i.i _ _ c.in_ok-number.number c.global_cause.result c.fault_of_global-fault.result
    (omega arith) refl c.in_ok-number.ensures c.global_cause.ensures c.fault_of_global-fault.ensures (sym c.is_some.ensures ∙ c.if-is_some.true)
    ∙ sym c.loop-i.invariant)

pub loop-i-preserved : goal.loop-i-preserved
loop-i-preserved c =
    c.loop-i.invariant
    ∙ globals_go (seen c.args.tree.now) c.args.tree.now.names c.globals-globals.result.now c.loop-i.i _ _ c.in_ok-number.number c.global_cause.result c.fault_of_global-fault.result
    (omega arith) refl c.in_ok-number.ensures c.global_cause.ensures c.fault_of_global-fault.ensures (sym c.is_some.ensures ∙ c.if-is_some.false)

pub returns : goal.returns
returns c =
    rw c.globals-globals.ensures at (globals_end (seen c.args.tree.now) c.args.tree.now.names c.globals-globals.result.now c.loop-i.i (omega arith) ∙ sym c.loop-i.invariant)
