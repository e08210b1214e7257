use Rattle.std.proofs.Common.{◌+◌, sym, ◌∙◌, arith}
use Rattle.ir_tree.specs.Naming.{name_at}
use Rattle.ir_tree.specs.Shown.{shown_function}
use Rattle.ir_rules.specs.Seen.{seen}
use Rattle.ir_checker.proofs.ScanLemmas.{block_stop, block_go, block_end}
use Rattle.ir_checker.proofs.faults.block_fault.Goals as goal

pub returns-in-Some : goal.returns-in-Some
returns-in-Some c =
    rw (← c.as_slice-instructions.ensures) (
    block_stop (seen c.args.tree.now) (shown_function c.args.tree.now.names c.args.function.now) c.args.tree.now.names (name_at c.args.tree.now.names c.args.block.now.label) c.args.opening.entry
    c.as_slice-instructions.result.now c.loop-i.i c.loop-i.behind c.loop-i.lack (c.args.opening.place + c.loop-i.i) c.index-instructions-i.result c.in_ok-place-in-Some.place c.in-Some.cause
    (omega arith) c.index-instructions-i.is (sym c.in-Some.is ∙ c.in_ok-cause.ensures) c.in_ok-place-in-Some.ensures
    ∙ sym c.loop-i.invariant)

pub loop-i-preserved : goal.loop-i-preserved
loop-i-preserved c =
    c.loop-i.invariant
    ∙ rw c.stays_behind-behind.ensures (
    block_go (seen c.args.tree.now) (shown_function c.args.tree.now.names c.args.function.now) c.args.tree.now.names (name_at c.args.tree.now.names c.args.block.now.label) c.args.opening.entry
    c.as_slice-instructions.result.now c.loop-i.i c.loop-i.behind c.loop-i.lack (c.args.opening.place + c.loop-i.i) c.index-instructions-i.result (c.args.opening.place + (c.loop-i.i + 1))
    (omega arith) c.index-instructions-i.is (sym c.in-None.is ∙ c.in_ok-cause.ensures) (omega arith))

pub returns : goal.returns
returns c =
    rw (← c.as_slice-instructions.ensures) (
    block_end (seen c.args.tree.now) (shown_function c.args.tree.now.names c.args.function.now) c.args.tree.now.names (name_at c.args.tree.now.names c.args.block.now.label) c.args.opening.entry
    c.as_slice-instructions.result.now c.loop-i.i c.loop-i.behind c.loop-i.lack (c.args.opening.place + c.loop-i.i) (omega arith)
    ∙ sym c.loop-i.invariant)
