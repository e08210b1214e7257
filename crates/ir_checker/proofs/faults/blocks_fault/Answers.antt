use Rattle.std.proofs.Common.{sym, ◌∙◌, arith}
use Rattle.ir_tree.specs.Shown.{shown_function}
use Rattle.ir_rules.specs.Seen.{seen}
use Rattle.ir_checker.proofs.ScanLemmas.{blocks_stop, blocks_go, blocks_end}
use Rattle.ir_checker.proofs.faults.blocks_fault.Goals as goal

pub returns-then-is_some : goal.returns-then-is_some
returns-then-is_some c =
    blocks_stop (seen c.args.tree.now) (shown_function c.args.tree.now.names c.args.function.now) c.args.tree.now.names c.args.blocks.now c.loop-block.block-index c.loop-block.opening.entry c.loop-block.opening.lack c.loop-block.opening.place
    c.block-item.result c.in_ok-found.found (omega arith) c.block-item.is c.in_ok-found.ensures (sym c.is_some.ensures ∙ c.if-is_some.true)
    ∙ sym c.loop-block.invariant

pub loop-block-preserved : goal.loop-block-preserved
loop-block-preserved c =
    c.loop-block.invariant
    ∙ (let none = sym c.is_some.ensures ∙ c.if-is_some.false in
    let go = blocks_go (seen c.args.tree.now) (shown_function c.args.tree.now.names c.args.function.now) c.args.tree.now.names c.args.blocks.now c.loop-block.block-index c.loop-block.opening.entry c.loop-block.opening.lack c.loop-block.opening.place
    c.block-item.result c.in_ok-found.found c.in_ok-further.field-0 (omega arith) c.block-item.is c.in_ok-found.ensures none (rw (← c.len-in-loop-block.ensures) c.in_ok-further.ensures) in
    rw (c.len.ensures) go)

pub returns : goal.returns
returns c =
    c.lack_at.ensures
    ∙ blocks_end (seen c.args.tree.now) (shown_function c.args.tree.now.names c.args.function.now) c.args.tree.now.names c.args.blocks.now c.loop-block.block-index c.loop-block.opening.entry c.loop-block.opening.lack c.loop-block.opening.place (omega arith)
    ∙ sym c.loop-block.invariant
