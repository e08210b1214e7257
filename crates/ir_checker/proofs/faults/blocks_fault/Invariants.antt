use Rattle.std.proofs.Common.{◌≡◌, true, map, drop}
use Rattle.ir_tree.specs.Shown.{shown_block, shown_function}
use Rattle.ir_rules.specs.Seen.{seen}
use Rattle.ir_checker.specs.Finding.{blocks_fault}
use Rattle.ir_checker.proofs.faults.blocks_fault.Given as goal

abbrev pub invariant-loop-block : goal.invariant-loop-block
invariant-loop-block l =
    blocks_fault (seen l.tree) (shown_function l.tree.names l.function) true l.fn.lack 0 (map (shown_block l.tree.names) l.blocks)
    ≡ blocks_fault (seen l.tree) (shown_function l.tree.names l.function) l.opening.entry l.opening.lack l.opening.place (map (shown_block l.tree.names) (drop l.block-index l.blocks))
