use Rattle.std.proofs.Common.{◌≡◌, ◌+◌, true, map, drop}
use Rattle.ir_tree.specs.Naming.{name_at}
use Rattle.ir_tree.specs.Shown.{shown, shown_function}
use Rattle.ir_rules.specs.Seen.{seen}
use Rattle.ir_checker.specs.Finding.{block_fault}
use Rattle.ir_checker.proofs.faults.block_fault.Given as goal

abbrev pub invariant-loop-i : goal.invariant-loop-i
invariant-loop-i l =
    block_fault (seen l.tree) (shown_function l.tree.names l.function) (name_at l.tree.names l.block.label) l.opening.entry true l.opening.lack l.opening.place (map (shown l.tree.names) l.instructions)
    ≡ block_fault (seen l.tree) (shown_function l.tree.names l.function) (name_at l.tree.names l.block.label) l.opening.entry l.behind l.lack (l.opening.place + l.i) (map (shown l.tree.names) (drop l.i l.instructions))
