use Rattle.std.proofs.Common.{◌≡◌, map, drop}
use Rattle.ir_tree.specs.Shown.{shown_function}
use Rattle.ir_rules.specs.Seen.{seen}
use Rattle.ir_checker.specs.Finding.{functions_fault}
use Rattle.ir_checker.proofs.faults.functions_fault.Given as goal

abbrev pub invariant-loop-i : goal.invariant-loop-i
invariant-loop-i l =
    functions_fault (seen l.tree) 0 (map (shown_function l.tree.names) l.functions) ≡ functions_fault (seen l.tree) l.i (map (shown_function l.tree.names) (drop l.i l.functions))
