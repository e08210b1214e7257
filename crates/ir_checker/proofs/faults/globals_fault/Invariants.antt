use Rattle.std.proofs.Common.{◌≡◌, map, drop}
use Rattle.ir_tree.specs.Shown.{shown_global}
use Rattle.ir_rules.specs.Seen.{seen}
use Rattle.ir_checker.specs.Finding.{globals_fault}
use Rattle.ir_checker.proofs.faults.globals_fault.Given as goal

abbrev pub invariant-loop-i : goal.invariant-loop-i
invariant-loop-i l =
    globals_fault (seen l.tree) 0 (map (shown_global l.tree.names) l.globals) ≡ globals_fault (seen l.tree) l.i (map (shown_global l.tree.names) (drop l.i l.globals))
