use Rattle.std.proofs.Common.{◌≡◌, drop}
use Rattle.ir_tree.specs.Naming.{types_at}
use Rattle.ir_rules.specs.Same.{same_types}
use Rattle.ir_rules.specs.Heads.{element_types}
use Rattle.ir_rules.proofs.constants.same_written.Given as goal

abbrev pub invariant-loop-i : goal.invariant-loop-i
invariant-loop-i l =
    same_types (types_at l.names l.fields) (types_at l.names (element_types l.elements))
    ≡ same_types (types_at l.names (drop l.i l.fields)) (types_at l.names (drop l.i (element_types l.elements)))
