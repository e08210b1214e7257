use Rattle.std.proofs.Common.{◌≡◌, ◌++◌, drop}
use Rattle.std.specs.Prelude.{option_map}
use Rattle.ir_code.specs.Walking.{operands_at}
use Rattle.ir_code.proofs.fixed.operands_at.Given as goal

abbrev pub invariant-loop-element : goal.invariant-loop-element
invariant-loop-element l = operands_at l.names l.found l.elements ≡ option_map (λ rest. l.operands ++ rest) (operands_at l.names l.found (drop l.element-index l.elements))
