use Rattle.std.proofs.Common.{◌≡◌, map, take}
use Rattle.ir_code.specs.Tables.{scalar_or_pointer}
use Rattle.ir_code.proofs.functions.parameters_of.Given as goal

abbrev pub invariant-loop-param : goal.invariant-loop-param
invariant-loop-param l = l.types ≡ map (λ p. scalar_or_pointer l.lookups p.of) (take l.param-index l.params)
