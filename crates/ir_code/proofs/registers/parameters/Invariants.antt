use Rattle.std.proofs.Common.{◌≡◌, map, take}
use Rattle.ir_code.specs.Blocks.{parameter_of}
use Rattle.ir_code.proofs.registers.parameters.Given as goal

abbrev pub invariant-loop-param : goal.invariant-loop-param
invariant-loop-param l = l.registers ≡ map (parameter_of l.lookups) (take l.param-index l.params)
