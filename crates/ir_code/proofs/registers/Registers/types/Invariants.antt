use Rattle.std.proofs.Common.{◌≡◌, map, take}
use Rattle.ir_code.proofs.registers.Registers.types.Given as goal

abbrev pub invariant-loop-register : goal.invariant-loop-register
invariant-loop-register l = l.types ≡ map (λ x. x.of) (take l.register-index l.register-items)
