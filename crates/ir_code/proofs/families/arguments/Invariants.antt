use Rattle.ir_code.specs.Families.{argument_at}
use Rattle.ir_code.proofs.Every.{KeptTo}
use Rattle.ir_code.proofs.families.arguments.Given as goal

abbrev pub invariant-loop-one : goal.invariant-loop-one
invariant-loop-one l = KeptTo (argument_at l.lookups l.registers) l.all l.one-index l.operands
