use Rattle.std.proofs.Common.{drop}
use Rattle.ir_code.specs.declared.op.Fixed.TheVariants as fixed
use Rattle.ir_code.specs.Walking.{PutsItems}
use Rattle.ir_code.proofs.fixed.put_functions.Given as goal

abbrev pub invariant-loop-number : goal.invariant-loop-number
invariant-loop-number l = PutsItems (λ x. x.name) fixed.Function l.number (drop l.number l.functions) l.initial.items l.items
