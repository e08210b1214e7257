use Rattle.std.proofs.Common.{drop, pos}
use Rattle.ir_code.specs.declared.op.Fixed.TheVariants as fixed
use Rattle.ir_code.specs.Walking.{PutsItems}
use Rattle.ir_code.proofs.fixed.put_globals.Given as goal

abbrev pub invariant-loop-number : goal.invariant-loop-number
invariant-loop-number l = PutsItems (λ x. x.name) (λ i. fixed.Global i (pos 0)) l.number (drop l.number l.globals) l.initial.items l.items
