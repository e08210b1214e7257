use Rattle.std.proofs.Common.{◌≡◌, ◌++◌, map, take}
use Rattle.ir_tree.specs.declared.instruction.Operand.TheVariants as operand
use Rattle.ir_rules.specs.declared.given.Given.TheVariants.{Written}
use Rattle.ir_rules.specs.Forms.{used}
use Rattle.ir_rules.proofs.forms.with_cases.Given as goal

abbrev pub invariant-loop-case : goal.invariant-loop-case
invariant-loop-case l = l.uses ≡ l.initial.uses ++ map (λ c. used (operand.Constant c.value) (Written l.of)) (take l.case-index l.cases)
