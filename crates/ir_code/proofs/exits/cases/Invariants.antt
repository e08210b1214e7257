use Rattle.ir_code.specs.Places.{exit_at}
use Rattle.ir_code.specs.Families.{case_at}
use Rattle.ir_code.proofs.Switching.{CasesTo}
use Rattle.ir_code.proofs.exits.cases.Given as goal

abbrev pub invariant-loop-one : goal.invariant-loop-one
invariant-loop-one l = CasesTo (case_at l.lookups (exit_at l.labels l.exits.targets l.exits.first) l.of) l.all l.one-index l.cases
