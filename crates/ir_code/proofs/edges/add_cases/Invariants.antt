use Rattle.std.proofs.Common.{map, take}
use Rattle.ir_code.specs.Adding.{Adds}
use Rattle.ir_code.proofs.edges.add_cases.Given as goal

abbrev pub invariant-loop-case : goal.invariant-loop-case
invariant-loop-case l = Adds l.lookups l.scope l.label (map (λ c. c.to) (take l.case-index l.cases)) l.initial.edges l.initial.targets l.edges l.targets
