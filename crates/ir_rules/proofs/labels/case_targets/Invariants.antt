use Rattle.std.proofs.Common.{◌≡◌, ◌++◌, map, take}
use Rattle.ir_rules.proofs.labels.case_targets.Given as goal

abbrev pub invariant-loop-case : goal.invariant-loop-case
invariant-loop-case l = l.labels ≡ l.initial.labels ++ map (λ c. c.to) (take l.case-index l.cases)
