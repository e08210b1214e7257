use Rattle.std.proofs.Common.{◌≡◌, map, take}
use Rattle.ir_rules.proofs.fitting.param_types.Given as goal

abbrev pub invariant-loop-param : goal.invariant-loop-param
invariant-loop-param l = l.types ≡ map (λ p. p.of) (take l.param-index l.params)
