use Rattle.std.proofs.Common.{◌≡◌, map, take}
use Rattle.ir_rules.proofs.labels.written_types.Given as goal

abbrev pub invariant-loop-argument : goal.invariant-loop-argument
invariant-loop-argument l = l.types ≡ map (λ a. a.of) (take l.argument-index l.arguments)
