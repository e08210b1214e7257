use Rattle.std.proofs.Common.{◌≡◌, ◌++◌, map, take}
use Rattle.rule_tests.proofs.instructions.with_arguments.Given as goal

abbrev pub invariant-loop-argument : goal.invariant-loop-argument
invariant-loop-argument l = l.types ≡ l.initial.types ++ map (λ a. a.of) (take l.argument-index l.arguments)
