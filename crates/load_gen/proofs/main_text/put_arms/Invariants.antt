use Rattle.std.proofs.Common.{◌≡◌, ◌++◌, ◌+◌}
use Rattle.load_gen.specs.Numbers.{each}
use Rattle.load_gen.specs.Module.{arm_text}
use Rattle.load_gen.proofs.main_text.put_arms.Given as goal

abbrev pub invariant-loop-j : goal.invariant-loop-j
invariant-loop-j l = l.to ≡ l.fn.to ++ each (λ j. arm_text (j + 1)) l.j
