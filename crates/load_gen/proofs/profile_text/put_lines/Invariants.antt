use Rattle.std.proofs.Common.{◌≡◌, ◌++◌}
use Rattle.load_gen.specs.Numbers.{each}
use Rattle.load_gen.specs.Profile.{line_text}
use Rattle.load_gen.proofs.profile_text.put_lines.Given as goal

abbrev pub invariant-loop-j : goal.invariant-loop-j
invariant-loop-j l = l.to ≡ l.fn.to ++ each line_text l.j
