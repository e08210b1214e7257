use Rattle.std.proofs.Common.{◌≡◌, ◌++◌}
use Rattle.load_gen.specs.Numbers.{each}
use Rattle.load_gen.specs.Module.{block_text}
use Rattle.load_gen.proofs.main_text.put_blocks.Given as goal

abbrev pub invariant-loop-j : goal.invariant-loop-j
invariant-loop-j l = l.to ≡ l.fn.to ++ each block_text l.j
