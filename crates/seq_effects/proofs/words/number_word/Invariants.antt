use Rattle.std.proofs.Common.{◌≡◌, map, take, length}
use Rattle.mem_image.specs.declared.object.Byte.TheVariants.{Num}
use Rattle.seq_effects.proofs.words.number_word.Given as goal

abbrev pub invariant-loop-i : goal.invariant-loop-i
invariant-loop-i l = (take l.i l.bytes ≡ map Num (take l.i l.from)) × (length l.bytes ≡ 8)
