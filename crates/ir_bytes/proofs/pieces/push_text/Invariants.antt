use Rattle.std.proofs.Common.{◌≡◌, ◌++◌, map, take}
use Rattle.mem_image.specs.declared.object.Byte.TheVariants.{Num}
use Rattle.ir_bytes.proofs.pieces.push_text.Given as goal

abbrev pub invariant-loop-byte : goal.invariant-loop-byte
invariant-loop-byte l = l.bytes ≡ l.initial.bytes ++ map Num (take l.byte-index l.text)
