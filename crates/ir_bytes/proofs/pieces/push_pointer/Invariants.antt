use Rattle.std.proofs.Common.{◌≡◌, ◌++◌, map, take}
use Rattle.mem_image.specs.declared.object.Byte.TheVariants.{Ptr}
use Rattle.ir_bytes.proofs.pieces.push_pointer.Given as goal

abbrev pub invariant-loop-part : goal.invariant-loop-part
invariant-loop-part l = l.bytes ≡ l.initial.bytes ++ map (λ k. Ptr k l.pointer) (take l.part-index l.part-items)
