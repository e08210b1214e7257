-- Numbers and pointers as bytes of memory (LLVM Language Reference, "Memory Access and Addressing Operations").
use Rattle.std.specs.Prelude.{ℕ, List, [], ◌∷◌, map}
use Rattle.int_num.specs.Bytes.{low_bytes}
use Rattle.mem_image.specs.declared.object.Pointer.{Pointer}
use Rattle.mem_image.specs.declared.object.Byte.{Byte}
use Rattle.mem_image.specs.declared.object.Byte.TheVariants.{Num, Ptr}

-- so many bytes of a number, the least first
abbrev pub number_bytes : ℕ → ℕ → List Byte
number_bytes len n = map Num (low_bytes len n)

-- the eight bytes of a pointer, each of which knows which it is
abbrev pub pointer_bytes : Pointer → List Byte
pointer_bytes p = Ptr 0 p ∷ Ptr 1 p ∷ Ptr 2 p ∷ Ptr 3 p ∷ Ptr 4 p ∷ Ptr 5 p ∷ Ptr 6 p ∷ Ptr 7 p ∷ []
