-- Pointers into objects of other names.
use Rattle.std.specs.Prelude.{ℕ}
use Rattle.mem_image.specs.declared.object.Pointer.{Pointer}
use Rattle.mem_image.specs.declared.object.Pointer.TheVariants.{Null, Obj, Fun}

-- the pointer to the same offset of the object of that name; null and functions stay
abbrev pub with_name : ℕ → Pointer → Pointer
with_name name Null = Null
with_name name (Fun index) = Fun index
with_name name (Obj old offset) = Obj name offset
