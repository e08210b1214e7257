-- What a state of a program keeps: numbers stay below their bounds, and every name is one that the memory gave.
use Rattle.std.specs.Prelude.{ℕ, ◌<◌, Option, None, Some, FitsSigned}
use Rattle.std.specs.List.{AllByRecursion}
use Rattle.std.specs.Int.{w64}
use Rattle.int_num.specs.Integer.{IsInteger}
use Rattle.mem_image.specs.declared.object.Pointer.{Pointer as Address}
use Rattle.mem_image.specs.declared.object.Pointer.TheVariants.{Null, Obj, Fun}
use Rattle.mem_image.specs.declared.object.Byte.{Byte}
use Rattle.mem_image.specs.declared.object.Byte.TheVariants.{Unset, Num, Ptr}
use Rattle.mem_image.specs.declared.object.Object.{Object}
use Rattle.mem_image.specs.Picture.{Picture}
use Rattle.seq_effects.specs.declared.state.Value.{Value}
use Rattle.seq_effects.specs.declared.state.Value.TheVariants.{Int, Pointer}
use Rattle.seq_effects.specs.declared.state.Frame.{Frame}
use Rattle.seq_machine.specs.declared.state.State.{State}

-- a pointer into an object has a name below the next, and an offset of 64 bits with a sign
abbrev pub PointerFits : ℕ → Address → Type 0
PointerFits next Null = Unit {0}
PointerFits next (Obj name offset) = (name < next) × FitsSigned w64 offset
PointerFits next (Fun index) = Unit {0}

-- the number of a byte
abbrev pub IsByte : ℕ → Type 0
IsByte n = n < 256

-- a number in memory is that of a byte, and a part is one of a pointer that fits (that it is one of eight, `PartFits` says)
abbrev pub ByteFits : ℕ → Byte → Type 0
ByteFits next Unset = Unit {0}
ByteFits next (Num n) = IsByte n
ByteFits next (Ptr part p) = PointerFits next p

-- an integer has the bits of its width, and a pointer fits
abbrev pub ValueFits : ℕ → Value → Type 0
ValueFits next (Int n) = IsInteger n
ValueFits next (Pointer p) = PointerFits next p

-- what a register holds fits, where it holds something
abbrev pub RegisterFits : ℕ → Option Value → Type 0
RegisterFits next None = Unit {0}
RegisterFits next (Some v) = ValueFits next v

abbrev pub NameFits : ℕ → ℕ → Type 0
NameFits next name = name < next

pub record FrameFits (next : ℕ) (f : Frame) : Type 0 where
  -- its registers hold integers of their widths, and pointers that fit
  pub registers : AllByRecursion (RegisterFits next) f.registers
  -- the names of its own objects are below the next
  pub own : AllByRecursion (NameFits next) f.own

abbrev pub ObjectFits : ℕ → Object → Type 0
ObjectFits next o = AllByRecursion (ByteFits next) o.bytes

abbrev pub PictureFits : Picture → Type 0
PictureFits m = AllByRecursion (ObjectFits m.next) m.objects

-- what a state of a program keeps, beside that it is a state of its code
pub record Keeps (s : State Picture) : Type 0 where
  -- in every frame integers have the bits of their widths, offsets have 64 bits with a sign, and names are below the next
  pub frames : AllByRecursion (FrameFits s.memory.next) s.frames
  -- in every object numbers are below 256, and pointers have such offsets and such names
  pub memory : PictureFits s.memory
