-- A memory as a value: the live objects by rising name, and the next name. What reads, writes, copies, fills, requests
-- and releases give, with their traps in order.
use Rattle.std.specs.Prelude.{ℕ, zero, suc, ◌+◌, ◌<◌, ◌≤◌, ◌^◌, ◌==◌, ◌||◌, nat_le, nat_lt, if◌then◌else◌, ℤ, pos, negsuc, ◌++◌, List, [], ◌∷◌, length, take, drop, slice_range, replicate, max, Option, None, Some, Result, Ok, Err, Bool, true, false}
use Rattle.std.specs.List.{All}
use Rattle.std.specs.Option.{option_map}
use Rattle.pv_base.specs.Limits.{live_limit}
use Rattle.pv_base.specs.declared.place.AllocSite.{AllocSite}
use Rattle.pv_base.specs.declared.place.Place.{Place}
use Rattle.mem_image.specs.declared.object.Pointer.{Pointer}
use Rattle.mem_image.specs.declared.object.Pointer.TheVariants.{Null, Obj, Fun}
use Rattle.mem_image.specs.declared.object.Byte.{Byte}
use Rattle.mem_image.specs.declared.object.Byte.TheVariants.{Unset, Num, Ptr}
use Rattle.mem_image.specs.declared.object.Kind.{Kind}
use Rattle.mem_image.specs.declared.object.Kind.TheVariants.{Global, Stack, Heap}
use Rattle.mem_image.specs.declared.object.Object.{Object}
use Rattle.mem_image.specs.declared.fault.Trap.{Trap}
use Rattle.mem_image.specs.declared.fault.Trap.TheVariants.{Null as NullTrap, Dead, Range, ConstWrite, Free, Overlap, Names, LiveMemory}

pub record Picture : Type 0 where
  pub objects : List Object
  pub next : ℕ

-- every name is below
abbrev pub name_limit : ℕ
name_limit = 2 ^ 31

-- a pointer has the parts 0 to 7
abbrev pub PartFits : Byte → Type 0
PartFits Unset = Unit {0}
PartFits (Num n) = Unit {0}
PartFits (Ptr part pointer) = part < 8

-- one to eight bytes
pub record IsWord (bytes : List Byte) : Type 0 where
  pub some : 1 ≤ length bytes
  pub most : length bytes ≤ 8
  pub parts : All PartFits bytes

abbrev pub size : Object → ℕ
size o = length o.bytes

-- how many bytes are live
abbrev pub live : List Object → ℕ
live [] = 0
live (o ∷ os) = size o + live os

-- names rise from `low` on, and are below `next`; parts of pointers are parts
abbrev pub Rising : ℕ → List Object → ℕ → Type 0
Rising low [] next = Unit {0}
Rising low (o ∷ os) next = (low ≤ o.name) × (o.name < next) × All PartFits o.bytes × Rising (o.name + 1) os next

-- what holds of every memory
pub record IsPicture (m : Picture) : Type 0 where
  pub rising : Rising 0 m.objects m.next
  pub live : live m.objects ≤ live_limit
  pub names : m.next ≤ name_limit

-- the live object of a name
abbrev pub find : ℕ → List Object → Option Object
find name [] = None
find name (o ∷ os) = if name == o.name then Some o else find name os

-- the live object of the least name from that one on, since names rise
abbrev pub first_from : ℕ → List Object → Option Object
first_from name [] = None
first_from name (o ∷ os) = if nat_le name o.name then Some o else first_from name os

-- how many objects have a name from that one on
abbrev pub count_from : ℕ → List Object → ℕ
count_from name [] = 0
count_from name (o ∷ os) = if nat_le name o.name then suc (count_from name os) else count_from name os

-- the objects with other bytes in that of a name
abbrev pub with_bytes : ℕ → List Byte → List Object → List Object
with_bytes name bytes [] = []
with_bytes name bytes (o ∷ os) = if name == o.name then record o { bytes = bytes } ∷ os else o ∷ with_bytes name bytes os

-- the objects without that of a name
abbrev pub without : ℕ → List Object → List Object
without name [] = []
without name (o ∷ os) = if name == o.name then os else o ∷ without name os

-- and without those of all these names
abbrev pub without_all : List ℕ → List Object → List Object
without_all [] os = os
without_all (name ∷ names) os = without_all names (without name os)

abbrev pub bytes_of : Option Object → List Byte
bytes_of None = []
bytes_of (Some o) = o.bytes

-- the bytes of the object of a name
abbrev pub bytes_at : ℕ → List Object → List Byte
bytes_at name objects = bytes_of (find name objects)

abbrev pub is_fixed : Option Object → Bool
is_fixed None = false
is_fixed (Some o) = o.fixed

-- where an access of len bytes at that offset of an object falls: dead, then range
abbrev pub reached : ℕ → ℤ → ℕ → Option Object → Result Place Trap
reached name offset len None = Err Dead
reached name (negsuc o) len (Some x) = Err Range
reached name (pos o) len (Some x) = if nat_le (o + len) (length x.bytes) then Ok (record { name = name; offset = o }) else Err Range

-- where an access falls: null, range on a function, dead, range
abbrev pub access : Picture → Pointer → ℕ → Result Place Trap
access m Null len = Err NullTrap
access m (Fun index) len = Err Range
access m (Obj name offset) len = reached name offset len (find name m.objects)

abbrev pub unfixed : Picture → Result Place Trap → Result Place Trap
unfixed m (Ok place) = if is_fixed (find place.name m.objects) then Err ConstWrite else Ok place
unfixed m (Err trap) = Err trap

-- where a write falls: after all that, const-write
abbrev pub write_access : Picture → Pointer → ℕ → Result Place Trap
write_access m to len = unfixed m (access m to len)

-- the bytes from a place on
abbrev pub bytes_from : Picture → Place → ℕ → List Byte
bytes_from m place len = slice_range (bytes_at place.name m.objects) place.offset (place.offset + len)

abbrev pub read_at : Picture → ℕ → Result Place Trap → Result (List Byte) Trap
read_at m len (Ok place) = Ok (bytes_from m place len)
read_at m len (Err trap) = Err trap

-- what a read answers
abbrev pub read : Picture → Pointer → ℕ → Result (List Byte) Trap
read m from len = read_at m len (access m from len)

-- the bytes with others in place of those from an offset on
abbrev pub spliced : List Byte → ℕ → List Byte → List Byte
spliced bytes at others = take at bytes ++ others ++ drop (at + length others) bytes

-- the memory with these bytes from a place on
abbrev pub lay : Picture → Place → List Byte → Picture
lay m place bytes = record m { objects = with_bytes place.name (spliced (bytes_at place.name m.objects) place.offset bytes) m.objects }

abbrev pub laid : Picture → List Byte → Result Place Trap → Result Picture Trap
laid m bytes (Ok place) = Ok (lay m place bytes)
laid m bytes (Err trap) = Err trap

-- the memory after a write
abbrev pub write : Picture → Pointer → List Byte → Result Picture Trap
write m to word = laid m word (write_access m to (length word))

-- the memory after a fill, which touches nothing where it fills no byte
abbrev pub fill : Picture → Pointer → ℕ → ℕ → Result Picture Trap
fill m to value len = if len == 0 then Ok m else laid m (replicate len (Num value)) (write_access m to len)

-- two ranges of one length are one range, or have no byte in common
abbrev pub apart : Place → Place → ℕ → Bool
apart p q len = if p.name == q.name then (p.offset == q.offset || nat_le (p.offset + len) q.offset || nat_le (q.offset + len) p.offset) else true

-- the access that reads is tested before the one that writes, and overlap after both
abbrev pub copied : Picture → ℕ → Bool → Result Place Trap → Result Place Trap → Result Picture Trap
copied m len overlap (Err trap) to = Err trap
copied m len overlap (Ok source) (Err trap) = Err trap
copied m len overlap (Ok source) (Ok target) = if overlap || apart source target len then Ok (lay m target (bytes_from m source len)) else Err Overlap

-- the memory after a copy, which touches nothing where it copies no byte; `overlap` says whether the ranges may overlap
abbrev pub copy : Picture → Pointer → Pointer → ℕ → Bool → Result Picture Trap
copy m to from len overlap = if len == 0 then Ok m else copied m len overlap (access m from len) (write_access m to len)

-- whether an object of that size makes the live bytes too many
abbrev pub over : Picture → ℕ → Bool
over m n = nat_lt live_limit (live m.objects + n)

-- the memory with one more object, which takes the next name
abbrev pub added : Picture → AllocSite → Kind → Bool → List Byte → Picture
added m site kind fixed bytes = record { objects = m.objects ++ record { name = m.next; site = site; kind = kind; fixed = fixed; bytes = bytes } ∷ []; next = m.next + 1 }

-- the memory after an object with these bytes was added: live-memory, then names
abbrev pub add : Picture → AllocSite → Kind → Bool → List Byte → Result Picture Trap
add m site kind fixed bytes = if over m (length bytes) then Err LiveMemory else if nat_lt m.next name_limit then Ok (added m site kind fixed bytes) else Err Names

-- the bytes of a new object
abbrev pub fresh : ℕ → Bool → List Byte
fresh n zeroed = replicate n (if zeroed then Num 0 else Unset)

-- too many live bytes: a request at run time is answered with null, and else it is a trap
abbrev pub past : Kind → Picture → Result (Pointer × Picture) Trap
past Heap m = Ok (Null, m)
past Stack m = Err LiveMemory
past Global m = Err LiveMemory

-- the pointer to a new object, and the memory with it: live bytes, then names
abbrev pub make : Picture → AllocSite → Kind → ℕ → Bool → Result (Pointer × Picture) Trap
make m site kind n zeroed = if over m n then past kind m else if nat_lt m.next name_limit then Ok (Obj m.next (pos 0), added m site kind false (fresh n zeroed)) else Err Names

-- the memory without the object of a name
abbrev pub remove : Picture → ℕ → Picture
remove m name = record m { objects = without name m.objects }

abbrev pub freed : Picture → ℕ → Kind → Result Picture Trap
freed m name Heap = Ok (remove m name)
freed m name Stack = Err Free
freed m name Global = Err Free

abbrev pub released : Picture → ℕ → Option Object → Result Picture Trap
released m name None = Err Free
released m name (Some o) = freed m name o.kind

-- the memory after a release: free, unless the pointer is to the start of a live object that was requested at run time
abbrev pub release : Picture → Pointer → Result Picture Trap
release m (Obj name (pos zero)) = released m name (find name m.objects)
release m (Obj name (pos (suc o))) = Err Free
release m (Obj name (negsuc o)) = Err Free
release m Null = Err Free
release m (Fun index) = Err Free

-- the memory after a frame ended, whose own objects have these names
abbrev pub end_frame : Picture → List ℕ → Picture
end_frame m names = record m { objects = without_all names m.objects }

-- the memory after the names below `next` were passed over
abbrev pub passed_over : Picture → ℕ → Picture
passed_over m next = record m { next = max m.next next }

-- the size of the live object that a pointer points to, wherever in it
abbrev pub size_of : Picture → Pointer → Option ℕ
size_of m Null = None
size_of m (Fun index) = None
size_of m (Obj name offset) = option_map size (find name m.objects)
