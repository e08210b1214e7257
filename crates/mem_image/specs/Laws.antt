-- What the calls of a memory mean together.
use Rattle.std.specs.Prelude.{ℕ, ◌+◌, ◌-◌, ◌<◌, ◌≤◌, ◌≡◌, ◌≢◌, ◌==◌, nat_eq, if◌then◌else◌, pos, ℤ, List, length, get_or, replicate, Ok, None, Some, Bool}
use Rattle.std.specs.List.{All, list_any}
use Rattle.pv_base.specs.declared.place.AllocSite.{AllocSite}
use Rattle.pv_base.specs.declared.place.Place.{Place}
use Rattle.pv_base.specs.declared.place.Site.{Site}
use Rattle.mem_image.specs.declared.object.Pointer.{Pointer}
use Rattle.mem_image.specs.declared.object.Pointer.TheVariants.{Null, Obj}
use Rattle.mem_image.specs.declared.object.Byte.{Byte}
use Rattle.mem_image.specs.declared.object.Byte.TheVariants.{Num, Unset}
use Rattle.mem_image.specs.declared.object.Kind.{Kind}
use Rattle.mem_image.specs.declared.object.Kind.TheVariants.{Heap}
use Rattle.pv_base.specs.Limits.{live_limit}
use Rattle.mem_image.specs.Picture.{Picture, PartFits, IsPicture, find, bytes_at, access, write_access, lay, added, remove, end_frame, size_of, read, write, copy, fill, release, live}
use Rattle.mem_image.specs.Lookups.{shape, peek, covers, SameShape, SameBytes}
use Rattle.mem_image.specs.Calls.{Call, Reply, does, ReadWord, WriteWord, CopyRange, Fill, Make, Release, EndFrame, Bytes, Made}

-- the words that a call brings have parts of pointers
abbrev pub IsCall : Call → Type 0
IsCall (ReadWord site slot from len) = Unit {0}
IsCall (WriteWord site slot to word) = All PartFits word
IsCall (CopyRange site to from len overlap) = Unit {0}
IsCall (Fill site to value len) = Unit {0}
IsCall (Make site kind size zeroed) = Unit {0}
IsCall (Release site pointer) = Unit {0}
IsCall (EndFrame names) = Unit {0}

-- each call keeps what holds of every memory: names rise below the next, and the limits hold
abbrev pub CallsKeepPictures : Type 0
CallsKeepPictures = (m n : Picture) (call : Call) (reply : Reply) → IsPicture m → IsCall call → does m call ≡ Ok (reply, n) → IsPicture n

-- a read gives as many bytes as it asks for, and leaves the memory
abbrev pub ReadsGiveAll : Type 0
ReadsGiveAll = (m n : Picture) (site : Site) (slot : ℕ) (from : Pointer) (len : ℕ) (word : List Byte) → does m (ReadWord site slot from len) ≡ Ok (Bytes word, n) → (length word ≡ len) × (n ≡ m)

-- what was written is read there
abbrev pub WritesReadBack : Type 0
WritesReadBack = (m n : Picture) (to : Pointer) (word : List Byte) → write m to word ≡ Ok n → read n to (length word) ≡ Ok word

-- a write leaves the objects of all other names
abbrev pub WritesLeaveOthers : Type 0
WritesLeaveOthers = (m n : Picture) (name other : ℕ) (offset : ℤ) (word : List Byte) → write m (Obj name offset) word ≡ Ok n → other ≢ name → find other n.objects ≡ find other m.objects

-- a copy writes what a read of its other side gives
abbrev pub CopiesAreWrites : Type 0
CopiesAreWrites = (m n : Picture) (to from : Pointer) (len : ℕ) (overlap : Bool) → 0 < len → copy m to from len overlap ≡ Ok n → (word : List Byte) × (read m from len ≡ Ok word) × (length word ≡ len) × (write m to word ≡ Ok n)

-- a fill writes one number into each byte
abbrev pub FillsAreWrites : Type 0
FillsAreWrites = (m n : Picture) (to : Pointer) (value len : ℕ) → 0 < len → fill m to value len ≡ Ok n → write m to (replicate len (Num value)) ≡ Ok n

-- a new object takes the next name, at offset 0
abbrev pub MadeTakesNext : Type 0
MadeTakesNext = (m n : Picture) (site : Site) (kind : Kind) (size name : ℕ) (offset : ℤ) (zeroed : Bool) → does m (Make site kind size zeroed) ≡ Ok (Made (Obj name offset), n) → (name ≡ m.next) × (offset ≡ pos 0) × (n.next ≡ m.next + 1)

-- null is answered to a request at run time that makes the live bytes too many, and leaves the memory
abbrev pub NullIsPastLimit : Type 0
NullIsPastLimit = (m n : Picture) (site : Site) (kind : Kind) (size : ℕ) (zeroed : Bool) → does m (Make site kind size zeroed) ≡ Ok (Made Null, n) → (kind ≡ Heap) × (live_limit < live m.objects + size) × (n ≡ m)

-- an object that was released is dead, and those of all other names stay
abbrev pub ReleasedIsDead : Type 0
ReleasedIsDead = (m n : Picture) (name : ℕ) (offset : ℤ) → IsPicture m → release m (Obj name offset) ≡ Ok n → (find name n.objects ≡ None) × ((other : ℕ) → other ≢ name → find other n.objects ≡ find other m.objects)

-- bytes that are laid at a place are there, and nothing else changes
abbrev pub LaidIsThere : Type 0
LaidIsThere = (m : Picture) (place : Place) (bytes : List Byte) (name offset : ℕ) → place.offset + length bytes ≤ length (bytes_at place.name m.objects) → (shape (lay m place bytes).objects name ≡ shape m.objects name) × (peek (lay m place bytes).objects name offset ≡ (if covers place (length bytes) name offset then get_or bytes (offset - place.offset) Unset else peek m.objects name offset))

-- an object that was added is there, and all others are as before
abbrev pub AddedIsThere : Type 0
AddedIsThere = (m : Picture) (site : AllocSite) (kind : Kind) (fixed : Bool) (bytes : List Byte) (name offset : ℕ) → IsPicture m → (shape (added m site kind fixed bytes).objects name ≡ (if name == m.next then Some (record { site = site; kind = kind; fixed = fixed; size = length bytes }) else shape m.objects name)) × (peek (added m site kind fixed bytes).objects name offset ≡ (if name == m.next then get_or bytes offset Unset else peek m.objects name offset))

-- an object that was removed is gone, and all others are as before
abbrev pub RemovedIsGone : Type 0
RemovedIsGone = (m : Picture) (old name offset : ℕ) → IsPicture m → (shape (remove m old).objects name ≡ (if name == old then None else shape m.objects name)) × (peek (remove m old).objects name offset ≡ (if name == old then Unset else peek m.objects name offset))

-- so are those of a frame that ended
abbrev pub EndedIsGone : Type 0
EndedIsGone = (m : Picture) (names : List ℕ) (name offset : ℕ) → IsPicture m → (shape (end_frame m names).objects name ≡ (if list_any (nat_eq name) names then None else shape m.objects name)) × (peek (end_frame m names).objects name offset ≡ (if list_any (nat_eq name) names then Unset else peek m.objects name offset))

-- memories with the same next name and equal look-ups are equal
abbrev pub LookupsTellAll : Type 0
LookupsTellAll = (m n : Picture) → IsPicture m → IsPicture n → m.next ≡ n.next → ((name : ℕ) → shape m.objects name ≡ shape n.objects name) → ((name offset : ℕ) → peek m.objects name offset ≡ peek n.objects name offset) → m ≡ n

-- memories that agree on the shape of an object answer alike where an access of it falls, and what its size is
abbrev pub ShapesTellAccesses : Type 0
ShapesTellAccesses = (m n : Picture) (pointer : Pointer) (len : ℕ) → SameShape m n pointer → (access m pointer len ≡ access n pointer len) × (write_access m pointer len ≡ write_access n pointer len) × (size_of m pointer ≡ size_of n pointer)

-- and what a read gives where they agree on the bytes that it covers too
abbrev pub BytesTellReads : Type 0
BytesTellReads = (m n : Picture) (from : Pointer) (len : ℕ) → SameShape m n from → SameBytes m n from len → read m from len ≡ read n from len
