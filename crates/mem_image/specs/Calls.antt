-- The calls of a memory, their replies, and what an image does at each.
use Rattle.std.specs.Prelude.{ℕ, ◌≡◌, List, Bool, Result, Ok, Err}
use Rattle.pv_base.specs.declared.place.Site.{Site}
use Rattle.pv_base.specs.declared.place.AllocSite.TheVariants.{At}
use Rattle.mem_image.specs.declared.object.Pointer.{Pointer}
use Rattle.mem_image.specs.declared.object.Byte.{Byte}
use Rattle.mem_image.specs.declared.object.Kind.{Kind}
use Rattle.mem_image.specs.declared.fault.Trap.{Trap as TrapWord}
use Rattle.mem_image.specs.declared.fault.Fault.{Fault}
use Rattle.mem_image.specs.declared.fault.Fault.TheVariants.{Trap, Check, Memory}
use Rattle.mem_image.specs.Picture.{Picture, read, write, copy, fill, make, release, end_frame}

-- a call with its arguments; the site is that of the instruction that calls, and the slot counts its accesses
pub data Call : Type 0 where
  ReadWord : (site : Site) (slot : ℕ) (from : Pointer) (len : ℕ) → Call
  WriteWord : (site : Site) (slot : ℕ) (to : Pointer) (word : List Byte) → Call
  CopyRange : (site : Site) (to : Pointer) (from : Pointer) (len : ℕ) (overlap : Bool) → Call
  Fill : (site : Site) (to : Pointer) (value : ℕ) (len : ℕ) → Call
  Make : (site : Site) (kind : Kind) (size : ℕ) (zeroed : Bool) → Call
  Release : (site : Site) (pointer : Pointer) → Call
  EndFrame : (names : List ℕ) → Call

-- the answer of a call that is no fault
pub data Reply : Type 0 where
  Bytes : List Byte → Reply
  Made : Pointer → Reply
  Done : Reply

-- the answer of a call as a reply
abbrev pub replied : {A : Type 0} → (A → Reply) → Result A Fault → Result Reply Fault
replied f (Ok a) = Ok (f a)
replied f (Err e) = Err e

abbrev pub done : Unit {0} → Reply
done u = Done

abbrev pub read_reply : Picture → Result (List Byte) TrapWord → Result (Reply × Picture) TrapWord
read_reply m (Ok word) = Ok (Bytes word, m)
read_reply m (Err t) = Err t

abbrev pub made_reply : Result (Pointer × Picture) TrapWord → Result (Reply × Picture) TrapWord
made_reply (Ok p) = Ok (Made p.0, p.1)
made_reply (Err t) = Err t

abbrev pub done_reply : Result Picture TrapWord → Result (Reply × Picture) TrapWord
done_reply (Ok m) = Ok (Done, m)
done_reply (Err t) = Err t

-- what an image answers, and the memory after it
abbrev pub does : Picture → Call → Result (Reply × Picture) TrapWord
does m (ReadWord site slot from len) = read_reply m (read m from len)
does m (WriteWord site slot to word) = done_reply (write m to word)
does m (CopyRange site to from len overlap) = done_reply (copy m to from len overlap)
does m (Fill site to value len) = done_reply (fill m to value len)
does m (Make site kind size zeroed) = made_reply (make m (At site) kind size zeroed)
does m (Release site pointer) = done_reply (release m pointer)
does m (EndFrame names) = Ok (Done, end_frame m names)

-- a memory that stands for old answers so and stands for new then, where an image does this; a fault leaves it
abbrev pub Fits : Result (Reply × Picture) TrapWord → Picture → Result Reply Fault → Picture → Type 0
Fits d old (Ok reply) new = d ≡ Ok (reply, new)
Fits d old (Err (Trap t)) new = (d ≡ Err t) × (new ≡ old)
Fits d old (Err (Check f)) new = new ≡ old
Fits d old (Err Memory) new = new ≡ old

-- an image answers no check, and only a call that copies or makes may run out of memory
abbrev pub ImageAnswers : Call → Result Reply Fault → Type 0
ImageAnswers call (Ok reply) = Unit {0}
ImageAnswers call (Err (Trap t)) = Unit {0}
ImageAnswers call (Err (Check f)) = ⊥
ImageAnswers (ReadWord site slot from len) (Err Memory) = ⊥
ImageAnswers (WriteWord site slot to word) (Err Memory) = ⊥
ImageAnswers (CopyRange site to from len overlap) (Err Memory) = Unit {0}
ImageAnswers (Fill site to value len) (Err Memory) = ⊥
ImageAnswers (Make site kind size zeroed) (Err Memory) = Unit {0}
ImageAnswers (Release site pointer) (Err Memory) = ⊥
ImageAnswers (EndFrame names) (Err Memory) = ⊥

-- no check is answered
abbrev pub NoCheck : {A : Type 0} → Result A Fault → Type 0
NoCheck (Ok a) = Unit {0}
NoCheck (Err (Trap t)) = Unit {0}
NoCheck (Err (Check f)) = ⊥
NoCheck (Err Memory) = Unit {0}
