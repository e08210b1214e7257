-- The meaning of a tree over any memory in which a call has one answer, with the image as an instance.
use Rattle.std.specs.Prelude.{◌≡◌, Result, Ok, Err}
use Rattle.mem_image.specs.declared.fault.Trap.{Trap as TrapWord}
use Rattle.mem_image.specs.declared.fault.Fault.{Fault}
use Rattle.mem_image.specs.declared.fault.Fault.TheVariants.{Trap, Check, Memory}
use Rattle.mem_image.specs.Picture.{Picture, size_of}
use Rattle.mem_image.specs.Calls.{Call, Reply, does}
use Rattle.seq_effects.specs.Script.{Script, Gives, Stops, Sizes, Asks}

-- goes on by the reply, or stops at the fault
abbrev pub by_reply : {A M : Type 0} → Result Reply Fault × M → (Reply → M → Result A Fault × M) → Result A Fault × M
by_reply (Ok r, n) next = next r n
by_reply (Err f, n) next = (Err f, n)

-- The value or the fault of a tree, and the memory after it. A memory stands for an image, which tells the sizes of objects; what
-- it answers to a call, and what it is then, is `act`.
abbrev pub outcome_over : {A M : Type 0} → (M → Picture) → (M → Call → Result Reply Fault × M) → Script A → M → Result A Fault × M
outcome_over image act (Gives a) m = (Ok a, m)
outcome_over image act (Stops t) m = (Err (Trap t), m)
outcome_over image act (Sizes p k) m = outcome_over image act (k (size_of (image m) p)) m
outcome_over image act (Asks call k) m = by_reply (act m call) (λ r n. outcome_over image act (k r) n)

-- a trap as a fault
abbrev pub faulted : {A : Type 0} → Result A TrapWord → Result A Fault
faulted (Ok a) = Ok a
faulted (Err t) = Err (Trap t)

abbrev pub image_reply : Picture → Result (Reply × Picture) TrapWord → Result Reply Fault × Picture
image_reply m (Ok p) = (Ok p.0, p.1)
image_reply m (Err t) = (Err (Trap t), m)

-- what an image answers, and the image after it, which a trap leaves as it was
abbrev pub image_acts : Picture → Call → Result Reply Fault × Picture
image_acts m call = image_reply m (does m call)

-- it holds, unless memory ran out
abbrev pub OrMemory : {A : Type 0} → Result A Fault → Type 0 → Type 0
OrMemory (Ok a) P = P
OrMemory (Err (Trap t)) P = P
OrMemory (Err (Check f)) P = P
OrMemory (Err Memory) P = Unit {0}

-- the relation that allows at each call this one answer, and a lack of memory
abbrev pub OneOrMemory : {M : Type 0} → (M → Call → Result Reply Fault × M) → M → Call → Result Reply Fault → M → Type 0
OneOrMemory act m call reply n = OrMemory reply (act m call ≡ (reply, n))

-- the relation that allows this one answer alone
abbrev pub Exactly : {M : Type 0} → (M → Call → Result Reply Fault × M) → M → Call → Result Reply Fault → M → Type 0
Exactly act m call reply n = act m call ≡ (reply, n)
