-- The meaning of an instruction as an interaction tree: what it asks of a memory, and what it does at each reply. What a tree
-- gives on an image, and what it may give on any memory.
use Rattle.std.specs.Prelude.{ℕ, ◌≡◌, ◌⊎◌, Option, Result, Ok, Err}
use Rattle.mem_image.specs.declared.fault.Trap.{Trap as TrapWord}
use Rattle.mem_image.specs.declared.fault.Fault.{Fault}
use Rattle.mem_image.specs.declared.fault.Fault.TheVariants.{Trap, Check, Memory}
use Rattle.mem_image.specs.declared.object.Pointer.{Pointer}
use Rattle.mem_image.specs.Picture.{Picture, size_of}
use Rattle.mem_image.specs.Calls.{Call, Reply, does}

-- it gives a value, stops at a trap, asks for the size of an object, or makes a call and goes on by the reply
pub data Script (A : Type 0) : Type 0 where
  Gives : A → Script A
  Stops : TrapWord → Script A
  Sizes : Pointer → (Option ℕ → Script A) → Script A
  Asks : Call → (Reply → Script A) → Script A

-- a trap or a value as a tree
abbrev pub tell : {A : Type 0} → Result A TrapWord → Script A
tell (Ok a) = Gives a
tell (Err t) = Stops t

-- goes on with the value, or stops at the trap
abbrev pub with : {A B : Type 0} → Result A TrapWord → (A → Script B) → Script B
with (Ok a) next = next a
with (Err t) next = Stops t

-- one tree after another
abbrev pub chain : {A B : Type 0} → Script A → (A → Script B) → Script B
chain (Gives a) next = next a
chain (Stops t) next = Stops t
chain (Sizes p k) next = Sizes p (λ size. chain (k size) next)
chain (Asks call k) next = Asks call (λ r. chain (k r) next)

-- on an image: the value or the trap, and the image after it
abbrev pub outcome : {A : Type 0} → Script A → Picture → Result A TrapWord × Picture
outcome (Gives a) m = (Ok a, m)
outcome (Stops t) m = (Err t, m)
outcome (Sizes p k) m = outcome (k (size_of m p)) m
outcome (Asks call k) m = elim (does m call) [ Ok p ↦ outcome (k p.0) p.1 | Err t ↦ (Err t, m) ]

-- the code gives this value, unless memory ran out
abbrev pub Answers : {A : Type 0} → A → Result A Fault → Type 0
Answers a (Ok b) = b ≡ a
Answers a (Err (Trap t)) = ⊥
Answers a (Err (Check f)) = ⊥
Answers a (Err Memory) = Unit {0}

-- the code gives this value or this trap, unless memory ran out
abbrev pub Tells : {A : Type 0} → Result A TrapWord → Result A Fault → Type 0
Tells (Ok a) answer = Answers a answer
Tells (Err t) (Ok b) = ⊥
Tells (Err t) (Err (Trap u)) = u ≡ t
Tells (Err t) (Err (Check f)) = ⊥
Tells (Err t) (Err Memory) = Unit {0}

-- The tree, run on a memory at m, may answer so and leave it at n: by the calls that it makes, in order and each in the
-- memory's own relation, up to the first fault, or to where memory runs out between them.
abbrev pub Follows : {A M : Type 0} → (M → Picture) → (M → Call → Result Reply Fault → M → Type 0) → Script A → M → Result A Fault → M → Type 0
Follows image R (Gives a) m answer n = Answers a answer × (n ≡ m)
Follows {A = A} image R (Stops t) m answer n = Tells {A = A} (Err t) answer × (n ≡ m)
Follows image R (Sizes p k) m answer n = Follows image R (k (size_of (image m) p)) m answer n
Follows {M = M} image R (Asks call k) m answer n =
    ((answer ≡ Err Memory) × (n ≡ m))
    ⊎ ((reply : Result Reply Fault) × (mid : M) × R m call reply mid
    × (elim reply as (λ _. Type 0) [ Ok r ↦ Follows image R (k r) mid answer n | Err f ↦ (answer ≡ Err f) × (n ≡ mid) ]))

-- a value that the code gives, as another
abbrev pub sent : {A B : Type 0} → (A → B) → Result A Fault → Result B Fault
sent g (Ok a) = Ok (g a)
sent g (Err f) = Err f

-- the value that the code leaves, or its fault
abbrev pub ends : {A : Type 0} → A → Result (Unit {0}) Fault → Result A Fault
ends a (Ok u) = Ok a
ends a (Err f) = Err f
