-- What follows from the calls of a tree.
use Rattle.std.proofs.Common.{inl, inr, ◌≡◌, Result, Ok, Err, refl}
use Rattle.mem_image.specs.declared.fault.Trap.{Trap as TrapWord}
use Rattle.mem_image.specs.declared.fault.CheckFault.{CheckFault}
use Rattle.mem_image.specs.declared.fault.Fault.{Fault}
use Rattle.mem_image.specs.declared.fault.Fault.TheVariants.{Trap, Check, Memory}
use Rattle.mem_image.specs.Picture.{Picture, size_of}
use Rattle.mem_image.specs.Calls.{Call, Reply, does, Fits, ImageAnswers}
use Rattle.seq_effects.specs.Script.{Script, Gives, Stops, Sizes, Asks, outcome, Follows, chain}

-- an answer is that of an image, where it is no check and no lack of memory
abbrev pub Agrees : {A : Type 0} → Result A TrapWord × Picture → Result A Fault → Picture → Type 0
Agrees o (Ok a) n = o ≡ (Ok a, n)
Agrees o (Err (Trap t)) n = o ≡ (Err t, n)
Agrees o (Err (Check f)) n = Unit {0}
Agrees o (Err Memory) n = Unit {0}

pub follows_outcome : {A M : Type 0} (image : M → Picture) (R : M → Call → Result Reply Fault → M → Type 0) → ((m n : M) (call : Call) (answer : Result Reply Fault) → R m call answer n → Fits (does (image m) call) (image m) answer (image n)) → (s : Script A) (m : M) (answer : Result A Fault) (n : M) → Follows image R s m answer n → Agrees (outcome s (image m)) answer (image n)
follows_outcome image R sound (Gives a) m (Ok b) n h = cc
follows_outcome image R sound (Gives a) m (Err (Trap t)) n h = elim h.0 [ ]
follows_outcome image R sound (Gives a) m (Err (Check f)) n h = tt
follows_outcome image R sound (Gives a) m (Err Memory) n h = tt
follows_outcome image R sound (Stops t) m (Ok b) n h = elim h.0 [ ]
follows_outcome image R sound (Stops t) m (Err (Trap u)) n h = cc
follows_outcome image R sound (Stops t) m (Err (Check f)) n h = tt
follows_outcome image R sound (Stops t) m (Err Memory) n h = tt
follows_outcome image R sound (Sizes p k) m answer n h = follows_outcome image R sound (k (size_of (image m) p)) m answer n h
follows_outcome image R sound (Asks call k) m answer n (inl h) = rw h.0 tt
follows_outcome image R sound (Asks call k) m answer n (inr (Ok r, mid, called, rest)) =
    rw (sound m mid call (Ok r) called, outcome) (follows_outcome image R sound (k r) mid answer n rest)
follows_outcome image R sound (Asks call k) m answer n (inr (Err (Trap t), mid, called, rest)) =
    let fits = sound m mid call (Err (Trap t)) called in
    rw (rest.0, rest.1, fits.0, fits.1, outcome) refl
follows_outcome image R sound (Asks call k) m answer n (inr (Err (Check f), mid, called, rest)) = rw rest.0 tt
follows_outcome image R sound (Asks call k) m answer n (inr (Err Memory, mid, called, rest)) = rw rest.0 tt

-- what holds of each check that a call answers
abbrev pub CheckHas : {A : Type 0} → (CheckFault → Type 0) → Result A Fault → Type 0
CheckHas P (Ok a) = Unit {0}
CheckHas P (Err (Trap t)) = Unit {0}
CheckHas P (Err (Check f)) = P f
CheckHas P (Err Memory) = Unit {0}

-- a check is that of a call
pub follows_check : {A M : Type 0} (image : M → Picture) (R : M → Call → Result Reply Fault → M → Type 0) (P : CheckFault → Type 0) → ((m : M) (call : Call) (answer : Result Reply Fault) (n : M) → R m call answer n → CheckHas P answer) → (s : Script A) (m : M) (answer : Result A Fault) (n : M) → Follows image R s m answer n → CheckHas P answer
follows_check image R P each (Gives a) m (Ok b) n h = tt
follows_check image R P each (Gives a) m (Err (Trap t)) n h = tt
follows_check image R P each (Gives a) m (Err (Check f)) n h = elim h.0 [ ]
follows_check image R P each (Gives a) m (Err Memory) n h = tt
follows_check image R P each (Stops t) m (Ok b) n h = tt
follows_check image R P each (Stops t) m (Err (Trap u)) n h = tt
follows_check image R P each (Stops t) m (Err (Check f)) n h = elim h.0 [ ]
follows_check image R P each (Stops t) m (Err Memory) n h = tt
follows_check image R P each (Sizes p k) m answer n h = follows_check image R P each (k (size_of (image m) p)) m answer n h
follows_check image R P each (Asks call k) m answer n (inl h) = rw h.0 tt
follows_check image R P each (Asks call k) m answer n (inr (Ok r, mid, called, rest)) = follows_check image R P each (k r) mid answer n rest
follows_check image R P each (Asks call k) m answer n (inr (Err (Trap t), mid, called, rest)) = rw rest.0 tt
follows_check image R P each (Asks call k) m answer n (inr (Err (Check f), mid, called, rest)) = rw rest.0 (each m call (Err (Check f)) mid called)
follows_check image R P each (Asks call k) m answer n (inr (Err Memory, mid, called, rest)) = rw rest.0 tt

-- an image answers no check
image_each : (m : Picture) (call : Call) (answer : Result Reply Fault) (n : Picture) → ImageAnswers call answer × Fits (does m call) m answer n → CheckHas (λ f. ⊥) answer
image_each m call (Ok r) n h = tt
image_each m call (Err (Trap t)) n h = tt
image_each m call (Err (Check f)) n h = h.0
image_each m call (Err Memory) n h = tt

pub no_check : {A : Type 0} (s : Script A) (m : Picture) (answer : Result A Fault) (n : Picture) → Follows (λ m. m) (λ before call answer' after. ImageAnswers call answer' × Fits (does before call) before answer' after) s m answer n → CheckHas (λ f. ⊥) answer
no_check = follows_check (λ m. m) (λ before call answer' after. ImageAnswers call answer' × Fits (does before call) before answer' after) (λ f. ⊥) image_each

-- a tree that gave a value, and then another
pub follows_chain : {A B M : Type 0} (image : M → Picture) (R : M → Call → Result Reply Fault → M → Type 0) (s : Script A) (k : A → Script B) (m mid n : M) (a : A) (answer : Result B Fault) → Follows image R s m (Ok a) mid → Follows image R (k a) mid answer n → Follows image R (chain s k) m answer n
follows_chain image R (Gives b) k m mid n a answer h next = rw (← h.0, ← h.1) next
follows_chain image R (Stops t) k m mid n a answer h next = elim h.0 [ ]
follows_chain image R (Sizes p rest) k m mid n a answer h next = follows_chain image R (rest (size_of (image m) p)) k m mid n a answer h next
follows_chain image R (Asks call rest) k m mid n a answer (inl h) next = absurd (cc)
follows_chain image R (Asks call rest) k m mid n a answer (inr (Ok r, q, called, h)) next = inr (Ok r, q, called, follows_chain image R (rest r) k q mid n a answer h next)
follows_chain image R (Asks call rest) k m mid n a answer (inr (Err f, q, called, h)) next = absurd (cc)

-- memory may run out before any tree
pub follows_out_of_memory : {A M : Type 0} (image : M → Picture) (R : M → Call → Result Reply Fault → M → Type 0) (s : Script A) (m : M) → Follows image R s m (Err Memory) m
follows_out_of_memory image R (Gives a) m = (tt, refl)
follows_out_of_memory image R (Stops t) m = (tt, refl)
follows_out_of_memory image R (Sizes p k) m = follows_out_of_memory image R (k (size_of (image m) p)) m
follows_out_of_memory image R (Asks call rest) m = inl (refl, refl)

-- a tree that a fault cut off
pub follows_cut : {A B M : Type 0} (image : M → Picture) (R : M → Call → Result Reply Fault → M → Type 0) (s : Script A) (k : A → Script B) (m n : M) (f : Fault) → Follows image R s m (Err f) n → Follows image R (chain s k) m (Err f) n
follows_cut image R (Gives a) k m n (Trap t) h = elim h.0 [ ]
follows_cut image R (Gives a) k m n (Check f) h = elim h.0 [ ]
follows_cut image R (Gives a) k m n Memory h = rw h.1 (follows_out_of_memory image R (k a) m)
follows_cut image R (Stops t) k m n (Trap u) h = h
follows_cut image R (Stops t) k m n (Check f) h = elim h.0 [ ]
follows_cut image R (Stops t) k m n Memory h = h
follows_cut image R (Sizes p rest) k m n f h = follows_cut image R (rest (size_of (image m) p)) k m n f h
follows_cut image R (Asks call rest) k m n f (inl h) = inl (cc, h.1)
follows_cut image R (Asks call rest) k m n f (inr (Ok r, q, called, h)) = inr (Ok r, q, called, follows_cut image R (rest r) k q n f h)
follows_cut image R (Asks call rest) k m n f (inr (Err e, q, called, h)) = inr (Err e, q, called, (cc, h.1))
