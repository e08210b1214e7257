-- What is sound, and what is safe, from its parts.
use Rattle.std.proofs.Common.{◌≡◌, Bool, true, false, Result, Ok, Err, refl, if◌then◌else◌}
use Rattle.mem_image.specs.declared.fault.Trap.{Trap}
use Rattle.seq_effects.specs.Script.{Script, Gives, Stops, Sizes, Asks, tell, with, chain}
use Rattle.seq_effects.specs.Values.{then_, where_}
use Rattle.unreachable_laws.specs.Trees.{IsOther, Sound, Replies, Safe}

-- nothing is said
abbrev pub Anything : {A : Type 0} → A → Type 0
Anything a = Unit {0}

pub then_sound : {A B : Type 0} (P : A → Type 0) (Q : B → Type 0) (x : Result A Trap) (k : A → Result B Trap) → Sound P x → ((a : A) → P a → Sound Q (k a)) → Sound Q (then_ x k)
then_sound P Q (Ok a) k h g = g a h
then_sound P Q (Err t) k h g = h

pub where_sound : {A : Type 0} (Q : A → Type 0) (b : Bool) (a : A) → b ≡ true → (b ≡ true → Q a) → Sound Q (where_ b a)
where_sound Q true a e h = h e
where_sound Q false a e h = absurd cc

pub if_sound : {A : Type 0} (Q : A → Type 0) (b : Bool) (x y : Result A Trap) → (b ≡ true → Sound Q x) → (b ≡ false → Sound Q y) → Sound Q (if b then x else y)
if_sound Q true x y h g = h refl
if_sound Q false x y h g = g refl

pub weaker_sound : {A : Type 0} (P Q : A → Type 0) (x : Result A Trap) → Sound P x → ((a : A) → P a → Q a) → Sound Q x
weaker_sound P Q (Ok a) h g = g a h
weaker_sound P Q (Err t) h g = h

-- ---- trees from trees

pub tell_safe : {A : Type 0} (P : A → Type 0) (x : Result A Trap) → Sound P x → Safe P (tell x)
tell_safe P (Ok a) h = h
tell_safe P (Err t) h = h

pub with_safe : {A B : Type 0} (Q : A → Type 0) (P : B → Type 0) (x : Result A Trap) (k : A → Script B) → Sound Q x → ((a : A) → Q a → Safe P (k a)) → Safe P (with x k)
with_safe Q P (Ok a) k h g = g a h
with_safe Q P (Err t) k h g = h

pub chain_safe : {A B : Type 0} (Q : A → Type 0) (P : B → Type 0) (s : Script A) (k : A → Script B) → Safe Q s → ((a : A) → Q a → Safe P (k a)) → Safe P (chain s k)
chain_safe Q P (Gives a) k h g = g a h
chain_safe Q P (Stops t) k h g = h
chain_safe Q P (Sizes p j) k h g = λ size. chain_safe Q P (j size) k (h size) g
chain_safe Q P (Asks call j) k h g = λ r f. chain_safe Q P (j r) k (h r f) g

pub if_safe : {A : Type 0} (P : A → Type 0) (b : Bool) (s r : Script A) → b ≡ true → Safe P s → Safe P (if b then s else r)
if_safe P true s r e h = h
if_safe P false s r e h = absurd cc
