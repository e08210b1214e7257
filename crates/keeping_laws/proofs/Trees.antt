-- What holds of a value, and of a tree, from its parts.
use Rattle.std.proofs.Common.{ℕ, ◌≤◌, Bool, true, false, Result, Ok, Err, arith, if◌then◌else◌}
use Rattle.std.specs.Prelude.{IfOk}
use Rattle.mem_image.specs.declared.fault.Trap.{Trap}
use Rattle.seq_effects.specs.Script.{Script, Gives, Stops, Sizes, Asks, tell, with, chain}
use Rattle.seq_effects.specs.Values.{then_, where_}
use Rattle.keeping_laws.specs.Trees.{TreeFits}

-- nothing is said
abbrev pub Anything : {A : Type 0} → A → Type 0
Anything a = Unit {0}

pub any_value : {A : Type 0} (x : Result A Trap) → IfOk x Anything
any_value (Ok a) = tt
any_value (Err t) = tt

pub then_fits : {A B : Type 0} (P : A → Type 0) (Q : B → Type 0) (x : Result A Trap) (k : A → Result B Trap) → IfOk x P → ((a : A) → P a → IfOk (k a) Q) → IfOk (then_ x k) Q
then_fits P Q (Ok a) k h g = g a h
then_fits P Q (Err t) k h g = tt

pub where_fits : {A : Type 0} (Q : A → Type 0) (b : Bool) (a : A) → Q a → IfOk (where_ b a) Q
where_fits Q true a h = h
where_fits Q false a h = tt

pub if_fits : {A : Type 0} (Q : A → Type 0) (b : Bool) (x y : Result A Trap) → IfOk x Q → IfOk y Q → IfOk (if b then x else y) Q
if_fits Q true x y h g = h
if_fits Q false x y h g = g

-- ---- trees from trees

pub tell_fits : {A : Type 0} (P : ℕ → A → Type 0) (next : ℕ) (x : Result A Trap) → IfOk x (P next) → TreeFits P next (tell x)
tell_fits P next (Ok a) h = h
tell_fits P next (Err t) h = tt

pub with_fits : {A B : Type 0} (Q : A → Type 0) (P : ℕ → B → Type 0) (next : ℕ) (x : Result A Trap) (k : A → Script B) → IfOk x Q → ((a : A) → Q a → TreeFits P next (k a)) → TreeFits P next (with x k)
with_fits Q P next (Ok a) k h g = g a h
with_fits Q P next (Err t) k h g = tt

pub chain_fits : {A B : Type 0} (Q : ℕ → A → Type 0) (P : ℕ → B → Type 0) (next : ℕ) (s : Script A) (k : A → Script B) → TreeFits Q next s → ((later : ℕ) (a : A) → next ≤ later → Q later a → TreeFits P later (k a)) → TreeFits P next (chain s k)
chain_fits Q P next (Gives a) k h g = g next a (omega arith) h
chain_fits Q P next (Stops t) k h g = tt
chain_fits Q P next (Sizes p j) k h g = (h.0, λ size. chain_fits Q P next (j size) k (h.1 size) g)
chain_fits Q P next (Asks call j) k h g = (h.0, λ later r le f. chain_fits Q P later (j r) k (h.1 later r le f) (λ last a more q. g last a (omega (arith, le, more)) q))

pub if_tree : {A : Type 0} (P : ℕ → A → Type 0) (next : ℕ) (b : Bool) (s r : Script A) → TreeFits P next s → TreeFits P next r → TreeFits P next (if b then s else r)
if_tree P next true s r h g = h
if_tree P next false s r h g = g
