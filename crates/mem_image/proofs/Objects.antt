-- What changes of a list of objects keep.
use Rattle.std.proofs.Common.{◌≡◌, ℕ, suc, ◌+◌, ◌≤◌, ◌==◌, true, false, List, [], ◌∷◌, ◌++◌, length, take, drop, Some, None, arith, refl, ap, subst, replicate, if◌then◌else◌}
use Rattle.std.proofs.lemmas.Grind.{common_steps}
use Rattle.std.proofs.lemmas.List.{length-replicate}
use Rattle.std.proofs.lemmas.List.Elements.{All-append, All-take, All-drop}
use Rattle.std.specs.List.{All}
use Rattle.mem_image.specs.declared.object.Byte.{Byte}
use Rattle.mem_image.specs.declared.object.Object.{Object}
use Rattle.mem_image.specs.Picture.{PartFits, Rising, live, size, find, with_bytes, without, bytes_of, bytes_at, spliced}

pub rising_lower : (os : List Object) (a b n : ℕ) → Rising a os n → b ≤ a → Rising b os n
rising_lower [] a b n h le = tt
rising_lower (o ∷ os) a b n h le = (omega (arith, h.0), h.1, h.2, h.3)

pub rising_higher : (os : List Object) (low n m : ℕ) → Rising low os n → n ≤ m → Rising low os m
rising_higher [] low n m h le = tt
rising_higher (o ∷ os) low n m h le = (h.0, omega (arith, h.1, le), h.2, rising_higher os (o.name + 1) n m h.3 le)

pub rising_without : (name : ℕ) (os : List Object) (low n : ℕ) → Rising low os n → Rising low (without name os) n
rising_without name [] low n h = tt
rising_without name (o ∷ os) low n h = elim (name == o.name) as (λ b. Rising low (if b then os else o ∷ without name os) n) [
  | true ↦ rising_lower os (o.name + 1) low n h.3 (omega (arith, h.0))
  | false ↦ (h.0, h.1, h.2, rising_without name os (o.name + 1) n h.3)
]

pub rising_with_bytes : (name : ℕ) (bytes : List Byte) (os : List Object) (low n : ℕ) → All PartFits bytes → Rising low os n → Rising low (with_bytes name bytes os) n
rising_with_bytes name bytes [] low n p h = tt
rising_with_bytes name bytes (o ∷ os) low n p h = elim (name == o.name) as (λ b. Rising low (if b then record o { bytes = bytes } ∷ os else o ∷ with_bytes name bytes os) n) [
  | true ↦ (h.0, h.1, p, h.3)
  | false ↦ (h.0, h.1, h.2, rising_with_bytes name bytes os (o.name + 1) n p h.3)
]

pub rising_pushed : (os : List Object) (low n : ℕ) (o : Object) → Rising low os n → low ≤ n → o.name ≡ n → All PartFits o.bytes → Rising low (os ++ o ∷ []) (n + 1)
rising_pushed [] low n o h le e p = (omega arith, omega arith, p, tt)
rising_pushed (x ∷ os) low n o h le e p = (h.0, omega (arith, h.1), h.2, rising_pushed os (x.name + 1) n o h.3 (omega (arith, h.1)) e p)

-- the bytes of a live object
pub parts_at : (name : ℕ) (os : List Object) (low n : ℕ) → Rising low os n → All PartFits (bytes_at name os)
parts_at name [] low n h = λ k d lt. absurd (omega (arith, lt))
parts_at name (o ∷ os) low n h = elim (name == o.name) as (λ b. All PartFits (bytes_of (if b then Some o else find name os))) [
  | true ↦ h.2
  | false ↦ parts_at name os (o.name + 1) n h.3
]

more : (o : Object) (os : List Object) → live (o ∷ os) ≡ size o + live os
more o os = refl

pub live_pushed : (os : List Object) (o : Object) → live (os ++ o ∷ []) ≡ live os + size o
live_pushed [] o = omega (arith, more o [])
live_pushed (x ∷ os) o = omega (arith, live_pushed os o, more x os, more x (os ++ o ∷ []))

pub live_without : (name : ℕ) (os : List Object) → live (without name os) + length (bytes_at name os) ≡ live os
live_without name [] = refl
live_without name (o ∷ os) = elim (name == o.name) as (λ b. live (if b then os else o ∷ without name os) + length (bytes_of (if b then Some o else find name os)) ≡ live (o ∷ os)) [
  | true ↦ omega (arith, more o os)
  | false ↦ omega (arith, live_without name os, more o os, more o (without name os))
]

pub live_with_bytes : (name : ℕ) (bytes : List Byte) (os : List Object) → length bytes ≡ length (bytes_at name os) → live (with_bytes name bytes os) ≡ live os
live_with_bytes name bytes [] e = refl
live_with_bytes name bytes (o ∷ os) e = (elim (name == o.name) as (λ b. length bytes ≡ length (bytes_of (if b then Some o else find name os)) → live (if b then record o { bytes = bytes } ∷ os else o ∷ with_bytes name bytes os) ≡ live (o ∷ os)) [
  | true ↦ λ q. omega (arith, q, more o os, more (record o { bytes = bytes }) os)
  | false ↦ λ q. omega (arith, live_with_bytes name bytes os q, more o os, more o (with_bytes name bytes os))
]) e

longer : (o : Object) (os : List Object) → length (o ∷ os) ≡ suc (length os)
longer o os = refl

pub length_without : (name : ℕ) (os : List Object) → length (without name os) ≤ length os
length_without name [] = omega arith
length_without name (o ∷ os) = elim (name == o.name) as (λ b. length (if b then os else o ∷ without name os) ≤ length (o ∷ os)) [
  | true ↦ omega (arith, longer o os)
  | false ↦ omega (arith, length_without name os, longer o os, longer o (without name os))
]

-- the bytes of a live object that was found
pub parts_of : (name : ℕ) (os : List Object) (n : ℕ) (o : Object) → Rising 0 os n → find name os ≡ Some o → All PartFits o.bytes
parts_of name os n o h e = subst (λ f. All PartFits (bytes_of f)) e (parts_at name os 0 n h)

pub length_spliced : (bytes others : List Byte) (at : ℕ) → at + length others ≤ length bytes → length (spliced bytes at others) ≡ length bytes
length_spliced bytes others at le = grind (arith, common_steps)

pub parts_spliced : (bytes others : List Byte) (at : ℕ) → All PartFits bytes → All PartFits others → All PartFits (spliced bytes at others)
parts_spliced bytes others at b o = All-append PartFits (take at bytes ++ others) (drop (at + length others) bytes) (All-append PartFits (take at bytes) others (All-take PartFits at bytes b) o) (All-drop PartFits (at + length others) bytes b)

pub with_bytes_none : (name : ℕ) (bytes : List Byte) (os : List Object) → find name os ≡ None → with_bytes name bytes os ≡ os
with_bytes_none name bytes [] e = refl
with_bytes_none name bytes (o ∷ os) e = (elim (name == o.name) as (λ b. (if b then Some o else find name os) ≡ None → (if b then record o { bytes = bytes } ∷ os else o ∷ with_bytes name bytes os) ≡ o ∷ os) [
  | true ↦ λ q. cc
  | false ↦ λ q. ap (λ xs. o ∷ xs) (with_bytes_none name bytes os q)
]) e

pub spliced_replicate : (bytes : List Byte) (at len : ℕ) (x : Byte) → spliced bytes at (replicate len x) ≡ take at bytes ++ replicate len x ++ drop (at + len) bytes
spliced_replicate bytes at len x = ap (λ n. take at bytes ++ replicate len x ++ drop (at + n) bytes) (length-replicate len x)
