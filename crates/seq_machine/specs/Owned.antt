-- The stack objects of the frames of a state.
use Rattle.std.specs.Prelude.{ℕ, ◌≡◌, List, [], ◌∷◌, ◌++◌, Option, None, Some}
use Rattle.mem_image.specs.declared.object.Object.{Object}
use Rattle.mem_image.specs.declared.object.Kind.TheVariants.{Stack}
use Rattle.mem_image.specs.Picture.{Picture, find}
use Rattle.seq_effects.specs.declared.state.Frame.{Frame}

-- the names that the frames own, from the first frame up
abbrev pub owned : List Frame → List ℕ
owned [] = []
owned (f ∷ frames) = f.own ++ owned frames

-- there is an object, and it is a stack slot
abbrev pub IsSlot : Option Object → Type 0
IsSlot None = ⊥
IsSlot (Some o) = o.kind ≡ Stack

-- each is the name of a live stack slot
abbrev pub AreSlots : Picture → List ℕ → Type 0
AreSlots m [] = Unit {0}
AreSlots m (name ∷ names) = IsSlot (find name m.objects) × AreSlots m names

-- none of them is the name
abbrev pub Without : ℕ → List ℕ → Type 0
Without name [] = Unit {0}
Without name (other ∷ names) = (name ≡ other → ⊥) × Without name names

-- none stands twice
abbrev pub AreOnce : List ℕ → Type 0
AreOnce [] = Unit {0}
AreOnce (name ∷ names) = Without name names × AreOnce names

-- what the frames own are live stack slots, each in one place of one frame
pub record OwnOf (frames : List Frame) (m : Picture) : Type 0 where
  pub slots : AreSlots m (owned frames)
  pub once : AreOnce (owned frames)
