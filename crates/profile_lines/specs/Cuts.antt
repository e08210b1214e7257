-- Parts of a text, and facts of two fields.
use Rattle.std.specs.Prelude.{ℕ, [], ◌∷◌, ◌==◌, Option, None, Some, option_map, Result, Ok, Err, if◌then◌else◌}
use Rattle.pv_base.specs.Outside.{Text}
use Rattle.profile_lines.specs.declared.profile.ProfileCause.{ProfileCause}
use Rattle.profile_lines.specs.declared.profile.ProfileCause.TheVariants.{Word, Number}

-- what stands before the first such byte, and what stands after it
abbrev pub cut : ℕ → Text → Option (Text × Text)
cut byte [] = None
cut byte (b ∷ bs) =
    if b == byte then Some ([], bs) else option_map (λ (p : Text × Text). (b ∷ p.0, p.1)) (cut byte bs)

-- a reading, or its fault
abbrev pub Reading : Type 0 → Type 0
Reading A = Result A ProfileCause

abbrev pub map_reading : {A B : Type 0} → (A → B) → Reading A → Reading B
map_reading f (Ok a) = Ok (f a)
map_reading f (Err cause) = Err cause

-- two parts of one line: a fault of shape in either goes before a number out of range in the other
abbrev pub both : {A B : Type 0} → Reading A → Reading B → Reading (A × B)
both (Ok a) (Ok b) = Ok (a, b)
both (Ok a) (Err cause) = Err cause
both (Err Number) (Ok b) = Err Number
both (Err Number) (Err cause) = Err cause
both (Err cause) b = Err cause

-- the two parts round the first such byte, which must be there, read each in its way
abbrev pub parted : {A B : Type 0} → (Text → Reading A) → (Text → Reading B) → Option (Text × Text) → Reading (A × B)
parted first second None = Err Word
parted first second (Some parts) = both (first parts.0) (second parts.1)
