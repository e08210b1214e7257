-- How an image is kept: each object under its name, in a map whose values are the picture's objects, beside their sum.
use Rattle.std.specs.Prelude.{ℕ, ◌≡◌, List, [], ◌∷◌}
use Rattle.std.specs.Map.{values_of}
use Rattle.mem_image.specs.declared.object.Object.{Object}
use Rattle.mem_image.specs.Picture.{IsPicture, live}

-- each object stands under its name
abbrev pub Keyed : List (ℕ × Object) → Type 0
Keyed [] = Unit {0}
Keyed (e ∷ es) = (e.0 ≡ e.1.name) × Keyed es

pub record IsKept (entries : List (ℕ × Object)) (next : ℕ) (sum : ℕ) : Type 0 where
  pub keys : Keyed entries
  pub picture : IsPicture (record { objects = values_of entries; next = next })
  pub live : sum ≡ live (values_of entries)
