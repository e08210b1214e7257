-- Options one after another, and over lists.
use Rattle.std.specs.Prelude.{List, [], ◌∷◌, Option, Some, option_and_then}

infixl 10 ◌>>=◌
-- the rest, from the value, where there is one
abbrev pub ◌>>=◌ : {A B : Type 0} → Option A → (A → Option B) → Option B
a >>= rest = option_and_then rest a

-- what each item gives, where each gives something
abbrev pub every : {A B : Type 0} → (A → Option B) → List A → Option (List B)
every f [] = Some []
every f (x ∷ xs) = do
  y ← f x
  ys ← every f xs
  Some (y ∷ ys)
