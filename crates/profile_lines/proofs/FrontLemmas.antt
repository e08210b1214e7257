-- Bytes that stand before what is still to be read.
use Rattle.std.proofs.Common.{◌≡◌, ℕ, List, [], ◌∷◌, ◌++◌, Option, Some, None, refl, ap}
use Rattle.std.proofs.lemmas.List.{append_assoc}
use Rattle.profile_lines.specs.Numbers.{led}

abbrev pub after : List ℕ → Option (List ℕ) → Option (List ℕ)
after front None = None
after front (Some rest) = Some (front ++ rest)

pub after_nothing : (rest : Option (List ℕ)) → after [] rest ≡ rest
after_nothing None = refl
after_nothing (Some rest) = refl

-- one byte more stands in front
pub after_led : (front : List ℕ) (b : ℕ) (rest : Option (List ℕ)) → after (front ++ b ∷ []) rest ≡ after front (led (Some b) rest)
after_led front b None = refl
after_led front b (Some rest) = ap (λ l. Some l) (append_assoc front (b ∷ []) rest)
