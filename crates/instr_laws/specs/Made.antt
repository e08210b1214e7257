-- Values made of parts, and the tokens that spell the parts.
use Rattle.std.specs.Prelude.{◌≡◌, List}
use Rattle.ir_text.specs.Tokens.{TokenV}

-- what is made of some parts, by tokens that spell these parts
pub record Made {X A : Type 0} (make : X → A) (spells : X → List TokenV → Type 0) (a : A) (ws : List TokenV) : Type 0 where
  pub parts : X
  pub is : make parts ≡ a
  pub spelled : spells parts ws
