-- Readings that the next token chooses.
use Rattle.std.specs.Prelude.{◌≡◌, Bool, true, if◌then◌else◌, List, ◌∷◌}
use Rattle.ir_text.specs.Tokens.{TokenV}
use Rattle.ir_text.specs.Reading.{Reader, next_is}

-- one of two, by whether the next token passes a test
abbrev pub choose : {A : Type 0} → (TokenV → Bool) → Reader A → Reader A → Reader A
choose test r q ts = if next_is test ts then r ts else q ts

-- the tokens begin with one that passes the test
pub record Opens (test : TokenV → Bool) (ws : List TokenV) : Type 0 where
  pub token : TokenV
  pub rest : List TokenV
  pub parts : ws ≡ token ∷ rest
  pub is : test token ≡ true
