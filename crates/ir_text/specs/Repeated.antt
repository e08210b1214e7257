-- Readings as long as the next token passes a test, each under what those before it left.
use Rattle.std.specs.Prelude.{◌≡◌, ℕ, zero, suc, Bool, List, [], ◌∷◌, ◌++◌, length, Ok}
use Rattle.ir_text.specs.Tokens.{TokenV}
use Rattle.ir_text.specs.Reading.{Reader, ◌>>=◌, gives}
use Rattle.ir_text.specs.Choice.{choose}
use Rattle.ir_text.specs.Spelled.{Spelling}

-- some tokens, and then others
pub record Both (first others : List TokenV → Type 0) (ts : List TokenV) : Type 0 where
  pub front : List TokenV
  pub rest : List TokenV
  pub parts : ts ≡ front ++ rest
  pub first_spells : first front
  pub rest_spells : others rest

module _ {S A : Type 0} (test : TokenV → Bool) (item : S → Reader A) (next : S → A → S) where
  -- at most so many
  unfoldable pub repeated_to : ℕ → S → Reader (List A)
  repeated_to zero state ts = Ok ([], ts)
  repeated_to (suc n) state ts = choose test (λ us. item state us >>= λ first. repeated_to n (next state first.0) first.1 >>= λ others. Ok (first.0 ∷ others.0, others.1)) (gives []) ts

  -- each takes a token, so there are no more than tokens
  unfoldable pub repeated_under : S → Reader (List A)
  repeated_under state ts = repeated_to (length ts) state ts

-- the items of a list, one after the other, each under what those before it left
module _ {S A : Type 0} (item : S → Spelling A) (next : S → A → S) where
  abbrev pub each_under : S → Spelling (List A)
  each_under state [] ws = ws ≡ []
  each_under state (a ∷ all) ws = Both (item state a) (each_under (next state a) all) ws

-- the same where nothing is left
abbrev pub stays : {A : Type 0} → Unit {0} → A → Unit {0}
stays s a = tt

abbrev pub repeated : {A : Type 0} → (TokenV → Bool) → Reader A → Reader (List A)
repeated test item = repeated_under test (λ _. item) stays tt

abbrev pub each : {A : Type 0} → Spelling A → Spelling (List A)
each item = each_under (λ _. item) stays tt
