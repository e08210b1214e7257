-- Which tokens spell a value, whatever reads them.
use Rattle.std.specs.Prelude.{◌≡◌, Bool, true, false, List, [], ◌∷◌, ◌++◌, Ok}
use Rattle.std.proofs.Common.{◌⊎◌}
use Rattle.ir_text.specs.Tokens.{TokenV}
use Rattle.ir_text.specs.Reading.{Meaning}

abbrev pub Spelling : Type 0 → Type 1
Spelling A = A → List TokenV → Type 0

-- some tokens, and then others, by what the first ones spell
pub record InTurn {A B : Type 0} (first : Spelling A) (others : A → Spelling B) (b : B) (ts : List TokenV) : Type 0 where
  pub value : A
  pub front : List TokenV
  pub rest : List TokenV
  pub parts : ts ≡ front ++ rest
  pub first_spells : first value front
  pub rest_spells : others value b rest

infixl 10 ◌>>=◌
abbrev pub ◌>>=◌ : {A B : Type 0} → Spelling A → (A → Spelling B) → Spelling B
first >>= others = InTurn first others

-- a token, and then what it leads to
pub record Led {A : Type 0} (by : TokenV → Spelling A) (a : A) (ts : List TokenV) : Type 0 where
  pub token : TokenV
  pub rest : List TokenV
  pub parts : ts ≡ token ∷ rest
  pub rest_spells : by token a rest

-- one token that stands for the value
pub record OneToken {A : Type 0} (means : Meaning A) (a : A) (ts : List TokenV) : Type 0 where
  pub token : TokenV
  pub parts : ts ≡ token ∷ []
  pub is : means token ≡ Ok a

abbrev pub one_token : {A : Type 0} → Meaning A → Spelling A
one_token means = OneToken means

-- no tokens spell it
abbrev pub never : {A : Type 0} → Spelling A
never a ts = ⊥

-- no tokens
abbrev pub nothing : {A : Type 0} → A → Spelling A
nothing a b ts = (a ≡ b) × (ts ≡ [])

-- what is spelled where a test holds
abbrev pub when : {A : Type 0} → Bool → Spelling A → Spelling A
when true s = s
when false s = never

abbrev pub unless : {A : Type 0} → Bool → Spelling A → Spelling A
unless true s = never
unless false s = s

-- one of two, by a test
abbrev pub by_test : {A : Type 0} → Bool → Spelling A → Spelling A → Spelling A
by_test true s q = s
by_test false s q = q

-- the value, or no tokens for another
abbrev pub perhaps : {A : Type 0} → A → Spelling A → Spelling A
perhaps otherwise s a ts = nothing otherwise a ts ⊎ s a ts
