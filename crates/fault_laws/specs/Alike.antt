-- Texts that begin alike.
use Rattle.std.specs.Prelude.{◌≡◌, ℕ, List, ◌∷◌, ◌++◌, take}
use Rattle.ir_lex.specs.declared.token.Token.{Token}
use Rattle.ir_lex.specs.Lexing.{lexed}
use Rattle.ir_text.specs.Tokens.{token_of, tokens_of}
use Rattle.ir_grammar.specs.Texts.{without_records}

-- the tokens of a text that are read, where they stand in it: not those of lines that are passed over
abbrev pub kept : List ℕ → List Token
kept text = without_records text (lexed text).tokens

-- the token is one of these
pub record IsAmong (t : Token) (ts : List Token) : Type 0 where
  pub before : List Token
  pub behind : List Token
  pub parts : ts ≡ before ++ t ∷ behind

-- Two texts have the same bytes up to where a token ends, and that token is read in both: it goes on in neither, and stands in
-- no line that is passed over.
pub record BeginAlike (text other : List ℕ) (t : Token) : Type 0 where
  pub bytes : take t.to text ≡ take t.to other
  pub here : IsAmong t (kept text)
  pub there : IsAmong t (kept other)

-- both are read alike up to that token
pub record ReadAlike (text other : List ℕ) (t : Token) : Type 0 where
  pub front : List Token
  pub behind : List Token
  pub others : List Token
  pub here : kept text ≡ front ++ t ∷ behind
  pub there : kept other ≡ front ++ t ∷ others
  pub tokens : tokens_of other front ≡ tokens_of text front
  pub token : token_of other t ≡ token_of text t

-- texts that begin alike through a token are read alike up to it
abbrev pub AlikeAreRead : Type 0
AlikeAreRead = (text other : List ℕ) (t : Token) → BeginAlike text other t → ReadAlike text other t
