-- What is said of the first fault of a whole text, in its bytes.
use Rattle.std.specs.Prelude.{◌≡◌, List, ◌∷◌, ◌++◌, ℕ, Option, option_map, Err}
use Rattle.std.proofs.Common.{◌⊎◌}
use Rattle.pv_base.specs.declared.name.Name.{Name}
use Rattle.ir_lex.specs.declared.token.Token.{Token}
use Rattle.ir_lex.specs.declared.token.Cause.TheVariants as cause
use Rattle.ir_lex.specs.declared.token.ReadError.{ReadError}
use Rattle.ir_tree.specs.Trees.{TypeV}
use Rattle.ir_text.specs.Tokens.{token_of, tokens_of}
use Rattle.ir_text.specs.Types.{Body}
use Rattle.ir_grammar.specs.Texts.{read_of}
use Rattle.module_laws.specs.TextLaws.{known_of, FirstFault}
use Rattle.fault_laws.specs.Alike.{kept, BeginAlike}
use Rattle.fault_laws.specs.Lexical.{CutAlike, LexicalFault}

-- the body of a named type, where it is defined: none where there is a fault in it
abbrev pub body_of : Option Body → Option (Option TypeV)
body_of known = option_map (λ b. b.of) known

-- a text defines the same named types as another, with the same bodies
abbrev pub SameTypes : List ℕ → List ℕ → Type 0
SameTypes text other = (name : Name) → body_of (known_of other name) ≡ body_of (known_of text name)

-- The first fault stands at this token, and no text avoids it that has the same bytes through the token, and in which the token
-- ends there too, and that defines the same named types with the same bodies.
pub record FaultAtToken (text : List ℕ) (found : ReadError) : Type 0 where
  pub fault : FirstFault text found
  pub token : Token
  pub before : List Token
  pub behind : List Token
  pub stands : kept text ≡ before ++ token ∷ behind
  pub front : tokens_of text before ≡ fault.front
  pub is : token_of text token ≡ fault.token
  pub met : (other : List ℕ) → BeginAlike text other token → SameTypes text other → read_of other ≡ Err found

-- Nothing is wrong at a token, and the fault is that of a byte which goes on with no token: no text avoids it that is cut into
-- the same pieces before it and has the same bytes through it.
pub record FaultInBytes (text : List ℕ) (found : ReadError) : Type 0 where
  pub fault : LexicalFault text found
  pub met : (other : List ℕ) → CutAlike fault.parts fault.through other → read_of other ≡ Err found

-- A text of no module has one of them, or it ends too early.
abbrev pub FaultsAreMet : Type 0
FaultsAreMet = (text : List ℕ) (found : ReadError) → read_of text ≡ Err found → FaultAtToken text found ⊎ (FaultInBytes text found ⊎ (found.cause ≡ cause.End))
