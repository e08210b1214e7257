-- Lexical faults, and the texts that begin alike through one.
use Rattle.std.specs.Prelude.{◌≡◌, ◌<◌, ◌≤◌, ℕ, List, ◌++◌, length, take, Some}
use Rattle.ir_lex.specs.declared.token.Form.{Form}
use Rattle.ir_lex.specs.declared.token.Cause.TheVariants as cause
use Rattle.ir_lex.specs.declared.token.ReadError.{ReadError}
use Rattle.ir_lex.specs.Lexing.{lexed}
use Rattle.ir_lex.specs.Cut.{IsForm, Part, joined, AreLongest, tokens_at}
use Rattle.ir_lex.specs.Faults.{IsBegun}

-- A text is cut into these pieces and goes on with these bytes, and no piece that begins there goes on behind them.
pub record CutAlike (parts : List Part) (through : List ℕ) (text : List ℕ) : Type 0 where
  pub more : List ℕ
  pub whole : text ≡ joined parts (through ++ more)
  pub longest : AreLongest parts (through ++ more)
  pub ends : (f : Form) (t after : List ℕ) → IsForm f t → t ++ after ≡ through ++ more → length t ≤ length through

-- A lexical fault stands behind these pieces, at these bytes: before the last of them a piece might still have come, and no
-- text that is cut alike through them avoids it.
pub record LexicalFault (text : List ℕ) (e : ReadError) : Type 0 where
  pub parts : List Part
  pub through : List ℕ
  pub cut : CutAlike parts through text
  pub tokens : tokens_at 0 1 parts ≡ (lexed text).tokens
  pub before : (n : ℕ) → 0 < n → n < length through → IsBegun (take n through)
  pub met : (other : List ℕ) → CutAlike parts through other → lexed other ≡ lexed text

-- each lexical fault, but that the text ends inside a token
abbrev pub LexicalFaultsStay : Type 0
LexicalFaultsStay = (text : List ℕ) (e : ReadError) → (lexed text).fault ≡ Some e → (e.cause ≡ cause.End → ⊥) → LexicalFault text e
