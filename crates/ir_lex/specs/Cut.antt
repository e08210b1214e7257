-- The ways to cut a text into pieces, by their forms alone.
use Rattle.std.specs.Prelude.{◌≡◌, ℕ, ◌+◌, ◌<◌, ◌≤◌, ◌↔◌, Bool, true, ◌==◌, List, [], ◌∷◌, ◌++◌, length, None, slice_range, take, count_by, MatchOption}
use Rattle.ir_lex.specs.declared.token.TokenKind.TheVariants as kind
use Rattle.ir_lex.specs.declared.token.Form.{Form}
use Rattle.ir_lex.specs.declared.token.Form.TheVariants as form
use Rattle.ir_lex.specs.declared.token.Token.{Token}
use Rattle.ir_lex.specs.Classes.{is_blank, is_digit, is_name_start, is_name_byte, is_word_start, is_word_byte, is_mark, in_line, in_string}
use Rattle.ir_lex.specs.Spelling.{limit_of}
use Rattle.ir_lex.specs.Lexing.{lexed}

-- each byte passes the test
abbrev pub Each : (ℕ → Bool) → List ℕ → Type 0
Each p [] = Unit {0}
Each p (b ∷ rest) = (p b ≡ true) × Each p rest

-- one byte that passes the first test, and any number behind it that pass the second
pub record IsRun (first behind : ℕ → Bool) (t : List ℕ) : Type 0 where
  pub head : ℕ
  pub tail : List ℕ
  pub is : t ≡ head ∷ tail
  pub begins : first head ≡ true
  pub goes_on : Each behind tail

-- bytes between two quotes, without a quote or a newline
pub record IsQuoted (t : List ℕ) : Type 0 where
  pub body : List ℕ
  pub is : t ≡ 34 ∷ body ++ 34 ∷ []
  pub within : Each in_string body

-- a name without its sign
pub data IsName (t : List ℕ) : Type 0 where
  Plain : IsRun is_name_start is_name_byte t → IsName t
  Digits : IsRun is_digit is_digit t → IsName t
  Quoted : IsQuoted t → IsName t

-- a name behind its sign
pub record IsSigned (sign : ℕ) (t : List ℕ) : Type 0 where
  pub name : List ℕ
  pub is : t ≡ sign ∷ name
  pub spells : IsName name

-- a name and a colon
pub record IsLabel (t : List ℕ) : Type 0 where
  pub name : List ℕ
  pub is : t ≡ name ++ 58 ∷ []
  pub spells : IsName name

pub data IsInteger (t : List ℕ) : Type 0 where
  Positive : IsRun is_digit is_digit t → IsInteger t
  Negative : (digits : List ℕ) → t ≡ 45 ∷ digits → IsRun is_digit is_digit digits → IsInteger t

pub data IsPunct (t : List ℕ) : Type 0 where
  Mark : (b : ℕ) → t ≡ b ∷ [] → is_mark b ≡ true → IsPunct t
  Points : t ≡ 46 ∷ 46 ∷ 46 ∷ [] → IsPunct t

-- a blank, or a comment
pub data IsGap (t : List ℕ) : Type 0 where
  Blank : (b : ℕ) → t ≡ b ∷ [] → is_blank b ≡ true → IsGap t
  Comment : (line : List ℕ) → t ≡ 59 ∷ line → Each in_line line → IsGap t

-- the bytes are a piece of this form
abbrev pub IsForm : Form → List ℕ → Type 0
IsForm form.Gap t = IsGap t
IsForm (form.Token kind.GlobalName) t = IsSigned 64 t
IsForm (form.Token kind.LocalName) t = IsSigned 37 t
IsForm (form.Token kind.Label) t = IsLabel t
IsForm (form.Token kind.Integer) t = IsInteger t
IsForm (form.Token kind.Word) t = IsRun is_word_start is_word_byte t
IsForm (form.Token kind.Text) t = IsQuoted t
IsForm (form.Token kind.Punct) t = IsPunct t

-- a piece, as its form and its bytes
pub record Part : Type 0 where
  pub form : Form
  pub bytes : List ℕ

-- the bytes of pieces that follow one another, before others
abbrev pub joined : List Part → List ℕ → List ℕ
joined [] rest = rest
joined (p ∷ ps) rest = p.bytes ++ joined ps rest

-- a piece of its form within the limits, and no piece of any form that is longer can be cut off there
pub record IsLongest (p : Part) (rest : List ℕ) : Type 0 where
  pub is : IsForm p.form p.bytes
  pub limits : limit_of p.form p.bytes ≡ None
  pub longest : (f : Form) (t after : List ℕ) → IsForm f t → t ++ after ≡ p.bytes ++ rest → length t ≤ length p.bytes

-- each piece is the longest where it stands
abbrev pub AreLongest : List Part → List ℕ → Type 0
AreLongest [] rest = Unit {0}
AreLongest (p ∷ ps) rest = IsLongest p (joined ps rest) × AreLongest ps rest

abbrev pub newlines : List ℕ → ℕ
newlines bytes = count_by (λ b. b == 10) bytes

-- a token of a piece, and none of a gap
abbrev pub token_at : Form → ℕ → ℕ → ℕ → List Token → List Token
token_at form.Gap at to line ts = ts
token_at (form.Token k) at to line ts = record { kind = k; from = at; to = to; line = line } ∷ ts

-- the tokens among pieces that stand from a place and a line on
abbrev pub tokens_at : ℕ → ℕ → List Part → List Token
tokens_at at line [] = []
tokens_at at line (p ∷ ps) = token_at p.form at (at + length p.bytes) line (tokens_at (at + length p.bytes) (line + newlines p.bytes) ps)

-- a text cut into pieces up to a rest, with these tokens among them
pub record Cut (text : List ℕ) (tokens : List Token) (rest : List ℕ) : Type 0 where
  pub parts : List Part
  pub whole : joined parts rest ≡ text
  pub longest : AreLongest parts rest
  pub among : tokens_at 0 1 parts ≡ tokens

-- blanks and comments, one after the other
pub data AreGaps : List ℕ → Type 0 where
  NoGap : AreGaps []
  OneMore : (gaps gap : List ℕ) → AreGaps gaps → IsGap gap → AreGaps (gaps ++ gap)

-- the token is that part of the text, behind blanks and comments; its line is one more than the newlines before it
pub record Stands (text : List ℕ) (at : ℕ) (t : Token) : Type 0 where
  pub behind : at ≤ t.from
  pub some : t.from < t.to
  pub within : t.to ≤ length text
  pub between : AreGaps (slice_range text at t.from)
  pub is : IsForm (form.Token t.kind) (slice_range text t.from t.to)
  pub line : t.line ≡ 1 + newlines (take t.from text)

-- the tokens follow one another
abbrev pub InOrder : List ℕ → ℕ → List Token → Type 0
InOrder text at [] = Unit {0}
InOrder text at (t ∷ ts) = Stands text at t × InOrder text t.to ts

-- The tokens stand in the text in order, each of its kind's form, with nothing but blanks and comments between them.
abbrev pub TokensInOrder : Type 0
TokensInOrder = (text : List ℕ) → InOrder text 0 (lexed text).tokens

-- no piece of any form within its limits can be cut off as the longest
abbrev pub IsStuck : List ℕ → Type 0
IsStuck rest = (p : Part) (after : List ℕ) → IsLongest p after → p.bytes ++ after ≡ rest → ⊥

-- The tokens before the first fault are those of a text cut into longest pieces. Without a fault nothing is left over. With a fault the pieces end where no further one can be cut off, and the fault's line is that of this place.
abbrev pub TokensAreCut : Type 0
TokensAreCut = (text : List ℕ) → (rest : List ℕ) × (c : Cut text (lexed text).tokens rest) × MatchOption (lexed text).fault (rest ≡ []) (λ e. (e.line ≡ 1 + newlines (joined c.parts [])) × IsStuck rest)

-- A whole text is cut into longest pieces in one way alone, and its tokens are then the answer.
abbrev pub OneCut : Type 0
OneCut = (text : List ℕ) (ts : List Token) → Cut text ts [] ↔ (lexed text ≡ record { tokens = ts; fault = None })
