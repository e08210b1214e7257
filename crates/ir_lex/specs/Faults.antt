-- What each lexical fault means, by the forms of pieces alone.
use Rattle.std.specs.Prelude.{◌≡◌, ◌≤◌, ℕ, List, ◌++◌, length, Some}
use Rattle.ir_lex.specs.declared.token.Form.{Form}
use Rattle.ir_lex.specs.declared.token.Cause.{Cause}
use Rattle.ir_lex.specs.declared.token.Cause.TheVariants as cause
use Rattle.ir_lex.specs.declared.token.ReadError.{ReadError}
use Rattle.ir_lex.specs.Spelling.{limit_of}
use Rattle.ir_lex.specs.Lexing.{lexed}
use Rattle.ir_lex.specs.Cut.{IsForm, Cut}

-- no piece of any form stands at the front of the text
abbrev pub BeginsNone : List ℕ → Type 0
BeginsNone text = (f : Form) (t after : List ℕ) → IsForm f t → t ++ after ≡ text → ⊥

-- none does, whatever follows the text
abbrev pub BeginsNever : List ℕ → Type 0
BeginsNever text = (more : List ℕ) → BeginsNone (text ++ more)

-- the whole text is the front of a piece, and ends before the piece does
pub record IsBegun (text : List ℕ) : Type 0 where
  pub form : Form
  pub more : List ℕ
  pub is : IsForm form (text ++ more)

-- the longest piece at the front passes this limit
pub record PassesLimit (why : Cause) (text : List ℕ) : Type 0 where
  pub form : Form
  pub piece : List ℕ
  pub after : List ℕ
  pub whole : piece ++ after ≡ text
  pub is : IsForm form piece
  pub longest : (f : Form) (t rest : List ℕ) → IsForm f t → t ++ rest ≡ text → length t ≤ length piece
  pub passes : limit_of form piece ≡ Some why

-- what a cause says of the text from its place on
abbrev pub IsCause : Cause → List ℕ → Type 0
IsCause cause.Token text = BeginsNever text
IsCause cause.End text = BeginsNone text × IsBegun text
IsCause cause.Number text = PassesLimit cause.Number text
IsCause cause.TooLong text = PassesLimit cause.TooLong text
IsCause _ text = ⊥

-- Behind the longest pieces before it stands what the fault's cause says: End where more bytes would make a piece, Token where none would, Number and TooLong where the longest piece passes that limit.
abbrev pub FaultsAreNamed : Type 0
FaultsAreNamed = (text : List ℕ) (e : ReadError) → (lexed text).fault ≡ Some e → (rest : List ℕ) × Cut text (lexed text).tokens rest × IsCause e.cause rest
