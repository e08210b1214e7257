-- Reading from left to right: a value and the tokens behind it, or the first fault.
use Rattle.std.specs.Prelude.{◌≡◌, ℕ, Bool, false, List, [], ◌∷◌, Result, Ok, Err}
use Rattle.ir_lex.specs.declared.token.Cause.{Cause}
use Rattle.ir_tree.specs.Table.{Table}
use Rattle.ir_tree.specs.Naming.{Grows}
use Rattle.ir_text.specs.declared.fault.Fault.{Fault}
use Rattle.ir_text.specs.declared.fault.Fault.TheVariants.{At, Ended}
use Rattle.ir_text.specs.declared.fault.ReadEnd.{ReadEnd}
use Rattle.ir_text.specs.declared.fault.ReadEnd.TheVariants as ends
use Rattle.ir_text.specs.Tokens.{TokenV, is_mark, blamed}

abbrev pub Outcome : Type 0 → Type 0
Outcome A = Result (A × List TokenV) Fault

abbrev pub Reader : Type 0 → Type 0
Reader A = List TokenV → Outcome A

-- one reading, and then another by its value, from the tokens behind it on
infixl 10 ◌>>=◌
abbrev pub ◌>>=◌ : {A B : Type 0} → Outcome A → (A × List TokenV → Outcome B) → Outcome B
(Ok x) >>= f = f x
(Err e) >>= f = Err e

-- no token is read
abbrev pub gives : {A : Type 0} → A → Reader A
gives a ts = Ok (a, ts)

-- the token does not stand here as it must
abbrev pub wrong : {A : Type 0} → TokenV → Cause → Outcome A
wrong t cause = Err (At t.line (blamed t cause))

-- ---- one token

-- what a token stands for, or why it does not stand here
abbrev pub Meaning : Type 0 → Type 0
Meaning A = TokenV → Result A Cause

abbrev pub meant : {A : Type 0} → Result A Cause → TokenV → Reader A
meant (Ok a) t rest = Ok (a, rest)
meant (Err cause) t rest = wrong t cause

-- the value of the next token
unfoldable pub token_by : {A : Type 0} → Meaning A → Reader A
token_by means [] = Err Ended
token_by means (t ∷ rest) = meant (means t) t rest

-- whether the next token passes a test
unfoldable pub next_is : (TokenV → Bool) → List TokenV → Bool
next_is test [] = false
next_is test (t ∷ rest) = test t

-- whether this mark comes next
abbrev pub sees : ℕ → List TokenV → Bool
sees b ts = next_is (is_mark b) ts

-- ---- what code answers

-- What a function returned is what reading gives, unless memory ran out.
abbrev pub Fails : {Y : Type 0} → ReadEnd → Outcome Y → Type 0
Fails ends.Memory read = Unit {0}
Fails (ends.Bad f) read = read ≡ Err f

abbrev pub Reads : {X Y : Type 0} → (X → Y) → List TokenV → Result X ReadEnd → Outcome Y → Type 0
Reads view rest (Ok x) read = read ≡ Ok (view x, rest)
Reads view rest (Err e) read = Fails e read

-- the same, with what names, types and constants show under this table and each later one
abbrev pub ReadsUnder : {X Y : Type 0} → Table → (Table → X → Y) → List TokenV → Result X ReadEnd → Outcome Y → Type 0
ReadsUnder table view rest r read = (later : Table) → Grows table later → Reads (view later) rest r read
