-- What reading an instruction answers.
use Rattle.std.specs.Prelude.{◌≡◌, ℕ, ◌+◌, ◌-◌, ◌==◌, length, take, filter, List, Option, Some, None, Result, Ok, Err}
use Rattle.ir_lex.specs.declared.token.Cause.TheVariants as causes
use Rattle.ir_lex.specs.declared.token.ReadError.{ReadError}
use Rattle.ir_text.specs.declared.fault.Fault.{Fault}
use Rattle.ir_text.specs.declared.fault.Fault.TheVariants.{At, Ended}
use Rattle.ir_text.specs.Tokens.{TokenV}
use Rattle.ir_text.specs.Reading.{Outcome}
use Rattle.ir_instr.specs.declared.reading.InstrError.{InstrError}
use Rattle.ir_instr.specs.declared.reading.InstrError.TheVariants as errors

abbrev pub newlines : List ℕ → ℕ
newlines text = length (filter (λ b. b == 10) text)

-- the line of the last byte: a newline at the end belongs to the line that it ends
abbrev pub last_line : List ℕ → ℕ
last_line text = 1 + newlines (take (length text - 1) text)

-- a fault with its line: where the tokens run out, that of the last byte
abbrev pub refusal : ℕ → Fault → ReadError
refusal last (At line cause) = record { line = line; cause = cause }
refusal last Ended = record { line = last; cause = causes.End }

-- the first fault
abbrev pub refused : {A : Type 0} → ℕ → Outcome A → Option ReadError
refused last (Ok x) = None
refused last (Err fault) = Some (refusal last fault)

-- the value is read, and the number of the token behind it is this one, of so many
pub record ReadTo {A : Type 0} (count : ℕ) (a : A) (next : ℕ) (read : Outcome A) : Type 0 where
  pub rest : List TokenV
  pub is : read ≡ Ok (a, rest)
  pub place : next + length rest ≡ count

abbrev pub Answered : {X A : Type 0} → ℕ → ℕ → (X → A) → Result (X × ℕ) InstrError → Outcome A → Type 0
Answered last count view (Ok x) read = ReadTo count (view x.0) x.1 read
Answered last count view (Err (errors.Bad e)) read = refused last read ≡ Some e
Answered last count view (Err errors.Memory) read = Unit {0}
