-- The types of registers, as code has them.
use Rattle.std.specs.Prelude.{Option, Some, None, Result, Ok, Err}
use Rattle.ir_lex.specs.declared.token.Cause.{Cause}
use Rattle.ir_tree.specs.Trees.{TypeV, IntV, PtrV, VoidV}
use Rattle.ir_instr.specs.declared.parts.Scalar.{Scalar}
use Rattle.ir_instr.specs.declared.parts.Scalar.TheVariants as scalar

-- the type of a register
abbrev pub type_of : Scalar → TypeV
type_of (scalar.Int w) = IntV w
type_of scalar.Pointer = PtrV

abbrev pub typed : Result Scalar Cause → Result TypeV Cause
typed (Ok s) = Ok (type_of s)
typed (Err cause) = Err cause

-- the type of a result, which may be none
abbrev pub result_of_type : Option Scalar → TypeV
result_of_type (Some s) = type_of s
result_of_type None = VoidV

abbrev pub returned : Result (Option Scalar) Cause → Result TypeV Cause
returned (Ok s) = Ok (result_of_type s)
returned (Err cause) = Err cause
