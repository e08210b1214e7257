-- Operands at a type.
use Rattle.std.specs.Prelude.{Bool, true, false, Result, Ok, Err}
use Rattle.std.proofs.Common.{◌⊎◌}
use Rattle.pv_base.specs.declared.name.Name.{Name}
use Rattle.ir_lex.specs.declared.token.TokenKind.{TokenKind}
use Rattle.ir_lex.specs.declared.token.TokenKind.TheVariants as kind
use Rattle.ir_lex.specs.declared.token.Cause.{Cause}
use Rattle.ir_lex.specs.declared.token.Cause.TheVariants as causes
use Rattle.ir_tree.specs.declared.instruction.Operand.{Operand}
use Rattle.ir_tree.specs.declared.instruction.Operand.TheVariants as operand
use Rattle.ir_tree.specs.declared.instruction.Argument.{Argument}
use Rattle.ir_tree.specs.Trees.{TypeV, ConstantV}
use Rattle.ir_text.specs.Tokens.{TokenV}
use Rattle.ir_text.specs.Reading.{Reader, ◌>>=◌, Meaning, token_by}
use Rattle.ir_text.specs.Choice.{choose}
use Rattle.ir_text.specs.Leaves.{spelled_name}
use Rattle.ir_text.specs.Spelled.{Spelling, InTurn, one_token, nothing}
use Rattle.ir_text.specs.Types.{Known, register_type}
use Rattle.ir_text.specs.Constants.{width_of}
pub use Rattle.ir_text.specs.NestedConstants.{constant_at}
pub use Rattle.ir_text.specs.ConstantSpelled.{a_constant}

abbrev pub kind_is_local : TokenKind → Bool
kind_is_local kind.LocalName = true
kind_is_local _ = false

abbrev pub is_local : TokenV → Bool
is_local t = kind_is_local t.kind

abbrev pub register_by : TokenKind → TokenV → Result (Operand Name ConstantV) Cause
register_by kind.LocalName t = Ok (operand.Register (spelled_name t))
register_by _ t = Err causes.Operand

-- %name
abbrev pub register : Meaning (Operand Name ConstantV)
register t = register_by t.kind t

-- a register, or a constant at the width of a type
abbrev pub operand_at : Known → TypeV → Reader (Operand Name ConstantV)
operand_at known type = choose is_local (token_by register) (λ ts. constant_at known (width_of type) ts >>= λ c. Ok (operand.Constant c.0, c.1))

-- the type of a register, and an operand at it
abbrev pub argument_at : Known → Reader (Argument Name TypeV ConstantV)
argument_at known ts = do
  type ← token_by register_type ts
  value ← operand_at known type.0 type.1
  Ok (record { of = type.0; value = value.0 }, value.1)

-- ---- how they are spelled

abbrev pub constant_operand : Known → TypeV → Spelling (Operand Name ConstantV)
constant_operand known type = InTurn (a_constant known (width_of type)) (λ c. nothing (operand.Constant c))

abbrev pub an_operand : Known → TypeV → Spelling (Operand Name ConstantV)
an_operand known type o ws = constant_operand known type o ws ⊎ one_token register o ws

abbrev pub an_argument : Known → Spelling (Argument Name TypeV ConstantV)
an_argument known = InTurn (one_token register_type) (λ type. InTurn (an_operand known type) (λ value. nothing (record { of = type; value = value })))
