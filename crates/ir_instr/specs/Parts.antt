-- The parts of which instructions are made: operands and types. What a constant of a type is, is given.
use Rattle.std.specs.Prelude.{Bool, true, false, nat_eq, if◌then◌else◌, Option, None, is_some, Result, Ok, Err, codes}
use Rattle.pv_base.specs.declared.name.Name.{Name}
use Rattle.ir_lex.specs.declared.token.Cause.{Cause}
use Rattle.ir_lex.specs.declared.token.Cause.TheVariants as causes
use Rattle.ir_tree.specs.declared.instruction.Operand.{Operand}
use Rattle.ir_tree.specs.declared.instruction.Argument.{Argument}
use Rattle.ir_tree.specs.declared.layout.Layout.{Layout}
use Rattle.ir_tree.specs.Layouts.{layout_with}
use Rattle.ir_tree.specs.Trees.{TypeV, IntV, PtrV, ConstantV}
use Rattle.ir_text.specs.Operands.{operand_at}
use Rattle.ir_text.specs.Reading.{Reader, ◌>>=◌, Meaning, token_by}
use Rattle.ir_text.specs.Leaves.{word_at, local_at}
use Rattle.ir_text.specs.Types.{Known, register_type}

-- ---- types of one token

-- the same type of a register
abbrev pub same_register : TypeV → TypeV → Bool
same_register (IntV v) (IntV w) = nat_eq v w
same_register PtrV PtrV = true
same_register a b = false

abbrev pub that_type : TypeV → Result TypeV Cause → Result (Unit {0}) Cause
that_type of (Ok found) = if same_register of found then Ok tt else Err causes.Operand
that_type of (Err cause) = Err cause

-- the type that the form or an earlier type fixes: another type of a register is no operand
abbrev pub fixed_type : TypeV → Meaning (Unit {0})
fixed_type of t = that_type of (register_type t)

abbrev pub integer_only : Result TypeV Cause → Result TypeV Cause
integer_only (Ok (IntV w)) = Ok (IntV w)
integer_only (Ok other) = Err causes.Operand
integer_only (Err cause) = Err cause

-- the type of an integer: ptr is no operand
abbrev pub integer_type : Meaning TypeV
integer_type t = integer_only (register_type t)

-- no name has a layout, since a register's type has none in it
abbrev pub no_names : Name → Option Layout
no_names name = None

abbrev pub with_layout : Result TypeV Cause → Result TypeV Cause
with_layout (Ok of) = if is_some (layout_with no_names of) then Ok of else Err causes.Layout
with_layout (Err cause) = Err cause

-- the type of a register that memory can hold
abbrev pub stored_type : Meaning TypeV
stored_type t = with_layout (register_type t)

-- ---- operands

-- label %name
abbrev pub target_at : Reader Name
target_at ts = do
  label ← word_at (codes "label") ts
  local_at label.1

module _ (known : Known) where
  -- ptr P
  abbrev pub pointer_at : Reader (Operand Name ConstantV)
  pointer_at ts = do
    type ← token_by (fixed_type PtrV) ts
    operand_at known PtrV type.1

  -- iN A
  abbrev pub integer_argument_at : Reader (Argument Name TypeV ConstantV)
  integer_argument_at ts = do
    of ← token_by integer_type ts
    value ← operand_at known of.0 of.1
    Ok (record { of = of.0; value = value.0 }, value.1)
