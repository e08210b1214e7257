-- Addresses with their names resolved.
use Rattle.std.specs.Prelude.{ℕ, List, Bool, Option, Some}
use Rattle.ir_tree.specs.declared.instruction.Operand.{Operand as Named}
use Rattle.ir_tree.specs.declared.instruction.Argument.{Argument}
use Rattle.ir_tree.specs.Naming.{type_at}
use Rattle.ir_tree.specs.Modules.{Items, types_of}
use Rattle.ir_code.specs.declared.op.Op.{Op}
use Rattle.ir_code.specs.declared.op.Op.TheVariants as op
use Rattle.ir_code.specs.declared.op.Scalar.TheVariants as scalar
use Rattle.ir_code.specs.Options.{◌>>=◌}
use Rattle.ir_code.specs.Places.{place_of}
use Rattle.ir_code.specs.Strides.{strides}
use Rattle.ir_code.specs.Tables.{Tables, size_at}
use Rattle.ir_code.specs.Families.{operand_at, arguments_at}

-- `getelementptr` at a type that has a size, with the stride or the offset of each index
abbrev pub address : Items → Tables → List (Option ℕ) → ℕ → Bool → ℕ → Named ℕ ℕ → List (Argument ℕ ℕ ℕ) → Option Op
address m t registers to inbounds of base indices = do
  r ← place_of registers to
  size ← size_at t of
  p ← operand_at t registers scalar.Pointer base
  values ← arguments_at t registers indices
  steps ← strides (types_of m) (type_at m.names of) values
  Some (op.Address r inbounds p steps)
