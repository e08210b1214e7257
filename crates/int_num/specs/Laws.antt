-- What the results of the operations are.
use Rattle.std.specs.Prelude.{ℕ, ◌≡◌, IfOk}
use Rattle.int_num.specs.Integer.{Integer, IsWidth, IsInteger, HasWidth}
use Rattle.int_num.specs.Operations.{binary, cast, FitsCast}
use Rattle.int_num.specs.Reductions.{reduce, identity}
use Rattle.int_num.specs.declared.ops.BinOp.{BinOp}
use Rattle.int_num.specs.declared.ops.CastOp.{CastOp}
use Rattle.int_num.specs.declared.ops.RedOp.{RedOp}
use Rattle.int_num.specs.declared.ops.Flags.{Flags}

-- a result is an integer of the operands' width
abbrev pub BinaryKeepsWidth : Type 0
BinaryKeepsWidth = (op : BinOp) (flags : Flags) (a b : Integer) → IsInteger a → IsInteger b → a.width ≡ b.width → IfOk (binary op flags a b) (λ n. HasWidth a.width n)

-- a cast's result is one of the new width
abbrev pub CastHasWidth : Type 0
CastHasWidth = (op : CastOp) (flags : Flags) (a : Integer) (width : ℕ) → IsInteger a → IsWidth width → FitsCast op a.width width → IfOk (cast op flags a width) (λ n. HasWidth width n)

abbrev pub ReduceKeepsWidth : Type 0
ReduceKeepsWidth = (op : RedOp) (a b : Integer) → IsInteger a → IsInteger b → a.width ≡ b.width → HasWidth a.width (reduce op a b)

abbrev pub IdentityHasWidth : Type 0
IdentityHasWidth = (op : RedOp) (width : ℕ) → IsWidth width → HasWidth width (identity op width)
