-- The constants that stand in a code: integers of their widths, and places in globals that the memory has from the start.
use Rattle.std.specs.Prelude.{ℕ, List, Option, None, Some, IfOk}
use Rattle.std.specs.List.{AllByRecursion}
use Rattle.ir_code.specs.declared.op.Fixed.{Fixed}
use Rattle.ir_code.specs.declared.op.Operand.{Operand}
use Rattle.ir_code.specs.declared.op.Operand.TheVariants.{Register, Constant}
use Rattle.ir_code.specs.declared.op.Op.{Op}
use Rattle.ir_code.specs.declared.op.Op.TheVariants as op
use Rattle.ir_code.specs.declared.code.Move.{Move}
use Rattle.ir_code.specs.declared.code.Edge.{Edge}
use Rattle.ir_code.specs.declared.code.BlockCode.{BlockCode}
use Rattle.ir_code.specs.declared.code.FunctionCode.{FunctionCode}
use Rattle.ir_code.specs.declared.code.Code.{Code}
use Rattle.seq_effects.specs.Values.{constant}
use Rattle.keeping_laws.specs.Keeping.{ValueFits}

-- the value of a constant fits, where it has one
abbrev pub FixedFits : ℕ → Fixed → Type 0
FixedFits next c = IfOk (constant c) (ValueFits next)

abbrev pub OperandFits : ℕ → Operand → Type 0
OperandFits next (Register r) = Unit {0}
OperandFits next (Constant c) = FixedFits next c

abbrev pub OperandsFit : ℕ → List Operand → Type 0
OperandsFit next xs = AllByRecursion (OperandFits next) xs

abbrev pub ResultFits : ℕ → Option Operand → Type 0
ResultFits next None = Unit {0}
ResultFits next (Some x) = OperandFits next x

-- the operands whose values an instruction computes with, keeps, or takes for an address fit; those that it only compares or
-- tests, and the indices of an address, whose sum is taken modulo 2^64, may be any
abbrev pub OpFits : ℕ → Op → Type 0
OpFits next (op.Binary to o flags left right) = OperandFits next left × OperandFits next right
OpFits next (op.Cast to o flags value width) = OperandFits next value
OpFits next (op.Freeze to value) = OperandFits next value
OpFits next (op.Compare to pred left right) = Unit {0}
OpFits next (op.Select to c a b) = OperandFits next a × OperandFits next b
OpFits next op.Phi = Unit {0}
OpFits next (op.Alloca to size) = Unit {0}
OpFits next (op.Load to t p) = OperandFits next p
OpFits next (op.Store t v p) = OperandFits next v × OperandFits next p
OpFits next (op.Address to inbounds base indices) = OperandFits next base
OpFits next (op.Call to k arguments) = OperandsFit next arguments
OpFits next (op.CallPointer to p result parameters arguments) = OperandsFit next arguments
OpFits next (op.CallExternal to e arguments) = OperandsFit next arguments
OpFits next (op.Return value) = ResultFits next value
OpFits next (op.Jump edge) = Unit {0}
OpFits next (op.Branch c a b) = Unit {0}
OpFits next (op.Switch v d cases) = Unit {0}
OpFits next op.Unreachable = Unit {0}
OpFits next op.Stuck = Unit {0}

-- what a phi takes
abbrev pub MoveFits : ℕ → Move → Type 0
MoveFits next m = OperandFits next m.value

abbrev pub EdgeFits : ℕ → Edge → Type 0
EdgeFits next e = AllByRecursion (MoveFits next) e.moves

abbrev pub BlockFits : ℕ → BlockCode → Type 0
BlockFits next b = AllByRecursion (OpFits next) b.ops

-- the operands of all instructions of a function fit, and those that its phis take
pub record FunctionFits (next : ℕ) (g : FunctionCode) : Type 0 where
  pub blocks : AllByRecursion (BlockFits next) g.blocks
  pub edges : AllByRecursion (EdgeFits next) g.edges

-- the constants in a code fit, which name no object but those of so many first names
abbrev pub ConstantsFit : ℕ → Code → Type 0
ConstantsFit next code = AllByRecursion (FunctionFits next) code.functions
