-- The meaning of each instruction, as one tree over the frame that it is in (LLVM Language Reference, "Instruction Reference").
use Rattle.std.specs.Prelude.{ℕ, Bool, true, false, List, Result, Err}
use Rattle.pv_base.specs.Outside.{Text}
use Rattle.pv_base.specs.declared.place.Site.{Site}
use Rattle.ir_code.specs.declared.op.Op.{Op}
use Rattle.ir_code.specs.declared.op.Op.TheVariants as op
use Rattle.ir_code.specs.declared.code.FunctionCode.{FunctionCode}
use Rattle.ir_code.specs.declared.code.Code.{Code}
use Rattle.ir_code.specs.declared.op.Scalar.{Scalar}
use Rattle.mem_image.specs.declared.fault.Trap.{Trap as TrapWord}
use Rattle.mem_image.specs.declared.fault.Trap.TheVariants.{Unreachable}
use Rattle.seq_effects.specs.declared.state.Frame.{Frame}
use Rattle.seq_effects.specs.declared.state.Effect.{Effect}
use Rattle.seq_effects.specs.declared.state.Effect.TheVariants.{Edge}
use Rattle.seq_effects.specs.Script.{Script, Gives, Stops, tell}
use Rattle.seq_effects.specs.Numbers.{calculated, converted, frozen, compared, selected}
use Rattle.seq_effects.specs.Accesses.{load, store, alloca, address}
use Rattle.seq_effects.specs.Flow.{branched, called, called_through, returned, switched}
use Rattle.seq_externals.specs.Externals.{called_external}

-- what the meaning of an instruction is over: the code, the function and the frame, the site, the input and the place in it
pub record Here : Type 0 where
  pub code : Code
  pub function : FunctionCode
  pub frame : Frame
  pub site : Site
  pub input : Text
  pub place : ℕ

-- a block goes on after these
abbrev pub is_inner : Op → Bool
is_inner (op.Return value) = false
is_inner (op.Jump edge) = false
is_inner (op.Branch c a b) = false
is_inner (op.Switch v d cases) = false
is_inner op.Unreachable = false
is_inner op.Stuck = false
is_inner _ = true

-- what needs the values of its operands alone
abbrev pub computed : List Scalar → Frame → Op → Result Effect TrapWord
computed types f (op.Binary to o flags left right) = calculated types f to o flags left right
computed types f (op.Cast to o flags value width) = converted types f to o flags value width
computed types f (op.Freeze to value) = frozen types f to value
computed types f (op.Compare to pred left right) = compared types f to pred left right
computed types f (op.Select to c a b) = selected types f to c a b
computed types f _ = Err Unreachable

unfoldable pub meaning : Here → Op → Script Effect
meaning h (op.Binary to o flags left right) = tell (calculated h.function.registers h.frame to o flags left right)
meaning h (op.Cast to o flags value width) = tell (converted h.function.registers h.frame to o flags value width)
meaning h (op.Freeze to value) = tell (frozen h.function.registers h.frame to value)
meaning h (op.Compare to pred left right) = tell (compared h.function.registers h.frame to pred left right)
meaning h (op.Select to c a b) = tell (selected h.function.registers h.frame to c a b)
meaning h op.Phi = Stops Unreachable
meaning h (op.Alloca to size) = alloca h.function.registers h.site to size
meaning h (op.Load to t p) = load h.function.registers h.frame h.site to t p
meaning h (op.Store t v p) = store h.frame h.site t v p
meaning h (op.Address to inbounds base indices) = address h.function.registers h.frame to inbounds base indices
meaning h (op.Call to k arguments) = tell (called h.code h.function.registers h.frame to k arguments)
meaning h (op.CallPointer to p result parameters arguments) = tell (called_through h.code h.function.registers h.frame to p result parameters arguments)
meaning h (op.CallExternal to e arguments) = called_external h.function.registers h.frame h.site h.input h.place to e arguments
meaning h (op.Return value) = returned h.function h.frame value
meaning h (op.Jump edge) = Gives (Edge edge)
meaning h (op.Branch c a b) = tell (branched h.frame c a b)
meaning h (op.Switch v d cases) = tell (switched h.frame v d cases)
meaning h op.Unreachable = Stops Unreachable
meaning h op.Stuck = Stops Unreachable
