-- What the effect of an instruction may be, and how doing it may end.
use Rattle.std.specs.Prelude.{Result, Ok, Err}
use Rattle.ir_code.specs.declared.op.Op.{Op}
use Rattle.ir_code.specs.declared.op.Op.TheVariants as op
use Rattle.ir_code.specs.declared.code.FunctionCode.{FunctionCode}
use Rattle.ir_code.specs.declared.code.Code.{Code}
use Rattle.mem_image.specs.declared.fault.Trap.{Trap as TrapWord}
use Rattle.mem_image.specs.declared.fault.Fault.{Fault}
use Rattle.mem_image.specs.declared.fault.Fault.TheVariants.{Trap, Check, Memory}
use Rattle.seq_effects.specs.declared.state.Effect.{Effect}
use Rattle.seq_effects.specs.declared.state.Effect.TheVariants as effect
use Rattle.seq_effects.specs.Values.{Sets, SetsOwn}
use Rattle.seq_effects.specs.Flow.{IsEntry, IsEntryOf, IsReturn}

abbrev pub MayStop : Effect → Type 0
MayStop (effect.Edge e) = Unit {0}
MayStop (effect.Enter k registers) = Unit {0}
MayStop (effect.Print text to v) = Unit {0}
MayStop _ = ⊥

-- what may want memory
abbrev pub MayWant : Effect → Type 0
MayWant (effect.Keep to name) = Unit {0}
MayWant (effect.Edge e) = Unit {0}
MayWant (effect.Enter k registers) = Unit {0}
MayWant (effect.Print text to v) = Unit {0}
MayWant _ = ⊥

-- the fault that doing the effect may end with
abbrev pub StopsAt : Effect → Fault → Type 0
StopsAt e (Trap t) = MayStop e
StopsAt e (Check f) = ⊥
StopsAt e Memory = MayWant e

-- an effect of an instruction without calls
abbrev pub lifted : Result Effect TrapWord → Result Effect Fault
lifted (Ok e) = Ok e
lifted (Err t) = Err (Trap t)

-- an edge is taken
abbrev pub IsEdge : Effect → Type 0
IsEdge (effect.Edge e) = Unit {0}
IsEdge _ = ⊥

-- what the effect of an instruction may be
abbrev pub EffectFor : Code → FunctionCode → Op → Effect → Type 0
EffectFor code g (op.Call to k arguments) e = IsEntry code g.registers to k e
EffectFor code g (op.CallPointer to p result parameters arguments) e = IsEntryOf code g.registers to result parameters e
EffectFor code g (op.Return value) e = IsReturn g.result e
EffectFor code g (op.Jump edge) e = IsEdge e
EffectFor code g (op.Branch c a b) e = IsEdge e
EffectFor code g (op.Switch v d cases) e = IsEdge e
EffectFor code g (op.Alloca to size) e = SetsOwn g.registers e
EffectFor code g op.Unreachable e = ⊥
EffectFor code g op.Stuck e = ⊥
EffectFor code g _ e = Sets g.registers e
