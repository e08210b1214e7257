-- Trees that stop at no trap `unreachable`, whatever a memory answers.
use Rattle.std.specs.Prelude.{ℕ, ◌≡◌, List, Option, None, Some, Result, Ok, Err, true, pos, slice_get}
use Rattle.ir_code.specs.declared.op.Scalar.{Scalar}
use Rattle.ir_code.specs.declared.op.Op.{Op}
use Rattle.ir_code.specs.declared.code.FunctionCode.{FunctionCode}
use Rattle.ir_code.specs.declared.code.Code.{Code}
use Rattle.mem_image.specs.declared.object.Pointer.TheVariants.{Obj}
use Rattle.mem_image.specs.declared.fault.Trap.{Trap}
use Rattle.mem_image.specs.declared.fault.Trap.TheVariants.{Unreachable}
use Rattle.mem_image.specs.Calls.{Call, Reply, ReadWord, WriteWord, CopyRange, Fill, Make, Release, EndFrame, Bytes, Made, Done}
use Rattle.seq_effects.specs.declared.state.Value.{Value}
use Rattle.seq_effects.specs.declared.state.Value.TheVariants.{Pointer}
use Rattle.seq_effects.specs.declared.state.Effect.{Effect}
use Rattle.seq_effects.specs.declared.state.Effect.TheVariants as effect
use Rattle.seq_effects.specs.Script.{Script, Gives, Stops, Sizes, Asks}
use Rattle.seq_effects.specs.Values.{may_hold}
use Rattle.seq_effects.specs.Flow.{may_stand, receives, is_result}
use Rattle.seq_machine.specs.Acts.{result_register}
use Rattle.seq_machine.specs.Meaning.{is_inner}
use Rattle.unreachable_laws.specs.Typing.{EdgeTyped}
use Rattle.unreachable_laws.specs.States.{RegistersTyped}

-- a trap that is not `unreachable`
abbrev pub IsOther : Trap → Type 0
IsOther t = t ≡ Unreachable → ⊥

-- a value of which P holds, or another trap
abbrev pub Sound : {A : Type 0} → (A → Type 0) → Result A Trap → Type 0
Sound P (Ok a) = P a
Sound P (Err t) = IsOther t

-- a reply of the kind that the call asks for
abbrev pub Replies : Call → Reply → Type 0
Replies (ReadWord site slot from len) (Bytes word) = Unit {0}
Replies (ReadWord site slot from len) (Made p) = ⊥
Replies (ReadWord site slot from len) Done = ⊥
Replies (Make site kind size zeroed) (Made p) = Unit {0}
Replies (Make site kind size zeroed) (Bytes word) = ⊥
Replies (Make site kind size zeroed) Done = ⊥
Replies call r = Unit {0}

-- what the tree gives is as P says, and where it stops, it is at another trap
abbrev pub Safe : {A : Type 0} → (A → Type 0) → Script A → Type 0
Safe P (Gives a) = P a
Safe P (Stops t) = IsOther t
Safe P (Sizes p k) = (size : Option ℕ) → Safe P (k size)
Safe P (Asks call k) = (r : Reply) → Replies call r → Safe P (k r)

-- a function is entered with registers of their types, and the instruction's register may hold its result
pub record EnterTyped (code : Code) (types : List Scalar) (to : Option ℕ) (k : ℕ) (registers : List (Option Value)) : Type 0 where
  pub callee : FunctionCode
  pub at : slice_get code.functions k ≡ Some callee
  pub stands : may_stand (slice_get callee.blocks 0) ≡ true
  pub typed : RegistersTyped callee.registers registers
  pub result : receives types to callee.result ≡ true

-- the register, where one is named, may hold the value
abbrev pub HoldsTyped : List Scalar → Option ℕ → Value → Type 0
HoldsTyped types None v = Unit {0}
HoldsTyped types (Some to) v = may_hold (slice_get types to) v ≡ true

-- An effect of an instruction that leaves registers of their types. Only one that ends no block lets its frame go on.
abbrev pub EffectTyped : Code → FunctionCode → Op → Effect → Type 0
EffectTyped code g o effect.Next = is_inner o ≡ true
EffectTyped code g o (effect.Give to v) = (is_inner o ≡ true) × (may_hold (slice_get g.registers to) v ≡ true)
EffectTyped code g o (effect.Keep to name) = (is_inner o ≡ true) × (may_hold (slice_get g.registers to) (Pointer (Obj name (pos 0))) ≡ true)
EffectTyped code g o (effect.Edge e) = EdgeTyped g e
EffectTyped code g o (effect.Enter k registers) = (is_inner o ≡ true) × EnterTyped code g.registers (result_register (Some o)) k registers
EffectTyped code g o (effect.Back v) = is_result g.result v ≡ true
EffectTyped code g o (effect.Exit n) = Unit {0}
EffectTyped code g o (effect.Print text to v) = (is_inner o ≡ true) × HoldsTyped g.registers to v
EffectTyped code g o (effect.Take place to v) = (is_inner o ≡ true) × HoldsTyped g.registers to v
