-- Branches, calls and returns (LLVM Language Reference, "Terminator Instructions", "call").
use Rattle.std.specs.Prelude.{ℕ, ◌-◌, ◌<◌, ◌≡◌, ◌==◌, ◌&&◌, nat_lt, List, [], ◌∷◌, ◌++◌, length, map, replicate, slice_get, unwrap_or, Option, None, Some, Result, Ok, Err, Bool, true, false, not, if◌then◌else◌}
use Rattle.ir_code.specs.declared.op.Scalar.{Scalar}
use Rattle.ir_code.specs.declared.op.Operand.{Operand}
use Rattle.ir_code.specs.declared.code.BlockCode.{BlockCode}
use Rattle.ir_code.specs.declared.code.FunctionCode.{FunctionCode}
use Rattle.ir_code.specs.declared.code.Code.{Code}
use Rattle.ir_code.specs.Cases.{edge_of}
use Rattle.mem_image.specs.declared.object.Pointer.{Pointer as Address}
use Rattle.mem_image.specs.declared.object.Pointer.TheVariants.{Null, Obj, Fun}
use Rattle.mem_image.specs.declared.fault.Trap.{Trap}
use Rattle.mem_image.specs.declared.fault.Trap.TheVariants.{Unreachable, Callee}
use Rattle.mem_image.specs.Calls.{EndFrame}
use Rattle.seq_effects.specs.declared.state.Value.{Value}
use Rattle.seq_effects.specs.declared.state.Frame.{Frame}
use Rattle.seq_effects.specs.declared.state.Effect.{Effect}
use Rattle.seq_effects.specs.declared.state.Effect.TheVariants.{Edge, Enter, Back}
use Rattle.seq_effects.specs.Script.{Script, Gives, Stops, Asks, with}
use Rattle.seq_effects.specs.Values.{then_, where_, operand, operands, number, pointer, is_of, IsOf, AreOf, is_type, is_some_type}
use Rattle.seq_effects.specs.Numbers.{condition}

-- ---- branches

abbrev pub branched : Frame → Operand → ℕ → ℕ → Result Effect Trap
branched f x on_true on_false = then_ (condition f x) (λ b. Ok (Edge (if b then on_true else on_false)))

-- the edge of the value, or the default
abbrev pub switched : Frame → Operand → ℕ → List (ℕ × ℕ) → Result Effect Trap
switched f x default cases = then_ (number f x) (λ n. Ok (Edge (unwrap_or (edge_of cases n.bits) default)))

-- ---- calls

-- a frame may stand in the block: there is an instruction after its phis
abbrev pub may_stand : Option BlockCode → Bool
may_stand (Some b) = nat_lt b.phis (length b.ops)
may_stand None = false

-- the values are of the first of these types
abbrev pub fit : List Scalar → List Value → Bool
fit types [] = true
fit [] (v ∷ vs) = false
fit (t ∷ types) (v ∷ vs) = is_of v t && fit types vs

-- a register, where one is named, may hold the result of a function; a function without result gives none
abbrev pub receives : List Scalar → Option ℕ → Option Scalar → Bool
receives types None result = true
receives types (Some to) (Some t) = is_some_type (slice_get types to) t
receives types (Some to) None = false

-- the arguments, and then registers that are not set
abbrev pub entry_registers : FunctionCode → List Value → List (Option Value)
entry_registers g vs = map Some vs ++ replicate (length g.registers - length vs) None

abbrev pub may_enter : List Scalar → Option ℕ → FunctionCode → List Value → Bool
may_enter types to g vs = length vs == length g.parameters && fit g.registers vs && may_stand (slice_get g.blocks 0) && receives types to g.result

abbrev pub enter_function : List Scalar → Option ℕ → ℕ → List Value → Option FunctionCode → Result Effect Trap
enter_function types to k vs (Some g) = where_ (may_enter types to g vs) (Enter k (entry_registers g vs))
enter_function types to k vs None = Err Unreachable

abbrev pub enter : Code → List Scalar → Option ℕ → ℕ → List Value → Result Effect Trap
enter code types to k vs = enter_function types to k vs (slice_get code.functions k)

-- a call of a function that the module defines
abbrev pub called : Code → List Scalar → Frame → Option ℕ → ℕ → List Operand → Result Effect Trap
called code types f to k arguments = then_ (operands f arguments) (enter code types to k)

abbrev pub same_types : List Scalar → List Scalar → Bool
same_types [] [] = true
same_types [] (t ∷ ts) = false
same_types (s ∷ ss) [] = false
same_types (s ∷ ss) (t ∷ ts) = is_type s t && same_types ss ts

abbrev pub same_result : Option Scalar → Option Scalar → Bool
same_result None None = true
same_result None (Some t) = false
same_result (Some s) None = false
same_result (Some s) (Some t) = is_type s t

-- a function that is defined, of this type
abbrev pub has_type : Option Scalar → List Scalar → Option FunctionCode → Bool
has_type result parameters (Some g) = not g.declared && same_result g.result result && same_types g.parameters parameters
has_type result parameters None = false

-- the function that a pointer names
abbrev pub callee : Code → Address → Option Scalar → List Scalar → Result ℕ Trap
callee code (Fun k) result parameters = if has_type result parameters (slice_get code.functions k) then Ok k else Err Callee
callee code Null result parameters = Err Callee
callee code (Obj name offset) result parameters = Err Callee

-- a call through a pointer: the operands, then the function
abbrev pub called_through : Code → List Scalar → Frame → Option ℕ → Operand → Option Scalar → List Scalar → List Operand → Result Effect Trap
called_through code types f to x result parameters arguments =
    then_ (pointer f x) (λ p. then_ (operands f arguments) (λ vs. then_ (callee code p result parameters) (λ k. enter code types to k vs)))

-- ---- returns

abbrev pub result_value : Frame → Option Operand → Result (Option Value) Trap
result_value f (Some x) = then_ (operand f x) (λ v. Ok (Some v))
result_value f None = Ok None

abbrev pub is_result : Option Scalar → Option Value → Bool
is_result None None = true
is_result None (Some v) = false
is_result (Some t) None = false
is_result (Some t) (Some v) = is_of v t

-- the frame's own objects end with it
abbrev pub returned : FunctionCode → Frame → Option Operand → Script Effect
returned g f x =
    with (result_value f x) (λ v. if is_result g.result v then Asks (EndFrame f.own) (λ r. Gives (Back v)) else Stops Unreachable)

-- ---- what the frames need of these

-- the value of a result of that type
abbrev pub IsResult : Option Scalar → Option Value → Type 0
IsResult None None = Unit {0}
IsResult None (Some v) = ⊥
IsResult (Some t) None = ⊥
IsResult (Some t) (Some v) = IsOf t v

-- a function is entered whose registers these are, and whose result the caller's register may hold
pub record Enters (code : Code) (types : List Scalar) (to : Option ℕ) (k : ℕ) (registers : List (Option Value)) : Type 0 where
  pub there : k < length code.functions
  pub stands : (g : FunctionCode) → slice_get code.functions k ≡ Some g → may_stand (slice_get g.blocks 0) ≡ true
  pub typed : (g : FunctionCode) → slice_get code.functions k ≡ Some g → AreOf g.registers registers
  pub result : (g : FunctionCode) → slice_get code.functions k ≡ Some g → receives types to g.result ≡ true

-- that function is entered
abbrev pub IsEntry : Code → List Scalar → Option ℕ → ℕ → Effect → Type 0
IsEntry code types to k (Enter entered registers) = (entered ≡ k) × Enters code types to entered registers
IsEntry code types to k _ = ⊥

-- some function of that type is entered
abbrev pub IsEntryOf : Code → List Scalar → Option ℕ → Option Scalar → List Scalar → Effect → Type 0
IsEntryOf code types to result parameters (Enter entered registers) = (has_type result parameters (slice_get code.functions entered) ≡ true) × Enters code types to entered registers
IsEntryOf code types to result parameters _ = ⊥

-- the frame ends with a value of that type
abbrev pub IsReturn : Option Scalar → Effect → Type 0
IsReturn result (Back v) = IsResult result v
IsReturn result _ = ⊥
