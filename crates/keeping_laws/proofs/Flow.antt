-- Calls and returns, branches, and an effect carried out.
use Rattle.std.proofs.Common.{ℕ, ◌-◌, ◌≤◌, List, length, map, slice_get, Option, Some, None, arith}
use Rattle.std.specs.Prelude.{IfOk}
use Rattle.std.specs.List.{AllByRecursion}
use Rattle.ir_code.specs.declared.op.Scalar.{Scalar}
use Rattle.ir_code.specs.declared.op.Operand.{Operand}
use Rattle.ir_code.specs.declared.code.FunctionCode.{FunctionCode}
use Rattle.ir_code.specs.declared.code.Code.{Code}
use Rattle.seq_effects.specs.declared.state.Value.{Value}
use Rattle.seq_effects.specs.declared.state.Value.TheVariants as value
use Rattle.seq_effects.specs.declared.state.Frame.{Frame}
use Rattle.seq_effects.specs.declared.state.Effect.TheVariants as effect
use Rattle.seq_effects.specs.Values.{operand, operands, number, pointer}
use Rattle.seq_effects.specs.Numbers.{condition}
use Rattle.seq_effects.specs.Flow.{branched, switched, entry_registers, may_enter, enter_function, enter, called, callee, called_through, result_value, is_result, returned}
use Rattle.keeping_laws.specs.Keeping.{ValueFits, RegisterFits, NameFits, FrameFits}
use Rattle.keeping_laws.specs.Constants.{OperandsFit, ResultFits}
use Rattle.keeping_laws.specs.Trees.{TreeFits, EffectFits}
use Rattle.keeping_laws.proofs.Lists.{by_append, by_replicate, by_map, by_weaker}
use Rattle.keeping_laws.proofs.Pictures.{pointer_later}
use Rattle.keeping_laws.proofs.Trees.{Anything, any_value, then_fits, where_fits, with_fits, if_tree}
use Rattle.keeping_laws.proofs.Numbers.{operand_fits, operands_fit}

-- ---- what fits, fits where the next name is a later one

pub value_later : (next later : ℕ) → next ≤ later → (v : Value) → ValueFits next v → ValueFits later v
value_later next later le (value.Int n) h = h
value_later next later le (value.Pointer p) h = pointer_later next later le p h

pub register_later : (next later : ℕ) → next ≤ later → (r : Option Value) → RegisterFits next r → RegisterFits later r
register_later next later le None h = tt
register_later next later le (Some v) h = value_later next later le v h

name_later : (next later : ℕ) → next ≤ later → (name : ℕ) → NameFits next name → NameFits later name
name_later next later le name h = omega (arith, le, h)

pub frame_later : (next later : ℕ) → next ≤ later → (f : Frame) → FrameFits next f → FrameFits later f
frame_later next later le f h = record {
  registers = by_weaker (RegisterFits next) (RegisterFits later) (register_later next later le) f.registers h.registers;
  own = by_weaker (NameFits next) (NameFits later) (name_later next later le) f.own h.own;
}

pub frames_later : (next later : ℕ) → next ≤ later → (fs : List Frame) → AllByRecursion (FrameFits next) fs → AllByRecursion (FrameFits later) fs
frames_later next later le fs h = by_weaker (FrameFits next) (FrameFits later) (frame_later next later le) fs h

-- ---- branches

pub branched_fits : (next : ℕ) (f : Frame) (x : Operand) (a b : ℕ) → IfOk (branched f x a b) (EffectFits next)
branched_fits next f x a b = then_fits Anything (EffectFits next) (condition f x) _ (any_value _) (λ t q. tt)

pub switched_fits : (next : ℕ) (f : Frame) (x : Operand) (d : ℕ) (cases : List (ℕ × ℕ)) → IfOk (switched f x d cases) (EffectFits next)
switched_fits next f x d cases = then_fits Anything (EffectFits next) (number f x) _ (any_value _) (λ n q. tt)

-- ---- calls

pub entry_fits : (next : ℕ) (g : FunctionCode) (vs : List Value) → AllByRecursion (ValueFits next) vs → AllByRecursion (RegisterFits next) (entry_registers g vs)
entry_fits next g vs h = by_append (RegisterFits next) (map Some vs) _ (by_map (RegisterFits next) Some vs h) (by_replicate (RegisterFits next) (length g.registers - length vs) None tt)

enter_fits : (next : ℕ) (code : Code) (types : List Scalar) (to : Option ℕ) (k : ℕ) (vs : List Value) → AllByRecursion (ValueFits next) vs → IfOk (enter code types to k vs) (EffectFits next)
enter_fits next code types to k vs h = go (slice_get code.functions k)
  where
    go : (g : Option FunctionCode) → IfOk (enter_function types to k vs g) (EffectFits next)
    go (Some g) = where_fits (EffectFits next) (may_enter types to g vs) (effect.Enter k (entry_registers g vs)) (entry_fits next g vs h)
    go None = tt

pub called_fits : (next : ℕ) (code : Code) (types : List Scalar) (f : Frame) (to : Option ℕ) (k : ℕ) (xs : List Operand) → FrameFits next f → OperandsFit next xs → IfOk (called code types f to k xs) (EffectFits next)
called_fits next code types f to k xs h l = then_fits (AllByRecursion (ValueFits next)) (EffectFits next) (operands f xs) _ (operands_fit next f xs h l) (enter_fits next code types to k)

pub through_fits : (next : ℕ) (code : Code) (types : List Scalar) (f : Frame) (to : Option ℕ) (x : Operand) (result : Option Scalar) (parameters : List Scalar) (xs : List Operand) → FrameFits next f → OperandsFit next xs → IfOk (called_through code types f to x result parameters xs) (EffectFits next)
through_fits next code types f to x result parameters xs h l =
    then_fits Anything (EffectFits next) (pointer f x) _ (any_value _)
    (λ p a. then_fits (AllByRecursion (ValueFits next)) (EffectFits next) (operands f xs) _ (operands_fit next f xs h l)
    (λ vs b. then_fits Anything (EffectFits next) (callee code p result parameters) _ (any_value _) (λ k c. enter_fits next code types to k vs b)))

-- ---- returns

result_fits : (next : ℕ) (f : Frame) (x : Option Operand) → FrameFits next f → ResultFits next x → IfOk (result_value f x) (RegisterFits next)
result_fits next f None h k = tt
result_fits next f (Some x) h k = then_fits (ValueFits next) (RegisterFits next) (operand f x) _ (operand_fits next f x h k) (λ v q. q)

pub returned_fits : (next : ℕ) (g : FunctionCode) (f : Frame) (x : Option Operand) → FrameFits next f → ResultFits next x → TreeFits EffectFits next (returned g f x)
returned_fits next g f x h k =
    with_fits (RegisterFits next) EffectFits next (result_value f x) _ (result_fits next f x h k)
    (λ v q. if_tree EffectFits next (is_result g.result v) _ _ (h.own, λ later r le s. register_later next later le v q) tt)
