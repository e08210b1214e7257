-- Operands, and the instructions that need the values of their operands alone.
use Rattle.std.proofs.Common.{◌≡◌, ℕ, zero, suc, ◌<◌, ◌≤◌, ◌==◌, ◌^◌, Bool, true, false, List, [], ◌∷◌, slice_get, Option, Some, None, Result, Ok, Err, arith, refl, if◌then◌else◌}
use Rattle.std.specs.Prelude.{IfOk, nat_lt, nat_le}
use Rattle.std.specs.List.{AllByRecursion}
use Rattle.std.proofs.lemmas.Bool.Decides.{nat_tests}
use Rattle.int_num.specs.Integer.{Integer, IsWidth, IsInteger, HasWidth}
use Rattle.int_num.specs.Operations.{of_bits, binary, cast, FitsCast}
use Rattle.int_num.specs.declared.ops.BinOp.{BinOp}
use Rattle.int_num.specs.declared.ops.CastOp.{CastOp}
use Rattle.int_num.specs.declared.ops.CastOp.TheVariants.{Trunc, Zext, Sext}
use Rattle.int_num.specs.declared.ops.Flags.{Flags}
use Rattle.int_num.specs.declared.ops.Pred.{Pred}
use Rattle.int_num.specs.declared.ops.Poison.{Poison}
use Rattle.int_num.proofs.Widths.{binary_keeps_width, cast_has_width}
use Rattle.ir_rules.proofs.SameLemmas.{and_both}
use Rattle.ir_code.specs.declared.op.Scalar.{Scalar}
use Rattle.ir_code.specs.declared.op.Operand.{Operand}
use Rattle.ir_code.specs.declared.op.Operand.TheVariants.{Register, Constant}
use Rattle.mem_image.specs.declared.fault.Trap.TheVariants.{Unreachable}
use Rattle.seq_effects.specs.declared.state.Value.{Value}
use Rattle.seq_effects.specs.declared.state.Value.TheVariants.{Int, Pointer}
use Rattle.seq_effects.specs.declared.state.Frame.{Frame}
use Rattle.seq_effects.specs.declared.state.Effect.TheVariants.{Give}
use Rattle.seq_effects.specs.Values.{register, operand, operands, as_number, as_pointer, number, pointer, may_hold, given, trapping, bit}
use Rattle.seq_effects.specs.Numbers.{of_one_width, calculated, fits_cast, at_width, converted, frozen, compared, compare_values, condition, selected}
use Rattle.keeping_laws.specs.Keeping.{PointerFits, ValueFits, RegisterFits, FrameFits}
use Rattle.keeping_laws.specs.Constants.{OperandFits, OperandsFit}
use Rattle.keeping_laws.specs.Trees.{EffectFits}
use Rattle.keeping_laws.proofs.Trees.{Anything, any_value, then_fits, where_fits}

-- ---- operands

pub operand_fits : (next : ℕ) (f : Frame) (x : Operand) → FrameFits next f → OperandFits next x → IfOk (operand f x) (ValueFits next)
operand_fits next f (Constant c) h k = k
operand_fits next f (Register r) h k = go f.registers r h.registers
  where
    go : (rs : List (Option Value)) (r : ℕ) → AllByRecursion (RegisterFits next) rs → IfOk (register (slice_get rs r)) (ValueFits next)
    go [] r h = tt
    go (None ∷ rs) zero h = tt
    go (Some v ∷ rs) zero h = h.0
    go (o ∷ rs) (suc r) h = go rs r h.1

number_in : (next : ℕ) (v : Value) → ValueFits next v → IfOk (as_number v) IsInteger
number_in next (Int n) h = h
number_in next (Pointer p) h = tt

pointer_in : (next : ℕ) (v : Value) → ValueFits next v → IfOk (as_pointer v) (PointerFits next)
pointer_in next (Int n) h = tt
pointer_in next (Pointer p) h = h

pub number_fits : (next : ℕ) (f : Frame) (x : Operand) → FrameFits next f → OperandFits next x → IfOk (number f x) IsInteger
number_fits next f x h k = then_fits (ValueFits next) IsInteger (operand f x) as_number (operand_fits next f x h k) (number_in next)

pub pointer_fits : (next : ℕ) (f : Frame) (x : Operand) → FrameFits next f → OperandFits next x → IfOk (pointer f x) (PointerFits next)
pointer_fits next f x h k = then_fits (ValueFits next) (PointerFits next) (operand f x) as_pointer (operand_fits next f x h k) (pointer_in next)

pub operands_fit : (next : ℕ) (f : Frame) (xs : List Operand) → FrameFits next f → OperandsFit next xs → IfOk (operands f xs) (AllByRecursion (ValueFits next))
operands_fit next f [] h k = tt
operands_fit next f (x ∷ xs) h k =
    then_fits (ValueFits next) (AllByRecursion (ValueFits next)) (operand f x) _ (operand_fits next f x h k.0)
    (λ v a. then_fits (AllByRecursion (ValueFits next)) (AllByRecursion (ValueFits next)) (operands f xs) _ (operands_fit next f xs h k.1) (λ vs b. (a, b)))

-- ---- what is given

pub given_fits : (next : ℕ) (types : List Scalar) (to : ℕ) (v : Value) → ValueFits next v → IfOk (given types to v) (EffectFits next)
given_fits next types to v h = where_fits (EffectFits next) (may_hold (slice_get types to) v) (Give to v) h

pub of_width : (width bits : ℕ) → IsWidth width → bits < 2 ^ width → IsInteger (of_bits width bits)
of_width width bits w h = record { width = w; bits = h }

pub int32_fits : (n : ℕ) → n < 2 ^ 32 → IsInteger (of_bits 32 n)
int32_fits n h = of_width 32 n (record { positive = omega arith; most = omega arith }) h

bit_fits : (b : Bool) → IsInteger (bit b)
bit_fits true = of_width 1 1 (record { positive = omega arith; most = omega arith }) (omega arith)
bit_fits false = of_width 1 0 (record { positive = omega arith; most = omega arith }) (omega arith)

trapping_fits : (width : ℕ) (r : Result Integer Poison) → IfOk r (λ n. HasWidth width n) → IfOk (trapping r) IsInteger
trapping_fits width (Ok n) h = h.integer
trapping_fits width (Err p) h = tt

-- ---- the instructions

one_width_fits : (op : BinOp) (flags : Flags) (a b : Integer) → IsInteger a → IsInteger b → IfOk (of_one_width op flags a b) IsInteger
one_width_fits op flags a b i j = go (a.width == b.width) refl
  where
    go : (t : Bool) → (a.width == b.width) ≡ t → IfOk (if t then trapping (binary op flags a b) else Err Unreachable) IsInteger
    go true e = let q : a.width ≡ b.width = grind (arith, nat_tests, e) in trapping_fits a.width (binary op flags a b) (binary_keeps_width op flags a b i j q)
    go false e = tt

pub calculated_fits : (next : ℕ) (types : List Scalar) (f : Frame) (to : ℕ) (op : BinOp) (flags : Flags) (x y : Operand) → FrameFits next f → OperandFits next x → OperandFits next y → IfOk (calculated types f to op flags x y) (EffectFits next)
calculated_fits next types f to op flags x y h k l =
    then_fits IsInteger (EffectFits next) (number f x) _ (number_fits next f x h k)
    (λ a i. then_fits IsInteger (EffectFits next) (number f y) _ (number_fits next f y h l)
    (λ b j. then_fits IsInteger (EffectFits next) (of_one_width op flags a b) _ (one_width_fits op flags a b i j) (λ n q. given_fits next types to (Int n) q)))

cast_tested : (op : CastOp) (old new : ℕ) → IsWidth old → fits_cast op old new ≡ true → IsWidth new × FitsCast op old new
cast_tested Trunc old new w e =
    let s = and_both (nat_lt 0 new) (nat_lt new old) e in
    let some : 0 < new = grind (arith, nat_tests, s.0) in
    let less : new < old = grind (arith, nat_tests, s.1) in
    (record { positive = some; most = omega (arith, less, w.most) }, less)
cast_tested Zext old new w e =
    let s = and_both (nat_lt old new) (nat_le new 64) e in
    let more : old < new = grind (arith, nat_tests, s.0) in
    let most : new ≤ 64 = grind (arith, nat_tests, s.1) in
    (record { positive = omega (arith, more); most = most }, more)
cast_tested Sext old new w e =
    let s = and_both (nat_lt old new) (nat_le new 64) e in
    let more : old < new = grind (arith, nat_tests, s.0) in
    let most : new ≤ 64 = grind (arith, nat_tests, s.1) in
    (record { positive = omega (arith, more); most = most }, more)

at_width_fits : (op : CastOp) (flags : Flags) (a : Integer) (width : ℕ) → IsInteger a → IfOk (at_width op flags a width) IsInteger
at_width_fits op flags a width i = go (fits_cast op a.width width) refl
  where
    go : (t : Bool) → fits_cast op a.width width ≡ t → IfOk (if t then trapping (cast op flags a width) else Err Unreachable) IsInteger
    go true e = let q = cast_tested op a.width width i.width e in trapping_fits width (cast op flags a width) (cast_has_width op flags a width i q.0 q.1)
    go false e = tt

pub converted_fits : (next : ℕ) (types : List Scalar) (f : Frame) (to : ℕ) (op : CastOp) (flags : Flags) (x : Operand) (width : ℕ) → FrameFits next f → OperandFits next x → IfOk (converted types f to op flags x width) (EffectFits next)
converted_fits next types f to op flags x width h k =
    then_fits IsInteger (EffectFits next) (number f x) _ (number_fits next f x h k)
    (λ a i. then_fits IsInteger (EffectFits next) (at_width op flags a width) _ (at_width_fits op flags a width i) (λ n q. given_fits next types to (Int n) q))

pub frozen_fits : (next : ℕ) (types : List Scalar) (f : Frame) (to : ℕ) (x : Operand) → FrameFits next f → OperandFits next x → IfOk (frozen types f to x) (EffectFits next)
frozen_fits next types f to x h k = then_fits (ValueFits next) (EffectFits next) (operand f x) _ (operand_fits next f x h k) (given_fits next types to)

pub compared_fits : (next : ℕ) (types : List Scalar) (f : Frame) (to : ℕ) (pred : Pred) (x y : Operand) → IfOk (compared types f to pred x y) (EffectFits next)
compared_fits next types f to pred x y =
    then_fits Anything (EffectFits next) (operand f x) _ (any_value _)
    (λ v a. then_fits Anything (EffectFits next) (operand f y) _ (any_value _)
    (λ w b. then_fits Anything (EffectFits next) (compare_values pred v w) _ (any_value _) (λ t c. given_fits next types to (Int (bit t)) (bit_fits t))))

one_of : (next : ℕ) (b : Bool) (v w : Value) → ValueFits next v → ValueFits next w → ValueFits next (if b then v else w)
one_of next true v w h k = h
one_of next false v w h k = k

pub selected_fits : (next : ℕ) (types : List Scalar) (f : Frame) (to : ℕ) (c x y : Operand) → FrameFits next f → OperandFits next x → OperandFits next y → IfOk (selected types f to c x y) (EffectFits next)
selected_fits next types f to c x y h k l =
    then_fits Anything (EffectFits next) (condition f c) _ (any_value _)
    (λ b t. then_fits (ValueFits next) (EffectFits next) (operand f x) _ (operand_fits next f x h k)
    (λ v p. then_fits (ValueFits next) (EffectFits next) (operand f y) _ (operand_fits next f y h l) (λ w q. given_fits next types to (if b then v else w) (one_of next b v w p q))))
