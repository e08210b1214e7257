-- Operands of their types, and the instructions that need the values of their operands alone.
use Rattle.std.proofs.Common.{◌≡◌, ℕ, ◌==◌, ◌^◌, Bool, true, false, List, [], ◌∷◌, slice_get, Option, Some, None, Result, Ok, Err, arith, refl, sym, ap, subst, ◌∙◌, if◌then◌else◌, eqb-true, eq-eqb}
use Rattle.std.specs.Prelude.{IfOk, nat_eq, nat_lt, ◌%◌, ◌/◌, pos, ℤ, not, ◌&&◌, ◌||◌, int_lt, int_rem, int_div, unsigned_abs, bit_and}
use Rattle.std.specs.List.{AllByRecursion}
use Rattle.int_num.specs.Integer.{Integer, signed}
use Rattle.int_num.specs.Operations.{of_bits, modulo, binary, cast, keeps, without_rest, divides, sdiv, srem, shl, lshr, ashr, disjunction}
use Rattle.std.specs.Int.{int_div_euclid}
use Rattle.int_num.specs.declared.ops.BinOp.{BinOp}
use Rattle.int_num.specs.declared.ops.BinOp.TheVariants as what
use Rattle.int_num.specs.declared.ops.CastOp.{CastOp}
use Rattle.int_num.specs.declared.ops.CastOp.TheVariants.{Trunc, Zext, Sext}
use Rattle.int_num.specs.declared.ops.Flags.{Flags}
use Rattle.int_num.specs.declared.ops.Pred.{Pred}
use Rattle.int_num.specs.declared.ops.Pred.TheVariants as pred
use Rattle.int_num.specs.declared.ops.Poison.{Poison}
use Rattle.int_num.specs.declared.ops.Poison.TheVariants as poison
use Rattle.ir_code.specs.declared.op.Scalar.{Scalar}
use Rattle.ir_code.specs.declared.op.Scalar.TheVariants as scalar
use Rattle.ir_code.specs.declared.op.Fixed.{Fixed}
use Rattle.ir_code.specs.declared.op.Fixed.TheVariants as fixed
use Rattle.ir_code.specs.declared.op.Operand.{Operand}
use Rattle.ir_code.specs.declared.op.Operand.TheVariants.{Register, Constant}
use Rattle.mem_image.specs.declared.object.Pointer.{Pointer as Address}
use Rattle.mem_image.specs.declared.object.Pointer.TheVariants as address
use Rattle.mem_image.specs.declared.fault.Trap.{Trap}
use Rattle.mem_image.specs.declared.fault.Trap.TheVariants as trap
use Rattle.seq_effects.specs.declared.state.Value.{Value}
use Rattle.seq_effects.specs.declared.state.Value.TheVariants.{Int, Pointer}
use Rattle.seq_effects.specs.declared.state.Frame.{Frame}
use Rattle.seq_effects.specs.Values.{register, constant, operand, operands, as_number, as_pointer, number, pointer, is_of, may_hold, trapping, bit}
use Rattle.seq_effects.specs.Numbers.{of_one_width, fits_cast, at_width, ordered, compare_pointers, compare_values, condition}
use Rattle.unreachable_laws.specs.Typing.{OperandHas, IsNumber}
use Rattle.unreachable_laws.specs.States.{RegistersTyped}
use Rattle.unreachable_laws.specs.Trees.{IsOther, Sound}
use Rattle.unreachable_laws.proofs.Trees.{Anything, then_sound, where_sound, if_sound, weaker_sound}

-- a value of the type
abbrev pub Of : Scalar → Value → Type 0
Of t v = is_of v t ≡ true

abbrev pub Wide : ℕ → Integer → Type 0
Wide w n = n.width ≡ w

constant_is : (t : Scalar) (c : Fixed) → IfOk (constant c) (Of t) → Sound (Of t) (constant c)
constant_is t (fixed.Int n) h = h
constant_is t fixed.Null h = h
constant_is t (fixed.Global index offset) h = h
constant_is t (fixed.Function index) h = h
constant_is t fixed.Nowhere h = λ e. absurd cc

any_constant : (c : Fixed) → Sound Anything (constant c)
any_constant (fixed.Int n) = tt
any_constant fixed.Null = tt
any_constant (fixed.Global index offset) = tt
any_constant (fixed.Function index) = tt
any_constant fixed.Nowhere = λ e. absurd cc

any_register : (o : Option (Option Value)) → Sound Anything (register o)
any_register (Some (Some v)) = tt
any_register (Some None) = λ e. absurd cc
any_register None = λ e. absurd cc

-- what an operand gives, whatever its type
pub any_operand : (f : Frame) (x : Operand) → Sound Anything (operand f x)
any_operand f (Register r) = any_register (slice_get f.registers r)
any_operand f (Constant c) = any_constant c

pub any_operands : (f : Frame) (xs : List Operand) → Sound Anything (operands f xs)
any_operands f [] = tt
any_operands f (x ∷ xs) = then_sound Anything Anything (operand f x) _ (any_operand f x) (λ v a. then_sound Anything Anything (operands f xs) _ (any_operands f xs) (λ vs b. tt))

register_is : (t : Scalar) (o : Option (Option Value)) → ((v : Value) → o ≡ Some (Some v) → Of t v) → Sound (Of t) (register o)
register_is t (Some (Some v)) h = h v refl
register_is t (Some None) h = λ e. absurd cc
register_is t None h = λ e. absurd cc

held : (t : Scalar) (o : Option Scalar) (v : Value) → o ≡ Some t → may_hold o v ≡ true → Of t v
held t None v e h = absurd cc
held t (Some s) v e h = let same : s ≡ t = cc in subst (λ x. is_of v x ≡ true) same h

may : (t : Scalar) (o : Option Scalar) (v : Value) → o ≡ Some t → Of t v → may_hold o v ≡ true
may t None v e h = absurd cc
may t (Some s) v e h = let same : s ≡ t = cc in subst (λ x. is_of v x ≡ true) (sym same) h

pub may_be : (types : List Scalar) (to : ℕ) (t : Scalar) (v : Value) → slice_get types to ≡ Some t → Of t v → may_hold (slice_get types to) v ≡ true
may_be types to t v e h = may t (slice_get types to) v e h

numbered : (w : ℕ) (v : Value) → Of (scalar.Int w) v → Sound (Wide w) (as_number v)
numbered w (Int n) h = eqb-true n.width w h
numbered w (Pointer p) h = absurd cc

pointed : (v : Value) → Of scalar.Pointer v → Sound Anything (as_pointer v)
pointed (Int n) h = absurd cc
pointed (Pointer p) h = tt

-- over a frame whose registers have their types
module _ (types : List Scalar) (f : Frame) (typed : RegistersTyped types f.registers) where
  pub operand_sound : (t : Scalar) (x : Operand) → OperandHas types t x → Sound (Of t) (operand f x)
  operand_sound t (Register r) h = register_is t (slice_get f.registers r) (λ v e. held t (slice_get types r) v h (typed r v e))
  operand_sound t (Constant c) h = constant_is t c h

  pub number_sound : (w : ℕ) (x : Operand) → OperandHas types (scalar.Int w) x → Sound (Wide w) (number f x)
  number_sound w x h = then_sound (Of (scalar.Int w)) (Wide w) (operand f x) as_number (operand_sound (scalar.Int w) x h) (numbered w)

  pub some_number : (x : Operand) → IsNumber types x → Sound Anything (number f x)
  some_number x h = weaker_sound (Wide h.0) Anything (number f x) (number_sound h.0 x h.1) (λ n q. tt)

  pub pointer_sound : (x : Operand) → OperandHas types scalar.Pointer x → Sound Anything (pointer f x)
  pointer_sound x h = then_sound (Of scalar.Pointer) Anything (operand f x) as_pointer (operand_sound scalar.Pointer x h) pointed

  pub condition_sound : (x : Operand) → OperandHas types (scalar.Int 1) x → Sound Anything (condition f x)
  condition_sound x h = then_sound (Wide 1) Anything (number f x) _ (number_sound 1 x h) (λ n q. where_sound Anything (n.width == 1) (n.bits == 1) (eq-eqb n.width 1 q) (λ e. tt))

-- ---- widths

abbrev Gives : ℕ → Result Integer Poison → Type 0
Gives w r = IfOk r (Wide w)

gives_if : (w : ℕ) (b : Bool) (x y : Result Integer Poison) → Gives w x → Gives w y → Gives w (if b then x else y)
gives_if w true x y h g = h
gives_if w false x y h g = g

kept : (w : ℕ) (cause : Poison) (flags : Flags) (u s : Bool) (n : Integer) → n.width ≡ w → Gives w (keeps cause flags u s n)
unfolding keeps
kept w cause flags u s n h = gives_if w ((not flags.nuw || u) && (not flags.nsw || s)) (Ok n) (Err cause) h tt

rest : (w : ℕ) (flags : Flags) (r : ℕ) (n : Integer) → n.width ≡ w → Gives w (without_rest flags r n)
unfolding without_rest
rest w flags r n h = gives_if w (flags.exact && not (nat_eq r 0)) (Err poison.Flag) (Ok n) tt h

sdiv_width : (flags : Flags) (a b : Integer) → Gives a.width (sdiv flags a b)
sdiv_width flags a b = gives_if a.width (divides a b) (without_rest flags (unsigned_abs (int_rem (signed a) (signed b))) (modulo a.width (int_div (signed a) (signed b)))) (Err poison.Divide)
    (rest a.width flags (unsigned_abs (int_rem (signed a) (signed b))) (modulo a.width (int_div (signed a) (signed b))) refl) tt

srem_width : (a b : Integer) → Gives a.width (srem a b)
srem_width a b = gives_if a.width (divides a b) (Ok (modulo a.width (int_rem (signed a) (signed b)))) (Err poison.Divide) refl tt

shl_width : (flags : Flags) (a b : Integer) → Gives a.width (shl flags a b)
shl_width flags a b = gives_if a.width (nat_lt b.bits a.width) _ (Err poison.Shift) (kept a.width poison.Overflow flags _ _ _ refl) tt

lshr_width : (flags : Flags) (a b : Integer) → Gives a.width (lshr flags a b)
lshr_width flags a b = gives_if a.width (nat_lt b.bits a.width) _ (Err poison.Shift) (rest a.width flags (a.bits % 2 ^ b.bits) (of_bits a.width (a.bits / 2 ^ b.bits)) refl) tt

ashr_width : (flags : Flags) (a b : Integer) → Gives a.width (ashr flags a b)
ashr_width flags a b = gives_if a.width (nat_lt b.bits a.width) _ (Err poison.Shift) (rest a.width flags (a.bits % 2 ^ b.bits) (modulo a.width (int_div_euclid (signed a) (pos (2 ^ b.bits)))) refl) tt

binary_width : (op : BinOp) (flags : Flags) (a b : Integer) → Gives a.width (binary op flags a b)
unfolding binary
binary_width what.Add flags a b = kept a.width poison.Overflow flags _ _ _ refl
binary_width what.Sub flags a b = kept a.width poison.Overflow flags _ _ _ refl
binary_width what.Mul flags a b = kept a.width poison.Overflow flags _ _ _ refl
binary_width what.Udiv flags a b = gives_if a.width (nat_eq b.bits 0) (Err poison.Divide) _ tt (rest a.width flags (a.bits % b.bits) (of_bits a.width (a.bits / b.bits)) refl)
binary_width what.Sdiv flags a b = sdiv_width flags a b
binary_width what.Urem flags a b = gives_if a.width (nat_eq b.bits 0) (Err poison.Divide) (Ok (of_bits a.width (a.bits % b.bits))) tt refl
binary_width what.Srem flags a b = srem_width a b
binary_width what.Shl flags a b = shl_width flags a b
binary_width what.Lshr flags a b = lshr_width flags a b
binary_width what.Ashr flags a b = ashr_width flags a b
binary_width what.And flags a b = refl
binary_width what.Or flags a b = gives_if a.width (flags.disjoint && not (nat_eq (bit_and a.bits b.bits) 0)) (Err poison.Flag) (Ok (disjunction a b)) tt refl
binary_width what.Xor flags a b = refl

cast_width : (op : CastOp) (flags : Flags) (a : Integer) (w : ℕ) → Gives w (cast op flags a w)
unfolding cast
cast_width Trunc flags a w = kept w poison.Flag flags _ _ _ refl
cast_width Zext flags a w = gives_if w (flags.nneg && int_lt (signed a) (pos 0)) (Err poison.Flag) (Ok (of_bits w a.bits)) tt refl
cast_width Sext flags a w = refl

trapped : (w : ℕ) (r : Result Integer Poison) → Gives w r → Sound (Wide w) (trapping r)
trapped w (Ok n) h = h
trapped w (Err poison.Overflow) h = λ e. absurd cc
trapped w (Err poison.Shift) h = λ e. absurd cc
trapped w (Err poison.Divide) h = λ e. absurd cc
trapped w (Err poison.Flag) h = λ e. absurd cc

pub one_width_sound : (w : ℕ) (op : BinOp) (flags : Flags) (a b : Integer) → a.width ≡ w → b.width ≡ w → Sound (Wide w) (of_one_width op flags a b)
one_width_sound w op flags a b h g =
    let same : a.width ≡ b.width = h ∙ sym g in
    if_sound (Wide w) (a.width == b.width) (trapping (binary op flags a b)) _ (λ e. trapped w (binary op flags a b) (subst (λ x. Gives x (binary op flags a b)) h (binary_width op flags a b)))
    (λ e. let t = eq-eqb a.width b.width same in absurd cc)

pub at_width_sound : (w : ℕ) (op : CastOp) (flags : Flags) (a : Integer) (width : ℕ) → a.width ≡ w → fits_cast op w width ≡ true → Sound (Wide width) (at_width op flags a width)
at_width_sound w op flags a width h fits =
    let good : fits_cast op a.width width ≡ true = ap (λ x. fits_cast op x width) h ∙ fits in
    if_sound (Wide width) (fits_cast op a.width width) (trapping (cast op flags a width)) _ (λ e. trapped width (cast op flags a width) (cast_width op flags a width)) (λ e. absurd cc)

-- ---- comparisons

ordered_sound : (p : Pred) (x y : Address) → Sound Anything (ordered p x y)
ordered_sound p (address.Obj m a) (address.Obj n b) = if_sound Anything (m == n) _ _ (λ e. tt) (λ e q. absurd cc)
ordered_sound p (address.Obj m a) address.Null = λ e. absurd cc
ordered_sound p (address.Obj m a) (address.Fun j) = λ e. absurd cc
ordered_sound p address.Null y = λ e. absurd cc
ordered_sound p (address.Fun i) y = λ e. absurd cc

pointers_sound : (p : Pred) (x y : Address) → Sound Anything (compare_pointers p x y)
pointers_sound pred.Eq x y = tt
pointers_sound pred.Ne x y = tt
pointers_sound pred.Ugt x y = ordered_sound pred.Ugt x y
pointers_sound pred.Uge x y = ordered_sound pred.Uge x y
pointers_sound pred.Ult x y = ordered_sound pred.Ult x y
pointers_sound pred.Ule x y = ordered_sound pred.Ule x y
pointers_sound pred.Sgt x y = ordered_sound pred.Sgt x y
pointers_sound pred.Sge x y = ordered_sound pred.Sge x y
pointers_sound pred.Slt x y = ordered_sound pred.Slt x y
pointers_sound pred.Sle x y = ordered_sound pred.Sle x y

pub compare_sound : (t : Scalar) (p : Pred) (v w : Value) → Of t v → Of t w → Sound Anything (compare_values p v w)
compare_sound (scalar.Int width) p (Int a) (Int b) h g =
    let same : a.width ≡ b.width = eqb-true a.width width h ∙ sym (eqb-true b.width width g) in
    if_sound Anything (a.width == b.width) _ _ (λ e. tt) (λ e. let t = eq-eqb a.width b.width same in absurd cc)
compare_sound (scalar.Int width) p (Int a) (Pointer q) h g = absurd cc
compare_sound (scalar.Int width) p (Pointer x) w h g = absurd cc
compare_sound scalar.Pointer p (Int a) w h g = absurd cc
compare_sound scalar.Pointer p (Pointer x) (Int b) h g = absurd cc
compare_sound scalar.Pointer p (Pointer x) (Pointer y) h g = pointers_sound p x y

pub bit_is : (b : Bool) → Of (scalar.Int 1) (Int (bit b))
bit_is b = refl
