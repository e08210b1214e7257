-- Typed instructions are safe: those on numbers and memory, calls, branches and returns.
use Rattle.std.proofs.Common.{◌≡◌, ℕ, zero, suc, ◌==◌, ◌^◌, ◌+◌, ◌-◌, ◌++◌, Bool, true, false, List, [], ◌∷◌, length, map, replicate, slice_get, Option, Some, None, Result, Ok, Err, refl, sym, ap, subst, ◌∙◌, if◌then◌else◌, eqb-true, eq-eqb, nat_eq}
use Rattle.std.specs.Prelude.{IfOk, pos, ℤ, ◌+ℤ◌, ◌*ℤ◌, ◌&&◌, is_some, not, nat_lt, unwrap_or}
use Rattle.std.specs.List.{AllByRecursion}
use Rattle.ir_rules.proofs.SameLemmas.{and_both, both}
use Rattle.int_num.specs.Integer.{Integer, signed}
use Rattle.int_num.specs.Operations.{residue}
use Rattle.int_num.specs.declared.ops.BinOp.{BinOp}
use Rattle.int_num.specs.declared.ops.CastOp.{CastOp}
use Rattle.int_num.specs.declared.ops.Flags.{Flags}
use Rattle.int_num.specs.declared.ops.Pred.{Pred}
use Rattle.pv_base.specs.declared.place.Site.{Site}
use Rattle.ir_code.specs.declared.op.Scalar.{Scalar}
use Rattle.ir_code.specs.declared.op.Scalar.TheVariants as scalar
use Rattle.ir_code.specs.declared.op.Operand.{Operand}
use Rattle.ir_code.specs.declared.op.Index.{Index}
use Rattle.ir_code.specs.declared.op.Index.TheVariants.{Scaled, Field}
use Rattle.ir_code.specs.declared.op.Op.{Op}
use Rattle.ir_code.specs.declared.op.Op.TheVariants as op
use Rattle.ir_code.specs.declared.code.FunctionCode.{FunctionCode}
use Rattle.ir_code.specs.declared.code.Code.{Code}
use Rattle.mem_image.specs.declared.object.Pointer.{Pointer as Address}
use Rattle.mem_image.specs.declared.object.Pointer.TheVariants.{Null, Obj, Fun}
use Rattle.mem_image.specs.declared.object.Byte.{Byte}
use Rattle.mem_image.specs.declared.fault.Trap.TheVariants as trap
use Rattle.mem_image.specs.declared.object.Kind.TheVariants.{Stack}
use Rattle.mem_image.specs.Calls.{Reply, ReadWord, Make, Bytes, Made, Done}
use Rattle.seq_effects.specs.declared.state.Value.{Value}
use Rattle.seq_effects.specs.declared.state.Value.TheVariants.{Int, Pointer}
use Rattle.seq_effects.specs.declared.state.Frame.{Frame}
use Rattle.seq_effects.specs.declared.state.Effect.TheVariants as effect
use Rattle.seq_effects.specs.Values.{operand, operands, number, pointer, is_of, is_type, is_some_type, may_hold, given, bit}
use Rattle.seq_effects.specs.Numbers.{calculated, converted, frozen, compared, compare_values, condition, selected, of_one_width, at_width, fits_cast}
use Rattle.seq_effects.specs.Words.{word_length, stored, stored_in, loaded, number_in, number_of, pointer_in, pointer_of, misread, has_unset, value_bytes}
use Rattle.seq_effects.specs.Accesses.{loaded_reply, load_from, load, store, own_object, made_own, alloca, term, distance, staying, moved, inside, moved_inside, move, address}
use Rattle.seq_effects.specs.Script.{tell}
use Rattle.seq_machine.specs.Meaning.{is_inner}
use Rattle.unreachable_laws.specs.Typing.{OperandHas, IsNumber, IndexHas}
use Rattle.unreachable_laws.specs.States.{RegistersTyped}
use Rattle.unreachable_laws.specs.Trees.{IsOther, Sound, Replies, Safe, EffectTyped}
use Rattle.unreachable_laws.proofs.Trees.{Anything, then_sound, where_sound, if_sound, weaker_sound, tell_safe, with_safe, chain_safe, if_safe}
use Rattle.unreachable_laws.proofs.Operands.{Of, Wide, any_operand, may_be, operand_sound, number_sound, some_number, pointer_sound, condition_sound, one_width_sound, at_width_sound, compare_sound, bit_is}

-- ---- words

misread_other : (b : Bool) → IsOther (if b then trap.UnsetByte else trap.ByteKind)
misread_other true = λ e. absurd cc
misread_other false = λ e. absurd cc

number_word : (w : ℕ) (bytes : List Byte) (o : Option ℕ) → Sound (Of (scalar.Int w)) (number_in w bytes o)
number_word w bytes (Some n) = if_sound (Of (scalar.Int w)) (nat_lt n (2 ^ w)) _ _ (λ e. eq-eqb w w refl) (λ e q. absurd cc)
number_word w bytes None = misread_other (has_unset bytes)

pointer_word : (bytes : List Byte) (o : Option Address) → Sound (Of scalar.Pointer) (pointer_in bytes o)
pointer_word bytes (Some p) = refl
pointer_word bytes None = misread_other (has_unset bytes)

loaded_sound : (t : Scalar) (bytes : List Byte) → Sound (Of t) (loaded t bytes)
loaded_sound (scalar.Int w) bytes = number_word w bytes (number_of bytes)
loaded_sound scalar.Pointer bytes = pointer_word bytes (pointer_of bytes)

stored_len : (o : Option ℕ) (v : Value) → is_some o ≡ true → Sound Anything (stored_in o v)
stored_len (Some len) v e = tt
stored_len None v e = absurd cc

stored_sound : (t : Scalar) (v : Value) → Of t v → is_some (word_length t) ≡ true → Sound Anything (stored t v)
stored_sound t v h k = if_sound Anything (is_of v t) _ _ (λ e. stored_len (word_length t) v k) (λ e. absurd cc)

type_self : (t : Scalar) → is_type t t ≡ true
type_self (scalar.Int n) = eq-eqb n n refl
type_self scalar.Pointer = refl

pub type_is : (types : List Scalar) (to : ℕ) (t : Scalar) → slice_get types to ≡ Some t → is_some_type (slice_get types to) t ≡ true
type_is types to t e = ap (λ o. is_some_type o t) e ∙ type_self t

-- ---- where addresses are moved to

staying_sound : (p : Address) (d : ℤ) → Sound Anything (staying p d)
staying_sound p d = if_sound Anything (residue 64 d == 0) _ _ (λ e. tt) (λ e q. absurd cc)

moved_sound : (p : Address) (d : ℤ) → Sound Anything (moved p d)
moved_sound Null d = staying_sound Null d
moved_sound (Fun index) d = staying_sound (Fun index) d
moved_sound (Obj name offset) d = tt

inside_sound : (name : ℕ) (offset d : ℤ) (size : Option ℕ) → Sound Anything (moved_inside name offset d size)
inside_sound name offset d None = λ e. absurd cc
inside_sound name offset d (Some size) = if_sound Anything (inside offset size && inside (offset +ℤ d) size) _ _ (λ e. moved_sound (Obj name offset) d) (λ e q. absurd cc)

move_safe : (b : Bool) (p : Address) (d : ℤ) → Safe Anything (move b p d)
move_safe true (Obj name offset) d = λ size. tell_safe Anything (moved_inside name offset d size) (inside_sound name offset d size)
move_safe true Null d = tell_safe Anything (moved Null d) (moved_sound Null d)
move_safe true (Fun index) d = tell_safe Anything (moved (Fun index) d) (moved_sound (Fun index) d)
move_safe false p d = tell_safe Anything (moved p d) (moved_sound p d)

-- over an instruction of a function that ends no block, in a frame whose registers have their types
module _ (code : Code) (g : FunctionCode) (o : Op) (inner : is_inner o ≡ true) (f : Frame) (typed : RegistersTyped g.registers f.registers) where
  -- a register is given a value of its type
  pub given_sound : (to : ℕ) (t : Scalar) (v : Value) → slice_get g.registers to ≡ Some t → Of t v → Sound (EffectTyped code g o) (given g.registers to v)
  given_sound to t v e h = where_sound (EffectTyped code g o) (may_hold (slice_get g.registers to) v) (effect.Give to v) (may_be g.registers to t v e h) (λ q. (inner, q))

  pub calculated_sound : (to : ℕ) (w : ℕ) (what : BinOp) (flags : Flags) (x y : Operand) → slice_get g.registers to ≡ Some (scalar.Int w) → OperandHas g.registers (scalar.Int w) x → OperandHas g.registers (scalar.Int w) y
      → Sound (EffectTyped code g o) (calculated g.registers f to what flags x y)
  calculated_sound to w what flags x y e h k =
      then_sound (Wide w) (EffectTyped code g o) (number f x) _ (number_sound g.registers f typed w x h)
      (λ a p. then_sound (Wide w) (EffectTyped code g o) (number f y) _ (number_sound g.registers f typed w y k)
      (λ b q. then_sound (Wide w) (EffectTyped code g o) (of_one_width what flags a b) _ (one_width_sound w what flags a b p q) (λ n r. given_sound to (scalar.Int w) (Int n) e (eq-eqb n.width w r))))

  pub converted_sound : (to : ℕ) (w : ℕ) (what : CastOp) (flags : Flags) (x : Operand) (width : ℕ) → slice_get g.registers to ≡ Some (scalar.Int width) → OperandHas g.registers (scalar.Int w) x → fits_cast what w width ≡ true
      → Sound (EffectTyped code g o) (converted g.registers f to what flags x width)
  converted_sound to w what flags x width e h fits =
      then_sound (Wide w) (EffectTyped code g o) (number f x) _ (number_sound g.registers f typed w x h)
      (λ a p. then_sound (Wide width) (EffectTyped code g o) (at_width what flags a width) _ (at_width_sound w what flags a width p fits) (λ n r. given_sound to (scalar.Int width) (Int n) e (eq-eqb n.width width r)))

  pub frozen_sound : (to : ℕ) (t : Scalar) (x : Operand) → slice_get g.registers to ≡ Some t → OperandHas g.registers t x → Sound (EffectTyped code g o) (frozen g.registers f to x)
  frozen_sound to t x e h = then_sound (Of t) (EffectTyped code g o) (operand f x) _ (operand_sound g.registers f typed t x h) (λ v q. given_sound to t v e q)

  pub compared_sound : (to : ℕ) (t : Scalar) (p : Pred) (x y : Operand) → slice_get g.registers to ≡ Some (scalar.Int 1) → OperandHas g.registers t x → OperandHas g.registers t y → Sound (EffectTyped code g o) (compared g.registers f to p x y)
  compared_sound to t p x y e h k =
      then_sound (Of t) (EffectTyped code g o) (operand f x) _ (operand_sound g.registers f typed t x h)
      (λ v a. then_sound (Of t) (EffectTyped code g o) (operand f y) _ (operand_sound g.registers f typed t y k)
      (λ w b. then_sound Anything (EffectTyped code g o) (compare_values p v w) _ (compare_sound t p v w a b) (λ c q. given_sound to (scalar.Int 1) (Int (bit c)) e (bit_is c))))

  one : (t : Scalar) (b : Bool) (v w : Value) → Of t v → Of t w → Of t (if b then v else w)
  one t true v w h k = h
  one t false v w h k = k

  pub selected_sound : (to : ℕ) (t : Scalar) (c x y : Operand) → slice_get g.registers to ≡ Some t → OperandHas g.registers (scalar.Int 1) c → OperandHas g.registers t x → OperandHas g.registers t y → Sound (EffectTyped code g o) (selected g.registers f to c x y)
  selected_sound to t c x y e h k l =
      then_sound Anything (EffectTyped code g o) (condition f c) _ (condition_sound g.registers f typed c h)
      (λ b q. then_sound (Of t) (EffectTyped code g o) (operand f x) _ (operand_sound g.registers f typed t x k)
      (λ v a. then_sound (Of t) (EffectTyped code g o) (operand f y) _ (operand_sound g.registers f typed t y l) (λ w d. given_sound to t (if b then v else w) e (one t b v w a d))))

  -- ---- memory

  reply_safe : (to : ℕ) (t : Scalar) (word : List Byte) → slice_get g.registers to ≡ Some t → Sound (EffectTyped code g o) (loaded_reply g.registers to t (Bytes word))
  reply_safe to t word e = then_sound (Of t) (EffectTyped code g o) (loaded t word) _ (loaded_sound t word) (λ v q. given_sound to t v e q)

  from_safe : (at : Site) (to : ℕ) (t : Scalar) (p : Address) (len : Option ℕ) → slice_get g.registers to ≡ Some t → is_some len ≡ true → Safe (EffectTyped code g o) (load_from g.registers at to t p len)
  from_safe at to t p None e k = absurd cc
  from_safe at to t p (Some len) e k = answer
    where
      answer : (r : Reply) → Replies (ReadWord at 0 p len) r → Safe (EffectTyped code g o) (tell (loaded_reply g.registers to t r))
      answer (Bytes word) q = tell_safe (EffectTyped code g o) (loaded_reply g.registers to t (Bytes word)) (reply_safe to t word e)
      answer (Made p) q = elim q [ ]
      answer Done q = elim q [ ]

  pub load_safe : (at : Site) (to : ℕ) (t : Scalar) (x : Operand) → slice_get g.registers to ≡ Some t → is_some (word_length t) ≡ true → OperandHas g.registers scalar.Pointer x → Safe (EffectTyped code g o) (load g.registers f at to t x)
  load_safe at to t x e k h = with_safe Anything (EffectTyped code g o) (pointer f x) _ (pointer_sound g.registers f typed x h) (λ p q. from_safe at to t p (word_length t) e k)

  pub store_safe : (at : Site) (t : Scalar) (x y : Operand) → is_some (word_length t) ≡ true → OperandHas g.registers t x → OperandHas g.registers scalar.Pointer y → Safe (EffectTyped code g o) (store f at t x y)
  store_safe at t x y k h l =
      with_safe (Of t) (EffectTyped code g o) (operand f x) _ (operand_sound g.registers f typed t x h)
      (λ v a. with_safe Anything (EffectTyped code g o) (pointer f y) _ (pointer_sound g.registers f typed y l)
      (λ p b. with_safe Anything (EffectTyped code g o) (stored t v) _ (stored_sound t v a k) (λ word c r q. inner)))

  own_safe : (to : ℕ) (p : Address) → slice_get g.registers to ≡ Some scalar.Pointer → EffectTyped code g o (own_object to p)
  own_safe to (Obj name offset) e = (inner, may_be g.registers to scalar.Pointer (Pointer (Obj name (pos 0))) e refl)
  own_safe to Null e = (inner, may_be g.registers to scalar.Pointer (Pointer Null) e refl)
  own_safe to (Fun index) e = (inner, may_be g.registers to scalar.Pointer (Pointer (Fun index)) e refl)

  pub alloca_safe : (at : Site) (to size : ℕ) → slice_get g.registers to ≡ Some scalar.Pointer → Safe (EffectTyped code g o) (alloca g.registers at to size)
  alloca_safe at to size e = if_safe (EffectTyped code g o) (is_some_type (slice_get g.registers to) scalar.Pointer) _ _ (type_is g.registers to scalar.Pointer e) answer
    where
      answer : (r : Reply) → Replies (Make at Stack size false) r → Safe (EffectTyped code g o) (tell (made_own to r))
      answer (Made p) q = own_safe to p e
      answer (Bytes word) q = elim q [ ]
      answer Done q = elim q [ ]

  term_sound : (i : Index) → IndexHas g.registers i → Sound Anything (term f i)
  term_sound (Scaled value stride) h = then_sound Anything Anything (number f value) _ (some_number g.registers f typed value h) (λ n q. tt)
  term_sound (Field offset) h = tt

  distance_sound : (is : List Index) → AllByRecursion (IndexHas g.registers) is → Sound Anything (distance f is)
  distance_sound [] h = tt
  distance_sound (i ∷ is) h = then_sound Anything Anything (term f i) _ (term_sound i h.0) (λ t q. then_sound Anything Anything (distance f is) _ (distance_sound is h.1) (λ d p. tt))

  pub address_safe : (to : ℕ) (inbounds : Bool) (x : Operand) (is : List Index) → slice_get g.registers to ≡ Some scalar.Pointer → OperandHas g.registers scalar.Pointer x → AllByRecursion (IndexHas g.registers) is
      → Safe (EffectTyped code g o) (address g.registers f to inbounds x is)
  address_safe to inbounds x is e h k =
      with_safe Anything (EffectTyped code g o) (pointer f x) _ (pointer_sound g.registers f typed x h)
      (λ p a. with_safe Anything (EffectTyped code g o) (distance f is) _ (distance_sound is k)
      (λ d b. chain_safe Anything (EffectTyped code g o) (move inbounds p d) _ (move_safe inbounds p d) (λ q c. tell_safe (EffectTyped code g o) (given g.registers to (Pointer q)) (given_sound to scalar.Pointer (Pointer q) e refl))))
