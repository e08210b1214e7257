-- Typed instructions are safe: branches, calls and returns.
use Rattle.std.proofs.Common.{◌≡◌, ℕ, zero, suc, ◌==◌, ◌-◌, ◌++◌, Bool, true, false, List, [], ◌∷◌, length, map, replicate, slice_get, Option, Some, None, refl, sym, ap, subst, ◌∙◌, if◌then◌else◌, eqb-true, eq-eqb}
use Rattle.std.specs.Prelude.{unwrap_or, ◌&&◌, not}
use Rattle.ir_rules.proofs.SameLemmas.{and_both, both}
use Rattle.ir_code.specs.declared.op.Scalar.{Scalar}
use Rattle.ir_code.specs.declared.op.Scalar.TheVariants as scalar
use Rattle.ir_code.specs.declared.op.Operand.{Operand}
use Rattle.ir_code.specs.declared.op.Op.{Op}
use Rattle.ir_code.specs.declared.code.FunctionCode.{FunctionCode}
use Rattle.ir_code.specs.declared.code.Code.{Code}
use Rattle.ir_code.specs.Cases.{edge_of}
use Rattle.mem_image.specs.declared.object.Pointer.{Pointer as Address}
use Rattle.mem_image.specs.declared.object.Pointer.TheVariants.{Null, Obj, Fun}
use Rattle.seq_effects.specs.declared.state.Value.{Value}
use Rattle.seq_effects.specs.declared.state.Frame.{Frame}
use Rattle.seq_effects.specs.declared.state.Effect.TheVariants as effect
use Rattle.seq_effects.specs.Values.{operand, operands, number, pointer, is_of, is_type, may_hold}
use Rattle.seq_effects.specs.Numbers.{condition}
use Rattle.seq_effects.specs.Flow.{branched, switched, fit, receives, entry_registers, may_stand, may_enter, enter_function, enter, called, same_types, same_result, has_type, callee, called_through, result_value, is_result, returned}
use Rattle.seq_machine.specs.Acts.{result_register}
use Rattle.seq_machine.specs.Meaning.{is_inner}
use Rattle.resolving_laws.specs.Looking.{Each}
use Rattle.unreachable_laws.specs.Typing.{OperandHas, IsNumber, EdgeTyped, ReturnTyped, CallTyped, CanEnter, FunctionTyped, CodeTyped}
use Rattle.unreachable_laws.specs.States.{RegistersTyped}
use Rattle.unreachable_laws.specs.Trees.{Sound, Safe, EnterTyped, EffectTyped}
use Rattle.unreachable_laws.proofs.Trees.{Anything, then_sound, where_sound, if_sound, with_safe, if_safe}
use Rattle.unreachable_laws.proofs.Operands.{Of, Wide, operand_sound, some_number, pointer_sound, condition_sound}

-- ---- what a callee is given

pub type_same : (s t : Scalar) → is_type s t ≡ true → s ≡ t
type_same (scalar.Int m) (scalar.Int n) e = ap scalar.Int (eqb-true m n e)
type_same (scalar.Int m) scalar.Pointer e = absurd cc
type_same scalar.Pointer (scalar.Int n) e = absurd cc
type_same scalar.Pointer scalar.Pointer e = refl

types_same : (ss ts : List Scalar) → same_types ss ts ≡ true → ss ≡ ts
types_same [] [] e = refl
types_same [] (t ∷ ts) e = absurd cc
types_same (s ∷ ss) [] e = absurd cc
types_same (s ∷ ss) (t ∷ ts) e = let h = and_both (is_type s t) (same_types ss ts) e in let a : s ≡ t = type_same s t h.0 in let b : ss ≡ ts = types_same ss ts h.1 in cc

result_same : (s t : Option Scalar) → same_result s t ≡ true → s ≡ t
result_same None None e = refl
result_same None (Some t) e = absurd cc
result_same (Some s) None e = absurd cc
result_same (Some s) (Some t) e = ap Some (type_same s t e)

not_false : (b : Bool) → not b ≡ true → b ≡ false
not_false true e = absurd cc
not_false false e = refl

as_many : (ts : List Scalar) (vs : List Value) → Each (λ t v. is_of v t ≡ true) ts vs → length vs ≡ length ts
as_many [] [] h = refl
as_many [] (v ∷ vs) h = elim h [ ]
as_many (t ∷ ts) [] h = elim h [ ]
as_many (t ∷ ts) (v ∷ vs) h = ap suc (as_many ts vs h.1)

they_fit : (ts others : List Scalar) (vs : List Value) → Each (λ t v. is_of v t ≡ true) ts vs → fit (ts ++ others) vs ≡ true
they_fit [] [] [] h = refl
they_fit [] (o ∷ others) [] h = refl
they_fit [] others (v ∷ vs) h = elim h [ ]
they_fit (t ∷ ts) others [] h = elim h [ ]
they_fit (t ∷ ts) others (v ∷ vs) h = both (is_of v t) (fit (ts ++ others) vs) h.0 (they_fit ts others vs h.1)

none_set : (n i : ℕ) (v : Value) → slice_get (replicate n None) i ≡ Some (Some v) → ⊥
none_set zero i v e = absurd cc
none_set (suc n) zero v e = absurd cc
none_set (suc n) (suc i) v e = none_set n i v e

pub entry_from : (n : ℕ) (ts others : List Scalar) (vs : List Value) → Each (λ t v. is_of v t ≡ true) ts vs → RegistersTyped (ts ++ others) (map Some vs ++ replicate n None)
entry_from n [] others [] h i v e = absurd (none_set n i v e)
entry_from n [] others (w ∷ vs) h i v e = elim h [ ]
entry_from n (t ∷ ts) others [] h i v e = elim h [ ]
entry_from n (t ∷ ts) others (w ∷ vs) h zero v e = let same : w ≡ v = cc in subst (λ x. is_of x t ≡ true) same h.0
entry_from n (t ∷ ts) others (w ∷ vs) h (suc i) v e = entry_from n ts others vs h.1 i v e

-- over an instruction of a typed code, in a frame whose registers have their types
module _ (code : Code) (all : CodeTyped code) (g : FunctionCode) (o : Op) (f : Frame) (typed : RegistersTyped g.registers f.registers) where
  pub branched_sound : (x : Operand) (a b : ℕ) → OperandHas g.registers (scalar.Int 1) x → EdgeTyped g a → EdgeTyped g b → Sound (EffectTyped code g o) (branched f x a b)
  branched_sound x a b h k l = then_sound Anything (EffectTyped code g o) (condition f x) _ (condition_sound g.registers f typed x h) (λ c q. one c)
    where
      one : (c : Bool) → EdgeTyped g (if c then a else b)
      one true = k
      one false = l

  chosen : (d : ℕ) (e : Option ℕ) → EdgeTyped g d → ((k : ℕ) → e ≡ Some k → EdgeTyped g k) → EdgeTyped g (unwrap_or e d)
  chosen d None h l = h
  chosen d (Some k) h l = l k refl

  pub switched_sound : (x : Operand) (d : ℕ) (cases : List (ℕ × ℕ)) → IsNumber g.registers x → EdgeTyped g d → ((v e : ℕ) → edge_of cases v ≡ Some e → EdgeTyped g e) → Sound (EffectTyped code g o) (switched f x d cases)
  switched_sound x d cases h k l = then_sound Anything (EffectTyped code g o) (number f x) _ (some_number g.registers f typed x h) (λ n q. chosen d (edge_of cases n.bits) k (λ e is. l n.bits e is))

  -- ---- calls

  operands_sound : (ts : List Scalar) (xs : List Operand) → Each (OperandHas g.registers) ts xs → Sound (λ vs. Each (λ t v. is_of v t ≡ true) ts vs) (operands f xs)
  operands_sound [] [] h = tt
  operands_sound [] (x ∷ xs) h = elim h [ ]
  operands_sound (t ∷ ts) [] h = elim h [ ]
  operands_sound (t ∷ ts) (x ∷ xs) h =
      then_sound (Of t) (λ vs. Each (λ t v. is_of v t ≡ true) (t ∷ ts) vs) (operand f x) _ (operand_sound g.registers f typed t x h.0)
      (λ v a. then_sound (λ vs. Each (λ t v. is_of v t ≡ true) ts vs) (λ vs. Each (λ t v. is_of v t ≡ true) (t ∷ ts) vs) (operands f xs) _ (operands_sound ts xs h.1) (λ vs b. (a, b)))

  may : (to : Option ℕ) (h : FunctionCode) (vs : List Value) → CanEnter h → Each (λ t v. is_of v t ≡ true) h.parameters vs → receives g.registers to h.result ≡ true → may_enter g.registers to h vs ≡ true
  may to h vs c are r =
      both _ (receives g.registers to h.result) (both _ (may_stand (slice_get h.blocks 0)) (both (length vs == length h.parameters) (fit h.registers vs) (eq-eqb (length vs) (length h.parameters) (as_many h.parameters vs are))
      (ap (λ ts. fit ts vs) c.registers ∙ they_fit h.parameters c.others vs are)) c.stands) r

  module _ (inner : is_inner o ≡ true) where
    enter_sound : (to : Option ℕ) (k : ℕ) (h : FunctionCode) (vs : List Value) → to ≡ result_register (Some o) → slice_get code.functions k ≡ Some h → CanEnter h → Each (λ t v. is_of v t ≡ true) h.parameters vs → receives g.registers to h.result ≡ true
        → Sound (EffectTyped code g o) (enter code g.registers to k vs)
    enter_sound to k h vs own at c are r =
        subst (λ x. Sound (EffectTyped code g o) (enter_function g.registers to k vs x)) (sym at)
        (where_sound (EffectTyped code g o) (may_enter g.registers to h vs) (effect.Enter k (entry_registers h vs)) (may to h vs c are r)
        (λ e. (
          inner,
          record {
            callee = h;
            at = at;
            stands = c.stands;
            typed = subst (λ ts. RegistersTyped ts (entry_registers h vs)) (sym c.registers) (entry_from (length h.registers - length vs) h.parameters c.others vs are);
            result = subst (λ x. receives g.registers x h.result ≡ true) own r;
          },
        )))

    pub called_sound : (to : Option ℕ) (k : ℕ) (xs : List Operand) → to ≡ result_register (Some o) → CallTyped code g.registers to k xs → Sound (EffectTyped code g o) (called code g.registers f to k xs)
    called_sound to k xs own h =
        then_sound (λ vs. Each (λ t v. is_of v t ≡ true) h.callee.parameters vs) (EffectTyped code g o) (operands f xs) _ (operands_sound h.callee.parameters xs h.arguments)
        (λ vs a. enter_sound to k h.callee vs own h.at ((all k h.callee h.at).enter h.defined) a h.result)

    -- the function that a pointer names has the type of the call
    abbrev Named : Option Scalar → List Scalar → ℕ → Type 0
    Named result parameters k = has_type result parameters (slice_get code.functions k) ≡ true

    callee_sound : (p : Address) (result : Option Scalar) (parameters : List Scalar) → Sound (Named result parameters) (callee code p result parameters)
    callee_sound (Fun k) result parameters = if_sound (Named result parameters) (has_type result parameters (slice_get code.functions k)) _ _ (λ e. e) (λ e q. absurd cc)
    callee_sound Null result parameters = λ q. absurd cc
    callee_sound (Obj name offset) result parameters = λ q. absurd cc

    named_sound : (to : Option ℕ) (k : ℕ) (result : Option Scalar) (parameters : List Scalar) (vs : List Value) (x : Option FunctionCode) → slice_get code.functions k ≡ x → has_type result parameters x ≡ true → to ≡ result_register (Some o)
        → Each (λ t v. is_of v t ≡ true) parameters vs → receives g.registers to result ≡ true → Sound (EffectTyped code g o) (enter code g.registers to k vs)
    named_sound to k result parameters vs None at e own are r = absurd cc
    named_sound to k result parameters vs (Some h) at e own are r =
        let a = and_both _ (same_types h.parameters parameters) e in
        let b = and_both (not h.declared) (same_result h.result result) a.0 in
        enter_sound to k h vs own at ((all k h at).enter (not_false h.declared b.0)) (subst (λ ts. Each (λ t v. is_of v t ≡ true) ts vs) (sym (types_same h.parameters parameters a.1)) are)
        (subst (λ t. receives g.registers to t ≡ true) (sym (result_same h.result result b.1)) r)

    pub through_sound : (to : Option ℕ) (x : Operand) (result : Option Scalar) (parameters : List Scalar) (xs : List Operand) → to ≡ result_register (Some o) → OperandHas g.registers scalar.Pointer x → Each (OperandHas g.registers) parameters xs
        → receives g.registers to result ≡ true → Sound (EffectTyped code g o) (called_through code g.registers f to x result parameters xs)
    through_sound to x result parameters xs own h l r =
        then_sound Anything (EffectTyped code g o) (pointer f x) _ (pointer_sound g.registers f typed x h)
        (λ p a. then_sound (λ vs. Each (λ t v. is_of v t ≡ true) parameters vs) (EffectTyped code g o) (operands f xs) _ (operands_sound parameters xs l)
        (λ vs b. then_sound (Named result parameters) (EffectTyped code g o) (callee code p result parameters) _ (callee_sound p result parameters)
        (λ k c. named_sound to k result parameters vs (slice_get code.functions k) refl c own b r)))

  -- ---- returns

  result_sound : (t : Option Scalar) (x : Option Operand) → ReturnTyped g.registers t x → Sound (λ v. is_result t v ≡ true) (result_value f x)
  result_sound None None h = refl
  result_sound None (Some x) h = elim h [ ]
  result_sound (Some t) None h = elim h [ ]
  result_sound (Some t) (Some x) h = then_sound (Of t) (λ v. is_result (Some t) v ≡ true) (operand f x) _ (operand_sound g.registers f typed t x h) (λ v q. q)

  pub returned_safe : (x : Option Operand) → ReturnTyped g.registers g.result x → Safe (EffectTyped code g o) (returned g f x)
  returned_safe x h = with_safe (λ v. is_result g.result v ≡ true) (EffectTyped code g o) (result_value f x) _ (result_sound g.result x h) (λ v q. if_safe (EffectTyped code g o) (is_result g.result v) _ _ q (λ r s. q))
