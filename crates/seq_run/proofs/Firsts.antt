-- The first frame is one of the code.
use Rattle.std.proofs.Common.{◌≡◌, ℕ, zero, suc, ◌+◌, ◌-◌, ◌<◌, ◌≤◌, List, [], ◌∷◌, ◌++◌, map, length, Option, Some, None, slice_get, slice_set, replicate, rules, refl, sym, ap, subst, ◌∙◌, arith, inl, inr}
use Rattle.std.proofs.lemmas.List.{length-replicate}
use Rattle.std.proofs.lemmas.Option.{slice_get_within}
use Rattle.int_num.specs.Operations.{of_bits}
use Rattle.ir_code.specs.declared.op.Scalar.{Scalar}
use Rattle.ir_code.specs.declared.op.Scalar.TheVariants as scalar
use Rattle.ir_code.specs.declared.code.FunctionCode.{FunctionCode}
use Rattle.ir_code.specs.declared.code.Code.{Code}
use Rattle.mem_image.specs.declared.object.Pointer.TheVariants.{Null}
use Rattle.seq_effects.specs.declared.state.Value.{Value}
use Rattle.seq_effects.specs.declared.state.Value.TheVariants.{Int, Pointer}
use Rattle.seq_effects.specs.declared.state.Frame.{Frame}
use Rattle.seq_effects.specs.Values.{IsOf, AreOf}
use Rattle.seq_effects.specs.Flow.{entry_registers}
use Rattle.seq_machine.specs.Acts.{entered, function_at, block_at, blocks_of}
use Rattle.seq_machine.specs.Frames.{FrameOf, FramesOf}
use Rattle.seq_machine.specs.Owned.{OwnOf}
use Rattle.mem_image.specs.Picture.{Picture}
use Rattle.checked_code.specs.Starting.{AreMainTypes, Starts}
use Rattle.seq_run.specs.First.{main_arguments, main_registers, first_frames}

-- ---- registers

two_set : (n : ℕ) (a b : Option Value) → 2 ≤ n → slice_set (slice_set (replicate n None) 0 a) 1 b ≡ a ∷ b ∷ replicate (n - 2) None
two_set zero a b le = absurd (omega arith)
two_set (suc zero) a b le = absurd (omega arith)
two_set (suc (suc n)) a b le = let e : suc (suc n) - 2 ≡ n = omega arith in rw e refl

none_given : (ps : List Scalar) (n : ℕ) (rs : List (Option Value)) → length ps ≡ 0 → rs ≡ replicate n None → rs ≡ map Some (main_arguments ps) ++ replicate (n - length (main_arguments ps)) None
none_given [] n rs e is = let same : n - 0 ≡ n = omega arith in rw same is
none_given (p ∷ ps) n rs e is = absurd (omega arith)

two_given : (ps : List Scalar) (n : ℕ) (rs : List (Option Value)) → 0 < length ps → length (main_arguments ps) ≤ n
    → rs ≡ slice_set (slice_set (replicate n None) 0 (Some (Int (of_bits 32 0)))) 1 (Some (Pointer Null)) → rs ≡ map Some (main_arguments ps) ++ replicate (n - length (main_arguments ps)) None
two_given [] n rs some le is = absurd (omega arith)
two_given (p ∷ ps) n rs some le is = is ∙ two_set n (Some (Int (of_bits 32 0))) (Some (Pointer Null)) le

pub registers_none : (g : FunctionCode) (rs : List (Option Value)) → length g.parameters ≡ 0 → rs ≡ replicate (length g.registers) None → rs ≡ entry_registers g (main_arguments g.parameters)
registers_none g rs e is = none_given g.parameters (length g.registers) rs e is

pub registers_two : (g : FunctionCode) (rs : List (Option Value)) → 0 < length g.parameters → length (main_arguments g.parameters) ≤ length g.registers
    → rs ≡ slice_set (slice_set (replicate (length g.registers) None) 0 (Some (Int (of_bits 32 0)))) 1 (Some (Pointer Null)) → rs ≡ entry_registers g (main_arguments g.parameters)
registers_two g rs some le is = two_given g.parameters (length g.registers) rs some le is

-- ---- their types

unset : (n i : ℕ) (v : Value) → slice_get (replicate n None) i ≡ Some (Some v) → ⊥
unset zero i v e = absurd cc
unset (suc n) zero v e = absurd cc
unset (suc n) (suc i) v e = unset n i v e

of_none : (types : List Scalar) (rs : List (Option Value)) → rs ≡ replicate (length types) None → AreOf types rs
of_none types rs is = record {
  count = ap length is ∙ length-replicate (length types) None;
  each = λ i t v there e. absurd (unset (length types) i v (ap (λ xs. slice_get xs i) (sym is) ∙ e));
}

two_each : (types others : List Scalar) (n : ℕ) → types ≡ scalar.Int 32 ∷ scalar.Pointer ∷ others → (i : ℕ) (t : Scalar) (v : Value) → slice_get types i ≡ Some t
    → slice_get (Some (Int (of_bits 32 0)) ∷ Some (Pointer Null) ∷ replicate n None) i ≡ Some (Some v) → IsOf t v
two_each types others n is zero t v there e =
    let a : scalar.Int 32 ≡ t = let h : Some (scalar.Int 32) ≡ Some t = ap (λ xs. slice_get xs 0) (sym is) ∙ there in cc in
    let b : Int (of_bits 32 0) ≡ v = cc in
    rw (← a, ← b) (search rules)
two_each types others n is (suc zero) t v there e =
    let a : scalar.Pointer ≡ t = let h : Some scalar.Pointer ≡ Some t = ap (λ xs. slice_get xs 1) (sym is) ∙ there in cc in
    let b : Pointer Null ≡ v = cc in
    rw (← a, ← b) tt
two_each types others n is (suc (suc i)) t v there e = absurd (unset n i v e)

of_arguments : (g : FunctionCode) (others : List Scalar) → AreMainTypes g.parameters → g.registers ≡ g.parameters ++ others → AreOf g.registers (entry_registers g (main_arguments g.parameters))
of_arguments g others (inl none) is =
    of_none g.registers (entry_registers g (main_arguments g.parameters)) (let e : length g.registers - 0 ≡ length g.registers = omega arith in rw (none, e) refl)
of_arguments g others (inr two) is =
    let own : g.registers ≡ scalar.Int 32 ∷ scalar.Pointer ∷ others = is ∙ ap (λ ps. ps ++ others) two in
    let regs : entry_registers g (main_arguments g.parameters) ≡ Some (Int (of_bits 32 0)) ∷ Some (Pointer Null) ∷ replicate (length g.registers - 2) None = rw two refl in
    let len : length g.registers ≡ suc (suc (length others)) = ap length own in
    let rest = length-replicate (length g.registers - 2) (let x : Option Value = None in x) in
    record {
      count = rw regs (omega (arith, len, rest));
      each = λ i t v there e. two_each g.registers others (length g.registers - 2) own i t v there (ap (λ xs. slice_get xs i) (sym regs) ∙ e);
    }

pub arguments_within : (g : FunctionCode) (others : List Scalar) → AreMainTypes g.parameters → g.registers ≡ g.parameters ++ others → length (main_arguments g.parameters) ≤ length g.registers
arguments_within g others (inl none) is = rw none (omega arith)
arguments_within g others (inr two) is =
    let own : g.registers ≡ scalar.Int 32 ∷ scalar.Pointer ∷ others = is ∙ ap (λ ps. ps ++ others) two in
    let len : length g.registers ≡ suc (suc (length others)) = ap length own in
    rw two (omega (arith, len))

-- ---- the frame

first_of : (code : Code) (s : Starts code) → FrameOf code (entered code s.number (main_registers (slice_get code.functions s.number)))
first_of code s =
    let f = entered code s.number (main_registers (slice_get code.functions s.number)) in
    let function : function_at code f ≡ Some s.function = s.found in
    let block : block_at code f ≡ Some s.entry = ap (λ o. slice_get (blocks_of o) 0) s.found ∙ s.first in
    record {
      function = slice_get_within code.functions s.number s.function s.found;
      block = rw s.found (slice_get_within s.function.blocks 0 s.entry s.first);
      phis = omega arith;
      place = rw (s.found, s.first) s.room;
      registers = rw s.found (of_arguments s.function s.others s.parameters s.registers);
    }

first_only : (code : Code) (f x : Frame) (i : ℕ) (P : Frame → Type 0) → slice_get (f ∷ []) i ≡ Some x → P f → P x
first_only code f x zero P e p = let same : f ≡ x = cc in subst P same p
first_only code f x (suc i) P e p = absurd cc

no_more : (f g : Frame) (i : ℕ) → slice_get (f ∷ []) (i + 1) ≡ Some g → ⊥
no_more f g i e = let one : i + 1 ≡ suc i = omega arith in let none : slice_get (f ∷ []) (suc i) ≡ Some g = rw one at e in absurd cc

frames_of : (code : Code) (s : Starts code) (frames : List Frame) → frames ≡ entered code s.number (main_registers (slice_get code.functions s.number)) ∷ [] → FramesOf code frames
frames_of code s frames is =
    let f = entered code s.number (main_registers (slice_get code.functions s.number)) in
    rw is (record {
      filled = omega arith;
      each = λ i x e. first_only code f x i (FrameOf code) e (first_of code s);
      waits = λ i x g e more. absurd (no_more f g i more);
      first = λ x e. first_only code f x 0 (λ y. code.main ≡ Some y.function) e s.main;
    })

pub first_frames_of : (code : Code) (s : Starts code) (frames : List Frame) → frames ≡ first_frames code code.main → FramesOf code frames
first_frames_of code s frames is = frames_of code s frames (is ∙ ap (first_frames code) s.main)

owns_nothing : (code : Code) (o : Option ℕ) (m : Picture) → OwnOf (first_frames code o) m
owns_nothing code None m = record { slots = tt; once = tt }
owns_nothing code (Some k) m = record { slots = tt; once = tt }

-- the first frame owns no stack slot
pub first_own : (code : Code) (frames : List Frame) (m : Picture) → frames ≡ first_frames code code.main → OwnOf frames m
first_own code frames m is = rw is (owns_nothing code code.main m)
