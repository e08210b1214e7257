-- The first frame of a program is typed.
use Rattle.std.proofs.Common.{◌≡◌, ℕ, zero, suc, ◌+◌, ◌-◌, ◌<◌, ◌++◌, true, List, [], ◌∷◌, length, slice_get, Option, Some, None, refl, sym, ap, subst, ◌∙◌, ◌⊎◌, inl, inr, arith}
use Rattle.std.proofs.lemmas.Option.{slice_get_within}
use Rattle.ir_tree.specs.Table.{IsTable}
use Rattle.ir_tree.specs.Modules.{Items}
use Rattle.ir_rules.specs.Checked.{IsChecked}
use Rattle.ir_code.specs.declared.op.Scalar.{Scalar}
use Rattle.ir_code.specs.declared.op.Scalar.TheVariants as scalar
use Rattle.ir_code.specs.declared.code.FunctionCode.{FunctionCode}
use Rattle.ir_code.specs.declared.code.Code.{Code}
use Rattle.ir_code.specs.Coding.{code_of}
use Rattle.seq_effects.specs.declared.state.Frame.{Frame}
use Rattle.seq_effects.specs.Values.{is_of}
use Rattle.seq_effects.specs.Flow.{entry_registers}
use Rattle.seq_machine.specs.Acts.{blocks_of, phis_of, entered}
use Rattle.seq_run.specs.First.{main_arguments, main_registers, first_frames, first_state}
use Rattle.checked_code.specs.Starting.{AreMainTypes, Starts}
use Rattle.checked_code.proofs.Starting.{starts}
use Rattle.resolving_laws.specs.Looking.{Each}
use Rattle.unreachable_laws.specs.States.{RegistersTyped, FrameTyped, FramesTyped}
use Rattle.unreachable_laws.specs.Laws.{FirstIsTyped}
use Rattle.unreachable_laws.proofs.Flow.{entry_from}
use Rattle.unreachable_laws.proofs.Acting.{item_at, Standing, stands_there}

one_frame : (code : Code) (f : Frame) → FrameTyped code f → FramesTyped code (f ∷ [])
one_frame code f x = record {
  filled = omega arith;
  each = each;
  waits = λ i a b e q. let lt : i + 1 < length (f ∷ []) = slice_get_within (f ∷ []) (i + 1) b q in absurd (omega (arith, lt));
}
  where
    each : (i : ℕ) (a : Frame) → slice_get (f ∷ []) i ≡ Some a → FrameTyped code a
    each zero a e = let same : f ≡ a = cc in subst (FrameTyped code) same x
    each (suc i) a e = absurd cc

arguments_are : (ts : List Scalar) → AreMainTypes ts → Each (λ t v. is_of v t ≡ true) ts (main_arguments ts)
arguments_are [] h = tt
arguments_are (t ∷ ts) (inl e) = absurd cc
arguments_are (t ∷ ts) (inr e) =
    let first : t ≡ scalar.Int 32 = cc in
    let rest : ts ≡ scalar.Pointer ∷ [] = cc in
    rw (first, rest) (refl, (refl, tt))

first_frame : (code : Code) → Starts code → FramesTyped code (first_frames code code.main)
first_frame code s =
    subst (λ o. FramesTyped code (first_frames code o)) (sym s.main)
    (one_frame code (entered code s.number (main_registers (slice_get code.functions s.number)))
    (subst (λ o. FrameTyped code (record { function = s.number; block = 0; place = phis_of (slice_get (blocks_of o) 0); registers = main_registers o; own = [] })) (sym s.found)
    (stands_there code s.number 0 s.function (entry_registers s.function (main_arguments s.function.parameters)) [] s.found stands
    (subst (λ ts. RegistersTyped ts (entry_registers s.function (main_arguments s.function.parameters))) (sym s.registers)
    (entry_from (length s.function.registers - length (main_arguments s.function.parameters)) s.function.parameters s.others (main_arguments s.function.parameters) (arguments_are s.function.parameters s.parameters))))))
  where
    stands : Standing (slice_get s.function.blocks 0)
    stands = let x = item_at s.entry.ops s.entry.phis s.room in record { block = s.entry; op = x.0; is = s.first; at = x.1 }

pub first_is_typed : FirstIsTyped
first_is_typed m table checked = first_frame (code_of m) (starts m table checked)
