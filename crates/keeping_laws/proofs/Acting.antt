-- An effect that is carried out leaves frames that fit.
use Rattle.std.proofs.Common.{◌≡◌, ℕ, ◌+◌, ◌-◌, ◌==◌, pos, Bool, true, false, List, [], ◌∷◌, length, slice_get, slice_set, Option, Some, None, Err, refl, if◌then◌else◌}
use Rattle.std.specs.Prelude.{IfOk, nat_lt}
use Rattle.std.specs.List.{AllByRecursion}
use Rattle.ir_code.specs.declared.code.Move.{Move}
use Rattle.ir_code.specs.declared.code.Edge.{Edge}
use Rattle.ir_code.specs.declared.code.FunctionCode.{FunctionCode}
use Rattle.ir_code.specs.declared.code.Code.{Code}
use Rattle.mem_image.specs.declared.fault.Trap.TheVariants.{Unreachable}
use Rattle.mem_image.specs.declared.object.Pointer.TheVariants.{Obj}
use Rattle.seq_effects.specs.declared.state.Value.{Value}
use Rattle.seq_effects.specs.declared.state.Value.TheVariants.{Pointer}
use Rattle.seq_effects.specs.declared.state.Frame.{Frame}
use Rattle.seq_effects.specs.declared.state.Effect.{Effect}
use Rattle.seq_effects.specs.declared.state.Effect.TheVariants as effect
use Rattle.seq_effects.specs.Values.{operand, may_hold}
use Rattle.seq_effects.specs.Flow.{may_stand}
use Rattle.seq_machine.specs.Acts.{Control, Acted, acted, arrived, taken, move_value, move_values, set_moves, put, put_if, next as after, keep, put_result, result_register, resumed, resumed_top, with_top, without_top, top, bare, bare_top, back, entered, op_at, frame_limit, output_limit}
use Rattle.keeping_laws.specs.Keeping.{ValueFits, RegisterFits, NameFits, FrameFits}
use Rattle.keeping_laws.specs.Constants.{MoveFits, EdgeFits}
use Rattle.keeping_laws.specs.Trees.{EffectFits}
use Rattle.keeping_laws.proofs.Lists.{by_append, by_take, by_set, by_get}
use Rattle.keeping_laws.proofs.Pictures.{start_fits}
use Rattle.keeping_laws.proofs.Trees.{then_fits, where_fits, if_fits}
use Rattle.keeping_laws.proofs.Numbers.{operand_fits}

-- frames that fit
abbrev pub Fit : ℕ → List Frame → Type 0
Fit next frames = AllByRecursion (FrameFits next) frames

-- the frames that an effect leaves
abbrev pub ActedFits : ℕ → Acted → Type 0
ActedFits next a = Fit next a.control.frames

after_fits : (next : ℕ) (f : Frame) → FrameFits next f → FrameFits next (after f)
after_fits next f h = record { registers = h.registers; own = h.own }

put_fits : (next : ℕ) (f : Frame) (to : ℕ) (v : Value) → FrameFits next f → ValueFits next v → FrameFits next (put f to v)
put_fits next f to v h k = record { registers = by_set (RegisterFits next) f.registers to (Some v) k h.registers; own = h.own }

keep_fits : (next : ℕ) (f : Frame) (to name : ℕ) → FrameFits next f → NameFits next name → FrameFits next (keep f to name)
keep_fits next f to name h k = record {
  registers = by_set (RegisterFits next) f.registers to (Some (Pointer (Obj name (pos 0)))) (k, start_fits) h.registers;
  own = by_append (NameFits next) f.own (name ∷ []) h.own (k, tt);
}

put_if_fits : (next : ℕ) (f : Frame) (to : Option ℕ) (v : Value) → FrameFits next f → ValueFits next v → FrameFits next (put_if f to v)
put_if_fits next f None v h k = after_fits next f h
put_if_fits next f (Some to) v h k = put_fits next f to v h k

put_result_fits : (next : ℕ) (f : Frame) (to : Option ℕ) (v : Option Value) → FrameFits next f → RegisterFits next v → FrameFits next (put_result f to v)
put_result_fits next f None v h k = after_fits next f h
put_result_fits next f (Some to) None h k = after_fits next f h
put_result_fits next f (Some to) (Some v) h k = put_fits next f to v h k

bare_fits : (next : ℕ) (f : Frame) → FrameFits next f → FrameFits next (bare f)
bare_fits next f h = record { registers = h.registers; own = tt }

top_set : (next : ℕ) (frames : List Frame) (f : Frame) → Fit next frames → FrameFits next f → Fit next (with_top frames f)
top_set next frames f h k = by_set (FrameFits next) frames (length frames - 1) f k h

-- ---- edges

moves_fit : (next : ℕ) (g : FunctionCode) (f : Frame) (ms : List Move) → FrameFits next f → AllByRecursion (MoveFits next) ms → IfOk (move_values g f ms) (AllByRecursion (ValueFits next))
moves_fit next g f [] h k = tt
moves_fit next g f (m ∷ ms) h k =
    then_fits (ValueFits next) (AllByRecursion (ValueFits next)) (move_value g f m) _
    (then_fits (ValueFits next) (ValueFits next) (operand f m.value) _ (operand_fits next f m.value h k.0) (λ v q. where_fits (ValueFits next) (may_hold (slice_get g.registers m.register) v) v q))
    (λ v a. then_fits (AllByRecursion (ValueFits next)) (AllByRecursion (ValueFits next)) (move_values g f ms) _ (moves_fit next g f ms h k.1) (λ vs b. (a, b)))

set_moves_fit : (next : ℕ) (ms : List Move) (vs : List Value) (registers : List (Option Value)) → AllByRecursion (ValueFits next) vs → AllByRecursion (RegisterFits next) registers → AllByRecursion (RegisterFits next) (set_moves ms vs registers)
set_moves_fit next [] vs registers h k = k
set_moves_fit next (m ∷ ms) [] registers h k = k
set_moves_fit next (m ∷ ms) (v ∷ vs) registers h k = set_moves_fit next ms vs (slice_set registers m.register (Some v)) h.1 (by_set (RegisterFits next) registers m.register (Some v) h.0 k)

arrived_fits : (next : ℕ) (g : FunctionCode) (f : Frame) (e : Edge) (vs : List Value) → FrameFits next f → AllByRecursion (ValueFits next) vs → FrameFits next (arrived g f e vs)
arrived_fits next g f e vs h k = record { registers = set_moves_fit next e.moves vs f.registers k h.registers; own = h.own }

taken_fits : (next : ℕ) (g : FunctionCode) (f : Frame) (edges : List Edge) (i : ℕ) (e : Option Edge) → FrameFits next f → AllByRecursion (EdgeFits next) edges → slice_get edges i ≡ e → IfOk (taken g f e) (FrameFits next)
taken_fits next g f edges i None h k is = tt
taken_fits next g f edges i (Some e) h k is =
    if_fits (FrameFits next) (may_stand (slice_get g.blocks e.to)) _ (Err Unreachable)
    (then_fits (AllByRecursion (ValueFits next)) (FrameFits next) (move_values g f e.moves) _ (moves_fit next g f e.moves h (by_get (EdgeFits next) edges i e k is)) (λ vs q. arrived_fits next g f e vs h q))
    tt

-- ---- returns

resumed_fits : (next : ℕ) (code : Code) (frames : List Frame) (i : ℕ) (v : Option Value) (f : Option Frame) → Fit next frames → slice_get frames i ≡ f → RegisterFits next v → Fit next (resumed_top code frames v f)
resumed_fits next code frames i v None h is k = h
resumed_fits next code frames i v (Some f) h is k =
    top_set next frames (resumed code f v) h (put_result_fits next f (result_register (op_at code f)) v (by_get (FrameFits next) frames i f h is) k)

bare_top_fits : (next : ℕ) (frames : List Frame) (i : ℕ) (f : Option Frame) → Fit next frames → slice_get frames i ≡ f → Fit next (bare_top frames f)
bare_top_fits next frames i None h is = h
bare_top_fits next frames i (Some f) h is = top_set next frames (bare f) h (bare_fits next f (by_get (FrameFits next) frames i f h is))

one_fits : (next : ℕ) (b : Bool) (x y : Acted) → ActedFits next x → ActedFits next y → ActedFits next (if b then x else y)
one_fits next true x y h k = h
one_fits next false x y h k = k

back_fits : (next : ℕ) (code : Code) (c : Control) (v : Option Value) → Fit next c.frames → RegisterFits next v → ActedFits next (back code c v)
back_fits next code c v h k =
    one_fits next (length c.frames == 1) _ _ (bare_top_fits next c.frames (length c.frames - 1) (top c.frames) h refl)
    (let rest : Fit next (without_top c.frames) = by_take (FrameFits next) (length c.frames - 1) c.frames h in
    resumed_fits next code (without_top c.frames) (length (without_top c.frames) - 1) v (top (without_top c.frames)) rest refl k)

-- ---- all of them

module _ (next : ℕ) (code : Code) (g : FunctionCode) (f : Frame) (c : Control) (h : FrameFits next f) (k : Fit next c.frames) (edges : AllByRecursion (EdgeFits next) g.edges) where
  pub acted_fits : (e : Effect) → EffectFits next e → IfOk (acted code g f c e) (ActedFits next)
  acted_fits effect.Next q = top_set next c.frames (after f) k (after_fits next f h)
  acted_fits (effect.Give to v) q = top_set next c.frames (put f to v) k (put_fits next f to v h q)
  acted_fits (effect.Keep to name) q = top_set next c.frames (keep f to name) k (keep_fits next f to name h q)
  acted_fits (effect.Edge i) q = then_fits (FrameFits next) (ActedFits next) (taken g f (slice_get g.edges i)) _ (taken_fits next g f g.edges i (slice_get g.edges i) h edges refl) (λ f' p. top_set next c.frames f' k p)
  acted_fits (effect.Enter j registers) q =
      if_fits (ActedFits next) (nat_lt (length c.frames) frame_limit) _ _ (by_append (FrameFits next) c.frames (entered code j registers ∷ []) k (record { registers = q; own = tt }, tt)) tt
  acted_fits (effect.Back v) q = back_fits next code c v k q
  acted_fits (effect.Exit n) q = k
  acted_fits (effect.Print text to v) q = if_fits (ActedFits next) (nat_lt output_limit (length c.output + length text)) _ _ tt (top_set next c.frames (put_if f to v) k (put_if_fits next f to v h q))
  acted_fits (effect.Take place to v) q = top_set next c.frames (put_if f to v) k (put_if_fits next f to v h q)
