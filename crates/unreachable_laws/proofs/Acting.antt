-- A typed effect that is carried out leaves typed frames.
use Rattle.std.proofs.Common.{◌≡◌, ℕ, zero, suc, ◌+◌, ◌-◌, ◌<◌, ◌≤◌, ◌==◌, ◌++◌, Bool, true, false, List, [], ◌∷◌, length, slice_get, slice_set, Option, Some, None, Err, refl, sym, ap, subst, ◌∙◌, arith, pos, ltb, eqb-true, if◌then◌else◌}
use Rattle.std.specs.Prelude.{nat_lt}
use Rattle.std.specs.List.{AllByRecursion}
use Rattle.std.proofs.lemmas.Bool.{ltb-true}
use Rattle.std.proofs.lemmas.Bool.Decides.{nat_tests}
use Rattle.std.proofs.lemmas.List.{length-take-le}
use Rattle.std.proofs.lemmas.Option.{slice_get_within}
use Rattle.ir_code.specs.declared.op.Scalar.{Scalar}
use Rattle.ir_code.specs.declared.op.Op.{Op}
use Rattle.ir_code.specs.declared.code.Move.{Move}
use Rattle.ir_code.specs.declared.code.Edge.{Edge}
use Rattle.ir_code.specs.declared.code.BlockCode.{BlockCode}
use Rattle.ir_code.specs.declared.code.FunctionCode.{FunctionCode}
use Rattle.ir_code.specs.declared.code.Code.{Code}
use Rattle.mem_image.specs.declared.object.Pointer.TheVariants.{Obj}
use Rattle.seq_effects.specs.declared.state.Value.{Value}
use Rattle.seq_effects.specs.declared.state.Value.TheVariants.{Pointer}
use Rattle.seq_effects.specs.declared.state.Frame.{Frame}
use Rattle.seq_effects.specs.declared.state.Effect.{Effect}
use Rattle.seq_effects.specs.declared.state.Effect.TheVariants as effect
use Rattle.seq_effects.specs.Values.{operand, may_hold, is_of, is_type, is_some_type}
use Rattle.seq_effects.specs.Flow.{may_stand, receives, is_result}
use Rattle.seq_machine.specs.Acts.{Control, Acted, acted, function_at, block_at, op_at, blocks_of, types_of, ops_of, phis_of, arrived, taken, move_value, move_values, set_moves, put, put_if, put_result, result_register, resumed, resumed_top, with_top, without_top, top, bare, bare_top, back, entered, frame_limit, output_limit}
use Rattle.seq_machine.specs.Acts as acts
use Rattle.seq_machine.specs.Frames.{HasMore}
use Rattle.seq_machine.specs.Meaning.{is_inner}
use Rattle.seq_machine.proofs.FrameLists.{get_take}
use Rattle.resolving_laws.specs.Looking.{Each}
use Rattle.unreachable_laws.specs.Typing.{MoveTyped, EdgeTyped}
use Rattle.unreachable_laws.specs.States.{RegistersTyped, FrameTyped, Waits, FramesTyped}
use Rattle.unreachable_laws.specs.Trees.{Sound, HoldsTyped, EffectTyped}
use Rattle.unreachable_laws.proofs.Trees.{then_sound, where_sound, if_sound}
use Rattle.unreachable_laws.proofs.Operands.{Of, may_be, operand_sound}
use Rattle.unreachable_laws.proofs.Flow.{type_same}
use Rattle.unreachable_laws.proofs.Frames.{frames_set, frames_push, frames_below}

pub item_at : {A : Type 0} (xs : List A) (i : ℕ) → i < length xs → (x : A) × (slice_get xs i ≡ Some x)
item_at [] i lt = absurd (omega arith)
item_at (x ∷ xs) zero lt = (x, refl)
item_at (x ∷ xs) (suc i) lt = item_at xs i (omega arith)

-- one register is set
set_typed : (P : ℕ → Value → Type 0) (rs : List (Option Value)) (to : ℕ) (v : Value) → ((i : ℕ) (w : Value) → slice_get rs i ≡ Some (Some w) → P i w) → P to v → (i : ℕ) (w : Value) → slice_get (slice_set rs to (Some v)) i ≡ Some (Some w) → P i w
set_typed P [] to v h k i w e = h i w e
set_typed P (x ∷ rs) zero v h k zero w e = let same : v ≡ w = cc in subst (P zero) same k
set_typed P (x ∷ rs) zero v h k (suc i) w e = h (suc i) w e
set_typed P (x ∷ rs) (suc to) v h k zero w e = h zero w e
set_typed P (x ∷ rs) (suc to) v h k (suc i) w e = set_typed (λ j. P (suc j)) rs to v (λ j. h (suc j)) k i w e

registers_set : (types : List Scalar) (rs : List (Option Value)) (to : ℕ) (v : Value) → RegistersTyped types rs → may_hold (slice_get types to) v ≡ true → RegistersTyped types (slice_set rs to (Some v))
registers_set types rs to v h k = set_typed (λ i w. may_hold (slice_get types i) w ≡ true) rs to v h k

moves_set : (types : List Scalar) (ms : List Move) (vs : List Value) (rs : List (Option Value)) → RegistersTyped types rs → Each (λ (m : Move) v. may_hold (slice_get types m.register) v ≡ true) ms vs → RegistersTyped types (set_moves ms vs rs)
moves_set types [] [] rs h k = h
moves_set types [] (v ∷ vs) rs h k = elim k [ ]
moves_set types (m ∷ ms) [] rs h k = elim k [ ]
moves_set types (m ∷ ms) (v ∷ vs) rs h k = moves_set types ms vs (slice_set rs m.register (Some v)) (registers_set types rs m.register v h k.0) k.1

-- a block in which a frame may stand
pub record Standing (o : Option BlockCode) : Type 0 where
  pub block : BlockCode
  pub op : Op
  pub is : o ≡ Some block
  pub at : slice_get block.ops block.phis ≡ Some op

pub standing : (o : Option BlockCode) → may_stand o ≡ true → Standing o
standing None e = absurd cc
standing (Some b) e = let x = item_at b.ops b.phis (ltb-true b.phis (length b.ops) e) in record { block = b; op = x.0; is = refl; at = x.1 }

-- a frame at the first instruction of a block behind its phis
pub stands_there : (code : Code) (k b : ℕ) (g : FunctionCode) (registers : List (Option Value)) (own : List ℕ) → slice_get code.functions k ≡ Some g → Standing (slice_get g.blocks b) → RegistersTyped g.registers registers
    → FrameTyped code (record { function = k; block = b; place = phis_of (slice_get g.blocks b); registers = registers; own = own })
stands_there code k b g registers own is s typed =
    let phis : phis_of (slice_get g.blocks b) ≡ s.block.phis = ap phis_of s.is in
    record { function = g; block = s.block; op = s.op; function_is = is; block_is = s.is; op_is = ap (slice_get s.block.ops) phis ∙ s.at; behind = omega (arith, phis); registers = typed }

-- over the top frame of typed frames
module _ (code : Code) (c : Control) (all : FramesTyped code c.frames) (f : Frame) (is_top : top c.frames ≡ Some f) (x : FrameTyped code f) (more : is_inner x.op ≡ true → f.place + 1 < length x.block.ops) where
  abbrev Left : Acted → Type 0
  Left a = FramesTyped code a.control.frames

  on : (registers : List (Option Value)) (own : List ℕ) → RegistersTyped x.function.registers registers → is_inner x.op ≡ true → FrameTyped code (record f { place = f.place + 1; registers = registers; own = own })
  on registers own typed inner =
      let y = item_at x.block.ops (f.place + 1) (more inner) in
      record { function = x.function; block = x.block; op = y.0; function_is = x.function_is; block_is = x.block_is; op_is = y.1; behind = let le : x.block.phis ≤ f.place = x.behind in omega (arith, le); registers = typed }

  set_top : (f' : Frame) → FrameTyped code f' → f'.function ≡ f.function → FramesTyped code (with_top c.frames f')
  set_top f' typed same = frames_set code c.frames f f' all is_top typed same

  put_typed : (to : ℕ) (v : Value) → is_inner x.op ≡ true → may_hold (slice_get x.function.registers to) v ≡ true → FramesTyped code (with_top c.frames (put f to v))
  put_typed to v inner h = set_top (put f to v) (on (slice_set f.registers to (Some v)) f.own (registers_set x.function.registers f.registers to v x.registers h) inner) refl

  put_if_typed : (to : Option ℕ) (v : Value) → is_inner x.op ≡ true → HoldsTyped x.function.registers to v → FramesTyped code (with_top c.frames (put_if f to v))
  put_if_typed None v inner h = set_top (acts.next f) (on f.registers f.own x.registers inner) refl
  put_if_typed (Some to) v inner h = put_typed to v inner h

  -- ---- edges

  moves_sound : (ms : List Move) → AllByRecursion (MoveTyped x.function) ms → Sound (λ vs. Each (λ (m : Move) v. may_hold (slice_get x.function.registers m.register) v ≡ true) ms vs) (move_values x.function f ms)
  moves_sound [] h = tt
  moves_sound (m ∷ ms) h =
      then_sound (λ v. may_hold (slice_get x.function.registers m.register) v ≡ true) (λ vs. Each (λ (n : Move) v. may_hold (slice_get x.function.registers n.register) v ≡ true) (m ∷ ms) vs) (move_value x.function f m) _
      (then_sound (Of h.0.0) (λ v. may_hold (slice_get x.function.registers m.register) v ≡ true) (operand f m.value) _ (operand_sound x.function.registers f x.registers h.0.0 m.value h.0.2)
      (λ v q. where_sound (λ w. may_hold (slice_get x.function.registers m.register) w ≡ true) (may_hold (slice_get x.function.registers m.register) v) v (may_be x.function.registers m.register h.0.0 v h.0.1 q) (λ e. e)))
      (λ v a. then_sound (λ vs. Each (λ (n : Move) v. may_hold (slice_get x.function.registers n.register) v ≡ true) ms vs) (λ vs. Each (λ (n : Move) v. may_hold (slice_get x.function.registers n.register) v ≡ true) (m ∷ ms) vs) (move_values x.function f ms) _ (moves_sound ms h.1) (λ vs b. (a, b)))

  edge_sound : (i : ℕ) → EdgeTyped x.function i → Sound Left (acted code x.function f c (effect.Edge i))
  edge_sound i h =
      then_sound (λ f'. FramesTyped code (with_top c.frames f')) Left (taken x.function f (slice_get x.function.edges i)) _
      (subst (λ o. Sound (λ f'. FramesTyped code (with_top c.frames f')) (taken x.function f o)) (sym h.at)
      (if_sound (λ f'. FramesTyped code (with_top c.frames f')) (may_stand (slice_get x.function.blocks h.edge.to)) _ _
      (λ e. then_sound (λ vs. Each (λ (m : Move) v. may_hold (slice_get x.function.registers m.register) v ≡ true) h.edge.moves vs) (λ f'. FramesTyped code (with_top c.frames f')) (move_values x.function f h.edge.moves) _ (moves_sound h.edge.moves h.moves)
      (λ vs q. set_top (arrived x.function f h.edge vs) (stands_there code f.function h.edge.to x.function (set_moves h.edge.moves vs f.registers) f.own x.function_is (standing (slice_get x.function.blocks h.edge.to) e) (moves_set x.function.registers h.edge.moves vs f.registers x.registers q)) refl))
      (λ e. let s = h.stands in absurd cc)))
      (λ f' q. q)

  -- ---- calls and returns

  block_is : block_at code f ≡ Some x.block
  block_is = ap (λ o. slice_get (blocks_of o) f.block) x.function_is ∙ x.block_is

  op_is : op_at code f ≡ Some x.op
  op_is = ap (λ o. slice_get (ops_of o) f.place) block_is ∙ x.op_is

  has_more : is_inner x.op ≡ true → HasMore code f
  has_more inner = let l : length (ops_of (block_at code f)) ≡ length x.block.ops = ap (λ o. length (ops_of o)) block_is in let lt = more inner in omega (arith, l, lt)

  enter_sound : (k : ℕ) (registers : List (Option Value)) → EffectTyped code x.function x.op (effect.Enter k registers) → Sound Left (acted code x.function f c (effect.Enter k registers))
  enter_sound k registers (inner, h) =
      if_sound Left (nat_lt (length c.frames) frame_limit) _ _
      (λ e. frames_push code c.frames f (entered code k registers) all is_top
      (let blocks : blocks_of (slice_get code.functions k) ≡ h.callee.blocks = ap blocks_of h.at in
      subst (λ bs. FrameTyped code (record { function = k; block = 0; place = phis_of (slice_get bs 0); registers = registers; own = [] })) (sym blocks)
      (stands_there code k 0 h.callee registers [] h.at (standing (slice_get h.callee.blocks 0) h.stands) h.typed))
      (record {
        more = has_more inner;
        result = λ g at.
            let same : Some h.callee ≡ Some g = sym h.at ∙ at in
            let callee : h.callee ≡ g = cc in
            let types : types_of (function_at code f) ≡ x.function.registers = ap types_of x.function_is in
            subst (λ (y : FunctionCode). receives (types_of (function_at code f)) (result_register (op_at code f)) y.result ≡ true) callee
            (subst (λ o. receives (types_of (function_at code f)) (result_register o) h.callee.result ≡ true) (sym op_is) (subst (λ ts. receives ts (result_register (Some x.op)) h.callee.result ≡ true) (sym types) h.result));
      }))
      (λ e q. absurd cc)

  -- a frame that waits is given what it may hold
  given_back : (f' : Frame) (v : Option Value) → FramesTyped code (without_top c.frames) → top (without_top c.frames) ≡ Some f' → Waits code f' f.function → is_result x.function.result v ≡ true → FramesTyped code (with_top (without_top c.frames) (resumed code f' v))
  given_back f' v under at w h = go (result_register (op_at code f')) v (w.result x.function x.function_is) h
    where
      y : FrameTyped code f'
      y = under.each (length (without_top c.frames) - 1) f' at

      is_block : block_at code f' ≡ Some y.block
      is_block = ap (λ o. slice_get (blocks_of o) f'.block) y.function_is ∙ y.block_is

      on' : (registers : List (Option Value)) → RegistersTyped y.function.registers registers → FrameTyped code (record f' { place = f'.place + 1; registers = registers })
      on' registers typed =
          let l : length (ops_of (block_at code f')) ≡ length y.block.ops = ap (λ o. length (ops_of o)) is_block in
          let lt : f'.place + 1 < length (ops_of (block_at code f')) = w.more in
          let z = item_at y.block.ops (f'.place + 1) (omega (arith, l, lt)) in
          record { function = y.function; block = y.block; op = z.0; function_is = y.function_is; block_is = y.block_is; op_is = z.1; behind = let le : y.block.phis ≤ f'.place = y.behind in omega (arith, le); registers = typed }

      to_below : (f'' : Frame) → FrameTyped code f'' → f''.function ≡ f'.function → FramesTyped code (with_top (without_top c.frames) f'')
      to_below f'' typed same = frames_set code (without_top c.frames) f' f'' under at typed same

      holds : (o : Option Scalar) (t : Scalar) (u : Value) → is_some_type o t ≡ true → is_of u t ≡ true → may_hold o u ≡ true
      holds None t u r k = absurd cc
      holds (Some s) t u r k = let same : s ≡ t = type_same s t r in subst (λ z. is_of u z ≡ true) (sym same) k

      put_to : (to : ℕ) (t : Option Scalar) (u : Value) → receives (types_of (function_at code f')) (Some to) t ≡ true → is_result t (Some u) ≡ true → FramesTyped code (with_top (without_top c.frames) (put f' to u))
      put_to to None u r k = absurd cc
      put_to to (Some t) u r k =
          let types : types_of (function_at code f') ≡ y.function.registers = ap types_of y.function_is in
          let r' : receives y.function.registers (Some to) (Some t) ≡ true = subst (λ ts. receives ts (Some to) (Some t) ≡ true) types r in
          to_below (put f' to u) (on' (slice_set f'.registers to (Some u)) (registers_set y.function.registers f'.registers to u y.registers (holds (slice_get y.function.registers to) t u r' k))) refl

      go : (to : Option ℕ) (v : Option Value) → receives (types_of (function_at code f')) to x.function.result ≡ true → is_result x.function.result v ≡ true → FramesTyped code (with_top (without_top c.frames) (put_result f' to v))
      go None v r k = to_below (acts.next f') (on' f'.registers y.registers) refl
      go (Some to) None r k = to_below (acts.next f') (on' f'.registers y.registers) refl
      go (Some to) (Some u) r k = put_to to x.function.result u r k

  bare_left : (o : Option Frame) → o ≡ Some f → FramesTyped code (bare_top c.frames o)
  bare_left None e = absurd cc
  bare_left (Some f') e =
      let same : f ≡ f' = cc in
      subst (λ (z : Frame). FramesTyped code (with_top c.frames (bare z))) same
      (set_top (bare f) (record { function = x.function; block = x.block; op = x.op; function_is = x.function_is; block_is = x.block_is; op_is = x.op_is; behind = x.behind; registers = x.registers }) refl)

  under_left : (v : Option Value) → 1 < length c.frames → is_result x.function.result v ≡ true → FramesTyped code (resumed_top code (without_top c.frames) v (top (without_top c.frames)))
  under_left v two h = go (top (without_top c.frames)) refl
    where
      under : FramesTyped code (without_top c.frames)
      under = frames_below code c.frames all two

      l : length (without_top c.frames) ≡ length c.frames - 1
      l = length-take-le (length c.frames - 1) c.frames (omega arith)

      go : (o : Option Frame) → top (without_top c.frames) ≡ o → FramesTyped code (resumed_top code (without_top c.frames) v o)
      go None e = under
      go (Some f') e =
          let there : slice_get c.frames (length (without_top c.frames) - 1) ≡ Some f' = get_take c.frames (length c.frames - 1) (length (without_top c.frames) - 1) f' e in
          let k : length (without_top c.frames) - 1 + 1 ≡ length c.frames - 1 = omega (arith, l, two) in
          given_back f' v under e (all.waits (length (without_top c.frames) - 1) f' f there (ap (slice_get c.frames) k ∙ is_top)) h

  one_left : (b : Bool) (y z : Acted) → (b ≡ true → Left y) → (b ≡ false → Left z) → Left (if b then y else z)
  one_left true y z h k = h refl
  one_left false y z h k = k refl

  back_typed : (v : Option Value) → is_result x.function.result v ≡ true → Left (back code c v)
  back_typed v h =
      one_left (length c.frames == 1) _ _ (λ e. bare_left (top c.frames) is_top)
      (λ e. let some : 0 < length c.frames = all.filled in let two : 1 < length c.frames = grind (arith, nat_tests, e, some) in under_left v two h)

  pub acted_sound : (e : Effect) → EffectTyped code x.function x.op e → Sound Left (acted code x.function f c e)
  acted_sound effect.Next h = set_top (acts.next f) (on f.registers f.own x.registers h) refl
  acted_sound (effect.Give to v) h = put_typed to v h.0 h.1
  acted_sound (effect.Keep to name) h = set_top (acts.keep f to name) (on (slice_set f.registers to (Some (Pointer (Obj name (pos 0))))) (f.own ++ name ∷ []) (registers_set x.function.registers f.registers to (Pointer (Obj name (pos 0))) x.registers h.1) h.0) refl
  acted_sound (effect.Edge i) h = edge_sound i h
  acted_sound (effect.Enter k registers) h = enter_sound k registers h
  acted_sound (effect.Back v) h = back_typed v h
  acted_sound (effect.Exit n) h = all
  acted_sound (effect.Print text to v) h = if_sound Left (nat_lt output_limit (length c.output + length text)) _ _ (λ e q. absurd cc) (λ e. put_if_typed to v h.0 h.1)
  acted_sound (effect.Take place to v) h = put_if_typed to v h.0 h.1
