-- Each effect leaves frames of the code.
use Rattle.std.proofs.Common.{◌≡◌, ℕ, zero, suc, ◌+◌, ◌-◌, ◌<◌, ◌≤◌, ◌^◌, List, [], ◌∷◌, ◌++◌, length, slice_get, slice_set, Option, Some, None, Result, Ok, Err, OnErr, OnOk, Bool, false, true, refl, sym, ◌∙◌, ap, arith, ltb, take, length-append}
use Rattle.std.specs.Prelude.{pos}
use Rattle.std.proofs.lemmas.Option.{slice_get_within}
use Rattle.ir_code.specs.declared.op.Scalar.{Scalar}
use Rattle.ir_code.specs.declared.op.Op.{Op}
use Rattle.ir_code.specs.declared.op.Op.TheVariants as op
use Rattle.ir_code.specs.declared.code.BlockCode.{BlockCode}
use Rattle.ir_code.specs.declared.code.FunctionCode.{FunctionCode}
use Rattle.ir_code.specs.declared.code.Code.{Code}
use Rattle.mem_image.specs.declared.object.Pointer.TheVariants.{Obj}
use Rattle.mem_image.specs.declared.fault.Trap.{Trap as TrapWord}
use Rattle.mem_image.specs.declared.fault.Fault.{Fault}
use Rattle.mem_image.specs.declared.fault.Fault.TheVariants.{Trap, Check, Memory}
use Rattle.seq_effects.specs.declared.state.Value.{Value}
use Rattle.seq_effects.specs.declared.state.Value.TheVariants.{Pointer}
use Rattle.seq_effects.specs.Script.{Tells, ends, sent}
use Rattle.int_num.specs.Integer.{Integer}
use Rattle.seq_effects.specs.declared.state.Effect.TheVariants as effect
use Rattle.seq_effects.specs.Effects.{StopsAt}
use Rattle.seq_effects.specs.declared.state.Frame.{Frame}
use Rattle.seq_effects.specs.Values.{then_, AreOf, Holds, HoldsIf, IsOf, is_type, is_some_type}
use Rattle.ir_code.specs.declared.op.Scalar.TheVariants as scalar
use Rattle.std.proofs.lemmas.Bool.{ltb-true}
use Rattle.std.specs.Prelude.{MatchOption, IfSome, IfErr, if◌then◌else◌}
use Rattle.std.proofs.lemmas.List.{take-append-le, length-take-le, take_all}
use Rattle.std.proofs.lemmas.Bool.Decides.{nat_tests}
use Rattle.std.proofs.Math.Seq.{set-append_seam}
use Rattle.seq_effects.specs.Flow.{may_stand, Enters, IsResult, receives}
use Rattle.seq_machine.specs.Acts.{blocks_of, types_of, ops_of, phis_of, function_at, block_at, op_at, top, with_top, bare, next, put, put_if, put_result, result_register, resumed, resumed_top, without_top, entered, keep, on_top, control_of, acted_of, Stands}
use Rattle.seq_machine.specs.Frames.{CodeOk, FrameOf, HasMore, FramesOf, Awaits, Calls, result_of, HoldsResult}
use Rattle.seq_machine.proofs.FrameLists.{frames_set, frames_push, are_set, same_some, get_take, set_same}

some_at : {A : Type 0} (xs : List A) (i : ℕ) → i < length xs → slice_get xs i ≡ None → ⊥
some_at [] i lt e = absurd (omega arith)
some_at (x ∷ xs) zero lt e = absurd (cc)
some_at (x ∷ xs) (suc i) lt e = some_at xs i (omega arith) e

of_ltb : {m n : ℕ} → ltb m n ≡ true → m < n
of_ltb {m} {n} e = ltb-true m n e

-- a frame at the next instruction, with other registers of their types
frame_on : (code : Code) (f : Frame) (registers : List (Option Value)) → FrameOf code f → HasMore code f → AreOf (types_of (function_at code f)) registers → FrameOf code (record f { place = f.place + 1; registers = registers })
frame_on code f registers h more typed = record { function = h.function; block = h.block; phis = let le : phis_of (block_at code f) ≤ f.place = h.phis in omega arith; place = more; registers = typed }

pub kept_next : (code : Code) (frames : List Frame) (f : Frame) → FramesOf code frames → top frames ≡ Some f → HasMore code f → FramesOf code (with_top frames (next f))
kept_next code frames f h t more = let ok : FrameOf code f = h.each _ f t in frames_set code frames f (next f) h t (frame_on code f f.registers ok more ok.registers) refl

pub kept_bare : (code : Code) (frames : List Frame) (f : Frame) → FramesOf code frames → top frames ≡ Some f → FramesOf code (with_top frames (bare f))
kept_bare code frames f h t =
    let ok : FrameOf code f = h.each _ f t in
    frames_set code frames f (bare f) h t (record { function = ok.function; block = ok.block; phis = ok.phis; place = ok.place; registers = ok.registers }) refl

pub kept_put : (code : Code) (frames : List Frame) (f : Frame) (to : ℕ) (v : Value) → FramesOf code frames → top frames ≡ Some f → HasMore code f → Holds (types_of (function_at code f)) to v → FramesOf code (with_top frames (put f to v))
kept_put code frames f to v h t more holds =
    let ok : FrameOf code f = h.each _ f t in
    frames_set code frames f (put f to v) h t (frame_on code f (slice_set f.registers to (Some v)) ok more (are_set _ _ to v ok.registers holds)) refl

pub kept_put_if : (code : Code) (frames : List Frame) (f : Frame) (to : Option ℕ) (v : Value) → FramesOf code frames → top frames ≡ Some f → HasMore code f → HoldsIf (types_of (function_at code f)) to v → FramesOf code (with_top frames (put_if f to v))
kept_put_if code frames f None v h t more holds = kept_next code frames f h t more
kept_put_if code frames f (Some to) v h t more holds = kept_put code frames f to v h t more holds

place_fits : (g : FunctionCode) (b : ℕ) → may_stand (slice_get g.blocks b) ≡ true → (b < length g.blocks) × (phis_of (slice_get g.blocks b) < length (ops_of (slice_get g.blocks b)))
place_fits g b e = go (slice_get g.blocks b) refl e
  where
    go : (o : Option BlockCode) → slice_get g.blocks b ≡ o → may_stand o ≡ true → (b < length g.blocks) × (phis_of o < length (ops_of o))
    go (Some block) q e = (slice_get_within g.blocks b block q, of_ltb e)
    go None q e = absurd (cc)

pub kept_stands : (code : Code) (g : FunctionCode) (frames after : List Frame) (f : Frame) → FramesOf code frames → top frames ≡ Some f → function_at code f ≡ Some g → Stands g f frames after → FramesOf code after
kept_stands code g frames after f h t is s =
    let there : function_at code s.frame ≡ Some g = rw s.function is in
    let fits = place_fits g s.frame.block s.stands in
    let ok : FrameOf code s.frame = record {
      function = slice_get_within code.functions s.frame.function g there;
      block = rw there fits.0;
      phis = rw there (rw s.place (omega arith));
      place = rw there (rw s.place fits.1);
      registers = rw there s.registers;
    } in
    rw s.is_top (frames_set code frames f s.frame h t ok s.function)

pub kept_entered : (code : Code) (frames : List Frame) (f : Frame) (k : ℕ) (registers : List (Option Value)) (to : Option ℕ) → FramesOf code frames → top frames ≡ Some f → Awaits code f k → Enters code (types_of (function_at code f)) to k registers → FramesOf code (frames ++ entered code k registers ∷ [])
kept_entered code frames f k registers to h t awaits e = go (slice_get code.functions k) refl
  where
    go : (o : Option FunctionCode) → slice_get code.functions k ≡ o → FramesOf code (frames ++ entered code k registers ∷ [])
    go None q = absurd (some_at code.functions k e.there q)
    go (Some g) q =
        let fits = place_fits g 0 (e.stands g q) in
        let ok : FrameOf code (entered code k registers) = record {
          function = e.there;
          block = rw q fits.0;
          phis = rw q (omega arith);
          place = rw q fits.1;
          registers = rw q (e.typed g q);
        } in
        frames_push code frames f (entered code k registers) h t ok awaits

type_same : (s t : Scalar) → is_type s t ≡ true → s ≡ t
type_same (scalar.Int m) (scalar.Int n) e = let q : m ≡ n = grind (arith, nat_tests) in ap scalar.Int q
type_same (scalar.Int m) scalar.Pointer e = absurd (cc)
type_same scalar.Pointer (scalar.Int n) e = absurd (cc)
type_same scalar.Pointer scalar.Pointer e = refl

held_of : (types : List Scalar) (to : ℕ) (t : Scalar) (w : Value) (o : Option Scalar) → slice_get types to ≡ o → is_some_type o t ≡ true → IsOf t w → Holds types to w
held_of types to t w None q e h = absurd (cc)
held_of types to t w (Some s) q e h = record {
  there = slice_get_within types to s q;
  typed = λ u p. let x : u ≡ t = same_some (slice_get types to) u s p q ∙ type_same s t e in rw x h;
}

-- what a frame that waits may be given
pub awaited : (code : Code) (f g : Frame) (v : Option Value) → Awaits code f g.function → IsResult (result_of (function_at code g)) v → FrameOf code g → HasMore code f × HoldsResult (types_of (function_at code f)) (result_register (op_at code f)) v
awaited code f g v awaits is ok = (awaits.more, go (function_at code g) refl is (op_at code f) awaits.calls)
  where
    held : (types : List Scalar) (to : Option ℕ) (r : Option Scalar) (w : Option Value) → receives types to r ≡ true → IsResult r w → HoldsResult types to w
    held types None r w e h = tt
    held types (Some to) r None e h = tt
    held types (Some to) None (Some w) e h = elim h [ ]
    held types (Some to) (Some t) (Some w) e h = held_of types to t w (slice_get types to) refl e h

    go : (o : Option FunctionCode) → function_at code g ≡ o → IsResult (result_of o) v → (p : Option Op) → Calls code (types_of (function_at code f)) p g.function → HoldsResult (types_of (function_at code f)) (result_register p) v
    go None q h p calls = absurd (some_at code.functions g.function ok.function q)
    go (Some callee) q h (Some (op.Call to k arguments)) calls = held _ to callee.result v (calls.1 callee q) h
    go (Some callee) q h (Some (op.CallPointer to p result parameters arguments)) calls = held _ to callee.result v (calls.1 callee q) h
    go (Some callee) q h _ calls = elim calls [ ]

front : (xs : List Frame) (x : Frame) → take (length (xs ++ x ∷ []) - 1) (xs ++ x ∷ []) ≡ xs
front xs x =
    let e : length (xs ++ x ∷ []) - 1 ≡ length xs = omega (arith, length-append xs (x ∷ [])) in
    rw e (take-append-le (length xs) xs (x ∷ []) (omega arith) ∙ take_all (length xs) xs (omega arith))

pub popped : (old after : List Frame) (r : Option Frame) → MatchOption r ((old ≡ []) × (after ≡ [])) (λ item. old ≡ after ++ item ∷ []) → after ≡ without_top old
popped old after None h = rw (h.0, h.1) refl
popped old after (Some item) h = rw h (sym (front after item))

-- the caller of the top frame waits for it
pub caller_waits : (code : Code) (frames : List Frame) (f g : Frame) (v : Option Value) → FramesOf code frames → 1 < length frames → top frames ≡ Some g → IsResult (result_of (function_at code g)) v → top (without_top frames) ≡ Some f → HasMore code f × HoldsResult (types_of (function_at code f)) (result_register (op_at code f)) v
caller_waits code frames f g v h two t is e =
    let l : length (without_top frames) ≡ length frames - 1 = length-take-le (length frames - 1) frames (omega arith) in
    let there : slice_get frames (length (without_top frames) - 1) ≡ Some f = get_take frames (length frames - 1) (length (without_top frames) - 1) f e in
    let next : length (without_top frames) - 1 + 1 ≡ length frames - 1 = omega (arith, l) in
    awaited code f g v (h.waits (length (without_top frames) - 1) f g there (rw next t)) is (h.each (length frames - 1) g t)

kept_result : (code : Code) (frames : List Frame) (f : Frame) (to : Option ℕ) (v : Option Value) → FramesOf code frames → top frames ≡ Some f → HasMore code f → HoldsResult (types_of (function_at code f)) to v → FramesOf code (with_top frames (put_result f to v))
kept_result code frames f None v h t more holds = kept_next code frames f h t more
kept_result code frames f (Some to) None h t more holds = kept_next code frames f h t more
kept_result code frames f (Some to) (Some v) h t more holds = kept_put code frames f to v h t more holds

pub kept_resumed : (code : Code) (frames : List Frame) (v : Option Value) → FramesOf code frames → ((f : Frame) → top frames ≡ Some f → HasMore code f × HoldsResult (types_of (function_at code f)) (result_register (op_at code f)) v) → FramesOf code (resumed_top code frames v (top frames))
kept_resumed code frames v h waits = go (top frames) refl
  where
    go : (o : Option Frame) → top frames ≡ o → FramesOf code (resumed_top code frames v o)
    go None e = h
    go (Some f) e = kept_result code frames f (result_register (op_at code f)) v h e (waits f e).0 (waits f e).1

top_none : (frames : List Frame) → 0 < length frames → top frames ≡ None → ⊥
top_none frames lt e = some_at frames (length frames - 1) (omega arith) e

pub resumed_is : (code : Code) (frames after : List Frame) (v : Option Value) → 0 < length frames → ((f : Frame) → top frames ≡ Some f → after ≡ with_top frames (resumed code f v)) → after ≡ resumed_top code frames v (top frames)
resumed_is code frames after v filled h = go (top frames) refl
  where
    go : (o : Option Frame) → top frames ≡ o → after ≡ resumed_top code frames v o
    go None e = absurd (top_none frames filled e)
    go (Some f) e = h f e

-- where another instruction follows, its number fits
pub more_fits : (code : Code) (f : Frame) → CodeOk code → HasMore code f → f.place + 1 < 2 ^ 32
more_fits code f ok more = go (function_at code f) refl (block_at code f) refl more
  where
    go : (o : Option FunctionCode) → function_at code f ≡ o → (p : Option BlockCode) → slice_get (blocks_of (function_at code f)) f.block ≡ p → f.place + 1 < length (ops_of p) → f.place + 1 < 2 ^ 32
    go None q p r lt = absurd (none p (rw q at r) lt)
      where
        none : (p : Option BlockCode) → slice_get (blocks_of None) f.block ≡ p → f.place + 1 < length (ops_of p) → ⊥
        none None r lt = omega arith
        none (Some b) r lt = cc
    go (Some g) q None r lt = absurd (omega arith)
    go (Some g) q (Some b) r lt = let small = ok f.function g q f.block b (rw q at r) in omega arith

-- the register of the result is there
pub result_there : (f : Frame) (types : List Scalar) (to : Option ℕ) (v : Option Value) → AreOf types f.registers → HoldsResult types to v → IfSome to (λ r. IfSome v (λ w. r < length f.registers))
result_there f types None v h holds = tt
result_there f types (Some to) None h holds = tt
result_there f types (Some to) (Some v) h holds = let lt : to < length types = holds.there in let e : length f.registers ≡ length types = h.count in omega arith

pub top_some : (frames : List Frame) → 0 < length frames → (f : Frame) × (top frames ≡ Some f)
top_some frames lt = go (top frames) refl
  where
    go : (o : Option Frame) → top frames ≡ o → (f : Frame) × (top frames ≡ Some f)
    go None e = absurd (top_none frames lt e)
    go (Some f) e = (f, e)

pub put_back : (frames taken_out : List Frame) (f f' : Frame) → top frames ≡ Some f → ((g : Frame) → with_top taken_out g ≡ with_top frames g) → f' ≡ f → with_top taken_out f' ≡ frames
put_back frames taken_out f f' t h e = h f' ∙ ap (with_top frames) e ∙ set_same frames (length frames - 1) f t

-- the place at the end gets the name, and a register holds it
pub kept_name : (f : Frame) (wide after : List ℕ) (count to name : ℕ) → count ≡ length f.own → wide ≡ f.own ++ 0 ∷ [] → after ≡ slice_set wide count name → put (record f { own = after }) to (Pointer (Obj name (pos 0))) ≡ keep f to name
kept_name f wide after count to name n w is =
    let own : after ≡ f.own ++ name ∷ [] = is ∙ rw (n, w) (set-append_seam f.own 0 [] name) in
    ap (λ own. put (record f { own = own }) to (Pointer (Obj name (pos 0)))) own

pub put_back_err : {A : Type 0} (frames taken_out after : List Frame) (f f' : Frame) (r : Result A Fault) → top frames ≡ Some f → ((g : Frame) → with_top taken_out g ≡ with_top frames g) → after ≡ with_top taken_out f' → OnErr r (f' ≡ f) → OnErr r (after ≡ frames)
put_back_err frames taken_out after f f' (Ok a) t h is e = tt
put_back_err frames taken_out after f f' (Err fault) t h is e = is ∙ put_back frames taken_out f f' t h e

pub if_there : (f : Frame) (types : List Scalar) (to : Option ℕ) (v : Value) → AreOf types f.registers → HoldsIf types to v → IfSome to (λ r. r < length f.registers)
if_there f types None v h holds = tt
if_there f types (Some to) v h holds = let lt : to < length types = holds.there in let e : length f.registers ≡ length types = h.count in omega arith

pub kept_keep : {A : Type 0} (code : Code) (frames after : List Frame) (f : Frame) (to name : ℕ) (r : Result A Fault) → FramesOf code frames → top frames ≡ Some f → HasMore code f → Holds (types_of (function_at code f)) to (Pointer (Obj name (pos 0)))
    → OnOk r ((g : Frame) → top frames ≡ Some g → after ≡ with_top frames (keep g to name)) → OnErr r (after ≡ frames) → FramesOf code after
kept_keep code frames after f to name (Ok a) h t more holds ok err =
    let good : FrameOf code f = h.each _ f t in
    let registers = are_set _ _ to (Pointer (Obj name (pos 0))) good.registers holds in
    let there : FrameOf code (keep f to name) = record { function = good.function; block = good.block; phis = let le : phis_of (block_at code f) ≤ f.place = good.phis in omega arith; place = more; registers = registers } in
    rw (ok f t) (frames_set code frames f (keep f to name) h t there refl)
kept_keep code frames after f to name (Err e) h t more holds ok err = rw err h

pub kept_edge : (code : Code) (g : FunctionCode) (frames after : List Frame) (f : Frame) (r : Result (Unit {0}) Fault) → FramesOf code frames → top frames ≡ Some f → function_at code f ≡ Some g
    → OnOk r ((k : Frame) → top frames ≡ Some k → Stands g k frames after) → OnErr r (after ≡ frames) → FramesOf code after
kept_edge code g frames after f (Ok u) h t is ok err = kept_stands code g frames after f h t is (ok f t)
kept_edge code g frames after f (Err e) h t is ok err = rw err h

told_if : {A : Type 0} (b : Bool) (a x : A) (t : TrapWord) → Tells (if b then Ok a else Err t) (Ok x) → x ≡ a
told_if true a x t h = h
told_if false a x t h = elim h [ ]

pub kept_enter : (code : Code) (frames after : List Frame) (f : Frame) (k : ℕ) (registers : List (Option Value)) (b : Bool) (t : TrapWord) (r : Result (Unit {0}) Fault) → FramesOf code frames → top frames ≡ Some f
    → Awaits code f k × ((to : Option ℕ) × Enters code (types_of (function_at code f)) to k registers)
    → Tells (if b then Ok (frames ++ entered code k registers ∷ []) else Err t) (ends after r) → OnErr r (after ≡ frames) → FramesOf code after
kept_enter code frames after f k registers b t (Ok u) h e (awaits, (to, enters)) told err = rw (told_if b _ after t told) (kept_entered code frames f k registers to h e awaits enters)
kept_enter code frames after f k registers b t (Err x) h e enters told err = rw err h

pub edge_acted : (x : Result Frame TrapWord) (frames after : List Frame) (place : ℕ) (output : List ℕ) (r : Result (Unit {0}) Fault) → Tells (then_ x (λ f'. Ok (with_top frames f'))) (ends after r)
    → Tells (then_ x (λ f'. Ok (on_top (control_of frames place output) f'))) (sent (acted_of after place output) (sent (λ _. None) r))
edge_acted (Ok f') frames after place output (Ok u) h = ap (λ fs. acted_of fs place output None) h
edge_acted (Ok f') frames after place output (Err (Trap t)) h = elim h [ ]
edge_acted (Ok f') frames after place output (Err (Check c)) h = elim h [ ]
edge_acted (Ok f') frames after place output (Err Memory) h = tt
edge_acted (Err t) frames after place output (Ok u) h = elim h [ ]
edge_acted (Err t) frames after place output (Err (Trap u)) h = h
edge_acted (Err t) frames after place output (Err (Check c)) h = elim h [ ]
edge_acted (Err t) frames after place output (Err Memory) h = tt

pub edge_stops : (x : Result (List Frame) TrapWord) (after : List Frame) (r : Result (Unit {0}) Fault) (edge : ℕ) → Tells x (ends after r) → IfErr (sent {B = Option Integer} (λ u. None) r) (StopsAt (effect.Edge edge))
edge_stops x after (Ok u) edge h = tt
edge_stops x after (Err (Trap t)) edge h = tt
edge_stops (Ok a) after (Err (Check f)) edge h = elim h [ ]
edge_stops (Err t) after (Err (Check f)) edge h = elim h [ ]
edge_stops x after (Err Memory) edge h = tt
