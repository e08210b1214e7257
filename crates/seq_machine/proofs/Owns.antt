-- A step keeps what the frames own.
use Rattle.std.proofs.Common.{◌≡◌, ◌∙◌, ℕ, zero, suc, ◌+◌, ◌-◌, ◌<◌, ◌==◌, List, [], ◌∷◌, ◌++◌, length, take, slice_get, slice_set, Option, Some, None, Result, Ok, Err, Bool, true, false, refl, sym, ap, subst, arith, append_assoc, append-nil, if◌then◌else◌}
use Rattle.std.specs.Prelude.{OnErr, IfErr, nat_lt, pos}
use Rattle.std.proofs.lemmas.Option.{slice_get_within}
use Rattle.std.proofs.lemmas.Bool.Decides.{nat_tests}
use Rattle.pv_base.specs.declared.place.Site.{Site}
use Rattle.pv_base.specs.declared.place.AllocSite.TheVariants.{At}
use Rattle.int_num.specs.Integer.{Integer}
use Rattle.ir_code.specs.declared.op.Scalar.{Scalar}
use Rattle.ir_code.specs.declared.op.Scalar.TheVariants as scalar
use Rattle.ir_code.specs.declared.op.Operand.{Operand}
use Rattle.ir_code.specs.declared.op.Op.{Op}
use Rattle.ir_code.specs.declared.op.Op.TheVariants as op
use Rattle.ir_code.specs.declared.code.Edge.{Edge as EdgeCode}
use Rattle.ir_code.specs.declared.code.FunctionCode.{FunctionCode}
use Rattle.ir_code.specs.declared.code.Code.{Code}
use Rattle.mem_image.specs.declared.object.Pointer.TheVariants.{Obj}
use Rattle.mem_image.specs.declared.object.Kind.TheVariants.{Stack}
use Rattle.mem_image.specs.declared.fault.Trap.{Trap as TrapWord}
use Rattle.mem_image.specs.declared.fault.Trap.TheVariants.{Unreachable, LiveMemory, Names}
use Rattle.mem_image.specs.declared.fault.Fault.{Fault}
use Rattle.mem_image.specs.declared.fault.Fault.TheVariants.{Trap, Check, Memory}
use Rattle.pv_base.specs.Outside.{Text}
use Rattle.mem_image.specs.Picture.{Picture, IsPicture, find, over, added, fresh, end_frame, name_limit}
use Rattle.mem_image.specs.Calls.{Call, Reply, Make, EndFrame, Made, Done, Fits, does, made_reply}
use Rattle.mem_image.proofs.Meanings.{calls_keep}
use Rattle.seq_effects.specs.declared.state.Effect.{Effect}
use Rattle.seq_effects.specs.declared.state.Effect.TheVariants as effect
use Rattle.seq_effects.specs.declared.state.Frame.{Frame}
use Rattle.seq_effects.specs.declared.state.Value.{Value}
use Rattle.seq_effects.specs.Script.{Asks, Stops, Gives, tell, with, outcome, Tells, Follows, sent}
use Rattle.seq_effects.specs.Values.{Sets, then_, is_some_type}
use Rattle.seq_effects.specs.Flow.{is_result, result_value, returned, may_stand, IsEntry, IsEntryOf}
use Rattle.seq_effects.specs.Accesses.{alloca, made_own}
use Rattle.seq_machine.specs.Acts.{Control, Acted, acted, acted_of, keep, top, with_top, without_top, next, put, put_if, put_result, resumed, resumed_top, bare_top, back, taken, arrived, move_values, entered, on_top, going_on, ending, output_limit, frame_limit, result_register, op_at, exit_number}
use Rattle.seq_machine.specs.Meaning.{Here, meaning}
use Rattle.seq_effects.specs.Effects.{StopsAt}
use Rattle.seq_machine.specs.Owned.{owned, IsSlot, OwnOf}
use Rattle.seq_effects.specs.Effects.{EffectFor, IsEdge}
use Rattle.seq_machine.proofs.FrameLists.{set_same}
use Rattle.seq_effects.proofs.Follow.{follows_outcome}
use Rattle.seq_machine.proofs.Slots.{Grows, slots_grow, slots_push, slots_end, once_front, once_push, slot_added, added_grows}
use Rattle.seq_machine.proofs.Quiet.{IsPlain, plain_meaning, plain_keeps}

-- ---- lists of frames

owned_at : (frames : List Frame) (i : ℕ) (f : Frame) → i + 1 ≡ length frames → owned (slice_set frames i f) ≡ owned (take i frames) ++ f.own
owned_at [] i f e = absurd (omega (arith, e))
owned_at (x ∷ []) zero f e = append-nil f.own
owned_at (x ∷ y ∷ ys) zero f e = absurd (omega (arith, e))
owned_at (x ∷ xs) (suc i) f e = let h = owned_at xs i f (omega (arith, e)) in ap (λ ns. x.own ++ ns) h ∙ sym (append_assoc x.own (owned (take i xs)) f.own)

last_is : (frames : List Frame) (f : Frame) → top frames ≡ Some f → length frames - 1 + 1 ≡ length frames
last_is frames f t = let lt : length frames - 1 < length frames = slice_get_within frames (length frames - 1) f t in omega arith

with_own : (frames : List Frame) (f g : Frame) → top frames ≡ Some f → owned (with_top frames g) ≡ owned (without_top frames) ++ g.own
with_own frames f g t = owned_at frames (length frames - 1) g (last_is frames f t)

split : (frames : List Frame) (f : Frame) → top frames ≡ Some f → owned frames ≡ owned (without_top frames) ++ f.own
split frames f t = ap owned (sym (set_same frames (length frames - 1) f t)) ∙ with_own frames f f t

pub same_own : (frames : List Frame) (f g : Frame) → top frames ≡ Some f → g.own ≡ f.own → owned (with_top frames g) ≡ owned frames
same_own frames f g t e = with_own frames f g t ∙ ap (λ ns. owned (without_top frames) ++ ns) e ∙ sym (split frames f t)

owned_push : (frames : List Frame) (f : Frame) → f.own ≡ [] → owned (frames ++ f ∷ []) ≡ owned frames
owned_push [] f e = rw e refl
owned_push (x ∷ xs) f e = ap (λ ns. x.own ++ ns) (owned_push xs f e)

-- ---- what an effect needs of the memory before and after it

abbrev pub Leaves : Effect → Frame → Picture → Picture → Type 0
Leaves (effect.Keep to name) f m n = (name ≡ m.next) × IsSlot (find name n.objects) × Grows m n
Leaves (effect.Back v) f m n = n ≡ end_frame m f.own
Leaves _ f m n = Grows m n

grown : (frames after : List Frame) (m n : Picture) → OwnOf frames m → Grows m n → owned after ≡ owned frames → OwnOf after n
grown frames after m n h g e = record { slots = rw e (slots_grow m n (owned frames) g h.slots); once = rw e h.once }

abbrev fine : Acted → Result Acted TrapWord
fine a = Ok a

ok_frames : (x a : Acted) (m : Picture) → OwnOf x.control.frames m → fine x ≡ Ok a → OwnOf a.control.frames m
ok_frames x a m h e = let s : x ≡ a = cc in subst (λ (y : Acted). OwnOf y.control.frames m) s h

put_if_own : (f : Frame) (to : Option ℕ) (v : Value) → (put_if f to v).own ≡ f.own
put_if_own f None v = refl
put_if_own f (Some to) v = refl

result_own : (f : Frame) (to : Option ℕ) (v : Option Value) → (put_result f to v).own ≡ f.own
result_own f None v = refl
result_own f (Some to) None = refl
result_own f (Some to) (Some v) = refl

-- a frame that takes an edge owns what it did
taken_own : (g : FunctionCode) (f : Frame) (e : Option EdgeCode) (k : Frame → Acted) (a : Acted) (P : List ℕ → Type 0) → ((f' : Frame) → f'.own ≡ f.own → fine (k f') ≡ Ok a → P []) → then_ (taken g f e) (λ f'. Ok (k f')) ≡ Ok a → P []
taken_own g f None k a P h q = absurd (cc)
taken_own g f (Some e) k a P h q = go (may_stand (slice_get g.blocks e.to)) (move_values g f e.moves) q
  where
    go : (b : Bool) (vs : Result (List Value) TrapWord) → then_ (if b then then_ vs (λ ws. Ok (arrived g f e ws)) else Err Unreachable) (λ f'. fine (k f')) ≡ Ok a → P []
    go true (Ok vs) q = h (arrived g f e vs) refl q
    go true (Err t) q = absurd (cc)
    go false vs q = absurd (cc)

module _ (code : Code) (g : FunctionCode) (f : Frame) (c : Control) (a : Acted) (m n : Picture) (p : IsPicture m) (h : OwnOf c.frames m) (t : top c.frames ≡ Some f) where
  -- the frames under the top one
  below : OwnOf (without_top c.frames) (end_frame m f.own)
  below =
      let s = rw (split c.frames f t) at h.slots in
      let o = rw (split c.frames f t) at h.once in
      record { slots = slots_end m (owned (without_top c.frames)) f.own s o; once = once_front (owned (without_top c.frames)) f.own o }

  resumed_own : (v : Option Value) (under : Option Frame) → top (without_top c.frames) ≡ under → OwnOf (resumed_top code (without_top c.frames) v under) (end_frame m f.own)
  resumed_own v None e = below
  resumed_own v (Some x) e =
      grown (without_top c.frames) _ (end_frame m f.own) (end_frame m f.own) below (λ name s. s) (same_own (without_top c.frames) x (resumed code x v) e (result_own x (result_register (op_at code x)) v))

  bare_own : length c.frames ≡ 1 → OwnOf (bare_top c.frames (Some f)) (end_frame m f.own)
  bare_own one =
      let none : owned (bare_top c.frames (Some f)) ≡ [] = with_own c.frames f (record f { own = [] }) t ∙ append-nil (owned (without_top c.frames)) ∙ (let z : length c.frames - 1 ≡ 0 = omega (arith, one) in rw z refl) in
      record { slots = rw none tt; once = rw none tt }

  back_own : (v : Option Value) → n ≡ end_frame m f.own → fine (back code c v) ≡ Ok a → OwnOf a.control.frames n
  back_own v e q = rw e (go (length c.frames == 1) refl q)
    where
      go : (b : Bool) → (length c.frames == 1) ≡ b → fine (if b then ending (record c { frames = bare_top c.frames (top c.frames) }) (exit_number v) else going_on (record c { frames = resumed_top code (without_top c.frames) v (top (without_top c.frames)) })) ≡ Ok a → OwnOf a.control.frames (end_frame m f.own)
      go true one q = ok_frames _ a _ (rw t (bare_own (grind (arith, nat_tests)))) q
      go false one q = ok_frames _ a _ (resumed_own v (top (without_top c.frames)) refl) q

  keep_own : (to name : ℕ) → (name ≡ m.next) × IsSlot (find name n.objects) × Grows m n → OwnOf (with_top c.frames (keep f to name)) n
  keep_own to name l =
      let e : owned (with_top c.frames (keep f to name)) ≡ owned c.frames ++ name ∷ [] =
      with_own c.frames f (keep f to name) t ∙ sym (append_assoc (owned (without_top c.frames)) f.own (name ∷ [])) ∙ ap (λ ns. ns ++ name ∷ []) (sym (split c.frames f t)) in
      record {
        slots = rw e (slots_push n (owned c.frames) name (slots_grow m n (owned c.frames) l.2 h.slots) l.1);
        once = rw (e, l.0) (once_push m (owned c.frames) p h.slots h.once);
      }

  if_own : (b : Bool) (x y : Result Acted TrapWord) → (x ≡ Ok a → OwnOf a.control.frames n) → (y ≡ Ok a → OwnOf a.control.frames n) → (if b then x else y) ≡ Ok a → OwnOf a.control.frames n
  if_own true x y u v q = u q
  if_own false x y u v q = v q

  topped : (f' : Frame) → Grows m n → f'.own ≡ f.own → OwnOf (with_top c.frames f') n
  topped f' l e = grown c.frames _ m n h l (same_own c.frames f f' t e)

  -- what an effect leaves of the frames
  pub acted_own : (e : Effect) → Leaves e f m n → acted code g f c e ≡ Ok a → OwnOf a.control.frames n
  acted_own effect.Next l q = ok_frames _ a n (topped (next f) l refl) q
  acted_own (effect.Give to v) l q = ok_frames _ a n (topped (put f to v) l refl) q
  acted_own (effect.Keep to name) l q = ok_frames _ a n (keep_own to name l) q
  acted_own (effect.Edge i) l q = taken_own g f (slice_get g.edges i) (λ f'. on_top c f') a (λ _. OwnOf a.control.frames n) (λ f' e r. ok_frames _ a n (topped f' l e) r) q
  acted_own (effect.Enter k registers) l q =
      if_own (nat_lt (length c.frames) frame_limit) _ _ (λ r. ok_frames _ a n (grown c.frames _ m n h l (owned_push c.frames (entered code k registers) refl)) r) (λ r. absurd (cc)) q
  acted_own (effect.Back v) l q = back_own v l q
  acted_own (effect.Exit x) l q = ok_frames _ a n (grown c.frames _ m n h l refl) q
  acted_own (effect.Print text to v) l q =
      if_own (nat_lt output_limit (length c.output + length text)) _ _ (λ r. absurd (cc)) (λ r. ok_frames _ a n (topped (put_if f to v) l (put_if_own f to v)) r) q
  acted_own (effect.Take place to v) l q = ok_frames _ a n (topped (put_if f to v) l (put_if_own f to v)) q

-- ---- what an instruction leaves of the memory

calm : (types : List Scalar) (e : Effect) (f : Frame) (m n : Picture) → Sets types e → Grows m n → Leaves e f m n
calm types effect.Next f m n s l = l
calm types (effect.Give to v) f m n s l = l
calm types (effect.Keep to name) f m n s l = elim s [ ]
calm types (effect.Edge i) f m n s l = l
calm types (effect.Enter k registers) f m n s l = elim s [ ]
calm types (effect.Back v) f m n s l = elim s [ ]
calm types (effect.Exit x) f m n s l = l
calm types (effect.Print text to v) f m n s l = l
calm types (effect.Take place to v) f m n s l = l

calm_entry : (code : Code) (types : List Scalar) (to : Option ℕ) (k : ℕ) (e : Effect) (f : Frame) (m n : Picture) → IsEntry code types to k e → Grows m n → Leaves e f m n
calm_entry code types to k (effect.Enter j registers) f m n s l = l
calm_entry code types to k _ f m n s l = elim s [ ]

calm_entry_of : (code : Code) (types : List Scalar) (to : Option ℕ) (result : Option Scalar) (parameters : List Scalar) (e : Effect) (f : Frame) (m n : Picture) → IsEntryOf code types to result parameters e → Grows m n → Leaves e f m n
calm_entry_of code types to result parameters (effect.Enter j registers) f m n s l = l
calm_entry_of code types to result parameters _ f m n s l = elim s [ ]

calm_edge : (e : Effect) (f : Frame) (m n : Picture) → IsEdge e → Grows m n → Leaves e f m n
calm_edge (effect.Edge i) f m n s l = l
calm_edge _ f m n s l = elim s [ ]

calm_effect : (code : Code) (g : FunctionCode) (o : Op) (e : Effect) (f : Frame) (m n : Picture) → IsPlain o → EffectFor code g o e → Grows m n → Leaves e f m n
calm_effect code g (op.Alloca to size) e f m n p h l = elim p [ ]
calm_effect code g (op.Return value) e f m n p h l = elim p [ ]
calm_effect code g (op.Call to k arguments) e f m n p h l = calm_entry code g.registers to k e f m n h l
calm_effect code g (op.CallPointer to x result parameters arguments) e f m n p h l = calm_entry_of code g.registers to result parameters e f m n h l
calm_effect code g (op.Jump edge) e f m n p h l = calm_edge e f m n h l
calm_effect code g (op.Branch c a b) e f m n p h l = calm_edge e f m n h l
calm_effect code g (op.Switch v d cases) e f m n p h l = calm_edge e f m n h l
calm_effect code g op.Unreachable e f m n p h l = elim h [ ]
calm_effect code g op.Stuck e f m n p h l = elim h [ ]
calm_effect code g _ e f m n p h l = calm g.registers e f m n h l

abbrev Left : Effect → Frame → Picture → Picture → Type 0
Left e f m n = IsPicture n × Leaves e f m n

alloca_made : (m n : Picture) (at : Site) (size : ℕ) (r : Reply) → does m (Make at Stack size false) ≡ Ok (r, n) → (r ≡ Made (Obj m.next (pos 0))) × (n ≡ added m (At at) Stack false (fresh size false))
alloca_made m n at size r e = go (over m size) (nat_lt m.next name_limit) e
  where
    go : (a b : Bool) → made_reply (if a then Err LiveMemory else if b then Ok (Obj m.next (pos 0), added m (At at) Stack false (fresh size false)) else Err Names) ≡ Ok (r, n) → (r ≡ Made (Obj m.next (pos 0))) × (n ≡ added m (At at) Stack false (fresh size false))
    go true b e = absurd (cc)
    go false false e = absurd (cc)
    go false true e =
        let s : (Made (Obj m.next (pos 0)), added m (At at) Stack false (fresh size false)) ≡ (r, n) = cc in
        (sym (ap (λ (x : Reply × Picture). x.0) s), sym (ap (λ (x : Reply × Picture). x.1) s))

abbrev given_effect : Effect → Result Effect TrapWord
given_effect e = Ok e

abbrev ended_at : Result Effect TrapWord → Picture → Result Effect TrapWord × Picture
ended_at r m = (r, m)

gives : (e k : Effect) (n m : Picture) → ended_at (given_effect k) m ≡ ended_at (given_effect e) n → (k ≡ e) × (m ≡ n)
gives e k n m q =
    let s : given_effect k ≡ given_effect e = ap (λ (x : Result Effect TrapWord × Picture). x.0) q in
    let t : k ≡ e = cc in
    (t, ap (λ (x : Result Effect TrapWord × Picture). x.1) q)

abbrev stopped_at : TrapWord → Result Effect TrapWord
stopped_at t = Err t

stopped : (P : Type 0) (e : Effect) (t : TrapWord) (n m : Picture) → ended_at (stopped_at t) m ≡ ended_at (given_effect e) n → P
stopped P e t n m q = let s : stopped_at t ≡ given_effect e = ap (λ (x : Result Effect TrapWord × Picture). x.0) q in absurd (cc)

left_same : (e k : Effect) (f : Frame) (m n l : Picture) → (k ≡ e) × (l ≡ n) → Left k f m l → Left e f m n
left_same e k f m n l s h = let x = subst (λ y. Left y f m l) s.0 h in subst (λ y. Left e f m y) s.1 x

-- a new slot is left under the next name
alloca_left : (types : List Scalar) (at : Site) (to size : ℕ) (e : Effect) (f : Frame) (m n : Picture) → IsPicture m → outcome (alloca types at to size) m ≡ (Ok e, n) → Left e f m n
alloca_left types at to size e f m n p q = pick (is_some_type (slice_get types to) scalar.Pointer) q
  where
    made : (k : Picture) (r : Reply) → does m (Make at Stack size false) ≡ Ok (r, k) → outcome (tell (made_own to r)) k ≡ (Ok e, n) → Left e f m n
    made k r d q =
        let is = alloca_made m k at size r d in
        let kept : IsPicture k = calls_keep m k (Make at Stack size false) r p tt d in
        let slot = subst (λ (x : Picture). IsSlot (find m.next x.objects)) (sym is.1) (slot_added m (At at) (fresh size false) p) in
        let more = subst (λ (x : Picture). Grows m x) (sym is.1) (added_grows m (At at) (fresh size false)) in
        left_same e (effect.Keep to m.next) f m n k (gives e (effect.Keep to m.next) n k (rw is.0 at q)) (kept, (refl, slot, more))

    asked : (d : Result (Reply × Picture) TrapWord) → does m (Make at Stack size false) ≡ d → (elim d as (λ _. Result Effect TrapWord × Picture) [ Ok r ↦ outcome (tell (made_own to r.0)) r.1 | Err t ↦ (Err t, m) ]) ≡ (Ok e, n) → Left e f m n
    asked (Ok r) d q = made r.1 r.0 d q
    asked (Err t) d q = stopped (Left e f m n) e t n m q

    pick : (b : Bool) → outcome (if b then Asks (Make at Stack size false) (λ r. tell (made_own to r)) else Stops Unreachable) m ≡ (Ok e, n) → Left e f m n
    pick true q = asked (does m (Make at Stack size false)) refl q
    pick false q = stopped (Left e f m n) e Unreachable n m q

-- a frame that returns leaves none of its own
return_left : (g : FunctionCode) (f : Frame) (x : Option Operand) (e : Effect) (m n : Picture) → IsPicture m → outcome (returned g f x) m ≡ (Ok e, n) → Left e f m n
return_left g f x e m n p q = read (result_value f x) q
  where
    pick : (v : Option Value) (b : Bool) → outcome (if b then Asks (EndFrame f.own) (λ r. Gives (effect.Back v)) else Stops Unreachable) m ≡ (Ok e, n) → Left e f m n
    pick v true q =
        let kept : IsPicture (end_frame m f.own) = calls_keep m (end_frame m f.own) (EndFrame f.own) Done p tt refl in
        left_same e (effect.Back v) f m n (end_frame m f.own) (gives e (effect.Back v) n (end_frame m f.own) q) (kept, refl)
    pick v false q = stopped (Left e f m n) e Unreachable n m q

    read : (r : Result (Option Value) TrapWord) → outcome (with r (λ v. if is_result g.result v then Asks (EndFrame f.own) (λ r. Gives (effect.Back v)) else Stops Unreachable)) m ≡ (Ok e, n) → Left e f m n
    read (Ok v) q = pick v (is_result g.result v) q
    read (Err t) q = stopped (Left e f m n) e t n m q

left_alloca : (h : Here) (to size : ℕ) (e : Effect) (m n : Picture) → IsPicture m → outcome (meaning h (op.Alloca to size)) m ≡ (Ok e, n) → Left e h.frame m n
unfolding meaning
left_alloca h to size e m n p q = alloca_left h.function.registers h.site to size e h.frame m n p q

left_return : (h : Here) (value : Option Operand) (e : Effect) (m n : Picture) → IsPicture m → outcome (meaning h (op.Return value)) m ≡ (Ok e, n) → Left e h.frame m n
unfolding meaning
left_return h value e m n p q = return_left h.function h.frame value e m n p q

plain_left : (h : Here) (o : Op) (e : Effect) (m n : Picture) → IsPlain o → EffectFor h.code h.function o e → IsPicture m → outcome (meaning h o) m ≡ (Ok e, n) → Left e h.frame m n
plain_left h o e m n plain is p q =
    let kept = plain_keeps (meaning h o) m n e (plain_meaning h o plain) p q in
    (kept.0, calm_effect h.code h.function o e h.frame m n plain is kept.1)

pub instruction_left : (h : Here) (o : Op) (e : Effect) (m n : Picture) → EffectFor h.code h.function o e → IsPicture m → outcome (meaning h o) m ≡ (Ok e, n) → Left e h.frame m n
instruction_left h (op.Alloca to size) e m n is p q = left_alloca h to size e m n p q
instruction_left h (op.Return value) e m n is p q = left_return h value e m n p q
instruction_left h o e m n is p q = plain_left h o e m n tt is p q

-- ---- an instruction and its effect

told : (x : Result Acted TrapWord) (a : Acted) → Tells x (Ok a) → x ≡ Ok a
told (Ok b) a h = ap Ok (sym h)
told (Err t) a h = elim h [ ]

-- where the effect is not done, no slot was released
leaves_stop : (e : Effect) (f : Frame) (m n : Picture) (fault : Fault) → Leaves e f m n → StopsAt e fault → Grows m n
leaves_stop (effect.Back v) f m n (Trap t) l s = elim s [ ]
leaves_stop (effect.Back v) f m n (Check x) l s = elim s [ ]
leaves_stop (effect.Back v) f m n Memory l s = elim s [ ]
leaves_stop (effect.Keep to name) f m n fault l s = l.2
leaves_stop _ f m n fault l s = l

-- the frames that the code leaves own what they may
pub own_after : (code : Code) (g : FunctionCode) (f : Frame) (c : Control) (e : Effect) (m n : Picture) (frames : List Frame) (place : ℕ) (output : Text) (r : Result (Option Integer) Fault) (P Q : Type 0) → IsPicture m → OwnOf c.frames m → top c.frames ≡ Some f → Leaves e f m n → Tells (acted code g f c e) (sent (acted_of frames place output) r)
    → OnErr r ((frames ≡ c.frames) × P × Q) → IfErr r (StopsAt e) → OwnOf frames n
own_after code g f c e m n frames place output (Ok x) P Q p h t l tells err stops = acted_own code g f c (acted_of frames place output x) m n p h t e l (told (acted code g f c e) (acted_of frames place output x) tells)
own_after code g f c e m n frames place output (Err fault) P Q p h t l tells err stops = grown c.frames frames m n h (leaves_stop e f m n fault l stops) (ap owned err.0)

-- what an instruction did, by its calls
pub follows_left : {M : Type 0} (image : M → Picture) (R : M → Call → Result Reply Fault → M → Type 0) → ((m n : M) (call : Call) (answer : Result Reply Fault) → R m call answer n → Fits (does (image m) call) (image m) answer (image n)) → (h : Here) (o : Op) (e : Effect) (m n : M) → EffectFor h.code h.function o e → IsPicture (image m) → Follows image R (meaning h o) m (Ok e) n → IsPicture (image n) × Leaves e h.frame (image m) (image n)
follows_left image R sound h o e m n is p follows = instruction_left h o e (image m) (image n) is p (follows_outcome image R sound (meaning h o) m (Ok e) n follows)
