-- What a step leaves of the memory and of what the frames own.
use Rattle.std.proofs.Common.{◌≡◌, ℕ, List, Option, Result, Ok, Err, Bool, true, false, refl, sym, ap, subst, slice_get, if◌then◌else◌}
use Rattle.std.specs.Prelude.{nat_lt, pos}
use Rattle.pv_base.specs.declared.place.Site.{Site}
use Rattle.pv_base.specs.declared.place.AllocSite.TheVariants.{At}
use Rattle.ir_code.specs.declared.op.Scalar.{Scalar}
use Rattle.ir_code.specs.declared.op.Scalar.TheVariants as scalar
use Rattle.ir_code.specs.declared.op.Operand.{Operand}
use Rattle.ir_code.specs.declared.op.Op.{Op}
use Rattle.ir_code.specs.declared.op.Op.TheVariants as op
use Rattle.ir_code.specs.declared.code.FunctionCode.{FunctionCode}
use Rattle.mem_image.specs.declared.object.Pointer.TheVariants.{Obj}
use Rattle.mem_image.specs.declared.object.Kind.TheVariants.{Stack}
use Rattle.mem_image.specs.declared.fault.Trap.{Trap as TrapWord}
use Rattle.mem_image.specs.declared.fault.Trap.TheVariants.{Unreachable, LiveMemory, Names}
use Rattle.mem_image.specs.Picture.{Picture, IsPicture, find, over, added, fresh, end_frame, name_limit, size_of}
use Rattle.mem_image.specs.Calls.{Call, Reply, Make, EndFrame, Made, Done, does, made_reply, ReadWord, WriteWord, CopyRange, Fill, Release}
use Rattle.mem_image.proofs.Meanings.{calls_keep}
use Rattle.seq_effects.specs.declared.state.Effect.{Effect}
use Rattle.seq_effects.specs.declared.state.Effect.TheVariants as effect
use Rattle.seq_effects.specs.declared.state.Frame.{Frame}
use Rattle.seq_effects.specs.declared.state.Value.{Value}
use Rattle.seq_effects.specs.Script.{Script, Asks, Stops, Gives, Sizes, tell, with, outcome}
use Rattle.seq_effects.specs.Values.{is_some_type}
use Rattle.seq_effects.specs.Flow.{is_result, result_value, returned}
use Rattle.seq_effects.specs.Accesses.{alloca, made_own}
use Rattle.seq_machine.specs.Meaning.{Here, meaning}
use Rattle.seq_machine.specs.Owned.{IsSlot, AreSlots}
use Rattle.seq_machine.proofs.Slots.{Grows, IsQuiet, quiet_call, slot_added, added_grows}
use Rattle.seq_machine.proofs.Quiet.{Plain, IsPlain, plain_meaning, plain_keeps}
use Rattle.seq_machine.proofs.Owns.{Leaves}
use Rattle.global_laws.proofs.Shapes.{Keeps, evolved}
use Rattle.global_laws.proofs.Calls.{EndsSlots, added_evolves, end_evolves, call_evolves}
use Rattle.global_laws.proofs.Calm.{Calm, calm_outcome}
use Rattle.global_laws.proofs.CalmOutside.{calm_meaning}

-- ---- a tree whose calls are quiet

quiet_ends : (m : Picture) (call : Call) → IsQuiet call → EndsSlots m call
quiet_ends m (ReadWord site slot from len) h = tt
quiet_ends m (WriteWord site slot to word) h = tt
quiet_ends m (CopyRange site to from len overlap) h = tt
quiet_ends m (Fill site to value len) h = tt
quiet_ends m (Make site kind size zeroed) h = tt
quiet_ends m (Release site pointer) h = tt
quiet_ends m (EndFrame names) h = elim h [ ]

plain_globals : {A : Type 0} (s : Script A) (m n : Picture) (a : A) → Plain s → IsPicture m → outcome s m ≡ (Ok a, n) → Keeps m n
plain_globals {A = A} (Gives b) m n a h p e = let q : m ≡ n = ap (λ (x : Result A TrapWord × Picture). x.1) e in subst (λ (x : Picture). Keeps m x) q (λ first k. k)
plain_globals {A = A} (Stops t) m n a h p e = let q : Err t ≡ Ok a = ap (λ (x : Result A TrapWord × Picture). x.0) e in absurd (cc)
plain_globals (Sizes q k) m n a h p e = plain_globals (k (size_of m q)) m n a (h (size_of m q)) p e
plain_globals {A = A} (Asks call k) m n a h p e = go (λ r l q f. plain_globals (k r) l n a (h.1 r) q f) (does m call) refl e
  where
    go : ((r : Reply) (l : Picture) → IsPicture l → outcome (k r) l ≡ (Ok a, n) → Keeps l n) → (d : Result (Reply × Picture) TrapWord) → does m call ≡ d → (elim d as (λ _. Result A TrapWord × Picture) [ Ok r ↦ outcome (k r.0) r.1 | Err t ↦ (Err t, m) ]) ≡ (Ok a, n) → Keeps m n
    go again (Ok r) q f =
        let rest = again r.0 r.1 (calls_keep m r.1 call r.0 p (quiet_call call h.0) q) f in
        let one = evolved m r.1 (call_evolves m r.1 call r.0 p (quiet_ends m call h.0) q) in
        λ first kept. rest first (one first kept)
    go again (Err t) q f = let x : Err t ≡ Ok a = ap (λ (x : Result A TrapWord × Picture). x.0) f in absurd (cc)

-- ---- what an instruction leaves of the memory

-- the memory is one, it has what the effect needs, and the globals
abbrev pub Left : Effect → Frame → Picture → Picture → Type 0
Left e f m n = IsPicture n × Leaves e f m n × Keeps m n

calm_leaves : (e : Effect) (f : Frame) (m n : Picture) → Calm e → Grows m n → Leaves e f m n
calm_leaves effect.Next f m n s l = l
calm_leaves (effect.Give to v) f m n s l = l
calm_leaves (effect.Keep to name) f m n s l = elim s [ ]
calm_leaves (effect.Edge i) f m n s l = l
calm_leaves (effect.Enter k registers) f m n s l = l
calm_leaves (effect.Back v) f m n s l = elim s [ ]
calm_leaves (effect.Exit x) f m n s l = l
calm_leaves (effect.Print text to v) f m n s l = l
calm_leaves (effect.Take place to v) f m n s l = l

plain_left : (h : Here) (o : Op) (e : Effect) (m n : Picture) → IsPlain o → IsPicture m → outcome (meaning h o) m ≡ (Ok e, n) → Left e h.frame m n
plain_left h o e m n plain p q =
    let kept = plain_keeps (meaning h o) m n e (plain_meaning h o plain) p q in
    (kept.0, calm_leaves e h.frame m n (calm_outcome (meaning h o) m n e (calm_meaning h o plain) q) kept.1, plain_globals (meaning h o) m n e (plain_meaning h o plain) p q)

abbrev given_effect : Effect → Result Effect TrapWord
given_effect e = Ok e

abbrev ended_at : Result Effect TrapWord → Picture → Result Effect TrapWord × Picture
ended_at r m = (r, m)

gives : (e k : Effect) (n m : Picture) → ended_at (given_effect k) m ≡ ended_at (given_effect e) n → (k ≡ e) × (m ≡ n)
gives e k n m q =
    let s : given_effect k ≡ given_effect e = ap (λ (x : Result Effect TrapWord × Picture). x.0) q in
    let t : k ≡ e = cc in
    (t, ap (λ (x : Result Effect TrapWord × Picture). x.1) q)

abbrev stopped_at : TrapWord → Result Effect TrapWord
stopped_at t = Err t

stopped : (P : Type 0) (e : Effect) (t : TrapWord) (n m : Picture) → ended_at (stopped_at t) m ≡ ended_at (given_effect e) n → P
stopped P e t n m q = let s : stopped_at t ≡ given_effect e = ap (λ (x : Result Effect TrapWord × Picture). x.0) q in absurd (cc)

left_same : (e k : Effect) (f : Frame) (m n l : Picture) → (k ≡ e) × (l ≡ n) → Left k f m l → Left e f m n
left_same e k f m n l s h = let x = subst (λ (y : Effect). Left y f m l) s.0 h in subst (λ (y : Picture). Left e f m y) s.1 x

-- ---- a new stack slot

alloca_made : (m n : Picture) (at : Site) (size : ℕ) (r : Reply) → does m (Make at Stack size false) ≡ Ok (r, n) → (r ≡ Made (Obj m.next (pos 0))) × (n ≡ added m (At at) Stack false (fresh size false))
alloca_made m n at size r e = go (over m size) (nat_lt m.next name_limit) e
  where
    go : (a b : Bool) → made_reply (if a then Err LiveMemory else if b then Ok (Obj m.next (pos 0), added m (At at) Stack false (fresh size false)) else Err Names) ≡ Ok (r, n) → (r ≡ Made (Obj m.next (pos 0))) × (n ≡ added m (At at) Stack false (fresh size false))
    go true b e = absurd (cc)
    go false false e = absurd (cc)
    go false true e =
        let s : (Made (Obj m.next (pos 0)), added m (At at) Stack false (fresh size false)) ≡ (r, n) = cc in
        (sym (ap (λ (x : Reply × Picture). x.0) s), sym (ap (λ (x : Reply × Picture). x.1) s))

alloca_left : (types : List Scalar) (at : Site) (to size : ℕ) (e : Effect) (f : Frame) (m n : Picture) → IsPicture m → outcome (alloca types at to size) m ≡ (Ok e, n) → Left e f m n
alloca_left types at to size e f m n p q = pick (is_some_type (slice_get types to) scalar.Pointer) q
  where
    made : (k : Picture) (r : Reply) → does m (Make at Stack size false) ≡ Ok (r, k) → outcome (tell (made_own to r)) k ≡ (Ok e, n) → Left e f m n
    made k r d q =
        let is = alloca_made m k at size r d in
        let kept : IsPicture k = calls_keep m k (Make at Stack size false) r p tt d in
        let slot = subst (λ (x : Picture). IsSlot (find m.next x.objects)) (sym is.1) (slot_added m (At at) (fresh size false) p) in
        let more = subst (λ (x : Picture). Grows m x) (sym is.1) (added_grows m (At at) (fresh size false)) in
        let keeps = subst (λ (x : Picture). Keeps m x) (sym is.1) (evolved m (added m (At at) Stack false (fresh size false)) (added_evolves m at Stack (fresh size false))) in
        left_same e (effect.Keep to m.next) f m n k (gives e (effect.Keep to m.next) n k (rw is.0 at q)) (kept, (refl, slot, more), keeps)

    asked : (d : Result (Reply × Picture) TrapWord) → does m (Make at Stack size false) ≡ d → (elim d as (λ _. Result Effect TrapWord × Picture) [ Ok r ↦ outcome (tell (made_own to r.0)) r.1 | Err t ↦ (Err t, m) ]) ≡ (Ok e, n) → Left e f m n
    asked (Ok r) d q = made r.1 r.0 d q
    asked (Err t) d q = stopped (Left e f m n) e t n m q

    pick : (b : Bool) → outcome (if b then Asks (Make at Stack size false) (λ r. tell (made_own to r)) else Stops Unreachable) m ≡ (Ok e, n) → Left e f m n
    pick true q = asked (does m (Make at Stack size false)) refl q
    pick false q = stopped (Left e f m n) e Unreachable n m q

left_alloca : (h : Here) (to size : ℕ) (e : Effect) (m n : Picture) → IsPicture m → outcome (meaning h (op.Alloca to size)) m ≡ (Ok e, n) → Left e h.frame m n
unfolding meaning
left_alloca h to size e m n p q = alloca_left h.function.registers h.site to size e h.frame m n p q

-- ---- the end of a frame, whose own names are those of live stack slots

return_left : (g : FunctionCode) (f : Frame) (x : Option Operand) (e : Effect) (m n : Picture) → IsPicture m → AreSlots m f.own → outcome (returned g f x) m ≡ (Ok e, n) → Left e f m n
return_left g f x e m n p own q = read (result_value f x) q
  where
    pick : (v : Option Value) (b : Bool) → outcome (if b then Asks (EndFrame f.own) (λ r. Gives (effect.Back v)) else Stops Unreachable) m ≡ (Ok e, n) → Left e f m n
    pick v true q =
        let kept : IsPicture (end_frame m f.own) = calls_keep m (end_frame m f.own) (EndFrame f.own) Done p tt refl in
        left_same e (effect.Back v) f m n (end_frame m f.own) (gives e (effect.Back v) n (end_frame m f.own) q) (kept, refl, evolved m (end_frame m f.own) (end_evolves m f.own p own))
    pick v false q = stopped (Left e f m n) e Unreachable n m q

    read : (r : Result (Option Value) TrapWord) → outcome (with r (λ v. if is_result g.result v then Asks (EndFrame f.own) (λ r. Gives (effect.Back v)) else Stops Unreachable)) m ≡ (Ok e, n) → Left e f m n
    read (Ok v) q = pick v (is_result g.result v) q
    read (Err t) q = stopped (Left e f m n) e t n m q

left_return : (h : Here) (value : Option Operand) (e : Effect) (m n : Picture) → IsPicture m → AreSlots m h.frame.own → outcome (meaning h (op.Return value)) m ≡ (Ok e, n) → Left e h.frame m n
unfolding meaning
left_return h value e m n p own q = return_left h.function h.frame value e m n p own q

-- ---- all instructions

pub instruction_left : (h : Here) (o : Op) (e : Effect) (m n : Picture) → IsPicture m → AreSlots m h.frame.own → outcome (meaning h o) m ≡ (Ok e, n) → Left e h.frame m n
instruction_left h (op.Alloca to size) e m n p own q = left_alloca h to size e m n p q
instruction_left h (op.Return value) e m n p own q = left_return h value e m n p own q
instruction_left h o e m n p own q = plain_left h o e m n tt p q
