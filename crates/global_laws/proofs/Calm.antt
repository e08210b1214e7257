-- Effects that give a frame no object of its own and end none, and instructions that have no others.
use Rattle.std.proofs.Common.{◌≡◌, ℕ, List, Option, Some, None, Result, Ok, Err, Bool, true, false, ap, slice_get, if◌then◌else◌}
use Rattle.pv_base.specs.declared.place.Site.{Site}
use Rattle.int_num.specs.declared.ops.BinOp.{BinOp}
use Rattle.int_num.specs.declared.ops.CastOp.{CastOp}
use Rattle.int_num.specs.declared.ops.Flags.{Flags}
use Rattle.int_num.specs.declared.ops.Pred.{Pred}
use Rattle.ir_code.specs.declared.op.Scalar.{Scalar}
use Rattle.ir_code.specs.declared.op.Operand.{Operand}
use Rattle.ir_code.specs.declared.op.Index.{Index}
use Rattle.ir_code.specs.declared.code.FunctionCode.{FunctionCode}
use Rattle.mem_image.specs.declared.object.Pointer.{Pointer as Address}
use Rattle.mem_image.specs.declared.fault.Trap.{Trap}
use Rattle.mem_image.specs.Picture.{Picture, size_of}
use Rattle.mem_image.specs.Calls.{Reply, does, Bytes, Made, Done}
use Rattle.seq_effects.specs.declared.state.Effect.{Effect}
use Rattle.seq_effects.specs.declared.state.Effect.TheVariants as effect
use Rattle.seq_effects.specs.declared.state.Frame.{Frame}
use Rattle.seq_effects.specs.declared.state.Value.{Value}
use Rattle.seq_effects.specs.declared.state.Value.TheVariants.{Pointer}
use Rattle.seq_effects.specs.Script.{Script, Gives, Stops, Sizes, Asks, tell, with, chain, outcome}
use Rattle.seq_effects.specs.Values.{then_, where_, operand, operands, number, pointer, given, may_hold}
use Rattle.seq_effects.specs.Numbers.{calculated, converted, compared, selected}
use Rattle.seq_effects.specs.Words.{word_length, loaded, stored}
use Rattle.seq_effects.specs.Accesses.{load, load_from, loaded_reply, store, distance, move, address}
use Rattle.seq_effects.specs.Flow.{called, called_through, enter_function, may_enter}
use Rattle.seq_machine.specs.Meaning.{Here}

-- no frame owns more, and none ends
abbrev pub Calm : Effect → Type 0
Calm (effect.Keep to name) = ⊥
Calm (effect.Back v) = ⊥
Calm _ = Unit {0}

-- what is given, where it is no trap
abbrev pub CalmOf : Result Effect Trap → Type 0
CalmOf (Ok e) = Calm e
CalmOf (Err t) = Unit {0}

-- whatever the tree gives is calm
abbrev pub AllCalm : Script Effect → Type 0
AllCalm (Gives e) = Calm e
AllCalm (Stops t) = Unit {0}
AllCalm (Sizes p k) = (size : Option ℕ) → AllCalm (k size)
AllCalm (Asks call k) = (r : Reply) → AllCalm (k r)

abbrev given_effect : Effect → Result Effect Trap
given_effect e = Ok e

pub calm_outcome : (s : Script Effect) (m n : Picture) (e : Effect) → AllCalm s → outcome s m ≡ (Ok e, n) → Calm e
calm_outcome (Gives k) m n e h q =
    let r : given_effect k ≡ given_effect e = ap (λ (x : Result Effect Trap × Picture). x.0) q in
    let t : k ≡ e = cc in
    rw (← t) h
calm_outcome (Stops t) m n e h q = let r : Err t ≡ Ok e = ap (λ (x : Result Effect Trap × Picture). x.0) q in absurd (cc)
calm_outcome (Sizes p k) m n e h q = calm_outcome (k (size_of m p)) m n e (h (size_of m p)) q
calm_outcome (Asks call k) m n e h q = go (λ r l f. calm_outcome (k r) l n e (h r) f) (does m call) q
  where
    go : ((r : Reply) (l : Picture) → outcome (k r) l ≡ (Ok e, n) → Calm e) → (d : Result (Reply × Picture) Trap) → (elim d as (λ _. Result Effect Trap × Picture) [ Ok r ↦ outcome (k r.0) r.1 | Err t ↦ (Err t, m) ]) ≡ (Ok e, n) → Calm e
    go again (Ok r) f = again r.0 r.1 f
    go again (Err t) f = let x : Err t ≡ Ok e = ap (λ (x : Result Effect Trap × Picture). x.0) f in absurd (cc)

-- ---- trees from trees

pub calm_tell : (x : Result Effect Trap) → CalmOf x → AllCalm (tell x)
calm_tell (Ok e) h = h
calm_tell (Err t) h = tt

pub calm_with : {A : Type 0} (x : Result A Trap) (k : A → Script Effect) → ((a : A) → AllCalm (k a)) → AllCalm (with x k)
calm_with (Ok a) k h = h a
calm_with (Err t) k h = tt

pub calm_chain : {A : Type 0} (s : Script A) (k : A → Script Effect) → ((a : A) → AllCalm (k a)) → AllCalm (chain s k)
calm_chain (Gives a) k h = h a
calm_chain (Stops t) k h = tt
calm_chain (Sizes p j) k h = λ size. calm_chain (j size) k h
calm_chain (Asks call j) k h = λ r. calm_chain (j r) k h

pub calm_if : (b : Bool) (s r : Script Effect) → AllCalm s → AllCalm r → AllCalm (if b then s else r)
calm_if true s r h g = h
calm_if false s r h g = g

pub calm_then : {A : Type 0} (x : Result A Trap) (k : A → Result Effect Trap) → ((a : A) → CalmOf (k a)) → CalmOf (then_ x k)
calm_then (Ok a) k h = h a
calm_then (Err t) k h = tt

pub calm_where : (b : Bool) (e : Effect) → Calm e → CalmOf (where_ b e)
calm_where true e h = h
calm_where false e h = tt

pub calm_given : (types : List Scalar) (to : ℕ) (v : Value) → CalmOf (given types to v)
calm_given types to v = calm_where (may_hold (slice_get types to) v) (effect.Give to v) tt

-- ---- instructions without calls

pub calm_calculated : (h : Here) (to : ℕ) (o : BinOp) (flags : Flags) (x y : Operand) → CalmOf (calculated h.function.registers h.frame to o flags x y)
calm_calculated h to o flags x y = calm_then (number h.frame x) _ (λ a. calm_then (number h.frame y) _ (λ b. calm_then _ _ (λ n. calm_given h.function.registers to _)))

pub calm_converted : (h : Here) (to : ℕ) (o : CastOp) (flags : Flags) (x : Operand) (width : ℕ) → CalmOf (converted h.function.registers h.frame to o flags x width)
calm_converted h to o flags x width = calm_then (number h.frame x) _ (λ a. calm_then _ _ (λ n. calm_given h.function.registers to _))

pub calm_compared : (h : Here) (to : ℕ) (pred : Pred) (x y : Operand) → CalmOf (compared h.function.registers h.frame to pred x y)
calm_compared h to pred x y = calm_then (operand h.frame x) _ (λ v. calm_then (operand h.frame y) _ (λ w. calm_then _ _ (λ b. calm_given h.function.registers to _)))

pub calm_selected : (h : Here) (to : ℕ) (c x y : Operand) → CalmOf (selected h.function.registers h.frame to c x y)
calm_selected h to c x y = calm_then _ _ (λ b. calm_then (operand h.frame x) _ (λ v. calm_then (operand h.frame y) _ (λ w. calm_given h.function.registers to _)))

calm_entry : (types : List Scalar) (to : Option ℕ) (k : ℕ) (vs : List Value) (g : Option FunctionCode) → CalmOf (enter_function types to k vs g)
calm_entry types to k vs (Some g) = calm_where (may_enter types to g vs) _ tt
calm_entry types to k vs None = tt

pub calm_called : (h : Here) (to : Option ℕ) (k : ℕ) (xs : List Operand) → CalmOf (called h.code h.function.registers h.frame to k xs)
calm_called h to k xs = calm_then (operands h.frame xs) _ (λ vs. calm_entry h.function.registers to k vs (slice_get h.code.functions k))

pub calm_through : (h : Here) (to : Option ℕ) (x : Operand) (result : Option Scalar) (parameters : List Scalar) (xs : List Operand) → CalmOf (called_through h.code h.function.registers h.frame to x result parameters xs)
calm_through h to x result parameters xs = calm_then (pointer h.frame x) _ (λ p. calm_then (operands h.frame xs) _ (λ vs. calm_then _ _ (λ k. calm_entry h.function.registers to k vs (slice_get h.code.functions k))))

-- ---- instructions on memory

pub calm_load : (types : List Scalar) (f : Frame) (at : Site) (to : ℕ) (t : Scalar) (x : Operand) → AllCalm (load types f at to t x)
calm_load types f at to t x = calm_with (pointer f x) _ (λ p. go p (word_length t))
  where
    replied : (r : Reply) → CalmOf (loaded_reply types to t r)
    replied (Bytes word) = calm_then (loaded t word) _ (λ v. calm_given types to v)
    replied (Made p) = tt
    replied Done = tt

    go : (p : Address) (len : Option ℕ) → AllCalm (load_from types at to t p len)
    go p (Some len) = λ r. calm_tell _ (replied r)
    go p None = tt

pub calm_store : (f : Frame) (at : Site) (t : Scalar) (x to : Operand) → AllCalm (store f at t x to)
calm_store f at t x to = calm_with (operand f x) _ (λ v. calm_with (pointer f to) _ (λ p. calm_with (stored t v) _ (λ word. (λ r. tt))))

pub calm_address : (types : List Scalar) (f : Frame) (to : ℕ) (inbounds : Bool) (x : Operand) (indices : List Index) → AllCalm (address types f to inbounds x indices)
calm_address types f to inbounds x indices = calm_with (pointer f x) _ (λ p. calm_with (distance f indices) _ (λ d. calm_chain (move inbounds p d) _ (λ q. calm_tell _ (calm_given types to (Pointer q)))))
