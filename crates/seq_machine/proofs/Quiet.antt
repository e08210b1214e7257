-- Every instruction but `alloca` and `ret` makes no slot and releases none.
use Rattle.std.proofs.Common.{◌≡◌, ℕ, zero, suc, List, [], ◌∷◌, ◌++◌, Option, Some, None, Result, Ok, Err, Bool, true, false, refl, ap, arith, get_or, slice_get, length, ◌<◌, ◌+◌, ◌*◌, ◌==◌, ℤ, if◌then◌else◌}
use Rattle.std.specs.List.{All}
use Rattle.pv_base.specs.Outside.{Text}
use Rattle.pv_base.specs.declared.place.Site.{Site}
use Rattle.pv_base.specs.declared.external.External.{External}
use Rattle.pv_base.specs.declared.external.External.TheVariants as external
use Rattle.ir_code.specs.declared.op.Scalar.{Scalar}
use Rattle.ir_code.specs.declared.op.Scalar.TheVariants as scalar
use Rattle.ir_code.specs.declared.op.Operand.{Operand}
use Rattle.ir_code.specs.declared.op.Index.{Index}
use Rattle.ir_code.specs.declared.op.Op.{Op}
use Rattle.ir_code.specs.declared.op.Op.TheVariants as op
use Rattle.mem_image.specs.declared.object.Byte.{Byte}
use Rattle.mem_image.specs.declared.object.Pointer.{Pointer as Address}
use Rattle.mem_image.specs.declared.object.Pointer.TheVariants.{Null, Obj, Fun}
use Rattle.mem_image.specs.declared.fault.Trap.{Trap}
use Rattle.mem_image.specs.declared.fault.Trap.TheVariants.{Unreachable}
use Rattle.mem_image.specs.Picture.{Picture, PartFits, IsPicture, size_of}
use Rattle.mem_image.specs.Calls.{Reply, does}
use Rattle.mem_image.proofs.Meanings.{calls_keep}
use Rattle.seq_calls.specs.declared.show.Arg.{Arg}
use Rattle.seq_calls.specs.Format.{formatted, text_args}
use Rattle.seq_effects.specs.declared.state.Effect.{Effect}
use Rattle.seq_effects.specs.declared.state.Frame.{Frame}
use Rattle.seq_effects.specs.declared.state.Value.{Value}
use Rattle.seq_effects.specs.declared.state.Value.TheVariants.{Int, Pointer}
use Rattle.seq_effects.specs.Script.{Script, Gives, Stops, Sizes, Asks, tell, with, chain, outcome}
use Rattle.seq_effects.specs.Values.{operand, operands, number, pointer, is_of, accepts}
use Rattle.seq_effects.specs.Words.{word_length, stored, stored_in, value_bytes, pointer_bytes}
use Rattle.seq_effects.specs.Accesses.{load, load_from, store, move, address, distance}
use Rattle.seq_externals.specs.Externals.{called_external, request, malloc, calloc, free, freed, transfer, memset, read_byte, text, text_at, text_limit, puts, printf, formatting, texts, text_of_value, after, capped, args_of, printed}
use Rattle.seq_machine.specs.Meaning.{Here, meaning}
use Rattle.seq_machine.proofs.Slots.{Grows, IsQuiet, quiet_call, quiet_grows}
use Rattle.seq_effects.proofs.WordLoops.{parts}

-- all calls of the tree are quiet
abbrev pub Plain : {A : Type 0} → Script A → Type 0
Plain (Gives a) = Unit {0}
Plain (Stops t) = Unit {0}
Plain (Sizes p k) = (size : Option ℕ) → Plain (k size)
Plain (Asks call k) = IsQuiet call × ((r : Reply) → Plain (k r))

-- names still rise, and every slot stays
abbrev pub Holds : Picture → Picture → Type 0
Holds m n = IsPicture n × Grows m n

pub plain_keeps : {A : Type 0} (s : Script A) (m n : Picture) (a : A) → Plain s → IsPicture m → outcome s m ≡ (Ok a, n) → Holds m n
plain_keeps {A = A} (Gives b) m n a h p e = let q : m ≡ n = ap (λ (x : Result A Trap × Picture). x.1) e in rw (← q) (p, λ name s. s)
plain_keeps {A = A} (Stops t) m n a h p e = let q : Err t ≡ Ok a = ap (λ (x : Result A Trap × Picture). x.0) e in absurd (cc)
plain_keeps (Sizes q k) m n a h p e = plain_keeps (k (size_of m q)) m n a (h (size_of m q)) p e
plain_keeps {A = A} (Asks call k) m n a h p e = go (λ r m' q f. plain_keeps (k r) m' n a (h.1 r) q f) (does m call) refl e
  where
    go : ((r : Reply) (m' : Picture) → IsPicture m' → outcome (k r) m' ≡ (Ok a, n) → Holds m' n) → (d : Result (Reply × Picture) Trap) → does m call ≡ d → (elim d as (λ _. Result A Trap × Picture) [ Ok r ↦ outcome (k r.0) r.1 | Err t ↦ (Err t, m) ]) ≡ (Ok a, n) → Holds m n
    go again (Ok r) q f =
        let kept = again r.0 r.1 (calls_keep m r.1 call r.0 p (quiet_call call h.0) q) f in
        (kept.0, λ name s. kept.1 name (quiet_grows m r.1 call r.0 h.0 q name s))
    go again (Err t) q f = let x : Err t ≡ Ok a = ap (λ (x : Result A Trap × Picture). x.0) f in absurd (cc)

-- ---- trees from trees

plain_tell : {A : Type 0} (x : Result A Trap) → Plain (tell x)
plain_tell (Ok a) = tt
plain_tell (Err t) = tt

plain_with : {A B : Type 0} (x : Result A Trap) (k : A → Script B) → ((a : A) → x ≡ Ok a → Plain (k a)) → Plain (with x k)
plain_with (Ok a) k h = h a refl
plain_with (Err t) k h = tt

plain_chain : {A B : Type 0} (s : Script A) (k : A → Script B) → Plain s → ((a : A) → Plain (k a)) → Plain (chain s k)
plain_chain (Gives a) k h g = g a
plain_chain (Stops t) k h g = tt
plain_chain (Sizes p j) k h g = λ size. plain_chain (j size) k (h size) g
plain_chain (Asks call j) k h g = (h.0, λ r. plain_chain (j r) k (h.1 r) g)

plain_if : {A : Type 0} (b : Bool) (s r : Script A) → Plain s → Plain r → Plain (if b then s else r)
plain_if true s r h g = h
plain_if false s r h g = g

-- ---- words

parts_8 : (p : Address) (k : ℕ) (d : Byte) → k < length (pointer_bytes p) → PartFits (get_or (pointer_bytes p) k d)
parts_8 p zero d lt = omega arith
parts_8 p (suc zero) d lt = omega arith
parts_8 p (suc (suc zero)) d lt = omega arith
parts_8 p (suc (suc (suc zero))) d lt = omega arith
parts_8 p (suc (suc (suc (suc zero)))) d lt = omega arith
parts_8 p (suc (suc (suc (suc (suc zero))))) d lt = omega arith
parts_8 p (suc (suc (suc (suc (suc (suc zero)))))) d lt = omega arith
parts_8 p (suc (suc (suc (suc (suc (suc (suc zero))))))) d lt = omega arith
parts_8 p (suc (suc (suc (suc (suc (suc (suc (suc k)))))))) d lt = absurd (omega arith)

value_parts : (len : ℕ) (v : Value) → All PartFits (value_bytes len v)
value_parts len (Int n) = parts len n.bits
value_parts len (Pointer Null) = parts 8 0
value_parts len (Pointer (Obj name offset)) = parts_8 (Obj name offset)
value_parts len (Pointer (Fun index)) = parts_8 (Fun index)

stored_parts : (t : Scalar) (v : Value) (word : List Byte) → stored t v ≡ Ok word → All PartFits word
stored_parts t v word e = go (is_of v t) (word_length t) e
  where
    go : (b : Bool) (len : Option ℕ) → (if b then stored_in len v else Err Unreachable) ≡ Ok word → All PartFits word
    go true (Some len) e = let q : value_bytes len v ≡ word = cc in rw (← q) (value_parts len v)
    go true None e = absurd (cc)
    go false len e = absurd (cc)

-- ---- instructions on memory

plain_load : (types : List Scalar) (f : Frame) (at : Site) (to : ℕ) (t : Scalar) (x : Operand) → Plain (load types f at to t x)
plain_load types f at to t x = plain_with (pointer f x) _ (λ p e. go p (word_length t))
  where
    go : (p : Address) (len : Option ℕ) → Plain (load_from types at to t p len)
    go p (Some len) = (tt, λ r. plain_tell _)
    go p None = tt

plain_store : (f : Frame) (at : Site) (t : Scalar) (x to : Operand) → Plain (store f at t x to)
plain_store f at t x to =
    plain_with (operand f x) _ (λ v e. plain_with (pointer f to) _ (λ p q. plain_with (stored t v) _ (λ word s. (stored_parts t v word s, λ r. tt))))

plain_address : (types : List Scalar) (f : Frame) (to : ℕ) (inbounds : Bool) (x : Operand) (indices : List Index) → Plain (address types f to inbounds x indices)
plain_address types f to inbounds x indices = plain_with (pointer f x) _ (λ p e. plain_with (distance f indices) _ (λ d q. plain_chain (move inbounds p d) _ (go inbounds p d) (λ r. plain_tell _)))
  where
    go : (inbounds : Bool) (p : Address) (d : ℤ) → Plain (move inbounds p d)
    go true (Obj name offset) d = λ size. plain_tell _
    go true Null d = plain_tell _
    go true (Fun index) d = plain_tell _
    go false p d = plain_tell _

-- ---- the functions outside a module

plain_request : (types : List Scalar) (at : Site) (to : Option ℕ) (size : ℕ) (zeroed : Bool) → Plain (request types at to size zeroed)
plain_request types at to size zeroed = plain_if (accepts types to scalar.Pointer) _ _ (refl, λ r. plain_tell _) tt

plain_malloc : (types : List Scalar) (f : Frame) (at : Site) (to : Option ℕ) (xs : List Operand) → Plain (malloc types f at to xs)
plain_malloc types f at to (x ∷ []) = plain_with (number f x) _ (λ n e. plain_request types at to n.bits false)
plain_malloc types f at to _ = tt

plain_calloc : (types : List Scalar) (f : Frame) (at : Site) (to : Option ℕ) (xs : List Operand) → Plain (calloc types f at to xs)
plain_calloc types f at to (x ∷ y ∷ []) = plain_with (number f x) _ (λ n e. plain_with (number f y) _ (λ size q. plain_request types at to (capped (n.bits * size.bits)) true))
plain_calloc types f at to _ = tt

plain_free : (f : Frame) (at : Site) (xs : List Operand) → Plain (free f at xs)
plain_free f at (x ∷ []) = plain_with (pointer f x) _ (λ p e. go p)
  where
    go : (p : Address) → Plain (freed at p)
    go Null = tt
    go (Obj name offset) = (tt, λ r. tt)
    go (Fun index) = (tt, λ r. tt)
plain_free f at _ = tt

plain_transfer : (f : Frame) (at : Site) (overlap : Bool) (xs : List Operand) → Plain (transfer f at overlap xs)
plain_transfer f at overlap (to ∷ from ∷ len ∷ volatile ∷ []) =
    plain_with (pointer f to) _ (λ p e. plain_with (pointer f from) _ (λ q e. plain_with (number f len) _ (λ n e. plain_with (number f volatile) _ (λ v e. (tt, λ r. tt)))))
plain_transfer f at overlap _ = tt

plain_memset : (f : Frame) (at : Site) (xs : List Operand) → Plain (memset f at xs)
plain_memset f at (to ∷ value ∷ len ∷ volatile ∷ []) =
    plain_with (pointer f to) _ (λ p e. plain_with (number f value) _ (λ b e. plain_with (number f len) _ (λ n e. plain_with (number f volatile) _ (λ v e. plain_if (b.width == 8) _ _ (tt, λ r. tt) tt))))
plain_memset f at _ = tt

plain_text : (fuel : ℕ) (at : Site) (slot : ℕ) (p : Address) (bytes : Text) → Plain (text fuel at slot p bytes)
plain_text zero at slot p bytes = tt
plain_text (suc fuel) at slot p bytes =
    plain_chain (read_byte at slot p) _ (tt, λ r. plain_tell _) (λ n. plain_if (n == 0) (Gives bytes) _ tt (plain_text fuel at slot (after p) (bytes ++ n ∷ [])))

plain_text_at : (at : Site) (slot : ℕ) (p : Address) → Plain (text_at at slot p)
plain_text_at at slot p = plain_text text_limit at slot p []

plain_puts : (types : List Scalar) (f : Frame) (at : Site) (to : Option ℕ) (xs : List Operand) → Plain (puts types f at to xs)
plain_puts types f at to (x ∷ []) = plain_with (pointer f x) _ (λ p e. plain_chain (text_at at 0 p) _ (plain_text_at at 0 p) (λ bytes. plain_tell _))
plain_puts types f at to _ = tt

plain_of_value : (at : Site) (slot : ℕ) (v : Option Value) → Plain (text_of_value at slot v)
plain_of_value at slot (Some (Pointer p)) = plain_text_at at slot p
plain_of_value at slot (Some (Int n)) = tt
plain_of_value at slot None = tt

plain_texts : (at : Site) (vs : List Value) (ks : List ℕ) (args : List Arg) → Plain (texts at vs ks args)
plain_texts at vs [] args = tt
plain_texts at vs (k ∷ ks) args = plain_chain (text_of_value at (k + 1) (slice_get vs k)) _ (plain_of_value at (k + 1) (slice_get vs k)) (λ t. plain_texts at vs ks _)

plain_formatting : (types : List Scalar) (at : Site) (to : Option ℕ) (vs : List Value) (format : Text) → Plain (formatting types at to vs format)
plain_formatting types at to vs format =
    plain_chain {B = Effect} (texts at vs (text_args format (args_of vs)) (args_of vs)) (λ args. tell (printed types to (formatted format args)))
    (plain_texts at vs (text_args format (args_of vs)) (args_of vs))
    (λ args. plain_tell (printed types to (formatted format args)))

plain_printf : (types : List Scalar) (f : Frame) (at : Site) (to : Option ℕ) (xs : List Operand) → Plain (printf types f at to xs)
plain_printf types f at to (x ∷ xs) =
    plain_with (pointer f x) _ (λ p e. plain_with (operands f xs) _ (λ vs q. plain_chain (text_at at 0 p) _ (plain_text_at at 0 p) (plain_formatting types at to vs)))
plain_printf types f at to [] = tt

plain_external : (types : List Scalar) (f : Frame) (at : Site) (input : Text) (place : ℕ) (to : Option ℕ) (e : External) (xs : List Operand) → Plain (called_external types f at input place to e xs)
unfolding called_external
plain_external types f at input place to external.Malloc xs = plain_malloc types f at to xs
plain_external types f at input place to external.Calloc xs = plain_calloc types f at to xs
plain_external types f at input place to external.Free xs = plain_free f at xs
plain_external types f at input place to external.Putchar xs = plain_tell _
plain_external types f at input place to external.Puts xs = plain_puts types f at to xs
plain_external types f at input place to external.Getchar xs = plain_tell _
plain_external types f at input place to external.Printf xs = plain_printf types f at to xs
plain_external types f at input place to external.Exit xs = plain_tell _
plain_external types f at input place to external.Abort xs = tt
plain_external types f at input place to (external.Memcpy n) xs = plain_transfer f at false xs
plain_external types f at input place to (external.Memmove n) xs = plain_transfer f at true xs
plain_external types f at input place to (external.Memset n) xs = plain_memset f at xs
plain_external types f at input place to (external.Smax n) xs = plain_tell _
plain_external types f at input place to (external.Smin n) xs = plain_tell _
plain_external types f at input place to (external.Umax n) xs = plain_tell _
plain_external types f at input place to (external.Umin n) xs = plain_tell _
plain_external types f at input place to external.LifetimeStart xs = tt
plain_external types f at input place to external.LifetimeEnd xs = tt

-- neither `alloca` nor `ret`
abbrev pub IsPlain : Op → Type 0
IsPlain (op.Alloca to size) = ⊥
IsPlain (op.Return value) = ⊥
IsPlain _ = Unit {0}

pub plain_meaning : (h : Here) (o : Op) → IsPlain o → Plain (meaning h o)
unfolding meaning
plain_meaning h (op.Alloca to size) p = elim p [ ]
plain_meaning h (op.Return value) p = elim p [ ]
plain_meaning h op.Phi p = tt
plain_meaning h (op.Load to t x) p = plain_load h.function.registers h.frame h.site to t x
plain_meaning h (op.Store t v x) p = plain_store h.frame h.site t v x
plain_meaning h (op.Address to inbounds base indices) p = plain_address h.function.registers h.frame to inbounds base indices
plain_meaning h (op.CallExternal to e arguments) p = plain_external h.function.registers h.frame h.site h.input h.place to e arguments
plain_meaning h (op.Jump edge) p = tt
plain_meaning h op.Unreachable p = tt
plain_meaning h op.Stuck p = tt
plain_meaning h _ p = plain_tell _
