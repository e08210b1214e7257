-- No instruction but `alloca` gives a frame an object of its own, and none but `ret` ends a frame.
use Rattle.std.proofs.Common.{◌*◌, ◌++◌, ◌==◌, ℕ, List, [], ◌∷◌, Option, Some, None, Bool, true, false, slice_get}
use Rattle.pv_base.specs.Outside.{Text}
use Rattle.pv_base.specs.declared.place.Site.{Site}
use Rattle.pv_base.specs.declared.external.External.{External}
use Rattle.pv_base.specs.declared.external.External.TheVariants as external
use Rattle.int_num.specs.Integer.{low_byte}
use Rattle.int_num.specs.declared.ops.Pred.{Pred}
use Rattle.int_num.specs.declared.ops.Pred.TheVariants.{Sgt, Slt, Ugt, Ult}
use Rattle.ir_code.specs.declared.op.Scalar.{Scalar}
use Rattle.ir_code.specs.declared.op.Scalar.TheVariants as scalar
use Rattle.ir_code.specs.declared.op.Operand.{Operand}
use Rattle.ir_code.specs.declared.op.Op.{Op}
use Rattle.ir_code.specs.declared.op.Op.TheVariants as op
use Rattle.mem_image.specs.declared.object.Pointer.{Pointer as Address}
use Rattle.mem_image.specs.declared.object.Pointer.TheVariants.{Null, Obj, Fun}
use Rattle.mem_image.specs.Calls.{Reply, Bytes, Made, Done}
use Rattle.seq_effects.specs.declared.state.Effect.TheVariants as effect
use Rattle.seq_effects.specs.declared.state.Frame.{Frame}
use Rattle.seq_effects.specs.declared.state.Value.{Value}
use Rattle.seq_effects.specs.declared.state.Value.TheVariants.{Int}
use Rattle.seq_effects.specs.Values.{operand, operands, number, pointer, giving, accepts}
use Rattle.seq_effects.specs.Numbers.{condition}
use Rattle.seq_calls.specs.Format.{formatted, text_args}
use Rattle.seq_externals.specs.Externals.{called_external, request, made_value, malloc, calloc, free, freed, transfer, memset, capped, printing, putchar, taking, getchar, exit, giving_to, extreme, text_at, texts, args_of, puts, printed, formatting, printf, int32}
use Rattle.seq_machine.specs.Meaning.{Here, meaning}
use Rattle.seq_machine.proofs.Quiet.{IsPlain}
use Rattle.global_laws.proofs.Calm.{Calm, CalmOf, AllCalm, calm_tell, calm_with, calm_chain, calm_if, calm_then, calm_where, calm_given, calm_calculated, calm_converted, calm_compared, calm_selected, calm_called, calm_through, calm_load, calm_store, calm_address}

-- ---- the functions outside a module

calm_giving : (to : Option ℕ) (v : Value) → Calm (giving to v)
calm_giving None v = tt
calm_giving (Some to) v = tt

calm_made : (to : Option ℕ) (r : Reply) → CalmOf (made_value to r)
calm_made to (Made p) = calm_giving to _
calm_made to (Bytes word) = tt
calm_made to Done = tt

calm_request : (types : List Scalar) (at : Site) (to : Option ℕ) (size : ℕ) (zeroed : Bool) → AllCalm (request types at to size zeroed)
calm_request types at to size zeroed = calm_if (accepts types to scalar.Pointer) _ _ (λ r. calm_tell _ (calm_made to r)) tt

calm_malloc : (types : List Scalar) (f : Frame) (at : Site) (to : Option ℕ) (xs : List Operand) → AllCalm (malloc types f at to xs)
calm_malloc types f at to (x ∷ []) = calm_with (number f x) _ (λ n. calm_request types at to n.bits false)
calm_malloc types f at to _ = tt

calm_calloc : (types : List Scalar) (f : Frame) (at : Site) (to : Option ℕ) (xs : List Operand) → AllCalm (calloc types f at to xs)
calm_calloc types f at to (x ∷ y ∷ []) = calm_with (number f x) _ (λ n. calm_with (number f y) _ (λ size. calm_request types at to (capped (n.bits * size.bits)) true))
calm_calloc types f at to _ = tt

calm_freed : (at : Site) (p : Address) → AllCalm (freed at p)
calm_freed at Null = tt
calm_freed at (Obj name offset) = λ r. tt
calm_freed at (Fun index) = λ r. tt

calm_free : (f : Frame) (at : Site) (xs : List Operand) → AllCalm (free f at xs)
calm_free f at (x ∷ []) = calm_with (pointer f x) _ (λ p. calm_freed at p)
calm_free f at _ = tt

calm_transfer : (f : Frame) (at : Site) (overlap : Bool) (xs : List Operand) → AllCalm (transfer f at overlap xs)
calm_transfer f at overlap (to ∷ from ∷ len ∷ volatile ∷ []) =
    calm_with (pointer f to) _ (λ p. calm_with (pointer f from) _ (λ q. calm_with (number f len) _ (λ n. calm_with (number f volatile) _ (λ v r. tt))))
calm_transfer f at overlap _ = tt

calm_memset : (f : Frame) (at : Site) (xs : List Operand) → AllCalm (memset f at xs)
calm_memset f at (to ∷ value ∷ len ∷ volatile ∷ []) =
    calm_with (pointer f to) _ (λ p. calm_with (number f value) _ (λ b. calm_with (number f len) _ (λ n. calm_with (number f volatile) _ (λ v. calm_if (b.width == 8) _ _ (λ r. tt) tt))))
calm_memset f at _ = tt

calm_printing : (types : List Scalar) (to : Option ℕ) (text : Text) (n : ℕ) → CalmOf (printing types to text n)
calm_printing types to text n = calm_where (accepts types to (scalar.Int 32)) (effect.Print text to (int32 n)) tt

calm_putchar : (types : List Scalar) (f : Frame) (to : Option ℕ) (xs : List Operand) → CalmOf (putchar types f to xs)
calm_putchar types f to (x ∷ []) = calm_then (number f x) _ (λ n. calm_printing types to (low_byte n ∷ []) (low_byte n))
calm_putchar types f to _ = tt

calm_taking : (to : Option ℕ) (place : ℕ) (b : Option ℕ) → Calm (taking to place b)
calm_taking to place (Some b) = tt
calm_taking to place None = tt

calm_getchar : (types : List Scalar) (to : Option ℕ) (input : Text) (place : ℕ) → CalmOf (getchar types to input place)
calm_getchar types to input place = calm_where (accepts types to (scalar.Int 32)) _ (calm_taking to place (slice_get input place))

calm_exit : (f : Frame) (xs : List Operand) → CalmOf (exit f xs)
calm_exit f (x ∷ []) = calm_then (number f x) _ (λ n. calm_where (n.width == 32) (effect.Exit n) tt)
calm_exit f _ = tt

calm_giving_to : (types : List Scalar) (to : Option ℕ) (v : Value) → CalmOf (giving_to types to v)
calm_giving_to types None v = tt
calm_giving_to types (Some to) v = calm_given types to v

calm_extreme : (types : List Scalar) (f : Frame) (pred : Pred) (to : Option ℕ) (xs : List Operand) → CalmOf (extreme types f pred to xs)
calm_extreme types f pred to (x ∷ y ∷ []) = calm_then (number f x) _ (λ a. calm_then (number f y) _ (λ b. calm_then _ _ (λ n. calm_giving_to types to (Int n))))
calm_extreme types f pred to _ = tt

calm_puts : (types : List Scalar) (f : Frame) (at : Site) (to : Option ℕ) (xs : List Operand) → AllCalm (puts types f at to xs)
calm_puts types f at to (x ∷ []) = calm_with (pointer f x) _ (λ p. calm_chain (text_at at 0 p) _ (λ bytes. calm_tell _ (calm_printing types to (bytes ++ 10 ∷ []) 0)))
calm_puts types f at to _ = tt

calm_printed : (types : List Scalar) (to : Option ℕ) (t : Option Text) → CalmOf (printed types to t)
calm_printed types to (Some t) = calm_printing types to t _
calm_printed types to None = tt

calm_formatting : (types : List Scalar) (at : Site) (to : Option ℕ) (vs : List Value) (format : Text) → AllCalm (formatting types at to vs format)
calm_formatting types at to vs format = calm_chain (texts at vs (text_args format (args_of vs)) (args_of vs)) _ (λ args. calm_tell _ (calm_printed types to (formatted format args)))

calm_printf : (types : List Scalar) (f : Frame) (at : Site) (to : Option ℕ) (xs : List Operand) → AllCalm (printf types f at to xs)
calm_printf types f at to (x ∷ xs) = calm_with (pointer f x) _ (λ p. calm_with (operands f xs) _ (λ vs. calm_chain (text_at at 0 p) _ (λ format. calm_formatting types at to vs format)))
calm_printf types f at to [] = tt

calm_external : (types : List Scalar) (f : Frame) (at : Site) (input : Text) (place : ℕ) (to : Option ℕ) (e : External) (xs : List Operand) → AllCalm (called_external types f at input place to e xs)
unfolding called_external
calm_external types f at input place to external.Malloc xs = calm_malloc types f at to xs
calm_external types f at input place to external.Calloc xs = calm_calloc types f at to xs
calm_external types f at input place to external.Free xs = calm_free f at xs
calm_external types f at input place to external.Putchar xs = calm_tell _ (calm_putchar types f to xs)
calm_external types f at input place to external.Puts xs = calm_puts types f at to xs
calm_external types f at input place to external.Getchar xs = calm_tell _ (calm_getchar types to input place)
calm_external types f at input place to external.Printf xs = calm_printf types f at to xs
calm_external types f at input place to external.Exit xs = calm_tell _ (calm_exit f xs)
calm_external types f at input place to external.Abort xs = tt
calm_external types f at input place to (external.Memcpy n) xs = calm_transfer f at false xs
calm_external types f at input place to (external.Memmove n) xs = calm_transfer f at true xs
calm_external types f at input place to (external.Memset n) xs = calm_memset f at xs
calm_external types f at input place to (external.Smax n) xs = calm_tell _ (calm_extreme types f Sgt to xs)
calm_external types f at input place to (external.Smin n) xs = calm_tell _ (calm_extreme types f Slt to xs)
calm_external types f at input place to (external.Umax n) xs = calm_tell _ (calm_extreme types f Ugt to xs)
calm_external types f at input place to (external.Umin n) xs = calm_tell _ (calm_extreme types f Ult to xs)
calm_external types f at input place to external.LifetimeStart xs = tt
calm_external types f at input place to external.LifetimeEnd xs = tt

-- ---- all instructions but two

pub calm_meaning : (h : Here) (o : Op) → IsPlain o → AllCalm (meaning h o)
unfolding meaning
calm_meaning h (op.Alloca to size) p = elim p [ ]
calm_meaning h (op.Return value) p = elim p [ ]
calm_meaning h (op.Binary to o flags left right) p = calm_tell _ (calm_calculated h to o flags left right)
calm_meaning h (op.Cast to o flags value width) p = calm_tell _ (calm_converted h to o flags value width)
calm_meaning h (op.Freeze to value) p = calm_tell _ (calm_then (operand h.frame value) _ (λ v. calm_given h.function.registers to v))
calm_meaning h (op.Compare to pred left right) p = calm_tell _ (calm_compared h to pred left right)
calm_meaning h (op.Select to c a b) p = calm_tell _ (calm_selected h to c a b)
calm_meaning h op.Phi p = tt
calm_meaning h (op.Load to t x) p = calm_load h.function.registers h.frame h.site to t x
calm_meaning h (op.Store t v x) p = calm_store h.frame h.site t v x
calm_meaning h (op.Address to inbounds base indices) p = calm_address h.function.registers h.frame to inbounds base indices
calm_meaning h (op.Call to k arguments) p = calm_tell _ (calm_called h to k arguments)
calm_meaning h (op.CallPointer to x result parameters arguments) p = calm_tell _ (calm_through h to x result parameters arguments)
calm_meaning h (op.CallExternal to e arguments) p = calm_external h.function.registers h.frame h.site h.input h.place to e arguments
calm_meaning h (op.Jump edge) p = tt
calm_meaning h (op.Branch c a b) p = calm_tell _ (calm_then (condition h.frame c) _ (λ t. tt))
calm_meaning h (op.Switch v d cases) p = calm_tell _ (calm_then (number h.frame v) _ (λ n. tt))
calm_meaning h op.Unreachable p = tt
calm_meaning h op.Stuck p = tt
