-- The functions outside a module.
use Rattle.std.proofs.Common.{◌≡◌, ℕ, zero, suc, ◌+◌, ◌*◌, ◌<◌, ◌≤◌, ◌==◌, ◌^◌, ◌%◌, pos, Bool, true, false, List, [], ◌∷◌, ◌++◌, length, slice_get, Option, Some, None, Ok, Err, arith, refl, subst, sym, if◌then◌else◌, FitsSigned}
use Rattle.std.specs.Prelude.{IfOk, ◌+ℤ◌}
use Rattle.std.specs.List.{AllByRecursion}
use Rattle.std.specs.Int.{w64}
use Rattle.std.proofs.lemmas.Int.{SFits-int_wrap, wrapping_add_is}
use Rattle.std.proofs.lemmas.Bool.Decides.{nat_tests}
use Rattle.pv_base.specs.Outside.{Text}
use Rattle.pv_base.specs.declared.place.Site.{Site}
use Rattle.pv_base.specs.declared.external.External.{External}
use Rattle.pv_base.specs.declared.external.External.TheVariants as external
use Rattle.int_num.specs.Integer.{Integer, IsInteger, low_byte}
use Rattle.int_num.specs.Operations.{compare}
use Rattle.int_num.specs.declared.ops.Pred.{Pred}
use Rattle.int_num.specs.declared.ops.Pred.TheVariants.{Sgt, Slt, Ugt, Ult}
use Rattle.ir_code.specs.declared.op.Scalar.{Scalar}
use Rattle.ir_code.specs.declared.op.Scalar.TheVariants as scalar
use Rattle.ir_code.specs.declared.op.Operand.{Operand}
use Rattle.mem_image.specs.declared.object.Pointer.{Pointer as Address}
use Rattle.mem_image.specs.declared.object.Pointer.TheVariants.{Null, Obj, Fun}
use Rattle.mem_image.specs.declared.fault.Trap.TheVariants.{Unreachable}
use Rattle.mem_image.specs.Calls.{Reply, Fill, Bytes, Made, Done}
use Rattle.seq_calls.specs.declared.show.Arg.{Arg}
use Rattle.seq_calls.specs.Format.{formatted, text_args}
use Rattle.seq_effects.specs.declared.state.Value.{Value}
use Rattle.seq_effects.specs.declared.state.Value.TheVariants.{Int, Pointer}
use Rattle.seq_effects.specs.declared.state.Frame.{Frame}
use Rattle.seq_effects.specs.declared.state.Effect.{Effect}
use Rattle.seq_effects.specs.declared.state.Effect.TheVariants.{Next, Print, Exit}
use Rattle.seq_effects.specs.Script.{Gives, Stops, Asks, tell}
use Rattle.seq_effects.specs.Values.{number, pointer, operands, accepts, giving}
use Rattle.seq_externals.specs.Externals.{called_external, made_value, request, malloc, calloc, free, freed, int32, printing, putchar, taking, getchar, exit, transfer, filled, memset, chosen, giving_to, extreme, after, byte_of, read_byte, text, text_at, text_limit, puts, printf, printed, formatting, texts, text_of_value, capped, args_of}
use Rattle.keeping_laws.specs.Keeping.{PointerFits, IsByte, ValueFits, FrameFits}
use Rattle.keeping_laws.specs.Constants.{OperandsFit}
use Rattle.keeping_laws.specs.Trees.{ReplyFits, TreeFits, EffectFits}
use Rattle.keeping_laws.proofs.Lists.{by_get, by_weaker}
use Rattle.keeping_laws.proofs.Pictures.{pointer_later}
use Rattle.keeping_laws.proofs.Trees.{Anything, any_value, then_fits, where_fits, tell_fits, with_fits, chain_fits, if_tree}
use Rattle.keeping_laws.proofs.Numbers.{number_fits, pointer_fits, operands_fit, given_fits, int32_fits}
use Rattle.keeping_laws.proofs.Flow.{value_later}

-- nothing is said of what a tree gives
abbrev Any : {A : Type 0} → ℕ → A → Type 0
Any next a = Unit {0}

-- ---- objects

giving_fits : (next : ℕ) (to : Option ℕ) (v : Value) → ValueFits next v → EffectFits next (giving to v)
giving_fits next None v h = tt
giving_fits next (Some to) v h = h

made_fits : (next : ℕ) (to : Option ℕ) (r : Reply) → ReplyFits next r → IfOk (made_value to r) (EffectFits next)
made_fits next to (Made p) h = giving_fits next to (Pointer p) h
made_fits next to (Bytes word) h = tt
made_fits next to Done h = tt

request_fits : (next : ℕ) (types : List Scalar) (at : Site) (to : Option ℕ) (size : ℕ) (zeroed : Bool) → TreeFits EffectFits next (request types at to size zeroed)
request_fits next types at to size zeroed = if_tree EffectFits next (accepts types to scalar.Pointer) _ _ (tt, λ later r le q. tell_fits EffectFits later (made_value to r) (made_fits later to r q)) tt

malloc_fits : (next : ℕ) (types : List Scalar) (f : Frame) (at : Site) (to : Option ℕ) (xs : List Operand) → TreeFits EffectFits next (malloc types f at to xs)
malloc_fits next types f at to (x ∷ []) = with_fits Anything EffectFits next (number f x) _ (any_value _) (λ n q. request_fits next types at to n.bits false)
malloc_fits next types f at to _ = tt

calloc_fits : (next : ℕ) (types : List Scalar) (f : Frame) (at : Site) (to : Option ℕ) (xs : List Operand) → TreeFits EffectFits next (calloc types f at to xs)
calloc_fits next types f at to (x ∷ y ∷ []) =
    with_fits Anything EffectFits next (number f x) _ (any_value _) (λ n q. with_fits Anything EffectFits next (number f y) _ (any_value _) (λ size r. request_fits next types at to (capped (n.bits * size.bits)) true))
calloc_fits next types f at to _ = tt

freed_fits : (next : ℕ) (at : Site) (p : Address) → PointerFits next p → TreeFits EffectFits next (freed at p)
freed_fits next at Null h = tt
freed_fits next at (Obj name offset) h = (h, λ later r le q. tt)
freed_fits next at (Fun index) h = (tt, λ later r le q. tt)

free_fits : (next : ℕ) (f : Frame) (at : Site) (xs : List Operand) → FrameFits next f → OperandsFit next xs → TreeFits EffectFits next (free f at xs)
free_fits next f at (x ∷ []) h k = with_fits (PointerFits next) EffectFits next (pointer f x) _ (pointer_fits next f x h k.0) (freed_fits next at)
free_fits next f at _ h k = tt

-- ---- output and input

printing_fits : (next : ℕ) (types : List Scalar) (to : Option ℕ) (t : Text) (n : ℕ) → n < 2 ^ 32 → IfOk (printing types to t n) (EffectFits next)
printing_fits next types to t n h = where_fits (EffectFits next) (accepts types to (scalar.Int 32)) (Print t to (int32 n)) (int32_fits n h)

putchar_fits : (next : ℕ) (types : List Scalar) (f : Frame) (to : Option ℕ) (xs : List Operand) → IfOk (putchar types f to xs) (EffectFits next)
putchar_fits next types f to (x ∷ []) = then_fits Anything (EffectFits next) (number f x) _ (any_value _) (λ n q. printing_fits next types to (low_byte n ∷ []) (low_byte n) (let b : low_byte n < 256 = omega arith in omega (arith, b)))
putchar_fits next types f to _ = tt

taking_fits : (next : ℕ) (to : Option ℕ) (input : Text) (place : ℕ) (b : Option ℕ) → AllByRecursion IsByte input → slice_get input place ≡ b → EffectFits next (taking to place b)
taking_fits next to input place (Some b) h e = int32_fits b (let k : b < 256 = by_get IsByte input place b h e in omega (arith, k))
taking_fits next to input place None h e = int32_fits 4294967295 (omega arith)

getchar_fits : (next : ℕ) (types : List Scalar) (to : Option ℕ) (input : Text) (place : ℕ) → AllByRecursion IsByte input → IfOk (getchar types to input place) (EffectFits next)
getchar_fits next types to input place h = where_fits (EffectFits next) (accepts types to (scalar.Int 32)) (taking to place (slice_get input place)) (taking_fits next to input place (slice_get input place) h refl)

exit_fits : (next : ℕ) (f : Frame) (xs : List Operand) → FrameFits next f → OperandsFit next xs → IfOk (exit f xs) (EffectFits next)
exit_fits next f (x ∷ []) h k = then_fits IsInteger (EffectFits next) (number f x) _ (number_fits next f x h k.0) (λ n q. where_fits (EffectFits next) (n.width == 32) (Exit n) q)
exit_fits next f _ h k = tt

-- ---- bytes

transfer_fits : (next : ℕ) (f : Frame) (at : Site) (overlap : Bool) (xs : List Operand) → FrameFits next f → OperandsFit next xs → TreeFits EffectFits next (transfer f at overlap xs)
transfer_fits next f at overlap (to ∷ from ∷ len ∷ volatile ∷ []) h k =
    with_fits (PointerFits next) EffectFits next (pointer f to) _ (pointer_fits next f to h k.0)
    (λ p a. with_fits (PointerFits next) EffectFits next (pointer f from) _ (pointer_fits next f from h k.1.0)
    (λ q b. with_fits Anything EffectFits next (number f len) _ (any_value _)
    (λ n c. with_fits Anything EffectFits next (number f volatile) _ (any_value _) (λ v d. ((a, b), λ later r le s. tt)))))
transfer_fits next f at overlap _ h k = tt

filled_fits : (next : ℕ) (at : Site) (p : Address) (value len : Integer) → PointerFits next p → IsInteger value → TreeFits EffectFits next (filled at p value len)
filled_fits next at p value len h i = go (value.width == 8) refl
  where
    go : (b : Bool) → (value.width == 8) ≡ b → TreeFits EffectFits next (if b then Asks (Fill at p value.bits len.bits) (λ r. Gives Next) else Stops Unreachable)
    go true e =
        let same : value.width ≡ 8 = grind (arith, nat_tests, e) in
        let below : value.bits < 2 ^ 8 = subst (λ w. value.bits < 2 ^ w) same i.bits in
        ((h, omega (arith, below)), λ later r le s. tt)
    go false e = tt

memset_fits : (next : ℕ) (f : Frame) (at : Site) (xs : List Operand) → FrameFits next f → OperandsFit next xs → TreeFits EffectFits next (memset f at xs)
memset_fits next f at (to ∷ value ∷ len ∷ volatile ∷ []) h k =
    with_fits (PointerFits next) EffectFits next (pointer f to) _ (pointer_fits next f to h k.0)
    (λ p a. with_fits IsInteger EffectFits next (number f value) _ (number_fits next f value h k.1.0)
    (λ b c. with_fits Anything EffectFits next (number f len) _ (any_value _)
    (λ n d. with_fits Anything EffectFits next (number f volatile) _ (any_value _) (λ v q. filled_fits next at p b n a c))))
memset_fits next f at _ h k = tt

-- ---- the greater and the less

chosen_fits : (pred : Pred) (a b : Integer) → IsInteger a → IsInteger b → IfOk (chosen pred a b) IsInteger
chosen_fits pred a b i j = go (a.width == b.width) (compare pred a b)
  where
    go : (t u : Bool) → IfOk (if t then Ok (if u then a else b) else Err Unreachable) IsInteger
    go true true = i
    go true false = j
    go false u = tt

giving_to_fits : (next : ℕ) (types : List Scalar) (to : Option ℕ) (v : Value) → ValueFits next v → IfOk (giving_to types to v) (EffectFits next)
giving_to_fits next types None v h = tt
giving_to_fits next types (Some to) v h = given_fits next types to v h

extreme_fits : (next : ℕ) (types : List Scalar) (f : Frame) (pred : Pred) (to : Option ℕ) (xs : List Operand) → FrameFits next f → OperandsFit next xs → IfOk (extreme types f pred to xs) (EffectFits next)
extreme_fits next types f pred to (x ∷ y ∷ []) h k =
    then_fits IsInteger (EffectFits next) (number f x) _ (number_fits next f x h k.0)
    (λ a i. then_fits IsInteger (EffectFits next) (number f y) _ (number_fits next f y h k.1.0)
    (λ b j. then_fits IsInteger (EffectFits next) (chosen pred a b) _ (chosen_fits pred a b i j) (λ n q. giving_to_fits next types to (Int n) q)))
extreme_fits next types f pred to _ h k = tt

-- ---- texts

after_fits : (next : ℕ) (p : Address) → PointerFits next p → PointerFits next (after p)
after_fits next Null h = tt
after_fits next (Obj name offset) h =
    let one : FitsSigned w64 (pos 1) = record { sfits = omega arith } in
    (h.0, subst (FitsSigned w64) (sym (wrapping_add_is w64 offset (pos 1) h.1 one)) (SFits-int_wrap w64 (offset +ℤ pos 1)))
after_fits next (Fun index) h = tt

text_fits : (fuel next : ℕ) (at : Site) (slot : ℕ) (p : Address) (bytes : Text) → PointerFits next p → TreeFits Any next (text fuel at slot p bytes)
text_fits zero next at slot p bytes h = tt
text_fits (suc fuel) next at slot p bytes h =
    chain_fits Any Any next (read_byte at slot p) _ (h, λ later r le q. tell_fits Any later (byte_of r) (any_value _))
    (λ later n le q. if_tree Any later (n == 0) (Gives bytes) _ tt (text_fits fuel later at slot (after p) (bytes ++ n ∷ []) (after_fits later p (pointer_later next later le p h))))

text_at_fits : (next : ℕ) (at : Site) (slot : ℕ) (p : Address) → PointerFits next p → TreeFits Any next (text_at at slot p)
text_at_fits next at slot p h = text_fits text_limit next at slot p [] h

puts_fits : (next : ℕ) (types : List Scalar) (f : Frame) (at : Site) (to : Option ℕ) (xs : List Operand) → FrameFits next f → OperandsFit next xs → TreeFits EffectFits next (puts types f at to xs)
puts_fits next types f at to (x ∷ []) h k =
    with_fits (PointerFits next) EffectFits next (pointer f x) _ (pointer_fits next f x h k.0)
    (λ p a. chain_fits Any EffectFits next (text_at at 0 p) _ (text_at_fits next at 0 p a)
    (λ later bytes le q. tell_fits EffectFits later (printing types to (bytes ++ 10 ∷ []) 0) (printing_fits later types to (bytes ++ 10 ∷ []) 0 (omega arith))))
puts_fits next types f at to _ h k = tt

argument_fits : (next : ℕ) (at : Site) (slot : ℕ) (vs : List Value) (v : Option Value) (k : ℕ) → AllByRecursion (ValueFits next) vs → slice_get vs k ≡ v → TreeFits Any next (text_of_value at slot v)
argument_fits next at slot vs (Some (Pointer p)) k h e = text_at_fits next at slot p (by_get (ValueFits next) vs k (Pointer p) h e)
argument_fits next at slot vs (Some (Int n)) k h e = tt
argument_fits next at slot vs None k h e = tt

values_later : (next later : ℕ) → next ≤ later → (vs : List Value) → AllByRecursion (ValueFits next) vs → AllByRecursion (ValueFits later) vs
values_later next later le vs h = by_weaker (ValueFits next) (ValueFits later) (value_later next later le) vs h

texts_fit : (next : ℕ) (at : Site) (vs : List Value) (ks : List ℕ) (args : List Arg) → AllByRecursion (ValueFits next) vs → TreeFits Any next (texts at vs ks args)
texts_fit next at vs [] args h = tt
texts_fit next at vs (k ∷ ks) args h =
    chain_fits Any Any next (text_of_value at (k + 1) (slice_get vs k)) _ (argument_fits next at (k + 1) vs (slice_get vs k) k h refl)
    (λ later t le q. texts_fit later at vs ks _ (values_later next later le vs h))

printed_fits : (next : ℕ) (types : List Scalar) (to : Option ℕ) (t : Option Text) → IfOk (printed types to t) (EffectFits next)
printed_fits next types to (Some t) = printing_fits next types to t (length t % 2 ^ 32) (omega arith)
printed_fits next types to None = tt

formatting_fits : (next : ℕ) (types : List Scalar) (at : Site) (to : Option ℕ) (vs : List Value) (format : Text) → AllByRecursion (ValueFits next) vs → TreeFits EffectFits next (formatting types at to vs format)
formatting_fits next types at to vs format h =
    chain_fits {B = Effect} Any EffectFits next (texts at vs (text_args format (args_of vs)) (args_of vs)) (λ args. tell (printed types to (formatted format args)))
    (texts_fit next at vs (text_args format (args_of vs)) (args_of vs) h)
    (λ later args le q. tell_fits EffectFits later (printed types to (formatted format args)) (printed_fits later types to (formatted format args)))

printf_fits : (next : ℕ) (types : List Scalar) (f : Frame) (at : Site) (to : Option ℕ) (xs : List Operand) → FrameFits next f → OperandsFit next xs → TreeFits EffectFits next (printf types f at to xs)
printf_fits next types f at to (x ∷ xs) h k =
    with_fits (PointerFits next) EffectFits next (pointer f x) _ (pointer_fits next f x h k.0)
    (λ p a. with_fits (AllByRecursion (ValueFits next)) EffectFits next (operands f xs) _ (operands_fit next f xs h k.1)
    (λ vs b. chain_fits Any EffectFits next (text_at at 0 p) _ (text_at_fits next at 0 p a) (λ later format le q. formatting_fits later types at to vs format (values_later next later le vs b))))
printf_fits next types f at to [] h k = tt

-- ---- all of them

module _ (next : ℕ) (types : List Scalar) (f : Frame) (at : Site) (input : Text) (place : ℕ) (to : Option ℕ) (xs : List Operand) (h : FrameFits next f) (k : OperandsFit next xs) (b : AllByRecursion IsByte input) where
  pub external_fits : (e : External) → TreeFits EffectFits next (called_external types f at input place to e xs)
  unfolding called_external
  external_fits external.Malloc = malloc_fits next types f at to xs
  external_fits external.Calloc = calloc_fits next types f at to xs
  external_fits external.Free = free_fits next f at xs h k
  external_fits external.Putchar = tell_fits EffectFits next (putchar types f to xs) (putchar_fits next types f to xs)
  external_fits external.Puts = puts_fits next types f at to xs h k
  external_fits external.Getchar = tell_fits EffectFits next (getchar types to input place) (getchar_fits next types to input place b)
  external_fits external.Printf = printf_fits next types f at to xs h k
  external_fits external.Exit = tell_fits EffectFits next (exit f xs) (exit_fits next f xs h k)
  external_fits external.Abort = tt
  external_fits (external.Memcpy n) = transfer_fits next f at false xs h k
  external_fits (external.Memmove n) = transfer_fits next f at true xs h k
  external_fits (external.Memset n) = memset_fits next f at xs h k
  external_fits (external.Smax n) = tell_fits EffectFits next (extreme types f Sgt to xs) (extreme_fits next types f Sgt to xs h k)
  external_fits (external.Smin n) = tell_fits EffectFits next (extreme types f Slt to xs) (extreme_fits next types f Slt to xs h k)
  external_fits (external.Umax n) = tell_fits EffectFits next (extreme types f Ugt to xs) (extreme_fits next types f Ugt to xs h k)
  external_fits (external.Umin n) = tell_fits EffectFits next (extreme types f Ult to xs) (extreme_fits next types f Ult to xs h k)
  external_fits external.LifetimeStart = tt
  external_fits external.LifetimeEnd = tt
