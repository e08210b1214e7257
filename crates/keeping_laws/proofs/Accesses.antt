-- The instructions on memory.
use Rattle.std.proofs.Common.{◌≡◌, ℕ, zero, suc, ◌<◌, ◌≤◌, ◌==◌, ◌^◌, ◌/◌, ℤ, Bool, true, false, List, [], ◌∷◌, slice_get, Option, Some, None, Ok, Err, arith, refl, subst, sym, if◌then◌else◌, FitsSigned}
use Rattle.std.specs.Prelude.{IfOk, nat_lt, ◌&&◌, ◌+ℤ◌}
use Rattle.std.specs.List.{AllByRecursion}
use Rattle.std.specs.Int.{w64}
use Rattle.std.proofs.lemmas.Int.{SFits-int_wrap}
use Rattle.std.proofs.lemmas.Bool.Decides.{nat_tests}
use Rattle.pv_base.specs.declared.place.Site.{Site}
use Rattle.int_num.specs.Integer.{IsWidth}
use Rattle.int_num.specs.Operations.{of_bits, residue}
use Rattle.ir_code.specs.declared.op.Scalar.{Scalar}
use Rattle.ir_code.specs.declared.op.Scalar.TheVariants as scalar
use Rattle.ir_code.specs.declared.op.Operand.{Operand}
use Rattle.ir_code.specs.declared.op.Index.{Index}
use Rattle.mem_image.specs.declared.object.Pointer.{Pointer as Address}
use Rattle.mem_image.specs.declared.object.Pointer.TheVariants.{Null, Obj, Fun}
use Rattle.mem_image.specs.declared.object.Byte.{Byte}
use Rattle.mem_image.specs.declared.object.Byte.TheVariants.{Unset, Num, Ptr}
use Rattle.mem_image.specs.declared.fault.Trap.TheVariants.{Unreachable, ByteKind, Inbounds}
use Rattle.mem_image.specs.Calls.{Reply, Bytes, Made, Done}
use Rattle.seq_effects.specs.declared.state.Value.{Value}
use Rattle.seq_effects.specs.declared.state.Value.TheVariants.{Int, Pointer}
use Rattle.seq_effects.specs.declared.state.Frame.{Frame}
use Rattle.seq_effects.specs.Values.{operand, pointer, is_of, given, is_some_type}
use Rattle.seq_effects.specs.Words.{word_length, number_bytes, value_bytes, stored, stored_in, number_of, are_zeros, are_parts, pointer_of, number_in, pointer_in, loaded}
use Rattle.seq_effects.specs.Accesses.{loaded_reply, load_from, load, store, own_object, made_own, alloca, distance, wrapped, moved, inside, moved_inside, move, address}
use Rattle.seq_effects.proofs.Wraps.{wrapped_is}
use Rattle.keeping_laws.specs.Keeping.{PointerFits, ByteFits, ValueFits, FrameFits}
use Rattle.keeping_laws.specs.Constants.{OperandFits}
use Rattle.keeping_laws.specs.Trees.{ReplyFits, TreeFits, EffectFits}
use Rattle.keeping_laws.proofs.Trees.{Anything, any_value, then_fits, if_fits, tell_fits, with_fits, chain_fits, if_tree}
use Rattle.keeping_laws.proofs.Numbers.{operand_fits, pointer_fits, given_fits, of_width}

-- ---- words

pub number_bytes_fit : (next len n : ℕ) → AllByRecursion (ByteFits next) (number_bytes len n)
number_bytes_fit next zero n = tt
number_bytes_fit next (suc k) n = (omega arith, number_bytes_fit next k (n / 256))

value_bytes_fit : (next len : ℕ) (v : Value) → ValueFits next v → AllByRecursion (ByteFits next) (value_bytes len v)
value_bytes_fit next len (Int n) h = number_bytes_fit next len n.bits
value_bytes_fit next len (Pointer Null) h = number_bytes_fit next 8 0
value_bytes_fit next len (Pointer (Obj name offset)) h = (h, (h, (h, (h, (h, (h, (h, (h, tt))))))))
value_bytes_fit next len (Pointer (Fun index)) h = (tt, (tt, (tt, (tt, (tt, (tt, (tt, (tt, tt))))))))

stored_fits : (next : ℕ) (t : Scalar) (v : Value) → ValueFits next v → IfOk (stored t v) (AllByRecursion (ByteFits next))
stored_fits next t v h = go (is_of v t) (word_length t)
  where
    go : (b : Bool) (len : Option ℕ) → IfOk (if b then stored_in len v else Err Unreachable) (AllByRecursion (ByteFits next))
    go true (Some len) = value_bytes_fit next len v h
    go true None = tt
    go false len = tt

-- an integer that memory may hold has a width
width_of : (width len : ℕ) → word_length (scalar.Int width) ≡ Some len → IsWidth width
width_of width len e = go (width == 1) (width == 8) (width == 16) (width == 32) (width == 64) refl refl refl refl refl e
  where
    at : (n : ℕ) → (width == n) ≡ true → 0 < n → n ≤ 64 → IsWidth width
    at n q some most = let same : width ≡ n = grind (arith, nat_tests, q) in record { positive = omega (arith, same, some); most = omega (arith, same, most) }

    go : (a b c d x : Bool) → (width == 1) ≡ a → (width == 8) ≡ b → (width == 16) ≡ c → (width == 32) ≡ d → (width == 64) ≡ x → (if a then Some 1 else (if b then Some 1 else (if c then Some 2 else (if d then Some 4 else (if x then Some 8 else None))))) ≡ Some len → IsWidth width
    go true b c d x p q r s t e = at 1 p (omega arith) (omega arith)
    go false true c d x p q r s t e = at 8 q (omega arith) (omega arith)
    go false false true d x p q r s t e = at 16 r (omega arith) (omega arith)
    go false false false true x p q r s t e = at 32 s (omega arith) (omega arith)
    go false false false false true p q r s t e = at 64 t (omega arith) (omega arith)
    go false false false false false p q r s t e = absurd (cc)

number_in_fits : (next width : ℕ) (word : List Byte) (n : Option ℕ) → IsWidth width → IfOk (number_in width word n) (ValueFits next)
number_in_fits next width word None w = tt
number_in_fits next width word (Some n) w = go (nat_lt n (2 ^ width)) refl
  where
    go : (b : Bool) → nat_lt n (2 ^ width) ≡ b → IfOk (if b then Ok (Int (of_bits width n)) else Err ByteKind) (ValueFits next)
    go true e = of_width width n w (grind (arith, nat_tests, e))
    go false e = tt

pointer_in_fits : (next : ℕ) (word : List Byte) → AllByRecursion (ByteFits next) word → IfOk (pointer_in word (pointer_of word)) (ValueFits next)
pointer_in_fits next [] h = tt
pointer_in_fits next (Unset ∷ rest) h = tt
pointer_in_fits next (Num b ∷ rest) h = go (are_zeros 0 (Num b ∷ rest))
  where
    go : (t : Bool) → IfOk (pointer_in (Num b ∷ rest) (if t then Some Null else None)) (ValueFits next)
    go true = tt
    go false = tt
pointer_in_fits next (Ptr part p ∷ rest) h = go (are_parts 0 p (Ptr part p ∷ rest))
  where
    go : (t : Bool) → IfOk (pointer_in (Ptr part p ∷ rest) (if t then Some p else None)) (ValueFits next)
    go true = h.0
    go false = tt

loaded_fits : (next : ℕ) (t : Scalar) (len : ℕ) (word : List Byte) → word_length t ≡ Some len → AllByRecursion (ByteFits next) word → IfOk (loaded t word) (ValueFits next)
loaded_fits next (scalar.Int width) len word e h = number_in_fits next width word (number_of word) (width_of width len e)
loaded_fits next scalar.Pointer len word e h = pointer_in_fits next word h

-- ---- load, store and alloca

replied_fits : (next : ℕ) (types : List Scalar) (to : ℕ) (t : Scalar) (len : ℕ) (r : Reply) → word_length t ≡ Some len → ReplyFits next r → IfOk (loaded_reply types to t r) (EffectFits next)
replied_fits next types to t len (Bytes word) e h = then_fits (ValueFits next) (EffectFits next) (loaded t word) _ (loaded_fits next t len word e h) (given_fits next types to)
replied_fits next types to t len (Made p) e h = tt
replied_fits next types to t len Done e h = tt

pub load_fits : (next : ℕ) (types : List Scalar) (f : Frame) (at : Site) (to : ℕ) (t : Scalar) (x : Operand) → FrameFits next f → OperandFits next x → TreeFits EffectFits next (load types f at to t x)
load_fits next types f at to t x h k = with_fits (PointerFits next) EffectFits next (pointer f x) _ (pointer_fits next f x h k) (λ p q. go p q (word_length t) refl)
  where
    go : (p : Address) → PointerFits next p → (len : Option ℕ) → word_length t ≡ len → TreeFits EffectFits next (load_from types at to t p len)
    go p q (Some len) e = (q, λ later r le fits. tell_fits EffectFits later (loaded_reply types to t r) (replied_fits later types to t len r e fits))
    go p q None e = tt

pub store_fits : (next : ℕ) (f : Frame) (at : Site) (t : Scalar) (x to : Operand) → FrameFits next f → OperandFits next x → OperandFits next to → TreeFits EffectFits next (store f at t x to)
store_fits next f at t x to h k l =
    with_fits (ValueFits next) EffectFits next (operand f x) _ (operand_fits next f x h k)
    (λ v a. with_fits (PointerFits next) EffectFits next (pointer f to) _ (pointer_fits next f to h l)
    (λ p b. with_fits (AllByRecursion (ByteFits next)) EffectFits next (stored t v) _ (stored_fits next t v a) (λ word c. ((b, c), λ later r le q. tt))))

own_fits : (next to : ℕ) (p : Address) → PointerFits next p → EffectFits next (own_object to p)
own_fits next to Null h = tt
own_fits next to (Obj name offset) h = h.0
own_fits next to (Fun index) h = tt

made_fits : (next to : ℕ) (r : Reply) → ReplyFits next r → IfOk (made_own to r) (EffectFits next)
made_fits next to (Made p) h = own_fits next to p h
made_fits next to (Bytes word) h = tt
made_fits next to Done h = tt

pub alloca_fits : (next : ℕ) (types : List Scalar) (at : Site) (to size : ℕ) → TreeFits EffectFits next (alloca types at to size)
alloca_fits next types at to size =
    if_tree EffectFits next (is_some_type (slice_get types to) scalar.Pointer) _ _ (tt, λ later r le q. tell_fits EffectFits later (made_own to r) (made_fits later to r q)) tt

-- ---- addresses

wrapped_fits : (z : ℤ) → FitsSigned w64 (wrapped z)
wrapped_fits z = subst (FitsSigned w64) (sym (wrapped_is z)) (SFits-int_wrap w64 z)

moved_fits : (next : ℕ) (p : Address) (d : ℤ) → PointerFits next p → IfOk (moved p d) (PointerFits next)
moved_fits next Null d h = if_fits (PointerFits next) (residue 64 d == 0) (Ok Null) _ tt tt
moved_fits next (Fun index) d h = if_fits (PointerFits next) (residue 64 d == 0) (Ok (Fun index)) _ tt tt
moved_fits next (Obj name offset) d h = (h.0, wrapped_fits (offset +ℤ d))

move_fits : (next : ℕ) (inbounds : Bool) (p : Address) (d : ℤ) → PointerFits next p → TreeFits PointerFits next (move inbounds p d)
move_fits next true (Obj name offset) d h = (h, λ size. tell_fits PointerFits next (moved_inside name offset d size) (go size))
  where
    go : (size : Option ℕ) → IfOk (moved_inside name offset d size) (PointerFits next)
    go None = tt
    go (Some size) = if_fits (PointerFits next) (inside offset size && inside (offset +ℤ d) size) (moved (Obj name offset) d) (Err Inbounds) (moved_fits next (Obj name offset) d h) tt
move_fits next true Null d h = tell_fits PointerFits next (moved Null d) (moved_fits next Null d h)
move_fits next true (Fun index) d h = tell_fits PointerFits next (moved (Fun index) d) (moved_fits next (Fun index) d h)
move_fits next false p d h = tell_fits PointerFits next (moved p d) (moved_fits next p d h)

pub address_fits : (next : ℕ) (types : List Scalar) (f : Frame) (to : ℕ) (inbounds : Bool) (x : Operand) (indices : List Index) → FrameFits next f → OperandFits next x → TreeFits EffectFits next (address types f to inbounds x indices)
address_fits next types f to inbounds x indices h k =
    with_fits (PointerFits next) EffectFits next (pointer f x) _ (pointer_fits next f x h k)
    (λ p a. with_fits Anything EffectFits next (distance f indices) _ (any_value _)
    (λ d b. chain_fits PointerFits EffectFits next (move inbounds p d) _ (move_fits next inbounds p d a) (λ later q le c. tell_fits EffectFits later (given types to (Pointer q)) (given_fits later types to (Pointer q) c))))
