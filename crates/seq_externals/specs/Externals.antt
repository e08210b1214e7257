-- What the functions outside a module do (the C library; LLVM Language Reference, "Standard C/C++ Library Intrinsics").
use Rattle.std.specs.Prelude.{ℕ, zero, suc, ◌+◌, ◌*◌, ◌==◌, ◌%◌, ◌^◌, min, List, [], ◌∷◌, ◌++◌, length, map, slice_get, slice_set, Option, None, Some, Result, Ok, Err, Bool, true, false, pos, if◌then◌else◌}
use Rattle.std.specs.Int.{int_wrapping_add, w64}
use Rattle.int_num.specs.Integer.{Integer, low_byte}
use Rattle.int_num.specs.Operations.{of_bits, compare}
use Rattle.int_num.specs.declared.ops.Pred.{Pred}
use Rattle.int_num.specs.declared.ops.Pred.TheVariants.{Sgt, Slt, Ugt, Ult}
use Rattle.pv_base.specs.Outside.{Text}
use Rattle.pv_base.specs.declared.place.Site.{Site}
use Rattle.pv_base.specs.declared.external.External.{External}
use Rattle.pv_base.specs.declared.external.External.TheVariants as external
use Rattle.ir_code.specs.declared.op.Scalar.{Scalar}
use Rattle.ir_code.specs.declared.op.Scalar.TheVariants as scalar
use Rattle.ir_code.specs.declared.op.Operand.{Operand}
use Rattle.mem_image.specs.declared.object.Pointer.{Pointer as Address}
use Rattle.mem_image.specs.declared.object.Pointer.TheVariants.{Null, Obj, Fun}
use Rattle.mem_image.specs.declared.object.Byte.{Byte}
use Rattle.mem_image.specs.declared.object.Byte.TheVariants.{Unset, Num}
use Rattle.mem_image.specs.declared.object.Kind.TheVariants.{Heap}
use Rattle.mem_image.specs.declared.fault.Trap.{Trap}
use Rattle.mem_image.specs.declared.fault.Trap.TheVariants.{Unreachable, UnsetByte, ByteKind, Range, Format, Abort}
use Rattle.mem_image.specs.Calls.{Reply, ReadWord, CopyRange, Fill, Make, Release, Bytes, Made, Done}
use Rattle.seq_calls.specs.declared.show.Arg.{Arg}
use Rattle.seq_calls.specs.declared.show.Arg.TheVariants as arg
use Rattle.seq_calls.specs.Format.{formatted, text_args}
use Rattle.seq_effects.specs.declared.state.Value.{Value}
use Rattle.seq_effects.specs.declared.state.Value.TheVariants.{Int, Pointer}
use Rattle.seq_effects.specs.declared.state.Frame.{Frame}
use Rattle.seq_effects.specs.declared.state.Effect.{Effect}
use Rattle.seq_effects.specs.declared.state.Effect.TheVariants.{Next, Exit, Print, Take}
use Rattle.seq_effects.specs.Script.{Script, Gives, Stops, Asks, tell, with, chain}
use Rattle.seq_effects.specs.Values.{then_, where_, number, pointer, operands, accepts, given, giving}

-- ---- objects

abbrev pub made_value : Option ℕ → Reply → Result Effect Trap
made_value to (Made p) = Ok (giving to (Pointer p))
made_value to (Bytes word) = Err Unreachable
made_value to Done = Err Unreachable

-- a request for so many bytes
abbrev pub request : List Scalar → Site → Option ℕ → ℕ → Bool → Script Effect
request types at to size zeroed =
    if accepts types to scalar.Pointer then Asks (Make at Heap size zeroed) (λ r. tell (made_value to r)) else Stops Unreachable

abbrev pub malloc : List Scalar → Frame → Site → Option ℕ → List Operand → Script Effect
malloc types f at to (x ∷ []) = with (number f x) (λ n. request types at to n.bits false)
malloc types f at to _ = Stops Unreachable

-- a size of 2^64 - 1 where it is greater
abbrev pub capped : ℕ → ℕ
capped n = min n 18446744073709551615

abbrev pub calloc : List Scalar → Frame → Site → Option ℕ → List Operand → Script Effect
calloc types f at to (x ∷ y ∷ []) = with (number f x) (λ n. with (number f y) (λ size. request types at to (capped (n.bits * size.bits)) true))
calloc types f at to _ = Stops Unreachable

abbrev pub freed : Site → Address → Script Effect
freed at Null = Gives Next
freed at (Obj name offset) = Asks (Release at (Obj name offset)) (λ r. Gives Next)
freed at (Fun index) = Asks (Release at (Fun index)) (λ r. Gives Next)

abbrev pub free : Frame → Site → List Operand → Script Effect
free f at (x ∷ []) = with (pointer f x) (freed at)
free f at _ = Stops Unreachable

-- ---- output and input

abbrev pub int32 : ℕ → Value
int32 n = Int (of_bits 32 n)

abbrev pub printing : List Scalar → Option ℕ → Text → ℕ → Result Effect Trap
printing types to text n = where_ (accepts types to (scalar.Int 32)) (Print text to (int32 n))

-- the low byte, which it answers
abbrev pub putchar : List Scalar → Frame → Option ℕ → List Operand → Result Effect Trap
putchar types f to (x ∷ []) = then_ (number f x) (λ n. printing types to (low_byte n ∷ []) (low_byte n))
putchar types f to _ = Err Unreachable

abbrev pub taking : Option ℕ → ℕ → Option ℕ → Effect
taking to place (Some b) = Take (place + 1) to (int32 b)
taking to place None = Take place to (int32 4294967295)

-- the next byte of the input, or -1 at its end
abbrev pub getchar : List Scalar → Option ℕ → Text → ℕ → Result Effect Trap
getchar types to input place = where_ (accepts types to (scalar.Int 32)) (taking to place (slice_get input place))

abbrev pub exit : Frame → List Operand → Result Effect Trap
exit f (x ∷ []) = then_ (number f x) (λ n. where_ (n.width == 32) (Exit n))
exit f _ = Err Unreachable

-- ---- bytes

-- `overlap` says whether the ranges may overlap
abbrev pub transfer : Frame → Site → Bool → List Operand → Script Effect
transfer f at overlap (to ∷ from ∷ len ∷ volatile ∷ []) =
    with (pointer f to) (λ p. with (pointer f from) (λ q. with (number f len) (λ n. with (number f volatile) (λ v. Asks (CopyRange at p q n.bits overlap) (λ r. Gives Next)))))
transfer f at overlap _ = Stops Unreachable

abbrev pub filled : Site → Address → Integer → Integer → Script Effect
filled at p value len = if value.width == 8 then Asks (Fill at p value.bits len.bits) (λ r. Gives Next) else Stops Unreachable

abbrev pub memset : Frame → Site → List Operand → Script Effect
memset f at (to ∷ value ∷ len ∷ volatile ∷ []) =
    with (pointer f to) (λ p. with (number f value) (λ b. with (number f len) (λ n. with (number f volatile) (λ v. filled at p b n))))
memset f at _ = Stops Unreachable

-- ---- the greater and the less

-- the operand for which the predicate holds
abbrev pub chosen : Pred → Integer → Integer → Result Integer Trap
chosen pred a b = if a.width == b.width then Ok (if compare pred a b then a else b) else Err Unreachable

abbrev pub giving_to : List Scalar → Option ℕ → Value → Result Effect Trap
giving_to types None v = Ok Next
giving_to types (Some to) v = given types to v

abbrev pub extreme : List Scalar → Frame → Pred → Option ℕ → List Operand → Result Effect Trap
extreme types f pred to (x ∷ y ∷ []) = then_ (number f x) (λ a. then_ (number f y) (λ b. then_ (chosen pred a b) (λ n. giving_to types to (Int n))))
extreme types f pred to _ = Err Unreachable

-- ---- texts

-- the pointer to the next byte
abbrev pub after : Address → Address
after (Obj name offset) = Obj name (int_wrapping_add w64 offset (pos 1))
after Null = Null
after (Fun index) = Fun index

abbrev pub byte_number : List Byte → Result ℕ Trap
byte_number (Num n ∷ []) = Ok n
byte_number (Unset ∷ []) = Err UnsetByte
byte_number _ = Err ByteKind

abbrev pub byte_of : Reply → Result ℕ Trap
byte_of (Bytes word) = byte_number word
byte_of (Made p) = Err Unreachable
byte_of Done = Err Unreachable

abbrev pub read_byte : Site → ℕ → Address → Script ℕ
read_byte at slot p = Asks (ReadWord at slot p 1) (λ r. tell (byte_of r))

-- ends at a 0, or goes on with one byte more
abbrev pub text_on : (Text → Script Text) → Text → ℕ → Script Text
text_on go_on bytes n = if n == 0 then Gives bytes else go_on (bytes ++ n ∷ [])

-- the text at a pointer, byte by byte up to the 0, which stands among the first so many
abbrev pub text : ℕ → Site → ℕ → Address → Text → Script Text
text zero at slot p bytes = Stops Range
text (suc fuel) at slot p bytes = chain (read_byte at slot p) (text_on (text fuel at slot (after p)) bytes)

-- no object is longer
unfoldable pub text_limit : ℕ
text_limit = 4294967296

abbrev pub text_at : Site → ℕ → Address → Script Text
text_at at slot p = text text_limit at slot p []

abbrev pub puts : List Scalar → Frame → Site → Option ℕ → List Operand → Script Effect
puts types f at to (x ∷ []) = with (pointer f x) (λ p. chain (text_at at 0 p) (λ bytes. tell (printing types to (bytes ++ 10 ∷ []) 0)))
puts types f at to _ = Stops Unreachable

-- ---- printf

abbrev pub arg_of : Value → Arg
arg_of (Int n) = arg.Int n
arg_of (Pointer p) = arg.Other

abbrev pub args_of : List Value → List Arg
args_of vs = map arg_of vs

abbrev pub text_of_value : Site → ℕ → Option Value → Script Text
text_of_value at slot (Some (Pointer p)) = text_at at slot p
text_of_value at slot (Some (Int n)) = Stops Format
text_of_value at slot None = Stops Format

-- the texts that the arguments of these numbers point to, one after another; the i-th argument is read in slot i, from 1
abbrev pub texts : Site → List Value → List ℕ → List Arg → Script (List Arg)
texts at vs [] args = Gives args
texts at vs (k ∷ ks) args = chain (text_of_value at (k + 1) (slice_get vs k)) (λ t. texts at vs ks (slice_set args k (arg.Text t)))

abbrev pub printed : List Scalar → Option ℕ → Option Text → Result Effect Trap
printed types to (Some t) = printing types to t (length t % 2 ^ 32)
printed types to None = Err Format

abbrev pub formatting : List Scalar → Site → Option ℕ → List Value → Text → Script Effect
formatting types at to vs format =
    chain (texts at vs (text_args format (args_of vs)) (args_of vs)) (λ args. tell (printed types to (formatted format args)))

abbrev pub printf : List Scalar → Frame → Site → Option ℕ → List Operand → Script Effect
printf types f at to (x ∷ xs) = with (pointer f x) (λ p. with (operands f xs) (λ vs. chain (text_at at 0 p) (formatting types at to vs)))
printf types f at to [] = Stops Unreachable

-- ---- all of them; the lifetime markers read nothing, and every other function reads its arguments from left to right

unfoldable pub called_external : List Scalar → Frame → Site → Text → ℕ → Option ℕ → External → List Operand → Script Effect
called_external types f at input place to external.Malloc xs = malloc types f at to xs
called_external types f at input place to external.Calloc xs = calloc types f at to xs
called_external types f at input place to external.Free xs = free f at xs
called_external types f at input place to external.Putchar xs = tell (putchar types f to xs)
called_external types f at input place to external.Puts xs = puts types f at to xs
called_external types f at input place to external.Getchar xs = tell (getchar types to input place)
called_external types f at input place to external.Printf xs = printf types f at to xs
called_external types f at input place to external.Exit xs = tell (exit f xs)
called_external types f at input place to external.Abort xs = Stops Abort
called_external types f at input place to (external.Memcpy n) xs = transfer f at false xs
called_external types f at input place to (external.Memmove n) xs = transfer f at true xs
called_external types f at input place to (external.Memset n) xs = memset f at xs
called_external types f at input place to (external.Smax n) xs = tell (extreme types f Sgt to xs)
called_external types f at input place to (external.Smin n) xs = tell (extreme types f Slt to xs)
called_external types f at input place to (external.Umax n) xs = tell (extreme types f Ugt to xs)
called_external types f at input place to (external.Umin n) xs = tell (extreme types f Ult to xs)
called_external types f at input place to external.LifetimeStart xs = Gives Next
called_external types f at input place to external.LifetimeEnd xs = Gives Next
