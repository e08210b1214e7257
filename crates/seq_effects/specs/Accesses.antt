-- What the instructions on memory do (LLVM Language Reference, "Memory Access and Addressing Operations").
use Rattle.std.specs.Prelude.{ℕ, ◌==◌, ◌&&◌, ◌^◌, List, [], ◌∷◌, slice_get, Option, None, Some, Result, Ok, Err, Bool, true, false, ℤ, pos, ◌+ℤ◌, ◌*ℤ◌, int_le, if◌then◌else◌}
use Rattle.int_num.specs.Integer.{signed}
use Rattle.int_num.specs.Operations.{modulo, residue}
use Rattle.pv_base.specs.declared.place.Site.{Site}
use Rattle.ir_code.specs.declared.op.Scalar.{Scalar}
use Rattle.ir_code.specs.declared.op.Scalar.TheVariants as scalar
use Rattle.ir_code.specs.declared.op.Operand.{Operand}
use Rattle.ir_code.specs.declared.op.Index.{Index}
use Rattle.ir_code.specs.declared.op.Index.TheVariants.{Scaled, Field}
use Rattle.mem_image.specs.declared.object.Pointer.{Pointer as Address}
use Rattle.mem_image.specs.declared.object.Pointer.TheVariants.{Null, Obj, Fun}
use Rattle.mem_image.specs.declared.object.Kind.TheVariants.{Stack}
use Rattle.mem_image.specs.declared.fault.Trap.{Trap}
use Rattle.mem_image.specs.declared.fault.Trap.TheVariants.{Unreachable, Dead, Inbounds, Null as NullTrap}
use Rattle.mem_image.specs.Calls.{Reply, ReadWord, WriteWord, Make, Bytes, Made, Done}
use Rattle.seq_effects.specs.declared.addresses.Total.{Total}
use Rattle.seq_effects.specs.declared.state.Value.TheVariants.{Pointer}
use Rattle.seq_effects.specs.declared.state.Frame.{Frame}
use Rattle.seq_effects.specs.declared.state.Effect.{Effect}
use Rattle.seq_effects.specs.declared.state.Effect.TheVariants.{Next, Give, Keep}
use Rattle.seq_effects.specs.Script.{Script, Gives, Stops, Sizes, Asks, tell, with, chain}
use Rattle.seq_effects.specs.Values.{then_, operand, number, pointer, given, is_some_type}
use Rattle.seq_effects.specs.Words.{word_length, stored, loaded}

-- ---- load and store

abbrev pub loaded_reply : List Scalar → ℕ → Scalar → Reply → Result Effect Trap
loaded_reply types to t (Bytes word) = then_ (loaded t word) (given types to)
loaded_reply types to t (Made p) = Err Unreachable
loaded_reply types to t Done = Err Unreachable

abbrev pub load_from : List Scalar → Site → ℕ → Scalar → Address → Option ℕ → Script Effect
load_from types at to t p (Some len) = Asks (ReadWord at 0 p len) (λ r. tell (loaded_reply types to t r))
load_from types at to t p None = Stops Unreachable

-- one read
abbrev pub load : List Scalar → Frame → Site → ℕ → Scalar → Operand → Script Effect
load types f at to t from = with (pointer f from) (λ p. load_from types at to t p (word_length t))

-- one write
abbrev pub store : Frame → Site → Scalar → Operand → Operand → Script Effect
store f at t value to =
    with (operand f value) (λ v. with (pointer f to) (λ p. with (stored t v) (λ word. Asks (WriteWord at 0 p word) (λ r. Gives Next))))

-- ---- alloca

-- a new stack object is the frame's own
abbrev pub own_object : ℕ → Address → Effect
own_object to (Obj name offset) = Keep to name
own_object to Null = Give to (Pointer Null)
own_object to (Fun index) = Give to (Pointer (Fun index))

abbrev pub made_own : ℕ → Reply → Result Effect Trap
made_own to (Made p) = Ok (own_object to p)
made_own to (Bytes word) = Err Unreachable
made_own to Done = Err Unreachable

abbrev pub alloca : List Scalar → Site → ℕ → ℕ → Script Effect
alloca types at to size =
    if is_some_type (slice_get types to) scalar.Pointer then Asks (Make at Stack size false) (λ r. tell (made_own to r)) else Stops Unreachable

-- ---- getelementptr

-- how far an index moves: a field's offset, or so many elements
abbrev pub term : Frame → Index → Result ℤ Trap
term f (Scaled value stride) = then_ (number f value) (λ n. Ok (signed n *ℤ pos stride))
term f (Field offset) = Ok (pos offset)

-- how far all of them move, from left to right
abbrev pub distance : Frame → List Index → Result ℤ Trap
distance f [] = Ok (pos 0)
distance f (i ∷ is) = then_ (term f i) (λ t. then_ (distance f is) (λ d. Ok (t +ℤ d)))

-- the sum that the code keeps in two parts
abbrev pub exact : Total → ℤ
exact d = d.low +ℤ d.turns *ℤ pos (2 ^ 128)

-- a number modulo 2^64, as a signed one
abbrev pub wrapped : ℤ → ℤ
wrapped z = signed (modulo 64 z)

-- an address that stays where it is, or leaves what has no bytes
abbrev pub staying : Address → ℤ → Result Address Trap
staying p d = if residue 64 d == 0 then Ok p else Err NullTrap

abbrev pub moved : Address → ℤ → Result Address Trap
moved Null d = staying Null d
moved (Fun index) d = staying (Fun index) d
moved (Obj name offset) d = Ok (Obj name (wrapped (offset +ℤ d)))

-- from the start of an object to its end
abbrev pub inside : ℤ → ℕ → Bool
inside offset size = int_le (pos 0) offset && int_le offset (pos size)

-- both places are in the object: the address, and where it is moved to, which is tested before it is wrapped
abbrev pub moved_inside : ℕ → ℤ → ℤ → Option ℕ → Result Address Trap
moved_inside name offset d None = Err Dead
moved_inside name offset d (Some size) = if inside offset size && inside (offset +ℤ d) size then moved (Obj name offset) d else Err Inbounds

abbrev pub move : Bool → Address → ℤ → Script Address
move true (Obj name offset) d = Sizes (Obj name offset) (λ size. tell (moved_inside name offset d size))
move true Null d = tell (moved Null d)
move true (Fun index) d = tell (moved (Fun index) d)
move false p d = tell (moved p d)

abbrev pub address : List Scalar → Frame → ℕ → Bool → Operand → List Index → Script Effect
address types f to inbounds base indices =
    with (pointer f base) (λ p. with (distance f indices) (λ d. chain (move inbounds p d) (λ q. tell (given types to (Pointer q)))))
