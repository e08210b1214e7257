-- What an operand gives in a frame, and what a register may hold.
use Rattle.std.specs.Prelude.{ℕ, ◌≡◌, ◌==◌, ◌<◌, ◌≤◌, List, [], ◌∷◌, length, slice_get, Option, None, Some, Result, Ok, Err, Bool, true, false, pos, if◌then◌else◌}
use Rattle.int_num.specs.Integer.{Integer, HasWidth}
use Rattle.int_num.specs.Operations.{of_bits}
use Rattle.int_num.specs.declared.ops.Poison.{Poison}
use Rattle.int_num.specs.declared.ops.Poison.TheVariants as poison
use Rattle.ir_code.specs.declared.op.Scalar.{Scalar}
use Rattle.ir_code.specs.declared.op.Scalar.TheVariants as scalar
use Rattle.ir_code.specs.declared.op.Fixed.{Fixed}
use Rattle.ir_code.specs.declared.op.Fixed.TheVariants as fixed
use Rattle.ir_code.specs.declared.op.Operand.{Operand}
use Rattle.ir_code.specs.declared.op.Operand.TheVariants.{Register, Constant}
use Rattle.mem_image.specs.declared.object.Pointer.{Pointer as Address}
use Rattle.mem_image.specs.declared.object.Pointer.TheVariants.{Null, Obj, Fun}
use Rattle.mem_image.specs.declared.fault.Trap.{Trap}
use Rattle.mem_image.specs.declared.fault.Trap.TheVariants.{UnsetRegister, Unreachable, Overflow, Shift, Divide, Flag, Null as NullTrap}
use Rattle.seq_effects.specs.declared.state.Value.{Value}
use Rattle.seq_effects.specs.declared.state.Value.TheVariants.{Int, Pointer}
use Rattle.seq_effects.specs.declared.state.Frame.{Frame}
use Rattle.seq_effects.specs.declared.state.Effect.{Effect}
use Rattle.seq_effects.specs.declared.state.Effect.TheVariants.{Next, Give, Keep, Edge, Enter, Back, Exit, Print, Take}

-- goes on with the value, or stops at the trap
abbrev pub then_ : {A B : Type 0} → Result A Trap → (A → Result B Trap) → Result B Trap
then_ (Ok a) next = next a
then_ (Err t) next = Err t

-- the value where the test holds, which it does in a checked module
abbrev pub where_ : {A : Type 0} → Bool → A → Result A Trap
where_ holds a = if holds then Ok a else Err Unreachable

-- ---- what is read

abbrev pub register : Option (Option Value) → Result Value Trap
register (Some (Some v)) = Ok v
register (Some None) = Err UnsetRegister
register None = Err UnsetRegister

abbrev pub constant : Fixed → Result Value Trap
constant (fixed.Int n) = Ok (Int n)
constant fixed.Null = Ok (Pointer Null)
constant (fixed.Global index offset) = Ok (Pointer (Obj index offset))
constant (fixed.Function index) = Ok (Pointer (Fun index))
constant fixed.Nowhere = Err NullTrap

-- the value of an operand
abbrev pub operand : Frame → Operand → Result Value Trap
operand f (Register r) = register (slice_get f.registers r)
operand f (Constant c) = constant c

abbrev pub as_number : Value → Result Integer Trap
as_number (Int n) = Ok n
as_number (Pointer p) = Err Unreachable

abbrev pub as_pointer : Value → Result Address Trap
as_pointer (Int n) = Err Unreachable
as_pointer (Pointer p) = Ok p

abbrev pub number : Frame → Operand → Result Integer Trap
number f x = then_ (operand f x) as_number

abbrev pub pointer : Frame → Operand → Result Address Trap
pointer f x = then_ (operand f x) as_pointer

-- the values of all operands, from left to right
abbrev pub operands : Frame → List Operand → Result (List Value) Trap
operands f [] = Ok []
operands f (x ∷ xs) = then_ (operand f x) (λ v. then_ (operands f xs) (λ vs. Ok (v ∷ vs)))

-- ---- what a register may hold

-- the value is of this type
abbrev pub is_of : Value → Scalar → Bool
is_of (Int n) (scalar.Int width) = n.width == width
is_of (Int n) scalar.Pointer = false
is_of (Pointer p) (scalar.Int width) = false
is_of (Pointer p) scalar.Pointer = true

abbrev pub is_type : Scalar → Scalar → Bool
is_type (scalar.Int m) (scalar.Int n) = m == n
is_type (scalar.Int m) scalar.Pointer = false
is_type scalar.Pointer (scalar.Int n) = false
is_type scalar.Pointer scalar.Pointer = true

-- a register of this type, where there is one, may hold the value
abbrev pub may_hold : Option Scalar → Value → Bool
may_hold (Some t) v = is_of v t
may_hold None v = false

abbrev pub is_some_type : Option Scalar → Scalar → Bool
is_some_type (Some s) t = is_type s t
is_some_type None t = false

-- an integer of the type's width, or a pointer
abbrev pub IsOf : Scalar → Value → Type 0
IsOf (scalar.Int width) (Int n) = HasWidth width n
IsOf (scalar.Int width) (Pointer p) = ⊥
IsOf scalar.Pointer (Int n) = ⊥
IsOf scalar.Pointer (Pointer p) = Unit {0}

-- as many registers as types, and each that is set holds a value of its type
pub record AreOf (types : List Scalar) (registers : List (Option Value)) : Type 0 where
  pub count : length registers ≡ length types
  pub each : (i : ℕ) (t : Scalar) (v : Value) → slice_get types i ≡ Some t → slice_get registers i ≡ Some (Some v) → IsOf t v

-- each value is of the type that stands at its place
abbrev pub HaveTypes : List Scalar → List Value → Type 0
HaveTypes types values = (length values ≤ length types) × ((i : ℕ) (t : Scalar) (v : Value) → slice_get types i ≡ Some t → slice_get values i ≡ Some v → IsOf t v)

-- ---- what is given

-- a register is given the value, which has its type
abbrev pub given : List Scalar → ℕ → Value → Result Effect Trap
given types to v = where_ (may_hold (slice_get types to) v) (Give to v)

-- a register, where one is named, has this type
abbrev pub accepts : List Scalar → Option ℕ → Scalar → Bool
accepts types None t = true
accepts types (Some to) t = is_some_type (slice_get types to) t

-- and is given the value
abbrev pub giving : Option ℕ → Value → Effect
giving None v = Next
giving (Some to) v = Give to v

-- the trap of a result that is no number
abbrev pub poison_trap : Poison → Trap
poison_trap poison.Overflow = Overflow
poison_trap poison.Shift = Shift
poison_trap poison.Divide = Divide
poison_trap poison.Flag = Flag

abbrev pub trapping : Result Integer Poison → Result Integer Trap
trapping (Ok n) = Ok n
trapping (Err p) = Err (poison_trap p)

-- a truth as an integer of one bit
abbrev pub bit : Bool → Integer
bit b = of_bits 1 (if b then 1 else 0)

-- a register that there is, of a type that the value has
pub record Holds (types : List Scalar) (to : ℕ) (v : Value) : Type 0 where
  pub there : to < length types
  pub typed : (t : Scalar) → slice_get types to ≡ Some t → IsOf t v

-- the same of a register where one is named
abbrev pub HoldsIf : List Scalar → Option ℕ → Value → Type 0
HoldsIf types None v = Unit {0}
HoldsIf types (Some to) v = Holds types to v

-- what is set has its type; no frame comes or goes, and no frame owns more
abbrev pub Sets : List Scalar → Effect → Type 0
Sets types Next = Unit {0}
Sets types (Give to v) = Holds types to v
Sets types (Keep to name) = ⊥
Sets types (Edge e) = Unit {0}
Sets types (Enter function registers) = ⊥
Sets types (Back v) = ⊥
Sets types (Exit n) = Unit {0}
Sets types (Print text to v) = HoldsIf types to v
Sets types (Take place to v) = HoldsIf types to v

-- the same of a register that is given a stack object
abbrev pub SetsOwn : List Scalar → Effect → Type 0
SetsOwn types (Keep to name) = Holds types to (Pointer (Obj name (pos 0)))
SetsOwn types (Give to v) = Holds types to v
SetsOwn types _ = ⊥
