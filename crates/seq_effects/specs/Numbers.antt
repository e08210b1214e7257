-- What the instructions on integers do, and the comparisons of pointers (LLVM Language Reference, "Binary Operations",
-- "Conversion Operations", "Other Operations").
use Rattle.std.specs.Prelude.{ℕ, ◌==◌, ◌&&◌, nat_lt, nat_le, List, Result, Ok, Err, Bool, true, false, not, ℤ, int_lt, int_le, if◌then◌else◌}
use Rattle.std.specs.Ordering.{int_eq}
use Rattle.int_num.specs.Integer.{Integer}
use Rattle.int_num.specs.Operations.{binary, cast, compare}
use Rattle.int_num.specs.declared.ops.BinOp.{BinOp}
use Rattle.int_num.specs.declared.ops.CastOp.{CastOp}
use Rattle.int_num.specs.declared.ops.CastOp.TheVariants.{Trunc, Zext, Sext}
use Rattle.int_num.specs.declared.ops.Flags.{Flags}
use Rattle.int_num.specs.declared.ops.Pred.{Pred}
use Rattle.int_num.specs.declared.ops.Pred.TheVariants.{Eq, Ne, Ugt, Uge, Ult, Ule, Sgt, Sge, Slt, Sle}
use Rattle.ir_code.specs.declared.op.Scalar.{Scalar}
use Rattle.ir_code.specs.declared.op.Operand.{Operand}
use Rattle.mem_image.specs.declared.object.Pointer.{Pointer as Address}
use Rattle.mem_image.specs.declared.object.Pointer.TheVariants.{Null, Obj, Fun}
use Rattle.mem_image.specs.declared.fault.Trap.{Trap}
use Rattle.mem_image.specs.declared.fault.Trap.TheVariants.{Unreachable, PointerOrder}
use Rattle.seq_effects.specs.declared.state.Value.{Value}
use Rattle.seq_effects.specs.declared.state.Value.TheVariants.{Int, Pointer}
use Rattle.seq_effects.specs.declared.state.Frame.{Frame}
use Rattle.seq_effects.specs.declared.state.Effect.{Effect}
use Rattle.seq_effects.specs.Values.{then_, where_, operand, number, given, trapping, bit}

-- ---- integers

abbrev pub of_one_width : BinOp → Flags → Integer → Integer → Result Integer Trap
of_one_width op flags a b = if a.width == b.width then trapping (binary op flags a b) else Err Unreachable

abbrev pub calculated : List Scalar → Frame → ℕ → BinOp → Flags → Operand → Operand → Result Effect Trap
calculated types f to op flags left right =
    then_ (number f left) (λ a. then_ (number f right) (λ b. then_ (of_one_width op flags a b) (λ n. given types to (Int n))))

-- the width is one, and fits the operation
abbrev pub fits_cast : CastOp → ℕ → ℕ → Bool
fits_cast Trunc old new = nat_lt 0 new && nat_lt new old
fits_cast Zext old new = nat_lt old new && nat_le new 64
fits_cast Sext old new = nat_lt old new && nat_le new 64

abbrev pub at_width : CastOp → Flags → Integer → ℕ → Result Integer Trap
at_width op flags a width = if fits_cast op a.width width then trapping (cast op flags a width) else Err Unreachable

abbrev pub converted : List Scalar → Frame → ℕ → CastOp → Flags → Operand → ℕ → Result Effect Trap
converted types f to op flags value width =
    then_ (number f value) (λ a. then_ (at_width op flags a width) (λ n. given types to (Int n)))

abbrev pub frozen : List Scalar → Frame → ℕ → Operand → Result Effect Trap
frozen types f to value = then_ (operand f value) (given types to)

-- ---- comparisons

-- one place, null, or one function
abbrev pub same_pointer : Address → Address → Bool
same_pointer Null Null = true
same_pointer (Obj m a) (Obj n b) = m == n && int_eq a b
same_pointer (Fun i) (Fun j) = i == j
same_pointer _ _ = false

-- an order of pointers compares offsets as signed numbers
abbrev pub offsets_ordered : Pred → ℤ → ℤ → Bool
offsets_ordered Eq a b = int_eq a b
offsets_ordered Ne a b = not (int_eq a b)
offsets_ordered Ugt a b = int_lt b a
offsets_ordered Uge a b = int_le b a
offsets_ordered Ult a b = int_lt a b
offsets_ordered Ule a b = int_le a b
offsets_ordered Sgt a b = int_lt b a
offsets_ordered Sge a b = int_le b a
offsets_ordered Slt a b = int_lt a b
offsets_ordered Sle a b = int_le a b

-- which only two pointers of one object have
abbrev pub ordered : Pred → Address → Address → Result Bool Trap
ordered pred (Obj m a) (Obj n b) = if m == n then Ok (offsets_ordered pred a b) else Err PointerOrder
ordered pred _ _ = Err PointerOrder

abbrev pub compare_pointers : Pred → Address → Address → Result Bool Trap
compare_pointers Eq p q = Ok (same_pointer p q)
compare_pointers Ne p q = Ok (not (same_pointer p q))
compare_pointers pred p q = ordered pred p q

abbrev pub compare_numbers : Pred → Integer → Integer → Result Bool Trap
compare_numbers pred a b = if a.width == b.width then Ok (compare pred a b) else Err Unreachable

abbrev pub compare_values : Pred → Value → Value → Result Bool Trap
compare_values pred (Int a) (Int b) = compare_numbers pred a b
compare_values pred (Pointer p) (Pointer q) = compare_pointers pred p q
compare_values pred (Int a) (Pointer q) = Err Unreachable
compare_values pred (Pointer p) (Int b) = Err Unreachable

abbrev pub compared : List Scalar → Frame → ℕ → Pred → Operand → Operand → Result Effect Trap
compared types f to pred left right =
    then_ (operand f left) (λ v. then_ (operand f right) (λ w. then_ (compare_values pred v w) (λ b. given types to (Int (bit b)))))

-- ---- conditions

-- the truth that an integer of one bit stands for
abbrev pub truth : Integer → Result Bool Trap
truth n = where_ (n.width == 1) (n.bits == 1)

abbrev pub condition : Frame → Operand → Result Bool Trap
condition f x = then_ (number f x) truth

-- all three operands are read
abbrev pub selected : List Scalar → Frame → ℕ → Operand → Operand → Operand → Result Effect Trap
selected types f to x on_true on_false =
    then_ (condition f x) (λ b. then_ (operand f on_true) (λ v. then_ (operand f on_false) (λ w. given types to (if b then v else w))))
