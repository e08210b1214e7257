-- Instructions as pieces, after the LLVM Language Reference, "Instruction Reference".
use Rattle.std.specs.Prelude.{ℕ, Bool, true, false, List, [], ◌∷◌, ◌++◌, codes, Option, Some, None, map}
use Rattle.pv_base.specs.declared.name.Name.{Name}
use Rattle.int_num.specs.declared.ops.BinOp.{BinOp}
use Rattle.int_num.specs.declared.ops.BinOp.TheVariants as op
use Rattle.int_num.specs.declared.ops.CastOp.{CastOp}
use Rattle.int_num.specs.declared.ops.CastOp.TheVariants as cast
use Rattle.int_num.specs.declared.ops.Pred.{Pred}
use Rattle.int_num.specs.declared.ops.Pred.TheVariants as pred
use Rattle.int_num.specs.declared.ops.Flags.{Flags}
use Rattle.ir_tree.specs.declared.instruction.Operand.{Operand}
use Rattle.ir_tree.specs.declared.instruction.Argument.{Argument}
use Rattle.ir_tree.specs.declared.instruction.Arm.{Arm}
use Rattle.ir_tree.specs.declared.instruction.Case.{Case}
use Rattle.ir_tree.specs.declared.instruction.Callee.{Callee}
use Rattle.ir_tree.specs.declared.instruction.Callee.TheVariants.{Function, Pointer}
use Rattle.ir_tree.specs.declared.instruction.Instruction.{Instruction}
use Rattle.ir_tree.specs.declared.instruction.Instruction.TheVariants as instruction
use Rattle.ir_tree.specs.Trees.{TypeV, ConstantV}
use Rattle.ir_printer.specs.Pieces.{Piece, Blank, Word, Mark, Dots, Global, Local, comma, led, separated, joined}
use Rattle.ir_printer.specs.Operands.{pointer_lead, type_pieces, constant_pieces, operand_pieces, argument_pieces}

abbrev pub operation_word : BinOp → List ℕ
operation_word op.Add = codes "add"
operation_word op.Sub = codes "sub"
operation_word op.Mul = codes "mul"
operation_word op.Udiv = codes "udiv"
operation_word op.Sdiv = codes "sdiv"
operation_word op.Urem = codes "urem"
operation_word op.Srem = codes "srem"
operation_word op.Shl = codes "shl"
operation_word op.Lshr = codes "lshr"
operation_word op.Ashr = codes "ashr"
operation_word op.And = codes "and"
operation_word op.Or = codes "or"
operation_word op.Xor = codes "xor"

abbrev pub cast_word : CastOp → List ℕ
cast_word cast.Trunc = codes "trunc"
cast_word cast.Zext = codes "zext"
cast_word cast.Sext = codes "sext"

abbrev pub predicate_word : Pred → List ℕ
predicate_word pred.Eq = codes "eq"
predicate_word pred.Ne = codes "ne"
predicate_word pred.Ugt = codes "ugt"
predicate_word pred.Uge = codes "uge"
predicate_word pred.Ult = codes "ult"
predicate_word pred.Ule = codes "ule"
predicate_word pred.Sgt = codes "sgt"
predicate_word pred.Sge = codes "sge"
predicate_word pred.Slt = codes "slt"
predicate_word pred.Sle = codes "sle"

-- a flag behind a blank, where it is set
abbrev pub flag : Bool → List ℕ → List Piece
flag false word = []
flag true word = Blank ∷ Word word ∷ []

-- no result leaves its range, unsigned and signed
abbrev pub range_flags : Flags → List Piece
range_flags f = flag f.nuw (codes "nuw") ++ flag f.nsw (codes "nsw")

-- the flags that an operation may have
abbrev pub operation_flags : BinOp → Flags → List Piece
operation_flags op.Add f = range_flags f
operation_flags op.Sub f = range_flags f
operation_flags op.Mul f = range_flags f
operation_flags op.Shl f = range_flags f
operation_flags op.Udiv f = flag f.exact (codes "exact")
operation_flags op.Sdiv f = flag f.exact (codes "exact")
operation_flags op.Lshr f = flag f.exact (codes "exact")
operation_flags op.Ashr f = flag f.exact (codes "exact")
operation_flags op.Or f = flag f.disjoint (codes "disjoint")
operation_flags op.Urem f = []
operation_flags op.Srem f = []
operation_flags op.And f = []
operation_flags op.Xor f = []

-- the flags that a change of width may have
abbrev pub cast_flags : CastOp → Flags → List Piece
cast_flags cast.Trunc f = range_flags f
cast_flags cast.Zext f = flag f.nneg (codes "nneg")
cast_flags cast.Sext f = []

-- `%r = WORD`
abbrev pub assigned : Name → List ℕ → List Piece
assigned to word = Local to ∷ Blank ∷ Mark 61 ∷ Blank ∷ Word word ∷ []

-- ` T`, ` A`, `, A`, `, T A`, `, ptr A`, `, label %b`
abbrev pub typed : TypeV → List Piece
typed of = Blank ∷ type_pieces of

abbrev pub reading : Operand Name ConstantV → List Piece
reading value = Blank ∷ operand_pieces value

-- ` T A`
abbrev pub value_pieces : TypeV → Operand Name ConstantV → List Piece
value_pieces of value = typed of ++ reading value

abbrev pub next_operand : Operand Name ConstantV → List Piece
next_operand value = comma ++ operand_pieces value

abbrev pub next_argument : Argument Name TypeV ConstantV → List Piece
next_argument a = comma ++ argument_pieces a

abbrev pub next_pointer : Operand Name ConstantV → List Piece
next_pointer value = pointer_lead ++ operand_pieces value

abbrev pub next_label : Name → List Piece
next_label name = Mark 44 ∷ Blank ∷ Word (codes "label") ∷ Blank ∷ Local name ∷ []

-- ` T A, B`
abbrev pub operands_pieces : TypeV → Operand Name ConstantV → Operand Name ConstantV → List Piece
operands_pieces of left right = value_pieces of left ++ next_operand right

-- ` i1 A`
abbrev pub condition_pieces : Operand Name ConstantV → List Piece
condition_pieces value = Blank ∷ Word (codes "i1") ∷ reading value

-- `[ A, %b ]`
abbrev pub arm_pieces : Arm Name ConstantV → List Piece
arm_pieces a = (Mark 91 ∷ reading a.value) ++ comma ++ (Local a.from ∷ []) ++ (Blank ∷ Mark 93 ∷ [])

-- `T c, label %b` and a blank
abbrev pub case_pieces : TypeV → Case Name ConstantV → List Piece
case_pieces of c = type_pieces of ++ (Blank ∷ []) ++ constant_pieces c.value ++ next_label c.to ++ (Blank ∷ [])

-- `@f`, `%p`
abbrev pub callee_piece : Callee Name → Piece
callee_piece (Function name) = Global name
callee_piece (Pointer name) = Local name

-- the result of a call, where it has one: `%r = `
abbrev pub result_pieces : Option Name → List Piece
result_pieces None = []
result_pieces (Some to) = Local to ∷ Blank ∷ Mark 61 ∷ Blank ∷ []

-- the type of a function with more arguments than parameters: ` (ptr, ...)`
abbrev pub variadic_pieces : Bool → List Piece
variadic_pieces false = []
variadic_pieces true = Blank ∷ Mark 40 ∷ Word (codes "ptr") ∷ Mark 44 ∷ Blank ∷ Dots ∷ Mark 41 ∷ []

-- ` callee(ARGUMENTS)`
abbrev pub called_pieces : Callee Name → List (Argument Name TypeV ConstantV) → List Piece
called_pieces callee arguments = (Blank ∷ []) ++ (callee_piece callee ∷ []) ++ (Mark 40 ∷ []) ++ separated (map argument_pieces arguments) ++ (Mark 41 ∷ [])

-- the count of an `alloca`, where it has one
abbrev pub count_pieces : Option (Argument Name TypeV ConstantV) → List Piece
count_pieces None = []
count_pieces (Some a) = next_argument a

-- what is returned: `T A` or `void`
abbrev pub returned_pieces : Option (Argument Name TypeV ConstantV) → List Piece
returned_pieces None = Word (codes "void") ∷ []
returned_pieces (Some a) = argument_pieces a

-- `%r = select i1 C, T A, T B`
abbrev pub select_pieces : Name → Operand Name ConstantV → Argument Name TypeV ConstantV → Argument Name TypeV ConstantV → List Piece
select_pieces to condition on_true on_false = assigned to (codes "select") ++ condition_pieces condition ++ next_argument on_true ++ next_argument on_false

-- an instruction, without blanks before it
unfoldable pub instruction_pieces : Instruction Name TypeV ConstantV → List Piece
instruction_pieces (instruction.Binary to op flags of left right) = assigned to (operation_word op) ++ operation_flags op flags ++ operands_pieces of left right
instruction_pieces (instruction.Cast to op flags of value target) =
    assigned to (cast_word op) ++ cast_flags op flags ++ value_pieces of value ++ (Blank ∷ Word (codes "to") ∷ typed target)
instruction_pieces (instruction.Freeze to of value) = assigned to (codes "freeze") ++ value_pieces of value
instruction_pieces (instruction.Compare to pred of left right) =
    assigned to (codes "icmp") ++ (Blank ∷ Word (predicate_word pred) ∷ []) ++ operands_pieces of left right
instruction_pieces (instruction.Select to condition of on_true on_false) =
    select_pieces to condition (record { of = of; value = on_true }) (record { of = of; value = on_false })
instruction_pieces (instruction.Phi to of arms) = assigned to (codes "phi") ++ typed of ++ (Blank ∷ []) ++ separated (map arm_pieces arms)
instruction_pieces (instruction.Alloca to of count) = assigned to (codes "alloca") ++ typed of ++ count_pieces count
instruction_pieces (instruction.Load to of pointer) = assigned to (codes "load") ++ typed of ++ next_pointer pointer
instruction_pieces (instruction.Store of value pointer) = (Word (codes "store") ∷ value_pieces of value) ++ next_pointer pointer
instruction_pieces (instruction.Address to inbounds of base indices) =
    assigned to (codes "getelementptr") ++ flag inbounds (codes "inbounds") ++ typed of ++ next_pointer base ++ led (map argument_pieces indices)
instruction_pieces (instruction.Call to of variadic callee arguments) =
    result_pieces to ++ (Word (codes "call") ∷ []) ++ typed of ++ variadic_pieces variadic ++ called_pieces callee arguments
instruction_pieces (instruction.Return value) = Word (codes "ret") ∷ Blank ∷ returned_pieces value
instruction_pieces (instruction.Jump target) = Word (codes "br") ∷ Blank ∷ Word (codes "label") ∷ Blank ∷ Local target ∷ []
instruction_pieces (instruction.Branch condition on_true on_false) = (Word (codes "br") ∷ condition_pieces condition) ++ next_label on_true ++ next_label on_false
instruction_pieces (instruction.Switch of value default cases) =
    (Word (codes "switch") ∷ value_pieces of value) ++ next_label default ++ (Blank ∷ Mark 91 ∷ Blank ∷ []) ++ joined (map (case_pieces of) cases) ++ (Mark 93 ∷ [])
instruction_pieces instruction.Unreachable = Word (codes "unreachable") ∷ []
