-- Printed instructions stand inside a line.
use Rattle.std.proofs.Common.{◌≡◌, ℕ, Bool, true, false, List, [], ◌∷◌, ◌++◌, map, Option, Some, None, refl, sym, subst, append_assoc}
use Rattle.std.specs.Prelude.{codes}
use Rattle.pv_base.specs.declared.name.Name.{Name}
use Rattle.int_num.specs.declared.ops.BinOp.{BinOp}
use Rattle.int_num.specs.declared.ops.BinOp.TheVariants as op
use Rattle.int_num.specs.declared.ops.CastOp.{CastOp}
use Rattle.int_num.specs.declared.ops.CastOp.TheVariants as cast
use Rattle.int_num.specs.declared.ops.Pred.{Pred}
use Rattle.int_num.specs.declared.ops.Pred.TheVariants as pred
use Rattle.int_num.specs.declared.ops.Flags.{Flags}
use Rattle.ir_tree.specs.declared.instruction.Operand.{Operand}
use Rattle.ir_tree.specs.declared.instruction.Argument.{Argument}
use Rattle.ir_tree.specs.declared.instruction.Arm.{Arm}
use Rattle.ir_tree.specs.declared.instruction.Case.{Case}
use Rattle.ir_tree.specs.declared.instruction.Callee.{Callee}
use Rattle.ir_tree.specs.declared.instruction.Callee.TheVariants.{Function, Pointer}
use Rattle.ir_tree.specs.declared.instruction.Instruction.TheVariants as instruction
use Rattle.ir_tree.specs.Trees.{TypeV, ConstantV}
use Rattle.ir_printer.specs.Pieces.{Piece, Blank, Word, Mark, Dots, Global, Local, comma, joined}
use Rattle.ir_printer.specs.Operands.{type_pieces, argument_pieces}
use Rattle.ir_printer.specs.Instructions as printed
use Rattle.ir_printer.specs.Instructions.{instruction_pieces}
use Rattle.print_tokens.specs.Standing.{begins_end, is_type_word, Inline}
use Rattle.print_values.specs.Laws.{TypesStand, ConstantsStand, OperandsStand}
use Rattle.print_values.proofs.Composing.{inline_none, inline_closed, inline_open, inline_append, inline_blank, inline_apart, AllInline, led_ends, inline_led, inline_separated}
use Rattle.print_instrs.specs.Laws.{InstructionsStand}

-- what begins with what ends a token
record Follows (ps : List Piece) : Type 0 where
  line : Inline ps
  ends : begins_end ps ≡ true

nothing : Follows []
nothing = record { line = inline_none; ends = refl }

-- behind other pieces
then : {ps qs : List Piece} → Inline ps → Follows qs → Inline (ps ++ qs)
then {ps = ps} {qs = qs} i f = inline_append ps qs f.ends i f.line

blank : {ps : List Piece} → Inline ps → Follows (Blank ∷ ps)
blank {ps = ps} i = record { line = inline_blank ps i; ends = refl }

-- `, ..`
listed : {ps : List Piece} → Inline ps → Follows (Mark 44 ∷ Blank ∷ ps)
listed {ps = ps} i = record { line = inline_closed (Mark 44) (Blank ∷ ps) refl refl refl (inline_blank ps i); ends = refl }

mark : (b : ℕ) → {ps : List Piece} → Inline ps → Follows (Mark b ∷ ps)
mark b {ps = ps} i = record { line = inline_closed (Mark b) ps refl refl refl i; ends = refl }

word : (w : List ℕ) → {ps : List Piece} → is_type_word (Word w) ≡ false → Follows ps → Inline (Word w ∷ ps)
word w {ps = ps} other f = inline_open (Word w) ps refl other f.ends f.line

local : (name : Name) → {ps : List Piece} → Follows ps → Inline (Local name ∷ ps)
local name {ps = ps} f = inline_open (Local name) ps refl refl f.ends f.line

follow : {ps qs : List Piece} → Follows ps → Follows qs → Follows (ps ++ qs)
follow {ps = ps} {qs = qs} f g = record { line = inline_append ps qs g.ends f.line g.line; ends = both_end ps f.ends }
  where
    both_end : (us : List Piece) → begins_end us ≡ true → begins_end (us ++ qs) ≡ true
    both_end [] e = g.ends
    both_end (u ∷ us) e = e

flag_follows : (b : Bool) (w : List ℕ) → is_type_word (Word w) ≡ false → Follows (printed.flag b w)
flag_follows false w other = nothing
flag_follows true w other = blank (word w other nothing)

assigned_stands : (to : Name) (w : List ℕ) → is_type_word (Word w) ≡ false → Inline (printed.assigned to w)
assigned_stands to w other = local to (blank (mark 61 (blank (word w other nothing)).line).line)

-- others behind a blank or a comma at the end
spaced : (ps : List Piece) {qs : List Piece} → Inline ps → Inline qs → Inline ((ps ++ Blank ∷ []) ++ qs)
spaced ps {qs = qs} i j = subst Inline (sym (append_assoc ps (Blank ∷ []) qs)) (inline_apart ps qs i j)

next : (ps : List Piece) {qs : List Piece} → Inline ps → Inline qs → Inline ((ps ++ comma) ++ qs)
next ps {qs = qs} i j = subst Inline (sym (append_assoc ps comma qs)) (then i (listed j))

-- ---- words

operation_other : (o : BinOp) → is_type_word (Word (printed.operation_word o)) ≡ false
operation_other op.Add = refl
operation_other op.Sub = refl
operation_other op.Mul = refl
operation_other op.Udiv = refl
operation_other op.Sdiv = refl
operation_other op.Urem = refl
operation_other op.Srem = refl
operation_other op.Shl = refl
operation_other op.Lshr = refl
operation_other op.Ashr = refl
operation_other op.And = refl
operation_other op.Or = refl
operation_other op.Xor = refl

cast_other : (o : CastOp) → is_type_word (Word (printed.cast_word o)) ≡ false
cast_other cast.Trunc = refl
cast_other cast.Zext = refl
cast_other cast.Sext = refl

predicate_other : (p : Pred) → is_type_word (Word (printed.predicate_word p)) ≡ false
predicate_other pred.Eq = refl
predicate_other pred.Ne = refl
predicate_other pred.Ugt = refl
predicate_other pred.Uge = refl
predicate_other pred.Ult = refl
predicate_other pred.Ule = refl
predicate_other pred.Sgt = refl
predicate_other pred.Sge = refl
predicate_other pred.Slt = refl
predicate_other pred.Sle = refl

range_follows : (f : Flags) → Follows (printed.range_flags f)
range_follows f = follow (flag_follows f.nuw (codes "nuw") refl) (flag_follows f.nsw (codes "nsw") refl)

operation_flags_follow : (o : BinOp) (f : Flags) → Follows (printed.operation_flags o f)
operation_flags_follow op.Add f = range_follows f
operation_flags_follow op.Sub f = range_follows f
operation_flags_follow op.Mul f = range_follows f
operation_flags_follow op.Shl f = range_follows f
operation_flags_follow op.Udiv f = flag_follows f.exact (codes "exact") refl
operation_flags_follow op.Sdiv f = flag_follows f.exact (codes "exact") refl
operation_flags_follow op.Lshr f = flag_follows f.exact (codes "exact") refl
operation_flags_follow op.Ashr f = flag_follows f.exact (codes "exact") refl
operation_flags_follow op.Or f = flag_follows f.disjoint (codes "disjoint") refl
operation_flags_follow op.Urem f = nothing
operation_flags_follow op.Srem f = nothing
operation_flags_follow op.And f = nothing
operation_flags_follow op.Xor f = nothing

cast_flags_follow : (o : CastOp) (f : Flags) → Follows (printed.cast_flags o f)
cast_flags_follow cast.Trunc f = range_follows f
cast_flags_follow cast.Zext f = flag_follows f.nneg (codes "nneg") refl
cast_flags_follow cast.Sext f = nothing

-- ---- parts

label_follows : (name : Name) → Follows (printed.next_label name)
label_follows name = listed (word (codes "label") refl (blank (local name nothing)))

module _ (types_stand : TypesStand) (constants_stand : ConstantsStand) (operands_stand : OperandsStand) where
  typed : (of : TypeV) → Follows (printed.typed of)
  typed of = blank (types_stand of)

  reading : (value : Operand Name ConstantV) → Follows (printed.reading value)
  reading value = blank (operands_stand value)

  value_follows : (of : TypeV) (value : Operand Name ConstantV) → Follows (printed.value_pieces of value)
  value_follows of value = follow (typed of) (reading value)

  operands_follow : (of : TypeV) (left right : Operand Name ConstantV) → Follows (printed.operands_pieces of left right)
  operands_follow of left right = follow (value_follows of left) (listed (operands_stand right))

  condition_follows : (value : Operand Name ConstantV) → Follows (printed.condition_pieces value)
  condition_follows value = blank (word (codes "i1") refl (reading value))

  argument_stands : (a : Argument Name TypeV ConstantV) → Inline (argument_pieces a)
  argument_stands a = then (types_stand a.of) (reading a.value)

  arguments_stand : (all : List (Argument Name TypeV ConstantV)) → AllInline (map argument_pieces all)
  arguments_stand [] = tt
  arguments_stand (a ∷ all) = (argument_stands a, arguments_stand all)

  pointer_follows : (value : Operand Name ConstantV) → Follows (printed.next_pointer value)
  pointer_follows value = listed (word (codes "ptr") refl (reading value))

  arm_stands : (a : Arm Name ConstantV) → Inline (printed.arm_pieces a)
  arm_stands a = then (next (Mark 91 ∷ printed.reading a.value) (mark 91 (reading a.value).line).line (local a.from nothing)) (blank (mark 93 inline_none).line)

  arms_stand : (all : List (Arm Name ConstantV)) → AllInline (map printed.arm_pieces all)
  arms_stand [] = tt
  arms_stand (a ∷ all) = (arm_stands a, arms_stand all)

  cases_stand : (of : TypeV) (all : List (Case Name ConstantV)) → Inline (joined (map (printed.case_pieces of) all))
  cases_stand of [] = inline_none
  cases_stand of (c ∷ all) = spaced _ (then (spaced (type_pieces of) (types_stand of) (constants_stand c.value)) (label_follows c.to)) (cases_stand of all)

  count_follows : (count : Option (Argument Name TypeV ConstantV)) → Follows (printed.count_pieces count)
  count_follows None = nothing
  count_follows (Some a) = listed (argument_stands a)

  returned_stands : (value : Option (Argument Name TypeV ConstantV)) → Inline (printed.returned_pieces value)
  returned_stands None = word (codes "void") refl nothing
  returned_stands (Some a) = argument_stands a

  -- ---- calls

  variadic_follows : (variadic : Bool) → Follows (printed.variadic_pieces variadic)
  variadic_follows false = nothing
  variadic_follows true = blank (mark 40 (word (codes "ptr") refl (listed (inline_open Dots (Mark 41 ∷ []) refl refl refl (mark 41 inline_none).line)))).line

  callee_stands : (what : Callee Name) {ps : List Piece} → Follows ps → Inline (printed.callee_piece what ∷ ps)
  callee_stands (Function name) {ps = ps} f = inline_open (Global name) ps refl refl f.ends f.line
  callee_stands (Pointer name) f = local name f

  called_follows : (what : Callee Name) (arguments : List (Argument Name TypeV ConstantV)) → Follows (printed.called_pieces what arguments)
  called_follows what arguments = blank (callee_stands what (mark 40 (then (inline_separated (map argument_pieces arguments) (arguments_stand arguments)) (mark 41 inline_none))))

  call_stands : (of : TypeV) (variadic : Bool) (what : Callee Name) (arguments : List (Argument Name TypeV ConstantV)) → Inline (((Word (codes "call") ∷ Blank ∷ type_pieces of) ++ printed.variadic_pieces variadic) ++ printed.called_pieces what arguments)
  call_stands of variadic what arguments = then (then (word (codes "call") refl (typed of)) (variadic_follows variadic)) (called_follows what arguments)

  -- ---- instructions

  bracketed : (ps : List Piece) {qs : List Piece} → Inline ps → Inline qs → Inline ((ps ++ Blank ∷ Mark 91 ∷ Blank ∷ []) ++ qs)
  bracketed ps {qs = qs} i j = subst Inline (sym (append_assoc ps (Blank ∷ Mark 91 ∷ Blank ∷ []) qs)) (then i (blank (mark 91 (blank j).line).line))

  pub stand : InstructionsStand
  unfolding instruction_pieces
  stand (instruction.Binary to o flags of left right) = then (then (assigned_stands to (printed.operation_word o) (operation_other o)) (operation_flags_follow o flags)) (operands_follow of left right)
  stand (instruction.Cast to o flags of value target) =
      then (then (then (assigned_stands to (printed.cast_word o) (cast_other o)) (cast_flags_follow o flags)) (value_follows of value)) (blank (word (codes "to") refl (typed target)))
  stand (instruction.Freeze to of value) = then (assigned_stands to (codes "freeze") refl) (value_follows of value)
  stand (instruction.Compare to p of left right) =
      then (then (assigned_stands to (codes "icmp") refl) (blank (word (printed.predicate_word p) (predicate_other p) nothing))) (operands_follow of left right)
  stand (instruction.Select to condition of on_true on_false) =
      then (then (then (assigned_stands to (codes "select") refl) (condition_follows condition)) (listed (argument_stands (record { of = of; value = on_true })))) (listed (argument_stands (record { of = of; value = on_false })))
  stand (instruction.Phi to of arms) = spaced _ (then (assigned_stands to (codes "phi") refl) (typed of)) (inline_separated (map printed.arm_pieces arms) (arms_stand arms))
  stand (instruction.Alloca to of count) = then (then (assigned_stands to (codes "alloca") refl) (typed of)) (count_follows count)
  stand (instruction.Load to of pointer) = then (then (assigned_stands to (codes "load") refl) (typed of)) (pointer_follows pointer)
  stand (instruction.Store of value pointer) = then (word (codes "store") refl (value_follows of value)) (pointer_follows pointer)
  stand (instruction.Address to inbounds of base indices) =
      then (then (then (then (assigned_stands to (codes "getelementptr") refl) (flag_follows inbounds (codes "inbounds") refl)) (typed of)) (pointer_follows base))
      (record { line = inline_led (map argument_pieces indices) (arguments_stand indices); ends = led_ends (map argument_pieces indices) })
  stand (instruction.Call None of variadic what arguments) = call_stands of variadic what arguments
  stand (instruction.Call (Some to) of variadic what arguments) = local to (blank (mark 61 (blank (call_stands of variadic what arguments)).line).line)
  stand (instruction.Return value) = word (codes "ret") refl (blank (returned_stands value))
  stand (instruction.Jump target) = word (codes "br") refl (blank (word (codes "label") refl (blank (local target nothing))))
  stand (instruction.Branch condition on_true on_false) = then (then (word (codes "br") refl (condition_follows condition)) (label_follows on_true)) (label_follows on_false)
  stand (instruction.Switch of value default cases) =
      then (bracketed _ (then (word (codes "switch") refl (value_follows of value)) (label_follows default)) (cases_stand of cases)) (mark 93 inline_none)
  stand instruction.Unreachable = word (codes "unreachable") refl nothing
