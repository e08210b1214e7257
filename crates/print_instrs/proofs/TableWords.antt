-- The printed words of operations, changes of width and comparisons.
use Rattle.std.proofs.Common.{[], ◌∷◌, refl}
use Rattle.int_num.specs.declared.ops.BinOp.{BinOp}
use Rattle.int_num.specs.declared.ops.BinOp.TheVariants as op
use Rattle.int_num.specs.declared.ops.CastOp.{CastOp}
use Rattle.int_num.specs.declared.ops.CastOp.TheVariants as cast
use Rattle.int_num.specs.declared.ops.Pred.{Pred}
use Rattle.int_num.specs.declared.ops.Pred.TheVariants as pred
use Rattle.ir_text.specs.Spelled.{one_token}
use Rattle.ir_instr.specs.Words.{meaning_of, operations, casts, predicates, worded}
use Rattle.ir_printer.specs.Pieces.{Word}
use Rattle.ir_printer.specs.Instructions.{operation_word, cast_word, predicate_word}
use Rattle.print_instrs.proofs.Printing.{Prints}
use Rattle.print_instrs.proofs.Tokens.{word_means}

pub operation_printed : (o : BinOp) → Prints (one_token (worded operations) o) (Word (operation_word o) ∷ [])
unfolding meaning_of
operation_printed op.Add = word_means (worded operations) op.Add (operation_word op.Add) refl (λ line. refl)
operation_printed op.Sub = word_means (worded operations) op.Sub (operation_word op.Sub) refl (λ line. refl)
operation_printed op.Mul = word_means (worded operations) op.Mul (operation_word op.Mul) refl (λ line. refl)
operation_printed op.Udiv = word_means (worded operations) op.Udiv (operation_word op.Udiv) refl (λ line. refl)
operation_printed op.Sdiv = word_means (worded operations) op.Sdiv (operation_word op.Sdiv) refl (λ line. refl)
operation_printed op.Urem = word_means (worded operations) op.Urem (operation_word op.Urem) refl (λ line. refl)
operation_printed op.Srem = word_means (worded operations) op.Srem (operation_word op.Srem) refl (λ line. refl)
operation_printed op.Shl = word_means (worded operations) op.Shl (operation_word op.Shl) refl (λ line. refl)
operation_printed op.Lshr = word_means (worded operations) op.Lshr (operation_word op.Lshr) refl (λ line. refl)
operation_printed op.Ashr = word_means (worded operations) op.Ashr (operation_word op.Ashr) refl (λ line. refl)
operation_printed op.And = word_means (worded operations) op.And (operation_word op.And) refl (λ line. refl)
operation_printed op.Or = word_means (worded operations) op.Or (operation_word op.Or) refl (λ line. refl)
operation_printed op.Xor = word_means (worded operations) op.Xor (operation_word op.Xor) refl (λ line. refl)

pub cast_printed : (o : CastOp) → Prints (one_token (worded casts) o) (Word (cast_word o) ∷ [])
unfolding meaning_of
cast_printed cast.Trunc = word_means (worded casts) cast.Trunc (cast_word cast.Trunc) refl (λ line. refl)
cast_printed cast.Zext = word_means (worded casts) cast.Zext (cast_word cast.Zext) refl (λ line. refl)
cast_printed cast.Sext = word_means (worded casts) cast.Sext (cast_word cast.Sext) refl (λ line. refl)

pub predicate_printed : (p : Pred) → Prints (one_token (worded predicates) p) (Word (predicate_word p) ∷ [])
unfolding meaning_of
predicate_printed pred.Eq = word_means (worded predicates) pred.Eq (predicate_word pred.Eq) refl (λ line. refl)
predicate_printed pred.Ne = word_means (worded predicates) pred.Ne (predicate_word pred.Ne) refl (λ line. refl)
predicate_printed pred.Ugt = word_means (worded predicates) pred.Ugt (predicate_word pred.Ugt) refl (λ line. refl)
predicate_printed pred.Uge = word_means (worded predicates) pred.Uge (predicate_word pred.Uge) refl (λ line. refl)
predicate_printed pred.Ult = word_means (worded predicates) pred.Ult (predicate_word pred.Ult) refl (λ line. refl)
predicate_printed pred.Ule = word_means (worded predicates) pred.Ule (predicate_word pred.Ule) refl (λ line. refl)
predicate_printed pred.Sgt = word_means (worded predicates) pred.Sgt (predicate_word pred.Sgt) refl (λ line. refl)
predicate_printed pred.Sge = word_means (worded predicates) pred.Sge (predicate_word pred.Sge) refl (λ line. refl)
predicate_printed pred.Slt = word_means (worded predicates) pred.Slt (predicate_word pred.Slt) refl (λ line. refl)
predicate_printed pred.Sle = word_means (worded predicates) pred.Sle (predicate_word pred.Sle) refl (λ line. refl)
