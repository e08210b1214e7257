-- The values of a width that a predicate holds of, as one stretch of their circle.
use Rattle.std.specs.Prelude.{ℕ, ◌+◌, ◌-◌, ◌%◌, ◌^◌, if◌then◌else◌}
use Rattle.int_num.specs.Integer.{Integer}
use Rattle.int_num.specs.declared.ops.Pred.{Pred}
use Rattle.int_num.specs.declared.ops.Pred.TheVariants.{Eq, Ne, Ugt, Uge, Ult, Ule, Sgt, Sge, Slt, Sle}
use Rattle.turn_count.specs.declared.arc.Arc.{Arc}
use Rattle.turn_count.specs.declared.test.Test.{Test}

-- the predicate that holds where this one holds of the operands the other way round
unfoldable pub swapped : Pred → Pred
swapped Eq = Eq
swapped Ne = Ne
swapped Ugt = Ult
swapped Uge = Ule
swapped Ult = Ugt
swapped Ule = Uge
swapped Sgt = Slt
swapped Sge = Sle
swapped Slt = Sgt
swapped Sle = Sge

-- the predicate that holds where this one does not
unfoldable pub negated : Pred → Pred
negated Eq = Ne
negated Ne = Eq
negated Ugt = Ule
negated Uge = Ult
negated Ult = Uge
negated Ule = Ugt
negated Sgt = Sle
negated Sge = Slt
negated Slt = Sge
negated Sle = Sgt

-- the predicate that holds of a tested value and the bound where the test leads into the loop
unfoldable pub leading : Test → Pred
leading test = if test.into_on then (if test.tested_left then test.pred else swapped test.pred) else negated (if test.tested_left then test.pred else swapped test.pred)

-- half of 2^width: the least signed number's bits
abbrev pub half : Integer → ℕ
half n = 2 ^ (n.width - 1)

-- an integer's place among the signed numbers of its width, counted from the least
abbrev pub signed_place : Integer → ℕ
signed_place n = (n.bits + half n) % 2 ^ n.width

-- so many values from the first on
abbrev pub arc_of : ℕ → ℕ → Arc
arc_of first length = record { first = first; length = length }

-- the bits that the predicate holds of, with the bound as its right operand
unfoldable pub holding : Pred → Integer → Arc
holding Eq bound = arc_of bound.bits 1
holding Ne bound = arc_of (bound.bits + 1) (2 ^ bound.width - 1)
holding Ugt bound = arc_of (bound.bits + 1) (2 ^ bound.width - 1 - bound.bits)
holding Uge bound = arc_of bound.bits (2 ^ bound.width - bound.bits)
holding Ult bound = arc_of 0 bound.bits
holding Ule bound = arc_of 0 (bound.bits + 1)
holding Sgt bound = arc_of (bound.bits + 1) (2 ^ bound.width - 1 - signed_place bound)
holding Sge bound = arc_of bound.bits (2 ^ bound.width - signed_place bound)
holding Slt bound = arc_of (half bound) (signed_place bound)
holding Sle bound = arc_of (half bound) (signed_place bound + 1)
