-- The operations on integers of a width, after the LLVM Language Reference. Each is arithmetic on whole numbers, and answers an
-- integer or the cause for which there is none.
use Rattle.std.specs.Prelude.{ℕ, ◌-◌, ◌*◌, ◌/◌, ◌%◌, ◌^◌, ◌<◌, ℤ, pos, negsuc, ◌+ℤ◌, ◌-ℤ◌, ◌*ℤ◌, neg_ℤ, Bool, not, ◌&&◌, ◌||◌, nat_eq, nat_lt, nat_le, int_lt, int_le, int_div, int_rem, unsigned_abs, bit_and, bit_or, bit_xor, Result, Ok, Err, if◌then◌else◌}
use Rattle.std.specs.Int.{int_div_euclid}
use Rattle.std.specs.Ordering.{int_eq}
use Rattle.int_num.specs.Integer.{Integer, signed}
use Rattle.int_num.specs.declared.ops.BinOp.{BinOp}
use Rattle.int_num.specs.declared.ops.BinOp.TheVariants.{Add, Sub, Mul, Udiv, Sdiv, Urem, Srem, Shl, Lshr, Ashr, And, Or, Xor}
use Rattle.int_num.specs.declared.ops.CastOp.{CastOp}
use Rattle.int_num.specs.declared.ops.CastOp.TheVariants.{Trunc, Zext, Sext}
use Rattle.int_num.specs.declared.ops.Pred.{Pred}
use Rattle.int_num.specs.declared.ops.Pred.TheVariants.{Eq, Ne, Ugt, Uge, Ult, Ule, Sgt, Sge, Slt, Sle}
use Rattle.int_num.specs.declared.ops.Flags.{Flags}
use Rattle.int_num.specs.declared.ops.Poison.{Poison}
use Rattle.int_num.specs.declared.ops.Poison.TheVariants.{Overflow, Shift, Divide, Flag}

-- the integer of these bits
abbrev pub of_bits : ℕ → ℕ → Integer
of_bits width bits = record { width = width; bits = bits }

-- what is left of a number modulo 2^width, from 0 to 2^width - 1
unfoldable pub residue : ℕ → ℤ → ℕ
residue width (pos n) = n % 2 ^ width
residue width (negsuc n) = 2 ^ width - 1 - n % 2 ^ width

-- the integer whose bits are this number modulo 2^width
abbrev pub modulo : ℕ → ℤ → Integer
modulo width z = of_bits width (residue width z)

-- from 0 to 2^width - 1
unfoldable pub fits_unsigned : ℕ → ℤ → Bool
fits_unsigned width z = int_le (pos 0) z && int_lt z (pos (2 ^ width))

-- from -2^(width - 1) to 2^(width - 1) - 1
unfoldable pub fits_signed : ℕ → ℤ → Bool
fits_signed width z = int_le (neg_ℤ (pos (2 ^ (width - 1)))) z && int_lt z (pos (2 ^ (width - 1)))

-- an integer, or this cause where a promise is broken: `nuw` of a number without signs that does not fit, `nsw` of one with them
unfoldable pub keeps : Poison → Flags → Bool → Bool → Integer → Result Integer Poison
keeps cause flags fits_u fits_s n = if (not flags.nuw || fits_u) && (not flags.nsw || fits_s) then Ok n else Err cause

-- the number u modulo 2^width; Overflow where u, or the same result s with signs, leaves a range that was promised
abbrev pub within : Flags → ℕ → ℤ → ℤ → Result Integer Poison
within flags width u s = keeps Overflow flags (fits_unsigned width u) (fits_signed width s) (modulo width u)

abbrev pub add : Flags → Integer → Integer → Result Integer Poison
add flags a b = within flags a.width (pos a.bits +ℤ pos b.bits) (signed a +ℤ signed b)

abbrev pub sub : Flags → Integer → Integer → Result Integer Poison
sub flags a b = within flags a.width (pos a.bits -ℤ pos b.bits) (signed a -ℤ signed b)

abbrev pub mul : Flags → Integer → Integer → Result Integer Poison
mul flags a b = within flags a.width (pos a.bits *ℤ pos b.bits) (signed a *ℤ signed b)

-- Flag where `exact` is promised and there is a rest
unfoldable pub without_rest : Flags → ℕ → Integer → Result Integer Poison
without_rest flags rest n = if flags.exact && not (nat_eq rest 0) then Err Flag else Ok n

abbrev pub udiv : Flags → Integer → Integer → Result Integer Poison
udiv flags a b = if nat_eq b.bits 0 then Err Divide else without_rest flags (a.bits % b.bits) (of_bits a.width (a.bits / b.bits))

abbrev pub urem : Integer → Integer → Result Integer Poison
urem a b = if nat_eq b.bits 0 then Err Divide else Ok (of_bits a.width (a.bits % b.bits))

-- the least number with signs
abbrev pub least : ℕ → ℤ
least width = neg_ℤ (pos (2 ^ (width - 1)))

-- neither a division by 0 nor the least number by -1, whose quotient does not fit
unfoldable pub divides : Integer → Integer → Bool
divides a b = not (nat_eq b.bits 0) && not (int_eq (signed a) (least a.width) && int_eq (signed b) (neg_ℤ (pos 1)))

-- the quotient rounded toward zero
abbrev pub sdiv : Flags → Integer → Integer → Result Integer Poison
sdiv flags a b = if divides a b then without_rest flags (unsigned_abs (int_rem (signed a) (signed b))) (modulo a.width (int_div (signed a) (signed b))) else Err Divide

-- the rest of that quotient, with the dividend's sign
abbrev pub srem : Integer → Integer → Result Integer Poison
srem a b = if divides a b then Ok (modulo a.width (int_rem (signed a) (signed b))) else Err Divide

-- a product with a power of two
abbrev pub shl : Flags → Integer → Integer → Result Integer Poison
shl flags a b = if nat_lt b.bits a.width then within flags a.width (pos (a.bits * 2 ^ b.bits)) (signed a *ℤ pos (2 ^ b.bits)) else Err Shift

-- a quotient by a power of two, rounded down
abbrev pub lshr : Flags → Integer → Integer → Result Integer Poison
lshr flags a b = if nat_lt b.bits a.width then without_rest flags (a.bits % 2 ^ b.bits) (of_bits a.width (a.bits / 2 ^ b.bits)) else Err Shift

-- the same of the signed number
abbrev pub ashr : Flags → Integer → Integer → Result Integer Poison
ashr flags a b = if nat_lt b.bits a.width then without_rest flags (a.bits % 2 ^ b.bits) (modulo a.width (int_div_euclid (signed a) (pos (2 ^ b.bits)))) else Err Shift

abbrev pub conjunction : Integer → Integer → Integer
conjunction a b = of_bits a.width (bit_and a.bits b.bits)

abbrev pub disjunction : Integer → Integer → Integer
disjunction a b = of_bits a.width (bit_or a.bits b.bits)

abbrev pub difference : Integer → Integer → Integer
difference a b = of_bits a.width (bit_xor a.bits b.bits)

-- Flag where `disjoint` is promised and both have a one in one place
abbrev pub or_of : Flags → Integer → Integer → Result Integer Poison
or_of flags a b = if flags.disjoint && not (nat_eq (bit_and a.bits b.bits) 0) then Err Flag else Ok (disjunction a b)

-- an operation on two integers of one width
unfoldable pub binary : BinOp → Flags → Integer → Integer → Result Integer Poison
binary Add flags a b = add flags a b
binary Sub flags a b = sub flags a b
binary Mul flags a b = mul flags a b
binary Udiv flags a b = udiv flags a b
binary Sdiv flags a b = sdiv flags a b
binary Urem flags a b = urem a b
binary Srem flags a b = srem a b
binary Shl flags a b = shl flags a b
binary Lshr flags a b = lshr flags a b
binary Ashr flags a b = ashr flags a b
binary And flags a b = Ok (conjunction a b)
binary Or flags a b = or_of flags a b
binary Xor flags a b = Ok (difference a b)

-- a comparison of two integers of one width
unfoldable pub compare : Pred → Integer → Integer → Bool
compare Eq a b = nat_eq a.bits b.bits
compare Ne a b = not (nat_eq a.bits b.bits)
compare Ugt a b = nat_lt b.bits a.bits
compare Uge a b = nat_le b.bits a.bits
compare Ult a b = nat_lt a.bits b.bits
compare Ule a b = nat_le a.bits b.bits
compare Sgt a b = int_lt (signed b) (signed a)
compare Sge a b = int_le (signed b) (signed a)
compare Slt a b = int_lt (signed a) (signed b)
compare Sle a b = int_le (signed a) (signed b)

-- Flag where `nuw` is promised and the number without signs does not fit the smaller width, or `nsw` and the signed one does not
abbrev pub trunc : Flags → Integer → ℕ → Result Integer Poison
trunc flags a width = keeps Flag flags (fits_unsigned width (pos a.bits)) (fits_signed width (signed a)) (modulo width (pos a.bits))

-- Flag where `nneg` is promised and the number is negative
abbrev pub zext : Flags → Integer → ℕ → Result Integer Poison
zext flags a width = if flags.nneg && int_lt (signed a) (pos 0) then Err Flag else Ok (of_bits width a.bits)

abbrev pub sext : Integer → ℕ → Result Integer Poison
sext a width = Ok (modulo width (signed a))

-- a change of width
unfoldable pub cast : CastOp → Flags → Integer → ℕ → Result Integer Poison
cast Trunc flags a width = trunc flags a width
cast Zext flags a width = zext flags a width
cast Sext flags a width = sext a width

-- `trunc` goes to a smaller width, and the others to a larger one
abbrev pub FitsCast : CastOp → ℕ → ℕ → Type 0
FitsCast Trunc old new = new < old
FitsCast Zext old new = old < new
FitsCast Sext old new = old < new
