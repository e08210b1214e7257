-- What a worker keeps of the operands of one reduction.
use Rattle.std.specs.Prelude.{◌≡◌, ◌≤◌, ℕ, ◌+◌, ◌-◌, ◌^◌, ℤ, pos, neg_ℤ, ◌+ℤ◌, ◌≤ℤ◌, Bool, not, ◌&&◌, ◌||◌, nat_lt, int_lt, int_le, Option, Some, None, if◌then◌else◌}
use Rattle.std.specs.Int.{int_max, int_min}
use Rattle.int_num.specs.Integer.{Integer, IsWidth, HasWidth, signed}
use Rattle.int_num.specs.Reductions.{reduce, identity}
use Rattle.int_num.specs.declared.ops.RedOp.{RedOp}
use Rattle.int_num.specs.declared.ops.Flags.{Flags}

-- how many operands; the sums of their signed values above 0, of those below 0, and of the unsigned values; and their
-- fold by the operation, without its flags
pub record PartialOf : Type 0 where
  pub op : RedOp
  pub flags : Flags
  pub width : ℕ
  pub count : ℕ
  pub positive : ℤ
  pub negative : ℤ
  pub unsigned : ℕ
  pub folded : Integer

-- no operand yet
abbrev pub started : RedOp → Flags → ℕ → PartialOf
started op flags width = record { op = op; flags = flags; width = width; count = 0; positive = pos 0; negative = pos 0; unsigned = 0; folded = identity op width }

-- the part of a number that is above 0, and the part that is below
abbrev pub above : ℤ → ℤ
above z = int_max z (pos 0)

abbrev pub below : ℤ → ℤ
below z = int_min z (pos 0)

-- one operand more
abbrev pub added : PartialOf → Integer → PartialOf
added p x = record p {
  count = p.count + 1;
  positive = p.positive +ℤ above (signed x);
  negative = p.negative +ℤ below (signed x);
  unsigned = p.unsigned + x.bits;
  folded = reduce p.op p.folded x;
}

-- the operands of both
abbrev pub joined : PartialOf → PartialOf → PartialOf
joined p q = record p {
  count = p.count + q.count;
  positive = p.positive +ℤ q.positive;
  negative = p.negative +ℤ q.negative;
  unsigned = p.unsigned + q.unsigned;
  folded = reduce p.op p.folded q.folded;
}

-- a number with an unsigned sum is below 2^width
abbrev pub unsigned_stays : ℕ → ℕ → ℕ → Bool
unsigned_stays width first sum = nat_lt (first + sum) (2 ^ width)

-- a signed number with all positive operands is no greater than the greatest of the width, and with all negative ones no
-- less than the least
abbrev pub signed_stays : ℕ → ℤ → ℤ → ℤ → Bool
signed_stays width first positive negative = int_lt (first +ℤ positive) (pos (2 ^ (width - 1))) && int_le (neg_ℤ (pos (2 ^ (width - 1)))) (first +ℤ negative)

-- each promised range stays
abbrev pub promises_kept : Flags → Bool → Bool → Bool
promises_kept flags unsigned signed = (not flags.nuw || unsigned) && (not flags.nsw || signed)

-- the range test of a first value
abbrev pub stays_in_range : PartialOf → Integer → Bool
stays_in_range p first = promises_kept p.flags (unsigned_stays p.width first.bits p.unsigned) (signed_stays p.width (signed first) p.positive p.negative)

-- the first value with all operands, where the range test passes
abbrev pub finished : PartialOf → Integer → Option Integer
finished p first = if stays_in_range p first then Some (reduce p.op first p.folded) else None

-- the sums stay within 2^124
pub record SumsFit (p : PartialOf) : Type 0 where
  pub positive : p.positive ≤ℤ pos (2 ^ 124)
  pub negative : neg_ℤ (pos (2 ^ 124)) ≤ℤ p.negative
  pub unsigned : p.unsigned ≤ 2 ^ 124

-- two partials of one reduction
pub record SameKind (p q : PartialOf) : Type 0 where
  pub op : q.op ≡ p.op
  pub flags : q.flags ≡ p.flags
  pub width : q.width ≡ p.width

-- what every partial keeps
pub record IsPartial (p : PartialOf) : Type 0 where
  pub width : IsWidth p.width
  pub folded : HasWidth p.width p.folded
  pub positive : pos 0 ≤ℤ p.positive
  pub negative : p.negative ≤ℤ pos 0
  pub sums : SumsFit p
