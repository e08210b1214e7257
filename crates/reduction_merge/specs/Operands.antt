-- A partial of a list of operands, and what its range test is for.
use Rattle.std.specs.Prelude.{◌≡◌, ◌≤◌, ℕ, suc, ◌^◌, ℤ, pos, negsuc, neg_ℤ, List, [], ◌∷◌, ◌++◌, length, All, sum_by, true, Some, None, Ok, if◌then◌else◌}
use Rattle.std.specs.List.Sorted.{IsPermutation}
use Rattle.int_num.specs.Integer.{Integer, IsWidth, HasWidth, signed}
use Rattle.int_num.specs.Operations.{add}
use Rattle.int_num.specs.Reductions.{reduce, identity}
use Rattle.int_num.specs.declared.ops.RedOp.{RedOp}
use Rattle.int_num.specs.declared.ops.RedOp.TheVariants.{Add}
use Rattle.int_num.specs.declared.ops.Flags.{Flags}
use Rattle.reduction_merge.specs.Partials.{PartialOf, SameKind, SumsFit, started, added, joined, finished, stays_in_range}

-- how far a number is above 0, and how far below
abbrev pub up : ℤ → ℕ
up (pos n) = n
up (negsuc n) = 0

abbrev pub down : ℤ → ℕ
down (pos n) = 0
down (negsuc n) = suc n

-- from the left
abbrev pub fold_from : RedOp → Integer → List Integer → Integer
fold_from op v [] = v
fold_from op v (x ∷ xs) = fold_from op (reduce op v x) xs

-- the count of the operands, the sums of their signed values above 0 and below 0 and of their unsigned values, and their
-- fold from the identity
pub record IsPartialOf (p : PartialOf) (xs : List Integer) : Type 0 where
  pub count : p.count ≡ length xs
  pub positive : p.positive ≡ pos (sum_by (λ x. up (signed x)) xs)
  pub negative : p.negative ≡ neg_ℤ (pos (sum_by (λ x. down (signed x)) xs))
  pub unsigned : p.unsigned ≡ sum_by (λ x. x.bits) xs
  pub folded : p.folded ≡ fold_from p.op (identity p.op p.width) xs

-- a new partial is that of no operand
abbrev pub StartLaw : Type 0
StartLaw = (op : RedOp) (flags : Flags) (width : ℕ) → IsPartialOf (started op flags width) []

-- and one more operand makes it that of one operand more
abbrev pub AddLaw : Type 0
AddLaw = (p : PartialOf) (xs : List Integer) (x : Integer) → IsPartialOf p xs → IsPartialOf (added p x) (xs ++ x ∷ [])

-- two partials of one reduction, joined, are that of the operands of both
abbrev pub JoinLaw : Type 0
JoinLaw = (p q : PartialOf) (xs ys : List Integer) → IsPartialOf p xs → IsPartialOf q ys → SameKind p q → IsWidth p.width → All (HasWidth p.width) xs → All (HasWidth p.width) ys
    → IsPartialOf (joined p q) (xs ++ ys)

-- the sums of at most 2^60 operands stay within 2^124, so one more may be added below that count, and two joined up to it
abbrev pub SumsLaw : Type 0
SumsLaw = (p : PartialOf) (xs : List Integer) → IsPartialOf p xs → All (HasWidth p.width) xs → p.count ≤ 2 ^ 60 → SumsFit p

-- where the range test passes, what is finished is the first value folded with all operands; else there is none
abbrev pub FinishLaw : Type 0
FinishLaw = (p : PartialOf) (xs : List Integer) (first : Integer) → IsPartialOf p xs → HasWidth p.width first → All (HasWidth p.width) xs
    → finished p first ≡ (if stays_in_range p first then Some (fold_from p.op first xs) else None)

-- no step of an addition of the operands one by one leaves a promised range
abbrev pub AddsUp : Flags → Integer → List Integer → Type 0
AddsUp flags v [] = Unit {0}
AddsUp flags v (x ∷ xs) = (add flags v x ≡ Ok (reduce Add v x)) × AddsUp flags (reduce Add v x) xs

-- where the range test passes, that is so in every order of the operands
abbrev pub RangeLaw : Type 0
RangeLaw = (p : PartialOf) (xs ys : List Integer) (first : Integer) → IsPartialOf p xs → HasWidth p.width first → All (HasWidth p.width) xs
    → stays_in_range p first ≡ true → IsPermutation xs ys → AddsUp p.flags first ys
