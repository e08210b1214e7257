-- The order of the operands of a reduction makes no difference.
use Rattle.std.specs.Prelude.{◌≡◌, ℕ, List, map, All, true, Some}
use Rattle.std.specs.List.Sorted.{IsPermutation}
use Rattle.int_num.specs.Integer.{Integer, HasWidth}
use Rattle.int_num.specs.Reductions.{reduce}
use Rattle.int_num.specs.declared.ops.RedOp.{RedOp}
use Rattle.int_num.specs.declared.ops.Flags.{Flags}
use Rattle.reduction_merge.specs.Partials.{PartialOf, finished, stays_in_range}
use Rattle.reduction_merge.specs.Operands.{IsPartialOf}
use Rattle.reduction_laws.specs.OneByOne.{operation, MayHave, Given, one_by_one}

-- two operands of one width may change sides: in the operation without flags, and in the instruction's own, poison included
abbrev pub OperationsCommute : Type 0
OperationsCommute = (op : RedOp) (flags : Flags) (w : ℕ) (a b : Integer) → HasWidth w a → HasWidth w b → (reduce op a b ≡ reduce op b a) × (operation op flags a b ≡ operation op flags b a)

-- a partial of a list is a partial of every permutation of it
abbrev pub AnyOrderHasThePartial : Type 0
AnyOrderHasThePartial = (p : PartialOf) (xs ys : List Integer) → IsPartialOf p xs → All (HasWidth p.width) xs → IsPermutation xs ys → IsPartialOf p ys

-- where the range test passes, the operands done one by one, each on either side, end in what is finished
abbrev pub AnyOrderIsFinished : Type 0
AnyOrderIsFinished =
    (p : PartialOf) (xs : List Integer) (given : List Given) (first : Integer) → IsPartialOf p xs → HasWidth p.width first → All (HasWidth p.width) xs → MayHave p.op p.flags → IsPermutation xs (map (λ g. g.operand) given)
    → stays_in_range p first ≡ true → (last : Integer) × (finished p first ≡ Some last) × (one_by_one p.op p.flags first given ≡ Some last)
