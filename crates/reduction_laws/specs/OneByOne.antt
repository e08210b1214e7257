-- What an instruction of a reduction does with its operands one by one.
use Rattle.std.specs.Prelude.{◌≡◌, Bool, false, List, [], ◌∷◌, Option, Some, None, Result, Ok, Err, if◌then◌else◌}
use Rattle.int_num.specs.Integer.{Integer}
use Rattle.int_num.specs.Operations.{binary, compare}
use Rattle.int_num.specs.declared.ops.BinOp.TheVariants as bin
use Rattle.int_num.specs.declared.ops.Pred.{Pred}
use Rattle.int_num.specs.declared.ops.Pred.TheVariants.{Sgt, Slt, Ugt, Ult}
use Rattle.int_num.specs.declared.ops.RedOp.{RedOp}
use Rattle.int_num.specs.declared.ops.RedOp.TheVariants.{Add, Mul, And, Or, Xor, Smax, Smin, Umax, Umin}
use Rattle.int_num.specs.declared.ops.Flags.{Flags}
use Rattle.int_num.specs.declared.ops.Poison.{Poison}

-- what a call of a maximum or a minimum gives: the first operand where it is beyond the second, else the second
abbrev pub extreme : Pred → Integer → Integer → Integer
extreme pred a b = if compare pred a b then a else b

-- the instruction's own operation with its flags: that of two integers, or a call of a maximum or a minimum
unfoldable pub operation : RedOp → Flags → Integer → Integer → Result Integer Poison
operation Add flags a b = binary bin.Add flags a b
operation Mul flags a b = binary bin.Mul flags a b
operation And flags a b = binary bin.And flags a b
operation Or flags a b = binary bin.Or flags a b
operation Xor flags a b = binary bin.Xor flags a b
operation Smax flags a b = Ok (extreme Sgt a b)
operation Smin flags a b = Ok (extreme Slt a b)
operation Umax flags a b = Ok (extreme Ugt a b)
operation Umin flags a b = Ok (extreme Ult a b)

-- the flags whose promise the range test sees to: both ranges of a sum, and of the others no promise
abbrev pub MayHave : RedOp → Flags → Type 0
MayHave Mul flags = (flags.nuw ≡ false) × (flags.nsw ≡ false)
MayHave Or flags = flags.disjoint ≡ false
MayHave _ flags = Unit {0}

-- an operand, and whether it stands behind the value or before it
pub record Given : Type 0 where
  pub operand : Integer
  pub behind : Bool

-- the instruction done with a value and one operand
abbrev pub applied : RedOp → Flags → Integer → Given → Result Integer Poison
applied op flags v x = if x.behind then operation op flags v x.operand else operation op flags x.operand v

unfoldable pub unless_poison : Result Integer Poison → (Integer → Option Integer) → Option Integer
unless_poison (Ok n) next = next n
unless_poison (Err cause) next = None

-- the instruction done with a value and all operands, one by one; None where it is poison once
unfoldable pub one_by_one : RedOp → Flags → Integer → List Given → Option Integer
one_by_one op flags v [] = Some v
one_by_one op flags v (x ∷ xs) = unless_poison (applied op flags v x) (λ n. one_by_one op flags n xs)
