-- Operations that join many integers of a width into one, in any order.
use Rattle.std.specs.Prelude.{ℕ, ◌+◌, ◌-◌, ◌*◌, ◌%◌, ◌^◌, nat_lt, int_lt, if◌then◌else◌}
use Rattle.int_num.specs.Integer.{Integer, signed}
use Rattle.int_num.specs.Operations.{of_bits, conjunction, disjunction, difference}
use Rattle.int_num.specs.declared.ops.RedOp.{RedOp}
use Rattle.int_num.specs.declared.ops.RedOp.TheVariants.{Add, Mul, And, Or, Xor, Smax, Smin, Umax, Umin}

-- the sum and the product are modulo 2^width, and the last four pick one operand
unfoldable pub reduce : RedOp → Integer → Integer → Integer
reduce Add a b = of_bits a.width ((a.bits + b.bits) % 2 ^ a.width)
reduce Mul a b = of_bits a.width ((a.bits * b.bits) % 2 ^ a.width)
reduce And a b = conjunction a b
reduce Or a b = disjunction a b
reduce Xor a b = difference a b
reduce Smax a b = if int_lt (signed a) (signed b) then b else a
reduce Smin a b = if int_lt (signed b) (signed a) then b else a
reduce Umax a b = if nat_lt a.bits b.bits then b else a
reduce Umin a b = if nat_lt b.bits a.bits then b else a

-- the bits that change nothing where they are joined with an integer
abbrev pub identity_bits : RedOp → ℕ → ℕ
identity_bits Add width = 0
identity_bits Mul width = 1
identity_bits And width = 2 ^ width - 1
identity_bits Or width = 0
identity_bits Xor width = 0
identity_bits Smax width = 2 ^ (width - 1)
identity_bits Smin width = 2 ^ (width - 1) - 1
identity_bits Umax width = 0
identity_bits Umin width = 2 ^ width - 1

-- the integer that changes nothing where it is joined with another
abbrev pub identity : RedOp → ℕ → Integer
identity op width = of_bits width (identity_bits op width)
