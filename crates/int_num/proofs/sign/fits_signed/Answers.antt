use Rattle.std.proofs.Common.{arith}
use Rattle.std.proofs.lemmas.Int.{ints}
use Rattle.int_num.specs.Operations.{fits_signed}
use Rattle.int_num.proofs.sign.fits_signed.Goals as goal

pub returns-then-half-number : goal.returns-then-half-number
unfolding fits_signed
returns-then-half-number c = grind (arith, ints)

pub returns-else-half-number : goal.returns-else-half-number
unfolding fits_signed
returns-else-half-number c = grind (arith, ints)
