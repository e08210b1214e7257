use Rattle.std.proofs.Common.{arith}
use Rattle.std.proofs.lemmas.Int.{ints}
use Rattle.std.proofs.lemmas.Bool.Decides.{nat_tests}
use Rattle.int_num.proofs.Powers.{Powers, powers}
use Rattle.int_num.proofs.sign.signed.Goals as goal

pub returns-then-bits-top : goal.returns-then-bits-top
returns-then-bits-top c =
    let p : Powers c.args.a.width = powers c.args.a.width c.bits.ensures.range.width in
    grind (arith, ints, nat_tests)
