use Rattle.std.proofs.Common.{◌^◌, ◌≤◌, arith}
use Rattle.std.proofs.Math.Pow.{pow_mono}
use Rattle.int_num.proofs.cast.zext.Goals as goal

pub new-requires-clause-bits : goal.new-requires-clause-bits
new-requires-clause-bits c =
    let b = c.bits.ensures.range.bits in
    let l : c.args.a.width ≤ c.args.width = omega arith in
    let m : 2 ^ c.args.a.width ≤ 2 ^ c.args.width = pow_mono l in
    omega arith
