use Rattle.std.proofs.Common.{rules}
use Rattle.std.specs.Prelude.{FitsSigned}
use Rattle.std.specs.Int.{w64}
use Rattle.int_num.proofs.Ranges.{wide_difference, fits_down}
use Rattle.int_num.proofs.arithmetic.sub.Goals as goal

pub returns : goal.returns
returns c =
    let f : FitsSigned w64 c.signed.result = search rules in
    let g : FitsSigned w64 c.signed-2.result = search rules in
    let e = wide_difference c.signed.result c.signed-2.result f g in
    let m = fits_down c.args.a.width c.args.a.bits c.args.b.bits c.bits-2.ensures.range.bits in
    cc
