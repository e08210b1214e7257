use Rattle.std.proofs.Common.{refl, rules}
use Rattle.std.specs.Int.{w64, CanDivide}
use Rattle.int_num.proofs.Quotients.{may_divide}
use Rattle.int_num.proofs.division.srem.Goals as goal

pub nonzero_rem-signed : goal.nonzero_rem-signed
nonzero_rem-signed c =
    let d = c.if-not-divides.ensures {u = tt} in
    let can : CanDivide w64 c.signed.result c.signed-2.result = rw (c.signed.ensures, c.signed-2.ensures) (d.fits refl) in
    may_divide c.signed.result c.signed-2.result (search rules) (search rules) can
