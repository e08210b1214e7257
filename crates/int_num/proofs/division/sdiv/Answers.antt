use Rattle.std.proofs.Common.{◌≡◌, sym, refl, rules, true}
use Rattle.std.specs.Prelude.{FitsSigned}
use Rattle.std.specs.Int.{w64, CanDivide}
use Rattle.std.proofs.lemmas.Int.{quot_is, rem_is}
use Rattle.int_num.specs.Operations.{divides}
use Rattle.int_num.proofs.Quotients.{may_divide}
use Rattle.int_num.proofs.division.sdiv.Goals as goal

pub nonzero_div-dividend : goal.nonzero_div-dividend
nonzero_div-dividend c =
    let d = c.if-not-divides.ensures {u = tt} in
    let can : CanDivide w64 c.signed-dividend.result c.signed-divisor.result = rw (c.signed-dividend.ensures, c.signed-divisor.ensures) (d.fits refl) in
    may_divide c.signed-dividend.result c.signed-divisor.result (search rules) (search rules) can

pub nonzero_rem-dividend : goal.nonzero_rem-dividend
nonzero_rem-dividend c =
    let d = c.if-not-divides.ensures {u = tt} in
    let can : CanDivide w64 c.signed-dividend.result c.signed-divisor.result = rw (c.signed-dividend.ensures, c.signed-divisor.ensures) (d.fits refl) in
    may_divide c.signed-dividend.result c.signed-divisor.result (search rules) (search rules) can

pub returns : goal.returns
returns c =
    let d = c.if-not-divides.ensures {u = tt} in
    let can : CanDivide w64 c.signed-dividend.result c.signed-divisor.result = rw (c.signed-dividend.ensures, c.signed-divisor.ensures) (d.fits refl) in
    let f : FitsSigned w64 c.signed-dividend.result = search rules in
    let g : FitsSigned w64 c.signed-divisor.result = search rules in
    let q = quot_is w64 c.signed-dividend.result c.signed-divisor.result f g can.1 in
    let r = rem_is w64 c.signed-dividend.result c.signed-divisor.result f g in
    let t : divides c.args.a c.args.b ≡ true = sym d.value in
    rw t (cc)
