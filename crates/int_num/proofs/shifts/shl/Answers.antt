use Rattle.std.proofs.Common.{◌*◌, ◌^◌, ◌<◌, ◌≡◌, true, ltb, rules, arith}
use Rattle.std.specs.Prelude.{FitsSigned}
use Rattle.std.specs.Int.{w64}
use Rattle.std.proofs.lemmas.Bool.Decides.{nat_tests}
use Rattle.int_num.specs.Integer.{signed}
use Rattle.int_num.proofs.Residues.{residue_pos, mod_inner}
use Rattle.int_num.proofs.Ranges.{wide, fits_signed_shifted, fits_unsigned_shifted}
use Rattle.int_num.proofs.shifts.shl.Goals as goal

pub returns : goal.returns
returns c =
    let f : FitsSigned w64 c.signed.result = search rules in
    let e = wide c.signed.result f in
    let l : c.args.b.bits < c.args.a.width = omega arith in
    let t : ltb c.args.b.bits c.args.a.width ≡ true = grind (arith, nat_tests) in
    let u = fits_unsigned_shifted c.args.a.width c.args.b.bits c.args.a.bits l in
    let s = fits_signed_shifted c.args.a.width c.args.b.bits (signed c.args.a) l in
    let m = mod_inner (c.bits-3.result * 2 ^ c.bits-count.result) c.width-width.result c.width-width.ensures.range.most in
    let p = residue_pos c.args.a.width (c.args.a.bits * 2 ^ c.args.b.bits) in
    rw t (cc)
