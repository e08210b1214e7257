use Rattle.std.proofs.Common.{◌+◌, rules}
use Rattle.std.specs.Prelude.{FitsSigned}
use Rattle.std.specs.Int.{w64}
use Rattle.int_num.proofs.Residues.{mod_inner, residue_pos}
use Rattle.int_num.proofs.Ranges.{wide_sum}
use Rattle.int_num.proofs.arithmetic.add.Goals as goal

pub returns : goal.returns
returns c =
    let f : FitsSigned w64 c.signed.result = search rules in
    let g : FitsSigned w64 c.signed-2.result = search rules in
    let e = wide_sum c.signed.result c.signed-2.result f g in
    let m = mod_inner (c.bits-3.result + c.bits-4.result) c.width-width.result c.width-width.ensures.range.most in
    let p = residue_pos c.width-width.result (c.args.a.bits + c.args.b.bits) in
    cc
