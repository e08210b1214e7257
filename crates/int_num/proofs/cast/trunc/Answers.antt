use Rattle.std.proofs.Common.{rules}
use Rattle.std.specs.Prelude.{FitsSigned}
use Rattle.std.specs.Int.{w64}
use Rattle.int_num.proofs.Residues.{residue_pos}
use Rattle.int_num.proofs.Ranges.{wide}
use Rattle.int_num.proofs.cast.trunc.Goals as goal

pub returns : goal.returns
returns c =
    let f : FitsSigned w64 c.signed.result = search rules in
    let e = wide c.signed.result f in
    let p = residue_pos c.args.width c.args.a.bits in
    cc
