use Rattle.std.proofs.Common.{◌%◌, ◌^◌, ◌∙◌, ap}
use Rattle.std.specs.Int.{w64, cast_unsigned}
use Rattle.std.proofs.lemmas.Int.{to_z-of_z}
use Rattle.int_num.specs.Operations.{of_bits}
use Rattle.int_num.proofs.Residues.{residue_of}
use Rattle.int_num.proofs.sign.modulo.Goals as goal

pub returns : goal.returns
returns c =
    let e = c.cast_unsigned.ensures ∙ ap (cast_unsigned w64) (to_z-of_z w64 c.args.number c.ranges.number) in
    c.low.ensures ∙ ap (λ n. of_bits c.args.width (n % 2 ^ c.args.width)) e ∙ ap (of_bits c.args.width) (residue_of c.args.width c.args.number c.requires.most c.ranges.number)
