use Rattle.std.proofs.Common.{◌∙◌, ap, leb}
use Rattle.int_num.proofs.Ranges.{fits_unsigned_of}
use Rattle.int_num.proofs.sign.fits_unsigned.Goals as goal

pub returns : goal.returns
returns c = ap (leb c.args.number) c.ones.ensures ∙ fits_unsigned_of c.args.width c.args.number
