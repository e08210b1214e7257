use Rattle.std.proofs.Common.{◌∙◌, ap}
use Rattle.std.specs.Int.{w64, to_le_bytes}
use Rattle.int_num.proofs.LittleEndian.{low_first}
use Rattle.int_num.proofs.bytes.low_bytes.Goals as goal

pub returns : goal.returns
returns c = c.to_le_bytes.ensures ∙ ap (to_le_bytes w64) c.bits.ensures.value ∙ low_first 8 c.args.a.bits
