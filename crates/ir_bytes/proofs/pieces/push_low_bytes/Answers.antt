use Rattle.std.proofs.Common.{◌≡◌, take, ap, ◌∙◌}
use Rattle.int_num.specs.Bytes as number
use Rattle.int_num.proofs.LittleEndian.{first_bytes}
use Rattle.ir_bytes.proofs.pieces.push_low_bytes.Goals as goal

pub returns : goal.returns
returns c =
    let first : take c.args.count c.low_bytes.result ≡ number.low_bytes c.args.count c.args.number.bits = ap (take c.args.count) c.low_bytes.ensures ∙ first_bytes 8 c.args.count c.args.number.bits c.requires in
    rw first at c.push_text.ensures
