use Rattle.std.proofs.Common.{◌≡◌, Some}
use Rattle.seq_machine.specs.Acts.{top}
use Rattle.machine_calls.proofs.Follows.{more_in}
use Rattle.machine_calls.proofs.place.has_more_on_top.Goals as goal

pub returns : goal.returns
returns c =
    let t : top c.args.frames.now ≡ Some c.at.result.now = rw c.len.ensures at c.at.ensures in
    more_in c.args.code.now c.args.frames.now c.at.result.now c.block_of_top-block.result.now c.len-2.result t (c.block_of_top-block.ensures c.at.result.now t) c.len-2.ensures
