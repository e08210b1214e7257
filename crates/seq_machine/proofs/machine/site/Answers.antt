use Rattle.std.proofs.Common.{◌≡◌, Some, arith}
use Rattle.seq_machine.specs.Acts.{top}
use Rattle.seq_machine.proofs.Steps.{site_is}
use Rattle.seq_machine.proofs.machine.site.Goals as goal

pub at-function-requires : goal.at-function-requires
at-function-requires c = (c.requires.frames.each _ _ c.at-frame.ensures).function

pub at-block-requires : goal.at-block-requires
at-block-requires c = rw c.at-function.ensures at ((c.requires.frames.each _ _ c.at-frame.ensures).block)

pub overflow_add-result : goal.overflow_add-result
overflow_add-result c =
    let place = rw (c.at-function.ensures, c.at-block.ensures) at ((c.requires.frames.each _ _ c.at-frame.ensures).place) in
    let most = c.requires.code c.at-frame.result.now.function c.at-function.result.now c.at-function.ensures c.at-frame.result.now.block c.at-block.result.now c.at-block.ensures in
    omega (arith, place, most)

pub returns : goal.returns
returns c =
    let t : top c.args.frames.now ≡ Some c.at-frame.result.now = rw c.len.ensures at c.at-frame.ensures in
    site_is c.args.code.now c.args.frames.now c.at-frame.result.now c.at-function.result.now c.at-block.result.now t c.at-function.ensures c.at-block.ensures
