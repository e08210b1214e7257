use Rattle.std.proofs.Common.{◌≡◌, Some, true, false, refl}
use Rattle.seq_machine.specs.Acts.{top, control_of}
use Rattle.seq_machine.proofs.FrameLists.{same_some}
use Rattle.seq_machine.proofs.Steps.{script_is, script_stops, block_is, op_is, next_is, more_of}
use Rattle.seq_machine.proofs.machine.advance.Goals as goal

pub at-function-requires : goal.at-function-requires
at-function-requires g c = (c.requires.frames.each _ _ c.at-frame.ensures).function

pub at-block-requires : goal.at-block-requires
at-block-requires g c = rw c.at-function.ensures at ((c.requires.frames.each _ _ c.at-frame.ensures).block)

pub at-op-requires : goal.at-op-requires
at-op-requires g c = rw (c.at-function.ensures, c.at-block.ensures) at ((c.requires.frames.each _ _ c.at-frame.ensures).place)

pub perform-requires-clause-function : goal.perform-requires-clause-function
perform-requires-clause-function g c = λ f e.
    let t : top c.args.frames.now ≡ Some c.at-frame.result.now = rw c.len.ensures at c.at-frame.ensures in
    let same : f ≡ c.at-frame.result.now = same_some (top c.args.frames.now) f c.at-frame.result.now e t in
    rw same c.at-function.ensures

pub perform-requires-clause-op : goal.perform-requires-clause-op
perform-requires-clause-op g c = λ f e.
    let t : top c.args.frames.now ≡ Some c.at-frame.result.now = rw c.len.ensures at c.at-frame.ensures in
    let same : f ≡ c.at-frame.result.now = same_some (top c.args.frames.now) f c.at-frame.result.now e t in
    rw same (op_is c.args.code.now c.at-frame.result.now c.at-function.result.now c.at-block.result.now c.at-op.result.now c.at-function.ensures c.at-block.ensures c.at-op.ensures)

pub perform-requires-clause-more : goal.perform-requires-clause-more
perform-requires-clause-more g c = λ f e inner.
    let t : top c.args.frames.now ≡ Some c.at-frame.result.now = rw c.len.ensures at c.at-frame.ensures in
    let same : f ≡ c.at-frame.result.now = same_some (top c.args.frames.now) f c.at-frame.result.now e t in
    let b = block_is c.args.code.now c.at-frame.result.now c.at-function.result.now c.at-block.result.now c.at-function.ensures c.at-block.ensures in
    rw same (more_of c.args.code.now c.at-frame.result.now c.at-op.result.now c.at-block.result.now c.has_next.result b (rw c.len-2.ensures at c.has_next.ensures) c.if-not-has_next.false inner)

pub perform-requires-clause-site : goal.perform-requires-clause-site
perform-requires-clause-site g c = λ f e. rw e at c.requires.site

pub returns-then-not-has_next-clause-follows : goal.returns-then-not-has_next-clause-follows
returns-then-not-has_next-clause-follows g c =
    let t : top c.args.frames.now ≡ Some c.at-frame.result.now = rw c.len.ensures at c.at-frame.ensures in
    let b = block_is c.args.code.now c.at-frame.result.now c.at-function.result.now c.at-block.result.now c.at-function.ensures c.at-block.ensures in
    let there = op_is c.args.code.now c.at-frame.result.now c.at-function.result.now c.at-block.result.now c.at-op.result.now c.at-function.ensures c.at-block.ensures c.at-op.ensures in
    let next = next_is c.args.code.now c.at-frame.result.now c.at-op.result.now c.at-block.result.now c.has_next.result false b (rw c.len-2.ensures at c.has_next.ensures) c.if-not-has_next.true in
    rw (script_stops c.args.code.now c.args.input.now (control_of c.args.frames.now c.args.input_place.now c.args.output.now) c.at-frame.result.now c.at-function.result.now c.at-op.result.now t c.at-function.ensures there next) (refl, refl)

pub returns-clause-follows : goal.returns-clause-follows
returns-clause-follows g c =
    let t : top c.args.frames.now ≡ Some c.at-frame.result.now = rw c.len.ensures at c.at-frame.ensures in
    let b = block_is c.args.code.now c.at-frame.result.now c.at-function.result.now c.at-block.result.now c.at-function.ensures c.at-block.ensures in
    let there = op_is c.args.code.now c.at-frame.result.now c.at-function.result.now c.at-block.result.now c.at-op.result.now c.at-function.ensures c.at-block.ensures c.at-op.ensures in
    let next = next_is c.args.code.now c.at-frame.result.now c.at-op.result.now c.at-block.result.now c.has_next.result true b (rw c.len-2.ensures at c.has_next.ensures) c.if-not-has_next.false in
    rw (script_is c.args.code.now c.args.input.now (control_of c.args.frames.now c.args.input_place.now c.args.output.now) c.at-frame.result.now c.at-function.result.now c.at-op.result.now t c.at-function.ensures there next) (c.perform.ensures.follows c.at-frame.result.now t)
