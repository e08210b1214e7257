use Rattle.std.proofs.Common.{◌<◌, length, arith}
use Rattle.seq_machine.proofs.FrameLists.{frames_below}
use Rattle.seq_machine.proofs.Kept.{caller_waits, kept_bare, top_some}
use Rattle.seq_machine.proofs.acts.back.Goals as goal

pub resume-requires-clause-frames : goal.resume-requires-clause-frames
resume-requires-clause-frames c =
    let two : 1 < length c.args.frames.now = let z = c.requires.frames.filled in omega (arith, z) in
    rw c.drop_top.ensures (frames_below _ _ c.requires.frames two)

pub resume-requires-clause-waits : goal.resume-requires-clause-waits
resume-requires-clause-waits c = λ f e.
    let two : 1 < length c.args.frames.now = let z = c.requires.frames.filled in omega (arith, z) in
    let t = top_some c.args.frames.now c.requires.frames.filled in
    caller_waits c.args.code.now c.args.frames.now f t.0 c.args.value c.requires.frames two t.1 (c.requires.value t.0 t.1) (rw c.drop_top.ensures at e)

pub returns-then-len-eq1-clause-kept : goal.returns-then-len-eq1-clause-kept
returns-then-len-eq1-clause-kept c =
    let t = top_some c.args.frames.now c.requires.frames.filled in
    rw (c.bare_top.ensures, t.1) (kept_bare c.args.code.now c.args.frames.now t.0 c.requires.frames t.1)
