use Rattle.std.proofs.Common.{◌≡◌, Some, refl}
use Rattle.seq_machine.specs.Acts.{top, control_of, acted_of}
use Rattle.seq_effects.specs.Script.{sent}
use Rattle.seq_machine.specs.Step.{here}
use Rattle.seq_machine.proofs.FrameLists.{same_some}
use Rattle.seq_machine.proofs.Steps.{effect_of, here_of, here_same, performed, cut_off}
use Rattle.seq_machine.proofs.Owns.{follows_left, own_after}
use Rattle.seq_machine.proofs.Slotted.{stop_quiet, slot_stays, slot_follows, slot_owned}
use Rattle.seq_machine.proofs.Kept.{more_fits, top_some}
use Rattle.seq_machine.proofs.machine.perform.Goals as goal

pub act-requires-clause-effect : goal.act-requires-clause-effect
act-requires-clause-effect g c = λ f e.
    effect_of c.args.code.now c.args.function.now f c.args.op.now c.in-Ok.effect (c.requires.function f e) (c.requires.op f e) (c.requires.more f e) c.in-Ok.ensures.effect

pub returns-in-Ok-clause-follows : goal.returns-in-Ok-clause-follows
returns-in-Ok-clause-follows g c = λ f e.
    let t : top c.args.frames.now ≡ Some c.at-frame.result.now = rw c.len.ensures at c.at-frame.ensures in
    let same : c.at-frame.result.now ≡ f = same_some (top c.args.frames.now) c.at-frame.result.now f t e in
    performed g.M.Mem.image g.M.Mem.relation c.args.code.now c.args.function.now f (control_of c.args.frames.now c.args.input_place.now c.args.output.now)
    (here_of c.args.code.now c.args.function.now c.at-frame.result.now c.args.site c.args.input.now c.args.input_place.now)
    (here c.args.code.now c.args.function.now f c.args.input.now c.args.input_place.now) c.args.op.now c.args.memory.now c.execute.new.memory
    (here_same c.args.code.now c.args.function.now c.at-frame.result.now f c.args.site c.args.input.now c.args.input_place.now same (c.requires.site f e))
    c.in-Ok.effect (sent (acted_of c.act.new.frames c.act.new.input_place c.act.new.output) c.act.result) c.in-Ok.ensures.follows (c.act.ensures.acted f e)

pub returns-in-Err-clause-follows : goal.returns-in-Err-clause-follows
returns-in-Err-clause-follows g c = λ f e.
    let t : top c.args.frames.now ≡ Some c.at-frame.result.now = rw c.len.ensures at c.at-frame.ensures in
    let same : c.at-frame.result.now ≡ f = same_some (top c.args.frames.now) c.at-frame.result.now f t e in
    cut_off g.M.Mem.image g.M.Mem.relation c.args.code.now c.args.function.now f (control_of c.args.frames.now c.args.input_place.now c.args.output.now)
    (here_of c.args.code.now c.args.function.now c.at-frame.result.now c.args.site c.args.input.now c.args.input_place.now)
    (here c.args.code.now c.args.function.now f c.args.input.now c.args.input_place.now) c.args.op.now c.args.memory.now c.execute.new.memory
    (here_same c.args.code.now c.args.function.now c.at-frame.result.now f c.args.site c.args.input.now c.args.input_place.now same (c.requires.site f e))
    c.in-Err.fault c.in-Err.ensures.follows

pub returns-in-Ok-clause-picture : goal.returns-in-Ok-clause-picture
returns-in-Ok-clause-picture g c =
    let left = follows_left g.M.Mem.image g.M.Mem.relation g.met.M.Mem.sound (here_of c.args.code.now c.args.function.now c.at-frame.result.now c.args.site c.args.input.now c.args.input_place.now) c.args.op.now c.in-Ok.effect c.args.memory.now c.execute.new.memory
    c.in-Ok.ensures.effect c.requires.picture c.in-Ok.ensures.follows in
    left.0

pub returns-in-Ok-clause-own : goal.returns-in-Ok-clause-own
returns-in-Ok-clause-own g c =
    let t : top c.args.frames.now ≡ Some c.at-frame.result.now = rw c.len.ensures at c.at-frame.ensures in
    let left = follows_left g.M.Mem.image g.M.Mem.relation g.met.M.Mem.sound (here_of c.args.code.now c.args.function.now c.at-frame.result.now c.args.site c.args.input.now c.args.input_place.now) c.args.op.now c.in-Ok.effect c.args.memory.now c.execute.new.memory
    c.in-Ok.ensures.effect c.requires.picture c.in-Ok.ensures.follows in
    own_after c.args.code.now c.args.function.now c.at-frame.result.now (control_of c.args.frames.now c.args.input_place.now c.args.output.now) c.in-Ok.effect (g.M.Mem.image c.args.memory.now) (g.M.Mem.image c.execute.new.memory)
    c.act.new.frames c.act.new.input_place c.act.new.output c.act.result _ _ c.requires.picture c.requires.own t left.1 (c.act.ensures.acted c.at-frame.result.now t) c.act.ensures.err c.act.ensures.stops

pub returns-in-Ok-clause-image : goal.returns-in-Ok-clause-image
returns-in-Ok-clause-image g c =
    stop_quiet c.args.code.now c.args.function.now c.args.op.now c.in-Ok.effect c.act.result _ c.in_default.not-Alloca c.in-Ok.ensures.effect c.act.ensures.stops c.in-Ok.ensures.quiet

pub make_slot-requires-clause-place : goal.make_slot-requires-clause-place
make_slot-requires-clause-place g c = λ f e. more_fits c.args.code.now f c.requires.code (c.requires.more f e (rw c.in-Alloca.is refl))

pub make_slot-requires-clause-registers : goal.make_slot-requires-clause-registers
make_slot-requires-clause-registers g c = λ f e. rw (c.requires.function f e) at ((c.requires.frames.each _ f e).registers)

pub returns-in-Alloca-clause-follows : goal.returns-in-Alloca-clause-follows
returns-in-Alloca-clause-follows g c = λ f e.
    rw c.slot_made.ensures
    (slot_follows g.M.Mem.image g.M.Mem.relation c.args.code.now c.args.function.now f (control_of c.args.frames.now c.args.input_place.now c.args.output.now) c.args.site c.args.input.now c.in-Alloca.to c.in-Alloca.size c.args.memory.now c.make_slot.new.memory
    c.args.op.now c.make_slot.new.frames c.make_slot.result c.in-Alloca.is (c.requires.site f e) e c.make_slot.ensures.follows c.make_slot.ensures.sets c.make_slot.ensures.slotted)

pub returns-in-Alloca-clause-kept : goal.returns-in-Alloca-clause-kept
returns-in-Alloca-clause-kept g c =
    let t = top_some c.args.frames.now c.requires.frames.filled in
    slot_stays c.args.code.now c.args.function.now t.0 c.args.frames.now c.make_slot.new.frames c.make_slot.result c.requires.frames t.1 (c.requires.function t.0 t.1) (c.requires.more t.0 t.1 (rw c.in-Alloca.is refl))
    c.make_slot.ensures.sets c.make_slot.ensures.slotted c.make_slot.ensures.err

pub returns-in-Alloca-clause-picture : goal.returns-in-Alloca-clause-picture
returns-in-Alloca-clause-picture g c =
    let t = top_some c.args.frames.now c.requires.frames.filled in
    let left = slot_owned g.M.Mem.image g.M.Mem.relation c.args.code.now c.args.function.now t.0 (control_of c.args.frames.now c.args.input_place.now c.args.output.now) c.args.site c.args.input.now c.in-Alloca.to c.in-Alloca.size c.args.memory.now c.make_slot.new.memory
    g.met.M.Mem.sound c.make_slot.new.frames c.make_slot.result c.requires.picture c.requires.own t.1 c.make_slot.ensures.follows c.make_slot.ensures.sets c.make_slot.ensures.slotted c.make_slot.ensures.image c.make_slot.ensures.err in
    left.0

pub returns-in-Alloca-clause-own : goal.returns-in-Alloca-clause-own
returns-in-Alloca-clause-own g c =
    let t = top_some c.args.frames.now c.requires.frames.filled in
    let left = slot_owned g.M.Mem.image g.M.Mem.relation c.args.code.now c.args.function.now t.0 (control_of c.args.frames.now c.args.input_place.now c.args.output.now) c.args.site c.args.input.now c.in-Alloca.to c.in-Alloca.size c.args.memory.now c.make_slot.new.memory
    g.met.M.Mem.sound c.make_slot.new.frames c.make_slot.result c.requires.picture c.requires.own t.1 c.make_slot.ensures.follows c.make_slot.ensures.sets c.make_slot.ensures.slotted c.make_slot.ensures.image c.make_slot.ensures.err in
    left.1
