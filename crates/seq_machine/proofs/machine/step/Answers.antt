use Rattle.seq_machine.specs.Step.{script, control}
use Rattle.seq_machine.proofs.Steps.{step_follows, step_steps, step_unmoved}
use Rattle.seq_machine.proofs.machine.step.Goals as goal

pub returns-clause-follows : goal.returns-clause-follows
returns-clause-follows g c =
    rw c.settle.ensures.answer
    (step_follows g.M.Mem.image g.M.Mem.relation (script c.args.code.now c.args.input.now (control c.args.state.now))
    (record { frames = c.advance-done.new.frames; memory = c.advance-done.new.memory; input_place = c.advance-done.new.input_place; output = c.advance-done.new.output; steps = c.settle.new.steps })
    c.site-site.result c.advance-done.result c.args.state.now.memory c.advance-done.new.memory c.advance-done.ensures.follows)

pub returns-clause-step : goal.returns-clause-step
returns-clause-step g c =
    rw (c.settle.ensures.answer, c.settle.ensures.steps, c.site-site.ensures)
    (step_steps g.M.Mem.image g.M.Mem.relation g.met.M.Mem.sound c.args.code.now c.args.input.now c.args.state.now c.advance-done.new.frames c.advance-done.new.input_place c.advance-done.new.output c.advance-done.result c.advance-done.new.memory
    c.advance-done.ensures.follows c.advance-done.ensures.err c.advance-done.ensures.image)

pub returns-clause-unmoved : goal.returns-clause-unmoved
returns-clause-unmoved g c =
    rw (c.settle.ensures.answer, c.settle.ensures.steps)
    (step_unmoved g.M.Mem.image c.args.state.now c.site-site.result c.advance-done.new.frames c.advance-done.new.input_place c.advance-done.new.output c.advance-done.result c.advance-done.new.memory
    c.advance-done.ensures.err c.advance-done.ensures.image)
