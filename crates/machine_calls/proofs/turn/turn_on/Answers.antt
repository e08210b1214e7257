use Rattle.std.proofs.Common.{◌<◌, ◌-◌, sym, ◌∙◌, arith}
use Rattle.seq_machine.proofs.Steps.{failed_never}
use Rattle.machine_calls.proofs.Turning.{turn_arrives, turn_leaves}
use Rattle.machine_calls.proofs.turn.turn_on.Goals as goal

pub unreachable-requires : goal.unreachable-requires
unreachable-requires c = failed_never c.args.code.now c.args.input.now c.loop-state.state c.step.new.state c.in-Failed.field-0 c.in-Failed.field-1 (rw c.in-Failed.is at c.in_ok-step.ensures.follows)

pub returns-in-AtHeader-clause-turn : goal.returns-in-AtHeader-clause-turn
returns-in-AtHeader-clause-turn c =
    let room : 0 < c.args.n - c.loop-state.state.steps = let less = c.loop-state-test.true in omega arith in
    sym c.loop-state.invariant.rest
    ∙ turn_arrives c.args.code.now c.args.input.now c.args.of.now c.args.depth c.loop-state.state c.step.new.state _ room (rw c.in-Next.is at c.in_ok-step.ensures.step) (rw c.in-AtHeader.is at c.frames_stand.ensures)

pub returns-in-Outside-clause-turn : goal.returns-in-Outside-clause-turn
returns-in-Outside-clause-turn c =
    let room : 0 < c.args.n - c.loop-state.state.steps = let less = c.loop-state-test.true in omega arith in
    sym c.loop-state.invariant.rest
    ∙ turn_leaves c.args.code.now c.args.input.now c.args.of.now c.args.depth c.loop-state.state c.step.new.state _ room (rw c.in-Next.is at c.in_ok-step.ensures.step) (rw c.in-Outside.is at c.frames_stand.ensures)
