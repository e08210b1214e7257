use Rattle.std.proofs.Common.{◌≡◌, ◌+◌, ◌<◌, ◌≤◌, ◌-◌, sym, ◌∙◌, arith}
use Rattle.seq_machine.specs.Step.{step}
use Rattle.seq_machine.specs.declared.state.Step.TheVariants.{Next}
use Rattle.seq_machine.proofs.Steps.{run_ended, run_trapped, run_next, next_counts, led_on, ahead_of, failed_never}
use Rattle.seq_machine.proofs.run.run_from.Goals as goal

pub unreachable-requires : goal.unreachable-requires
unreachable-requires c = failed_never c.args.code.now c.args.input.now c.loop.state c.step.new.state c.in-Failed.field-0 c.in-Failed.field-1 (rw c.in-Failed.is at c.in_ok-step.ensures.follows)

pub returns-in-Trap-clause-run : goal.returns-in-Trap-clause-run
returns-in-Trap-clause-run c =
    let lt : 0 < c.args.n - c.loop.counter = omega arith in
    sym c.loop.invariant.2
    ∙ run_trapped c.args.code.now c.args.input.now _ _ _ _ _ lt (rw c.in-Trap.is at c.in_ok-step.ensures.step)

pub returns-in-Ended-clause-run : goal.returns-in-Ended-clause-run
returns-in-Ended-clause-run c =
    let lt : 0 < c.args.n - c.loop.counter = omega arith in
    sym c.loop.invariant.2
    ∙ run_ended c.args.code.now c.args.input.now _ _ _ _ lt (rw c.in-Ended.is at c.in_ok-step.ensures.step)

pub returns-in_err-step-clause-ahead : goal.returns-in_err-step-clause-ahead
returns-in_err-step-clause-ahead c =
    let lt : c.loop.counter < c.args.n = c.loop-test.true in
    ahead_of c.from_residual.result c.args.code.now c.args.input.now c.args.state.now c.loop.state c.step.new.state c.loop.counter c.args.n (omega (arith, lt)) c.loop.invariant.4 c.in_err-step.ensures.unmoved

pub loop-preserved : goal.loop-preserved
loop-preserved c =
    let lt : c.loop.counter < c.args.n = c.loop-test.true in
    let next : step c.args.code.now c.args.input.now c.loop.state ≡ (Next, c.step.new.state) = rw c.in-Next.is at c.in_ok-step.ensures.step in
    let one : c.step.new.state.steps ≡ c.loop.state.steps + 1 = next_counts c.args.code.now c.args.input.now c.loop.state c.step.new.state next in
    let fits = c.loop.invariant.1 in
    let bound : c.loop.state.steps ≤ c.args.state.now.steps + c.loop.counter = c.loop.invariant.3 in
    let left : c.args.n - c.loop.counter ≡ (c.args.n - (c.loop.counter + 1)) + 1 = omega (arith, lt) in (
      c.in_ok-step.ensures.kept,
      omega (arith, one, fits, left),
      sym (run_next c.args.code.now c.args.input.now c.loop.state c.step.new.state (c.args.n - c.loop.counter) (c.args.n - (c.loop.counter + 1)) left next) ∙ c.loop.invariant.2,
      omega (arith, one, bound),
      led_on c.args.code.now c.args.input.now c.args.state.now c.loop.state c.step.new.state c.loop.counter next c.loop.invariant.4,
    )
