use Rattle.std.proofs.Common.{◌≡◌, ◌+◌, ◌<◌, ◌≤◌, ◌-◌, None, sym, ◌∙◌, ap, arith}
use Rattle.seq_machine.specs.Step.{step, steps_from}
use Rattle.seq_machine.specs.declared.state.Step.TheVariants.{Next}
use Rattle.seq_machine.proofs.Steps.{failed_never, led_on, ahead_of}
use Rattle.seq_run.specs.Headers.{header_of}
use Rattle.seq_run.proofs.Heads.{step_counts, to_ended, to_trapped, to_arrived, to_next}
use Rattle.seq_run.proofs.header.run_on.Goals as goal

pub unreachable-requires : goal.unreachable-requires
unreachable-requires c = failed_never c.args.code.now c.args.input.now c.loop-state.state c.step.new.state c.in-Failed.field-0 c.in-Failed.field-1 (rw c.in-Failed.is at c.in_ok-step.ensures.follows)

pub returns-in_err-step-clause-ahead : goal.returns-in_err-step-clause-ahead
returns-in_err-step-clause-ahead c =
    let lt : c.loop-state.state.steps < c.args.n = c.loop-state-test.true in
    ahead_of c.from_residual.result c.args.code.now c.args.input.now c.args.state.now c.loop-state.state c.step.new.state (c.loop-state.state.steps - c.args.state.now.steps) (c.args.n - c.args.state.now.steps) (omega (arith, lt))
    c.loop-state.invariant.led c.in_err-step.ensures.unmoved

pub returns-in-Ended-clause-run : goal.returns-in-Ended-clause-run
returns-in-Ended-clause-run c =
    let room : 0 < c.args.n - c.loop-state.state.steps = let less = c.loop-state-test.true in omega arith in
    sym c.loop-state.invariant.rest
    ∙ to_ended c.args.code.now c.args.input.now c.args.headers.now c.loop-state.state c.step.new.state _ c.in-Ended.value room (rw c.in-Ended.is at c.in_ok-step.ensures.step)

pub returns-in-Trap-clause-run : goal.returns-in-Trap-clause-run
returns-in-Trap-clause-run c =
    let room : 0 < c.args.n - c.loop-state.state.steps = let less = c.loop-state-test.true in omega arith in
    sym c.loop-state.invariant.rest
    ∙ to_trapped c.args.code.now c.args.input.now c.args.headers.now c.loop-state.state c.step.new.state _ c.in-Trap.trap c.in-Trap.site room (rw c.in-Trap.is at c.in_ok-step.ensures.step)

pub returns-in-Some-clause-run : goal.returns-in-Some-clause-run
returns-in-Some-clause-run c =
    let room : 0 < c.args.n - c.loop-state.state.steps = let less = c.loop-state-test.true in omega arith in
    sym c.loop-state.invariant.rest
    ∙ to_arrived c.args.code.now c.args.input.now c.args.headers.now c.loop-state.state c.step.new.state _ c.in-Some.place room (rw c.in-Next.is at c.in_ok-step.ensures.step) (sym c.header_of.ensures ∙ c.in-Some.is)

pub loop-state-preserved : goal.loop-state-preserved
loop-state-preserved c =
    let lt : c.loop-state.state.steps < c.args.n = c.loop-state-test.true in
    let le : c.args.state.now.steps ≤ c.loop-state.state.steps = c.loop-state.invariant.counts in
    let next : step c.args.code.now c.args.input.now c.loop-state.state ≡ (Next, c.step.new.state) = rw c.in-Next.is at c.in_ok-step.ensures.step in
    let one : c.step.new.state.steps ≡ c.loop-state.state.steps + 1 = step_counts c.args.code.now c.args.input.now c.loop-state.state Next c.step.new.state next in
    let left : c.args.n - c.loop-state.state.steps ≡ (c.args.n - c.step.new.state.steps) + 1 = omega (arith, lt, one) in
    let taken : c.step.new.state.steps - c.args.state.now.steps ≡ c.loop-state.state.steps - c.args.state.now.steps + 1 = omega (arith, one, le) in
    let none : header_of c.args.code.now c.args.headers.now c.step.new.state.frames ≡ None = sym c.header_of.ensures ∙ c.in_default.is in
    record {
      kept = c.in_ok-step.ensures.kept;
      rest = sym (to_next c.args.code.now c.args.input.now c.args.headers.now c.loop-state.state c.step.new.state (c.args.n - c.loop-state.state.steps) (c.args.n - c.step.new.state.steps) left next none) ∙ c.loop-state.invariant.rest;
      counts = omega (arith, one, le);
      led = λ k. ap (λ m. steps_from c.args.code.now c.args.input.now c.args.state.now (m + k)) taken
          ∙ led_on c.args.code.now c.args.input.now c.args.state.now c.loop-state.state c.step.new.state (c.loop-state.state.steps - c.args.state.now.steps) next c.loop-state.invariant.led k;
    }
