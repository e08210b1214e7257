use Rattle.std.proofs.Common.{ℕ, ◌≡◌, ◌+◌, ◌-◌, ◌≤◌}
use Rattle.seq_machine.specs.Step.{StateOf, steps_from}
use Rattle.seq_run.specs.Headers.{to_header}
use Rattle.seq_run.proofs.header.run_on.Given as goal

abbrev pub invariant-loop-state : goal.invariant-loop-state
invariant-loop-state l = record {
  kept : StateOf l.code l.state;
  rest : to_header l.code l.input l.headers l.state (l.n - l.state.steps) ≡ to_header l.code l.input l.headers l.initial.state (l.n - l.initial.state.steps);
  counts : l.initial.state.steps ≤ l.state.steps;
  led : (k : ℕ) → steps_from l.code l.input l.initial.state (l.state.steps - l.initial.state.steps + k) ≡ steps_from l.code l.input l.state k;
}

abbrev pub decreases-loop-state : goal.decreases-loop-state
decreases-loop-state l = l.n - l.state.steps
