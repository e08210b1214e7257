use Rattle.std.proofs.Common.{◌≡◌, ◌-◌}
use Rattle.seq_machine.specs.Step.{StateOf}
use Rattle.turn_laws.specs.Turns.{turn_from}
use Rattle.machine_calls.proofs.turn.turn_on.Given as goal

abbrev pub invariant-loop-state : goal.invariant-loop-state
invariant-loop-state l = record {
  kept : StateOf l.code l.state;
  rest : turn_from l.code l.input l.of l.depth l.state (l.n - l.state.steps) ≡ turn_from l.code l.input l.of l.depth l.initial.state (l.n - l.initial.state.steps);
}

abbrev pub decreases-loop-state : goal.decreases-loop-state
decreases-loop-state l = l.n - l.state.steps
