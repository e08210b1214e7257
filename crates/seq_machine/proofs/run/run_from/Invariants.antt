use Rattle.std.proofs.Common.{ℕ, ◌≡◌, ◌+◌, ◌-◌, ◌<◌, ◌≤◌, ◌^◌}
use Rattle.seq_machine.specs.Step.{StateOf, steps_from}
use Rattle.seq_machine.proofs.run.run_from.Given as goal

abbrev pub invariant-loop : goal.invariant-loop
invariant-loop l =
    StateOf l.code l.state × (l.state.steps + (l.n - l.counter) < 2 ^ 64)
    × (steps_from l.code l.input l.state (l.n - l.counter) ≡ steps_from l.code l.input l.initial.state l.n)
    × (l.state.steps ≤ l.initial.state.steps + l.counter)
    × ((k : ℕ) → steps_from l.code l.input l.initial.state (l.counter + k) ≡ steps_from l.code l.input l.state k)
