-- What a view is where no one wrote, and what a turn that passed leaves.
use Rattle.std.specs.Prelude.{◌≡◌, [], None, Ok}
use Rattle.turn_rules.specs.Marks.{Course, TurnDone}
use Rattle.turn_rules.specs.Views.{view}
use Rattle.turn_rules.specs.Ends.{turn_alone, bytes_missed}

-- a turn with none before it and no guessed bytes sees the base's memory
abbrev pub FirstViewIsBase : Type 0
FirstViewIsBase = (c : Course) → c.earlier ≡ [] → c.plan.guesses ≡ [] → (view c).memory.picture ≡ c.span.base.memory

-- the guessed bytes stand again where a turn passed
abbrev pub PassedGuessesStand : Type 0
PassedGuessesStand = (c : Course) (d : TurnDone) → turn_alone c ≡ Ok d → bytes_missed c d.state.memory c.plan.guesses ≡ None
