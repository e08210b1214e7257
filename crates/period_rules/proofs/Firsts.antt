-- What goes first in a verdict, the end of a run, and sameness.
use Rattle.std.proofs.Common.{◌≡◌, ℕ, zero, suc, Some, List, slice_get, refl}
use Rattle.period_rules.specs.Verdicts.{verdict}
use Rattle.period_rules.specs.Runs.{run_from}
use Rattle.ir_tree.specs.declared.plans.Triple.{Triple}
use Rattle.ir_code.specs.declared.code.Code.{Code}
use Rattle.seq_effects.specs.declared.state.Frame.{Frame}
use Rattle.period_rules.specs.Likeness.{SameFrame}
use Rattle.period_rules.specs.Laws.{FailedTurnsGoFirst, SpentRunsAreOver, StatesAreSame}

pub failed_first : FailedTurnsGoFirst
unfolding verdict
failed_first code l sp s pieces p e h = rw h refl

pub spent_over : SpentRunsAreOver
unfolding run_from
spent_over r zero s h = refl
spent_over r (suc n) s h = rw h refl

same_frame : (code : Code) (triples : List Triple) (frames : List Frame) (i : ℕ) (f g : Frame) → slice_get frames i ≡ Some f → slice_get frames i ≡ Some g → SameFrame code triples f g
same_frame code triples frames i f g p q =
    let e : f ≡ g = cc in
    rw (← e) (record { function = refl; block = refl; place = refl; own = refl; registers = λ r h. refl })

pub states_same : StatesAreSame
states_same code triples s = record {
  depth = refl;
  frames = λ i f g p q. same_frame code triples s.frames i f g p q;
  memory = refl;
  input_place = refl;
  output = refl;
  steps = refl;
}
