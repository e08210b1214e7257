-- What goes before all else in a verdict, when a run is over, and what is the same.
use Rattle.std.specs.Prelude.{ℕ, ◌≡◌, nat_lt, false, List, Some}
use Rattle.ir_tree.specs.declared.plans.Triple.{Triple}
use Rattle.ir_code.specs.declared.code.Code.{Code}
use Rattle.loop_plan.specs.declared.plan.LoopPlan.{LoopPlan}
use Rattle.mem_image.specs.Picture.{Picture}
use Rattle.seq_machine.specs.declared.state.State.{State}
use Rattle.seq_machine.specs.declared.state.End.TheVariants.{Spent}
use Rattle.span_types.specs.declared.span.Span.{Span}
use Rattle.span_types.specs.declared.failure.Failure.{Failure}
use Rattle.span_types.specs.declared.failure.PeriodFailure.TheVariants as why
use Rattle.span_types.specs.declared.piece.Piece.{Piece}
use Rattle.period_rules.specs.Verdicts.{verdict, first_failure}
use Rattle.period_rules.specs.Runs.{Setting, run_from, over}
use Rattle.period_rules.specs.Likeness.{IsSame}

-- where a turn of the period failed, the verdict is the failure of the least such turn, whatever else there is
abbrev pub FailedTurnsGoFirst : Type 0
FailedTurnsGoFirst =
    (code : Code) (l : LoopPlan) (sp : Span) (s : State Picture) (pieces : List Piece) (p : ℕ) (e : Failure)
    → first_failure p pieces ≡ Some e → verdict code l sp s pieces p ≡ Some (why.Piece e)

-- a run is over, and records nothing more, where no steps are left
abbrev pub SpentRunsAreOver : Type 0
SpentRunsAreOver = (r : Setting) (n : ℕ) (s : State Picture) → nat_lt s.steps r.budget ≡ false → run_from r n s ≡ over Spent s

-- a state is the same as itself
abbrev pub StatesAreSame : Type 0
StatesAreSame = (code : Code) (triples : List Triple) (s : State Picture) → IsSame code triples s s
