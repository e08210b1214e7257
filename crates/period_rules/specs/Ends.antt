-- The end of a span: its periods are committed in order, up to the first that does not pass.
use Rattle.std.specs.Prelude.{ℕ, zero, suc, ◌+◌, ◌-◌, List, [], ◌∷◌, ◌++◌, length, Option, Some, None}
use Rattle.ir_code.specs.declared.code.Code.{Code}
use Rattle.loop_plan.specs.declared.plan.LoopPlan.{LoopPlan}
use Rattle.mem_image.specs.Picture.{Picture}
use Rattle.seq_machine.specs.declared.state.State.{State}
use Rattle.span_types.specs.declared.span.Span.{Span}
use Rattle.span_types.specs.declared.span.SpanEnd.{SpanEnd}
use Rattle.span_types.specs.declared.span.PeriodDone.{PeriodDone}
use Rattle.span_types.specs.declared.span.Settled.{Settled}
use Rattle.span_types.specs.declared.span.Settled.TheVariants.{AllCommitted, FailedAt}
use Rattle.span_types.specs.declared.failure.PeriodFailure.{PeriodFailure}
use Rattle.span_types.specs.declared.piece.Piece.{Piece}
use Rattle.turn_rules.specs.Spans.{first_turn, behind, periods}
use Rattle.period_rules.specs.Pieces.{period_pieces}
use Rattle.period_rules.specs.Verdicts.{verdict}
use Rattle.period_rules.specs.Commits.{commit}

abbrev pub ending : State Picture → List PeriodDone → Settled → SpanEnd
ending s done settled = record { state = s; done = done; settled = settled }

-- the period's number of turns, and the length of the output after it
abbrev pub period_done : Span → ℕ → State Picture → PeriodDone
period_done sp p s = record { turns = behind sp p - first_turn sp p; output_to = length s.output }

abbrev pub by_verdict : ℕ → State Picture → List PeriodDone → Option PeriodFailure → SpanEnd → SpanEnd
by_verdict p s done (Some e) rest = ending s done (FailedAt p e)
by_verdict p s done None rest = rest

-- so many periods from period p on, from the state before it; `pieces` are those of the periods before
abbrev pub span_from : Code → LoopPlan → Span → ℕ → ℕ → State Picture → List Piece → List PeriodDone → SpanEnd
span_from code l sp p zero s pieces done = ending s done AllCommitted
span_from code l sp p (suc n) s pieces done =
    let all = pieces ++ period_pieces code l sp p in
    let t = commit code l sp s all p in
    by_verdict p s done (verdict code l sp s all p) (span_from code l sp (p + 1) n t all (done ++ period_done sp p t ∷ []))

unfoldable pub span_end : Code → LoopPlan → Span → SpanEnd
span_end code l sp = span_from code l sp 0 (periods sp) sp.base [] []
