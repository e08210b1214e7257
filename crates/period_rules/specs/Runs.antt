-- The run with speculation, and its journal. Where a span may begin one does; else the machine takes a step. A period that fails is run
-- again, one turn after another.
use Rattle.std.specs.Prelude.{ℕ, zero, suc, ◌+◌, ◌-◌, nat_le, nat_lt, min, Bool, false, ◌&&◌, List, [], ◌∷◌, ◌++◌, length, find, Option, Some, None, if◌then◌else◌}
use Rattle.std.specs.List.{list_all}
use Rattle.pv_base.specs.Outside.{Text}
use Rattle.ir_tree.specs.Modules.{Items}
use Rattle.ir_code.specs.declared.code.Code.{Code}
use Rattle.ir_code.specs.Coding.{code_of}
use Rattle.loop_plan.specs.declared.plan.LoopPlan.{LoopPlan}
use Rattle.loop_plan.specs.declared.plan.Plan.{Plan}
use Rattle.mem_image.specs.Picture.{Picture}
use Rattle.seq_machine.specs.declared.state.State.{State}
use Rattle.seq_machine.specs.declared.state.Step.{Step}
use Rattle.seq_machine.specs.declared.state.Step.TheVariants as step
use Rattle.seq_machine.specs.declared.state.End.{End}
use Rattle.seq_machine.specs.declared.state.End.TheVariants.{Ended, Trapped, Spent}
use Rattle.seq_machine.specs.declared.state.Outcome.{Outcome}
use Rattle.seq_machine.specs.Acts.{top}
use Rattle.seq_machine.specs.Step.{step as one_step}
use Rattle.seq_run.specs.First.{first_state}
use Rattle.seq_run.specs.Outcomes.{outcome_of}
use Rattle.turn_laws.specs.Turns.{is_at_header, turn_from, TurnEnd, Arrived, Left, Ended as TurnEnded, Trapped as TurnTrapped, Spent as TurnSpent}
use Rattle.span_types.specs.declared.span.Span.{Span}
use Rattle.span_types.specs.declared.span.SpanEnd.{SpanEnd}
use Rattle.span_types.specs.declared.span.PeriodDone.{PeriodDone}
use Rattle.span_types.specs.declared.span.Settled.{Settled}
use Rattle.span_types.specs.declared.span.Settled.TheVariants.{AllCommitted, FailedAt}
use Rattle.span_types.specs.declared.journal.Entry.{Entry}
use Rattle.span_types.specs.declared.journal.Entry.TheVariants as entry
use Rattle.turn_rules.specs.Counts.{turn_count}
use Rattle.turn_rules.specs.Spans.{stands_in, loop_of, first_turn, behind}
use Rattle.period_rules.specs.Ends.{span_end}

-- what a run is over: the module's code, the plan, the input, the count of workers, the period's length, and the bound on steps
pub record Setting : Type 0 where
  pub code : Code
  pub plan : Plan
  pub input : Text
  pub workers : ℕ
  pub period : ℕ
  pub budget : ℕ

-- ---- where a span begins

-- the loop's own period length where that is less
abbrev pub period_of : Setting → LoopPlan → ℕ
period_of r l = elim l.period [ Some n ↦ min n r.period | None ↦ r.period ]

abbrev pub at_header : Setting → State Picture → LoopPlan → Bool
at_header r s l = elim (top s.frames) [ Some f ↦ is_at_header r.code (loop_of l) f | None ↦ false ]

-- The top frame stands behind the phis of the loop's header, at least two turns follow, and the guessed bytes stand.
abbrev pub may_begin : Setting → State Picture → LoopPlan → Bool
may_begin r s l = at_header r s l && nat_le 2 (turn_count r.code l (period_of r l) s) && list_all (stands_in s.memory) l.guesses

abbrev pub span_of : Setting → State Picture → LoopPlan → Span
span_of r s l = record { base = s; loop_number = l.number; turns = turn_count r.code l (period_of r l) s; period = period_of r l; workers = r.workers; budget = r.budget }

-- the loop of which a span begins here
abbrev pub begins : Setting → State Picture → Option LoopPlan
begins r s = find (may_begin r s) r.plan.loops

-- ---- recovery

abbrev pub one_more : ℕ × (TurnEnd × State Picture) → ℕ × (TurnEnd × State Picture)
one_more r = (suc r.0, r.1)

abbrev pub on_arrival : TurnEnd × State Picture → (State Picture → ℕ × (TurnEnd × State Picture)) → ℕ × (TurnEnd × State Picture)
on_arrival (Arrived, t) next = one_more (next t)
on_arrival (Left, t) next = (0, (Left, t))
on_arrival (TurnEnded n, t) next = (0, (TurnEnded n, t))
on_arrival (TurnTrapped w site, t) next = (0, (TurnTrapped w site, t))
on_arrival (TurnSpent, t) next = (0, (TurnSpent, t))

-- So many turns of the loop one after another, in the frame at this depth, as long as each comes back to the header: how many did, and how
-- the last one ended.
abbrev pub recovered : Setting → LoopPlan → ℕ → ℕ → State Picture → ℕ × (TurnEnd × State Picture)
recovered r l depth zero s = (0, (Arrived, s))
recovered r l depth (suc c) s = on_arrival (turn_from r.code r.input (loop_of l) depth s (r.budget - s.steps)) (recovered r l depth c)

-- ---- the run

-- what it recorded from here on, how it ended, and the state at its end
abbrev pub Rest : Type 0
Rest = List Entry × (End × State Picture)

abbrev pub over : End → State Picture → Rest
over e s = ([], (e, s))

abbrev pub after : List Entry → Rest → Rest
after entries rest = (entries ++ rest.0, rest.1)

abbrev pub by_step : Step → State Picture → (State Picture → Rest) → Rest
by_step step.Next s next = next s
by_step (step.Ended n) s next = over (Ended n) s
by_step (step.Trap t site) s next = over (Trapped t site) s
by_step (step.Failed f site) s next = over Spent s

abbrev pub by_turn : TurnEnd × State Picture → (State Picture → Rest) → Rest
by_turn (Arrived, t) next = next t
by_turn (Left, t) next = next t
by_turn (TurnEnded n, t) next = over (Ended n) t
by_turn (TurnTrapped w site, t) next = over (Trapped w site) t
by_turn (TurnSpent, t) next = over Spent t

-- one entry for each committed period, the first being number p
abbrev pub commits : ℕ → List PeriodDone → List Entry
commits p [] = []
commits p (d ∷ ds) = entry.Commit p d.turns ∷ commits (p + 1) ds

abbrev pub began : LoopPlan → Span → Entry
began l sp = entry.Span l.number (loop_of l).header sp.turns

abbrev pub after_recovery : ℕ → ℕ × (TurnEnd × State Picture) → (State Picture → Rest) → Rest
after_recovery p c next = after (entry.Recovered p c.0 ∷ []) (by_turn c.1 next)

-- after a period that failed its turns are run one by one
abbrev pub by_settled : Setting → LoopPlan → Span → State Picture → Settled → (State Picture → Rest) → Rest
by_settled r l sp s AllCommitted next = next s
by_settled r l sp s (FailedAt p e) next =
    after (entry.Fail p e ∷ []) (after_recovery p (recovered r l (length sp.base.frames) (behind sp p - first_turn sp p) s) next)

abbrev pub after_span : Setting → LoopPlan → Span → SpanEnd → (State Picture → Rest) → Rest
after_span r l sp e next = after (began l sp ∷ commits 0 e.done) (by_settled r l sp e.state e.settled next)

abbrev pub at_state : Setting → State Picture → Option LoopPlan → (State Picture → Rest) → Rest
at_state r s (Some l) next = after_span r l (span_of r s l) (span_end r.code l (span_of r s l)) next
at_state r s None next = by_step (one_step r.code r.input s).0 (one_step r.code r.input s).1 next

-- The run from a state on, where no more than so many steps are left. Each step, and each span with its recovery, takes one at least.
unfoldable pub run_from : Setting → ℕ → State Picture → Rest
run_from r zero s = over Spent s
run_from r (suc n) s = if nat_lt s.steps r.budget then at_state r s (begins r s) (run_from r n) else over Spent s

abbrev pub setting : Items → Plan → Text → ℕ → ℕ → ℕ → Setting
setting m plan input workers period budget = record { code = code_of m; plan = plan; input = input; workers = workers; period = period; budget = budget }

-- the journal of a module's run with speculation, and its outcome
abbrev pub speculative : Items → Plan → Text → ℕ → ℕ → ℕ → Rest
speculative m plan input workers period budget = run_from (setting m plan input workers period budget) budget (first_state m)

abbrev pub journal : Items → Plan → Text → ℕ → ℕ → ℕ → List Entry
journal m plan input workers period budget = (speculative m plan input workers period budget).0

abbrev pub outcome : Items → Plan → Text → ℕ → ℕ → ℕ → Outcome
outcome m plan input workers period budget = outcome_of m (speculative m plan input workers period budget).1
