-- One turn alone: the trees of the sequential step, run over the memory of a turn. What is different from a sequential turn stands here:
-- triples on reduced objects, operations that join into a phi, the edge from the latch, and what a turn may not do.
use Rattle.std.specs.Prelude.{ℕ, zero, suc, ◌+◌, ◌/◌, ◌%◌, nat_eq, Bool, true, false, not, ◌&&◌, List, [], ◌∷◌, ◌++◌, length, find, slice_get, Option, Some, None, Result, Ok, Err, if◌then◌else◌}
use Rattle.std.specs.List.{filter, list_any}
use Rattle.int_num.specs.Integer.{Integer}
use Rattle.int_num.specs.declared.ops.RedKind.{RedKind}
use Rattle.pv_base.specs.declared.external.External.TheVariants as external
use Rattle.pv_base.specs.declared.place.Site.{Site}
use Rattle.pv_base.specs.declared.place.Place.{Place}
use Rattle.pv_base.specs.declared.place.Heap.TheVariants.{Reduction}
use Rattle.ir_tree.specs.declared.plans.Triple.{Triple}
use Rattle.ir_code.specs.declared.op.Op.{Op}
use Rattle.ir_code.specs.declared.op.Op.TheVariants as op
use Rattle.ir_code.specs.declared.op.Operand.{Operand}
use Rattle.ir_code.specs.declared.code.Edge.{Edge}
use Rattle.ir_code.specs.declared.code.FunctionCode.{FunctionCode}
use Rattle.loop_plan.specs.Triples.{same_site}
use Rattle.loop_plan.specs.Heaps.{same_place, same_kinds}
use Rattle.mem_image.specs.declared.object.Pointer.{Pointer as Address}
use Rattle.mem_image.specs.declared.object.Object.{Object}
use Rattle.mem_image.specs.declared.fault.Trap.{Trap as TrapWord}
use Rattle.mem_image.specs.declared.fault.Trap.TheVariants.{Unreachable, LiveMemory}
use Rattle.mem_image.specs.declared.fault.CheckKind.{CheckKind}
use Rattle.mem_image.specs.declared.fault.CheckKind.TheVariants as check
use Rattle.mem_image.specs.declared.fault.Kept.{Kept}
use Rattle.mem_image.specs.declared.fault.Kept.TheVariants.{Number, Word}
use Rattle.mem_image.specs.declared.fault.Fault.{Fault}
use Rattle.mem_image.specs.declared.fault.Fault.TheVariants.{Trap, Check, Memory}
use Rattle.mem_image.specs.Picture.{Picture, access, write_access, find as object_named}
use Rattle.seq_effects.specs.declared.state.Frame.{Frame}
use Rattle.seq_effects.specs.declared.state.Effect.{Effect}
use Rattle.seq_effects.specs.declared.state.Effect.TheVariants as effect
use Rattle.seq_effects.specs.Script.{Script, Stops}
use Rattle.seq_effects.specs.Values.{number, pointer}
use Rattle.seq_machine.specs.declared.state.State.{State}
use Rattle.seq_machine.specs.Acts.{Acted, acted, top, function_at, op_at}
use Rattle.seq_machine.specs.Meaning.{meaning}
use Rattle.seq_machine.specs.Step.{site_at, site_of, here, has_next, control}
use Rattle.machine_calls.specs.Calls.{passed_over}
use Rattle.turn_laws.specs.Events.{Way, Reads, Writes}
use Rattle.turn_laws.specs.Over.{outcome_over}
use Rattle.turn_laws.specs.Turns.{Standing, AtHeader, Within, Outside, standing}
use Rattle.span_types.specs.declared.failure.FailSite.{FailSite}
use Rattle.span_types.specs.declared.failure.FailSite.TheVariants.{At}
use Rattle.span_types.specs.declared.failure.Failure.{Failure}
use Rattle.turn_rules.specs.Loops.{phi_moves, reduced_registers, operand_beside, joins_at}
use Rattle.turn_rules.specs.Spans.{loop_of}
use Rattle.turn_rules.specs.Marks.{Course, Marked, turn_acts, may_touch, is_class, class_of, apart, named}
use Rattle.turn_rules.specs.Views.{view}

-- how far a triple on a reduced object has come: its load gave this register nothing; its operation read this operand
pub data Pending : Type 0 where
  Idle : Pending
  Loaded : Triple → ℕ → Pending
  Computed : Triple → Integer → Pending

-- a state of a turn: that of the machine, the triple that it is in, and the operands that it recorded in time order
pub record Solo : Type 0 where
  pub state : State Marked
  pub pending : Pending
  pub operands : List (Place × Integer)
  pub phi_operands : List (Site × Integer)

abbrev pub begun : Course → Solo
begun c = record { state = view c; pending = Idle; operands = []; phi_operands = [] }

-- ---- failures

abbrev pub failure : Course → CheckKind → FailSite → Kept → Failure
failure c kind at kept = record { turn = c.turn; kind = kind; at = at; kept = kept }

abbrev pub fails : Course → CheckKind → Site → Kept → Result Solo Failure
fails c kind at kept = Err (failure c kind (At at) kept)

abbrev pub traps : Course → Site → TrapWord → Result Solo Failure
traps c at t = fails c check.Trap at (Word t)

-- a definition has memory enough, so the last case is never met
abbrev pub faults : Course → Site → Fault → Result Solo Failure
faults c at (Trap t) = traps c at t
faults c at (Check e) = fails c e.kind at e.kept
faults c at Memory = traps c at LiveMemory

-- goes on with a number or a pointer that was read, or stops at the trap
abbrev pub reading : {A : Type 0} → Course → Site → Result A TrapWord → (A → Result Solo Failure) → Result Solo Failure
reading c at (Ok a) next = next a
reading c at (Err t) next = traps c at t

-- ---- triples on reduced objects: each of the three instructions is passed over, and counts a step

abbrev pub with_state : Solo → State Marked → Solo
with_state s state = record s { state = state }

-- the bytes of an element
abbrev pub element_size : RedKind → ℕ
element_size kind = kind.width / 8

abbrev pub kind_fits : Course → RedKind → Object → Bool
kind_fits c kind o = elim (find (λ t. same_place t.0 o.site) c.plan.tags) [ Some t ↦ same_kinds t.1.kind (Some kind) | None ↦ false ]

-- the object's kind is the triple's, and the place is that of an element
abbrev pub fits_element : Course → Way → Site → RedKind → Place → Object → Bool
fits_element c way at kind place o = may_touch c way at 0 o && kind_fits c kind o && nat_eq (place.offset % element_size kind) 0

abbrev pub touched_object : Course → Way → Site → RedKind → Place → Option Object → Result Place Fault
touched_object c way at kind place (Some o) = if fits_element c way at kind place o then Ok place else Err (Check (apart (class_of c.plan o.site)))
touched_object c way at kind place None = Ok place

abbrev pub touched_at : Course → Marked → Way → Site → RedKind → Result Place TrapWord → Result Place Fault
touched_at c m way at kind (Ok place) = touched_object c way at kind place (object_named place.name m.picture.objects)
touched_at c m way at kind (Err t) = Err (Trap t)

abbrev pub accessed : Way → Picture → Address → ℕ → Result Place TrapWord
accessed Reads m p len = access m p len
accessed Writes m p len = write_access m p len

-- The test of one slot of a triple: the traps of such an access that are known without content, and then the object and the place.
abbrev pub touch : Course → Marked → Way → Site → RedKind → Address → Result Place Fault
touch c m way at kind p = touched_at c m way at kind (accessed way m.picture p (element_size kind))

abbrev pub after_load : Course → Solo → Site → Triple → ℕ → Result Place Fault → Result Solo Failure
after_load c s at t to (Ok place) = Ok (record s { state = passed_over s.state; pending = Loaded t to })
after_load c s at t to (Err e) = faults c at e

abbrev pub computed : Course → Solo → Frame → Site → Triple → Option Operand → Result Solo Failure
computed c s f at t (Some x) = reading c at (number f x) (λ n. Ok (record s { state = passed_over s.state; pending = Computed t n }))
computed c s f at t None = traps c at Unreachable

abbrev pub after_store : Course → Solo → Site → Integer → Result Place Fault → Result Solo Failure
after_store c s at x (Ok place) = Ok (record s { state = passed_over s.state; pending = Idle; operands = s.operands ++ (place, x) ∷ [] })
after_store c s at x (Err e) = faults c at e

abbrev pub stored : Course → Solo → Frame → Site → Triple → Integer → Op → Result Solo Failure
stored c s f at t x (op.Store of value to) = reading c at (pointer f to) (λ p. after_store c s at x (touch c s.state.memory Writes at t.kind p))
stored c s f at t x _ = traps c at Unreachable

-- ---- the loop's frame

-- the frame on top is the one that runs the loop
abbrev pub in_loop : Course → List Frame → Bool
in_loop c frames = nat_eq (length frames) (length c.span.base.frames)

abbrev pub keeps_move : Course → Edge → Edge
keeps_move c e =
    if nat_eq e.to c.plan.region.header
    then record e { moves = filter (λ m. not (list_any (nat_eq m.register) (reduced_registers c.code c.plan.region))) e.moves }
    else e

abbrev pub map_edges : (Edge → Edge) → List Edge → List Edge
map_edges f [] = []
map_edges f (e ∷ es) = f e ∷ map_edges f es

-- the function as the loop's frame runs it: the edge to the header passes over the phis that are reduced
abbrev pub run_as : Course → List Frame → FunctionCode → FunctionCode
run_as c frames g = if in_loop c frames then record g { edges = map_edges (keeps_move c) g.edges } else g

abbrev pub leaves_by : Course → Option Edge → Option ℕ
leaves_by c (Some e) = if list_any (nat_eq e.to) c.plan.region.blocks then None else Some 0
leaves_by c None = None

abbrev pub when_in_loop : Bool → Option ℕ → Option ℕ
when_in_loop true n = n
when_in_loop false n = None

-- Whether the effect leaves the loop: 0 by a branch out of its blocks, 1 by the return of its frame, 2 by the end of the program.
abbrev pub leaves : Course → List Frame → FunctionCode → Effect → Option ℕ
leaves c frames g (effect.Edge i) = when_in_loop (in_loop c frames) (leaves_by c (slice_get g.edges i))
leaves c frames g (effect.Back v) = when_in_loop (in_loop c frames) (Some 1)
leaves c frames g (effect.Exit n) = Some 2
leaves c frames g _ = None

-- ---- one step

abbrev pub arrived : Course → Solo → Site → Marked → Result Acted TrapWord → Result Solo Failure
arrived c s at m (Ok a) =
    Ok (with_state s (record { frames = a.control.frames; memory = m; input_place = a.control.input_place; output = a.control.output; steps = s.state.steps + 1 }))
arrived c s at m (Err t) = traps c at t

abbrev pub unless_left : Course → Solo → Frame → FunctionCode → Site → Marked → Effect → Option ℕ → Result Solo Failure
unless_left c s f g at m e (Some n) = fails c check.Left at (Number n)
unless_left c s f g at m e None = arrived c s at m (acted c.code (run_as c s.state.frames g) f (control s.state) e)

abbrev pub by_effect : Course → Solo → Frame → FunctionCode → Site → Result Effect Fault × Marked → Result Solo Failure
by_effect c s f g at (Ok e, m) = unless_left c s f g at m e (leaves c s.state.frames g e)
by_effect c s f g at (Err e, m) = faults c at e

abbrev pub script_of : Course → Solo → Frame → FunctionCode → Op → Script Effect
script_of c s f g o = if has_next c.code f o then meaning (here c.code g f [] s.state.input_place) o else Stops Unreachable

-- as the machine does it, over the turn's memory
abbrev pub plain : Course → Solo → Frame → FunctionCode → Op → Result Solo Failure
plain c s f g o = by_effect c s f g (site_at c.code f) (outcome_over (λ m. m.picture) (turn_acts c) (script_of c s f g o) s.state.memory)

-- the load of a triple that meets a reduced object, and every other instruction that joins into no phi
abbrev pub meets : Course → Solo → Frame → FunctionCode → Op → Triple → ℕ → Address → Option Object → Result Solo Failure
meets c s f g o t to p (Some x) =
    if is_class c.plan Reduction x then after_load c s (site_at c.code f) t to (touch c s.state.memory Reads (site_at c.code f) t.kind p) else plain c s f g o
meets c s f g o t to p None = plain c s f g o

abbrev pub triple_load : Course → Solo → Frame → FunctionCode → Triple → Op → Result Solo Failure
triple_load c s f g t (op.Load to of from) =
    reading c (site_at c.code f) (pointer f from) (λ p. meets c s f g (op.Load to of from) t to p (named p s.state.memory.picture))
triple_load c s f g t o = plain c s f g o

abbrev pub by_triple : Course → Solo → Frame → FunctionCode → Op → Option Triple → Result Solo Failure
by_triple c s f g o (Some t) = triple_load c s f g t o
by_triple c s f g o None = plain c s f g o

-- an operation that joins into a phi sets nothing, and its operand is recorded
abbrev pub joined : Course → Solo → Frame → Site → Site → Option Operand → Result Solo Failure
joined c s f at phi (Some x) = reading c at (number f x) (λ n. Ok (record s { state = passed_over s.state; phi_operands = s.phi_operands ++ (phi, n) ∷ [] }))
joined c s f at phi None = traps c at Unreachable

abbrev pub at_op : Course → Solo → Frame → FunctionCode → Op → Result Solo Failure
at_op c s f g o =
    elim (if in_loop c s.state.frames then find (joins_at (site_at c.code f)) (phi_moves c.code c.plan.region) else None) as (λ _. Result Solo Failure) [
      | Some p ↦ joined c s f (site_at c.code f) p.0.phi (operand_beside p.1.register o)
      | None ↦ by_triple c s f g o (find (λ t. same_site t.load (site_at c.code f)) c.plan.scratch)
    ]

abbrev pub by_pending : Course → Solo → Frame → FunctionCode → Op → Pending → Result Solo Failure
by_pending c s f g o Idle = at_op c s f g o
by_pending c s f g o (Loaded t to) = computed c s f (site_at c.code f) t (operand_beside to o)
by_pending c s f g o (Computed t x) = stored c s f (site_at c.code f) t x o

-- a turn takes no input
abbrev pub unless_input : Course → Solo → Frame → FunctionCode → Op → Result Solo Failure
unless_input c s f g (op.CallExternal to external.Getchar xs) = fails c check.Input (site_at c.code f) (Number 0)
unless_input c s f g o = by_pending c s f g o s.pending

abbrev pub in_frame : Course → Solo → Frame → Option FunctionCode → Option Op → Result Solo Failure
in_frame c s f (Some g) (Some o) = unless_input c s f g o
in_frame c s f None o = traps c (site_at c.code f) Unreachable
in_frame c s f (Some g) None = traps c (site_at c.code f) Unreachable

abbrev pub on_top : Course → Solo → Option Frame → Result Solo Failure
on_top c s (Some f) = in_frame c s f (function_at c.code f) (op_at c.code f)
on_top c s None = traps c (site_of c.code None) Unreachable

-- one step of a turn alone
abbrev pub solo_step : Course → Solo → Result Solo Failure
solo_step c s = on_top c s (top s.state.frames)

-- ---- up to the header

abbrev pub or_on : Standing → Solo → Result Solo Failure → Result Solo Failure
or_on AtHeader s rest = Ok s
or_on Within s rest = rest
or_on Outside s rest = rest

abbrev pub goes : Course → Result Solo Failure → (Solo → Result Solo Failure) → Result Solo Failure
goes c (Ok s) next = or_on (standing c.code (loop_of c.plan) (length c.span.base.frames) s.state.frames) s (next s)
goes c (Err e) next = Err e

-- At most so many steps to where the turn comes back to the header. Where they are taken, the budget is, and the next instruction is
-- not looked at.
abbrev pub to_header : Course → ℕ → Solo → Result Solo Failure
to_header c zero s = fails c check.Budget (site_of c.code (top s.state.frames)) (Number s.state.steps)
to_header c (suc n) s = goes c (solo_step c s) (to_header c n)
