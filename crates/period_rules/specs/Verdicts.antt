-- The verdict on a period, from the pieces of it and of the periods before: why it is not committed, or nothing.
use Rattle.std.specs.Prelude.{ℕ, zero, suc, ◌+◌, ◌-◌, ◌/◌, nat_eq, nat_le, nat_lt, Bool, true, not, List, [], ◌∷◌, length, map, find, Option, Some, None, option_map, if◌then◌else◌}
use Rattle.std.specs.List.{filter, filter_map, flat_map}
use Rattle.std.specs.Option.{option_or}
use Rattle.int_num.specs.Integer.{Integer}
use Rattle.int_num.specs.Operations.{of_bits}
use Rattle.pv_base.specs.Limits.{live_limit}
use Rattle.pv_base.specs.declared.place.Place.{Place}
use Rattle.ir_code.specs.declared.code.Code.{Code}
use Rattle.ir_code.specs.declared.code.Move.{Move}
use Rattle.loop_plan.specs.declared.plan.PhiPlan.{PhiPlan}
use Rattle.loop_plan.specs.declared.plan.LoopPlan.{LoopPlan}
use Rattle.loop_plan.specs.Triples.{same_site}
use Rattle.mem_image.specs.declared.object.Object.{Object}
use Rattle.mem_image.specs.Picture.{Picture, bytes_from, live, name_limit}
use Rattle.seq_effects.specs.Words.{number_of}
use Rattle.seq_machine.specs.declared.state.State.{State}
use Rattle.seq_machine.specs.Acts.{top, output_limit}
use Rattle.reduction_merge.specs.Partials.{PartialOf, joined, stays_in_range}
use Rattle.span_types.specs.declared.span.Span.{Span}
use Rattle.span_types.specs.declared.failure.Failure.{Failure}
use Rattle.span_types.specs.declared.failure.Element.TheVariants as element
use Rattle.span_types.specs.declared.failure.LimitKind.{LimitKind}
use Rattle.span_types.specs.declared.failure.LimitKind.TheVariants.{Steps, Output, Names, Memory}
use Rattle.span_types.specs.declared.failure.PeriodFailure.{PeriodFailure}
use Rattle.span_types.specs.declared.failure.PeriodFailure.TheVariants as why
use Rattle.span_types.specs.declared.piece.TurnCount.{TurnCount}
use Rattle.span_types.specs.declared.piece.Delta.{Delta}
use Rattle.span_types.specs.declared.piece.Body.{Body}
use Rattle.span_types.specs.declared.piece.Body.TheVariants.{Done, Failed}
use Rattle.span_types.specs.declared.piece.Piece.{Piece}
use Rattle.turn_rules.specs.Loops.{phi_moves, held}
use Rattle.turn_rules.specs.Counts.{number_in}
use Rattle.turn_rules.specs.Spans.{first_turn, behind}
use Rattle.turn_rules.specs.Marks.{is_among, same_byte}
use Rattle.period_rules.specs.Pieces.{rising}

-- ---- pieces by period

abbrev pub delta_of : Body → List Delta
delta_of (Done d) = d ∷ []
delta_of (Failed e) = []

abbrev pub failure_of : Body → List Failure
failure_of (Done d) = []
failure_of (Failed e) = e ∷ []

abbrev pub of_period : ℕ → List Piece → List Piece
of_period p pieces = filter (λ x. nat_eq x.period p) pieces

-- what was done in a period
abbrev pub deltas : ℕ → List Piece → List Delta
deltas p pieces = flat_map (λ x. delta_of x.body) (of_period p pieces)

-- ---- a turn failed

abbrev pub earlier : Failure → Option Failure → Option Failure
earlier e None = Some e
earlier e (Some f) = if nat_lt f.turn e.turn then Some f else Some e

-- the failure of the least turn
abbrev pub least : List Failure → Option Failure
least [] = None
least (e ∷ es) = earlier e (least es)

abbrev pub first_failure : ℕ → List Piece → Option Failure
first_failure p pieces = least (flat_map (λ x. failure_of x.body) (of_period p pieces))

-- ---- a byte was read as it was before the period, and written

abbrev pub written_until : ℕ → List Piece → List Place
written_until p pieces = map (λ w. w.place) (flat_map (λ d. d.writes) (flat_map (λ x. delta_of x.body) (filter (λ x. nat_le x.period p) pieces)))

-- the least byte that a turn of the period read so, and that a turn of this or of an earlier period wrote
abbrev pub conflict : ℕ → List Piece → Option Place
conflict p pieces = find (λ q. is_among q (written_until p pieces)) (rising (flat_map (λ d. d.live_in) (deltas p pieces)))

-- ---- a reduction may leave its range

abbrev pub joined_from : PartialOf → List PartialOf → PartialOf
joined_from q [] = q
joined_from q (r ∷ rs) = joined_from (joined q r) rs

abbrev pub joined_all : List PartialOf → Option PartialOf
joined_all [] = None
joined_all (q ∷ qs) = Some (joined_from q qs)

-- the elements of memory that have operands in the period, in rising order, each with all of them
abbrev pub elements : List Delta → List (Place × PartialOf)
elements ds =
    let partials = flat_map (λ d. d.partials) ds in
    filter_map (λ p. option_map (λ q. (p, q)) (joined_all (map (λ e. e.partial) (filter (λ e. same_byte e.place p) partials)))) (rising (map (λ e. e.place) partials))

-- the phis that have operands in the period, in the header's order, each with all of them
abbrev pub phis : Code → LoopPlan → List Delta → List ((PhiPlan × Move) × PartialOf)
phis code l ds =
    let partials = flat_map (λ d. d.phis) ds in
    filter_map (λ p. option_map (λ q. (p, q)) (joined_all (map (λ e. e.partial) (filter (λ e. same_site e.site p.0.phi) partials)))) (phi_moves code l.region)

-- the number that an element holds, where its bytes are all numbers
abbrev pub element_value : Picture → Place × PartialOf → Option Integer
element_value m e = option_map (of_bits e.1.width) (number_of (bytes_from m e.0 (e.1.width / 8)))

-- the number that a phi holds
abbrev pub phi_value : State Picture → (PhiPlan × Move) × PartialOf → Option Integer
phi_value s e = number_in (held (top s.frames) e.0.1.register)

-- the range test of a value with all operands
abbrev pub leaves_range : PartialOf → Option Integer → Bool
leaves_range q (Some v) = not (stays_in_range q v)
leaves_range q None = true

-- the first element that fails it: memory by place, then phis
abbrev pub out_of_range : Code → LoopPlan → State Picture → List Delta → Option PeriodFailure
out_of_range code l s ds =
    option_or
    (option_map (λ e. why.Range (element.Memory e.0)) (find (λ e. leaves_range e.1 (element_value s.memory e)) (elements ds)))
    (option_map (λ e. why.Range (element.Phi e.0.0.phi)) (find (λ e. leaves_range e.1 (phi_value s e)) (phis code l ds)))

-- ---- a limit is passed

abbrev pub count_of : Option TurnCount → ℕ
count_of (Some c) = c.count
count_of None = 0

-- what a turn counts in lists of counts
abbrev pub counted : ℕ → List TurnCount → ℕ
counted k counts = count_of (find (λ c. nat_eq c.turn k) counts)

abbrev pub printed_by : ℕ → List Delta → List ℕ
printed_by k ds = flat_map (λ o. o.bytes) (filter (λ o. nat_eq o.turn k) (flat_map (λ d. d.output) ds))

abbrev pub kept_by : ℕ → List Delta → List Object
kept_by k ds = flat_map (λ o. o.objects) (filter (λ o. nat_eq o.turn k) (flat_map (λ d. d.kept) ds))

-- steps, printed bytes, the next name, and the bytes of live objects
pub record Totals : Type 0 where
  pub steps : ℕ
  pub output : ℕ
  pub next : ℕ
  pub live : ℕ

abbrev pub totals : State Picture → Totals
totals s = record { steps = s.steps; output = length s.output; next = s.memory.next; live = live s.memory.objects }

-- with a turn more
abbrev pub with_turn : List Delta → ℕ → Totals → Totals
with_turn ds k t = record {
  steps = t.steps + counted k (flat_map (λ d. d.steps) ds);
  output = t.output + length (printed_by k ds);
  next = t.next + counted k (flat_map (λ d. d.made) ds);
  live = t.live + live (kept_by k ds);
}

-- the first limit that is passed with these totals, and with so many bytes live at once; to reach a limit exactly does not pass it
abbrev pub passed_limit : ℕ → Totals → ℕ → Option LimitKind
passed_limit budget t most =
    if nat_lt budget t.steps then Some Steps
    else if nat_lt output_limit t.output then Some Output
    else if nat_lt name_limit t.next then Some Names
    else if nat_lt live_limit most then Some Memory
    else None

abbrev pub limit_at : ℕ → List Delta → ℕ → Totals → Option LimitKind
limit_at budget ds k t = passed_limit budget (with_turn ds k t) (t.live + counted k (flat_map (λ d. d.peaks) ds))

-- the first turn of so many from turn k on with which a limit is passed
abbrev pub limit_from : ℕ → List Delta → ℕ → ℕ → Totals → Option PeriodFailure
limit_from budget ds k zero t = None
limit_from budget ds k (suc n) t =
    option_or (option_map (λ limit. why.Limit k limit) (limit_at budget ds k t)) (limit_from budget ds (k + 1) n (with_turn ds k t))

abbrev pub limit : Span → State Picture → List Delta → ℕ → Option PeriodFailure
limit sp s ds p = limit_from sp.budget ds (first_turn sp p) (behind sp p - first_turn sp p) (totals s)

-- ---- the verdict

-- A turn failed; else a conflict; else a range; else a limit; else the period passes. `s` is the committed state before it.
unfoldable pub verdict : Code → LoopPlan → Span → State Picture → List Piece → ℕ → Option PeriodFailure
verdict code l sp s pieces p =
    option_or (option_map why.Piece (first_failure p pieces))
    (option_or (option_map why.Conflict (conflict p pieces))
    (option_or (out_of_range code l s (deltas p pieces)) (limit sp s (deltas p pieces) p)))
