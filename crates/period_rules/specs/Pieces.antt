-- The piece of a period: what the turns of one worker in it leave together, or the first failure among them.
use Rattle.std.specs.Prelude.{ℕ, zero, suc, ◌+◌, ◌-◌, nat_eq, nat_le, nat_lt, Bool, not, ◌&&◌, ◌||◌, List, [], ◌∷◌, ◌++◌, length, map, drop, find, Option, option_map, option_and_then, Result, Ok, Err, if◌then◌else◌}
use Rattle.std.specs.List.{filter, filter_map, flat_map, list_any}
use Rattle.int_num.specs.Integer.{Integer}
use Rattle.int_num.specs.declared.ops.RedKind.{RedKind}
use Rattle.pv_base.specs.declared.place.Place.{Place}
use Rattle.pv_base.specs.declared.place.Site.{Site}
use Rattle.ir_code.specs.declared.code.Code.{Code}
use Rattle.ir_code.specs.declared.code.Move.{Move}
use Rattle.loop_plan.specs.declared.plan.PhiGuess.TheVariants.{Step, Same, Reduce}
use Rattle.loop_plan.specs.declared.plan.PhiPlan.{PhiPlan}
use Rattle.loop_plan.specs.declared.plan.LoopPlan.{LoopPlan}
use Rattle.loop_plan.specs.Heaps.{same_place}
use Rattle.mem_image.specs.declared.object.Object.{Object}
use Rattle.mem_image.specs.Picture.{find as object_named}
use Rattle.seq_machine.specs.Acts.{top}
use Rattle.deferred_output.specs.declared.output.TurnOutput.{TurnOutput}
use Rattle.reduction_merge.specs.Partials.{PartialOf, started, added}
use Rattle.span_types.specs.declared.span.Span.{Span}
use Rattle.span_types.specs.declared.failure.Failure.{Failure}
use Rattle.span_types.specs.declared.piece.ByteWrite.{ByteWrite}
use Rattle.span_types.specs.declared.piece.RegWrite.{RegWrite}
use Rattle.span_types.specs.declared.piece.ElementPartial.{ElementPartial}
use Rattle.span_types.specs.declared.piece.PhiPartial.{PhiPartial}
use Rattle.span_types.specs.declared.piece.TurnCount.{TurnCount}
use Rattle.span_types.specs.declared.piece.TurnObjects.{TurnObjects}
use Rattle.span_types.specs.declared.piece.Delta.{Delta}
use Rattle.span_types.specs.declared.piece.Body.{Body}
use Rattle.span_types.specs.declared.piece.Body.TheVariants.{Done, Failed}
use Rattle.span_types.specs.declared.piece.Piece.{Piece}
use Rattle.turn_rules.specs.Loops.{phi_moves, defined, own_registers, held}
use Rattle.turn_rules.specs.Spans.{worker_of, first_turn, behind}
use Rattle.turn_rules.specs.Marks.{TurnDone, same_byte}
use Rattle.turn_rules.specs.Views.{writes_of}
use Rattle.turn_rules.specs.Ends.{turn_alone, joins_of}

-- ---- lists in rising order of a key

-- an item put where it belongs, in place of one that has its key
abbrev pub put_by : {A : Type 0} → (A → A → Bool) → A → List A → List A
put_by before x [] = x ∷ []
put_by before x (y ∷ ys) = if before x y then x ∷ y ∷ ys else if before y x then y ∷ put_by before x ys else x ∷ ys

-- items put one after another, so the last one of a key counts
abbrev pub put_all : {A : Type 0} → (A → A → Bool) → List A → List A → List A
put_all before [] ys = ys
put_all before (x ∷ xs) ys = put_all before xs (put_by before x ys)

abbrev pub is_before : Place → Place → Bool
is_before p q = nat_lt p.name q.name || (nat_eq p.name q.name && nat_lt p.offset q.offset)

-- the places of a list in rising order, each once
abbrev pub rising : List Place → List Place
rising places = put_all is_before places []

-- the numbers below n
abbrev pub below : ℕ → List ℕ
below zero = []
below (suc n) = below n ++ n ∷ []

-- ---- partials

abbrev pub partial_from : PartialOf → List Integer → PartialOf
partial_from p [] = p
partial_from p (x ∷ xs) = partial_from (added p x) xs

-- the partial of a list of operands
abbrev pub partial_of : RedKind → List Integer → PartialOf
partial_of kind xs = partial_from (started kind.op kind.flags kind.width) xs

-- over a module's code, the plan of a loop, and a span of it
module _ (code : Code) (l : LoopPlan) (s : Span) where
  -- ---- what turns did together

  abbrev pub byte_writes : TurnDone → List ByteWrite
  byte_writes d = map (λ w. record { place = w.0; turn = d.turn; byte = w.1 }) (writes_of d)

  -- the registers that a turn hands over: those that the loop defines, but for the triples', the header's phis' and what joins into these
  abbrev pub handed_over : List ℕ
  handed_over = filter (λ r. not (list_any (nat_eq r) (own_registers code l))) (defined code l.region)

  -- In the view these are not set, so the ones that are set at the end are those that the turn set.
  abbrev pub register_writes : TurnDone → List RegWrite
  register_writes d = filter_map (λ r. option_map (λ v. record { register = r; turn = d.turn; value = v }) (held (top d.state.frames) r)) handed_over

  -- the kind of the reduced object of a name
  abbrev pub kind_of_object : Object → Option RedKind
  kind_of_object o = option_and_then (λ t. t.1.kind) (find (λ t. same_place t.0 o.site) l.tags)

  abbrev pub kind_at : Place → Option RedKind
  kind_at p = option_and_then kind_of_object (object_named p.name s.base.memory.objects)

  abbrev pub operands_at : Place → List (Place × Integer) → List Integer
  operands_at p operands = map (λ x. x.1) (filter (λ x. same_byte p x.0) operands)

  abbrev pub element_partials : List (Place × Integer) → List ElementPartial
  element_partials operands =
      filter_map (λ p. option_map (λ kind. record { place = p; partial = partial_of kind (operands_at p operands) }) (kind_at p)) (rising (map (λ x. x.0) operands))

  abbrev pub phi_partial : Site → RedKind → List Integer → List PhiPartial
  phi_partial phi kind [] = []
  phi_partial phi kind (x ∷ xs) = record { site = phi; partial = partial_of kind (x ∷ xs) } ∷ []

  abbrev pub phi_partials : List (Site × Integer) → PhiPlan × Move → List PhiPartial
  phi_partials operands p =
      elim p.0.guess as (λ _. List PhiPartial) [ Step step ↦ [] | Same ↦ [] | Reduce at kind ↦ phi_partial p.0.phi kind (map (λ x. x.1) (joins_of p.0.phi operands)) ]

  abbrev pub count : (TurnDone → ℕ) → TurnDone → TurnCount
  count f d = record { turn = d.turn; count = f d }

  -- the objects that a turn made and that are alive at its end
  abbrev pub kept : TurnDone → TurnObjects
  kept d = record { turn = d.turn; objects = filter (λ o. nat_le s.base.memory.next o.name) d.state.memory.objects }

  abbrev pub printed : TurnDone → TurnOutput
  printed d = record { turn = d.turn; bytes = drop (length s.base.output) d.state.output }

  abbrev pub made : TurnDone → ℕ
  made d = d.state.memory.next - s.base.memory.next

  -- all of it, for turns in rising order
  abbrev pub delta : List TurnDone → Delta
  delta ds = record {
    live_in = rising (flat_map (λ d. d.live_in) ds);
    writes = put_all (λ a b. is_before a.place b.place) (flat_map byte_writes ds) [];
    registers = put_all (λ a b. nat_lt a.register b.register) (flat_map register_writes ds) [];
    partials = element_partials (flat_map (λ d. d.operands) ds);
    phis = flat_map (phi_partials (flat_map (λ d. d.phi_operands) ds)) (phi_moves code l.region);
    output = map printed ds;
    made = map (count made) ds;
    steps = map (count (λ d. d.state.steps)) ds;
    kept = map kept ds;
    peaks = map (count (λ d. d.peak)) ds;
  }

  -- ---- the turns of a worker, one after another

  abbrev pub with_turn : List TurnDone → Result TurnDone Failure → Result (List TurnDone) Failure
  with_turn ds (Ok d) = Ok (ds ++ d ∷ [])
  with_turn ds (Err e) = Err e

  abbrev pub then_turn : ℕ → ℕ → Result (List TurnDone) Failure → Result (List TurnDone) Failure
  then_turn w k (Ok ds) =
      if nat_eq (worker_of s k) w then with_turn ds (turn_alone (record { code = code; plan = l; span = s; turn = k; earlier = ds })) else Ok ds
  then_turn w k (Err e) = Err e

  -- what the worker's turns below k left, or the first failure among them
  abbrev pub passed : ℕ → ℕ → Result (List TurnDone) Failure
  passed w zero = Ok []
  passed w (suc k) = then_turn w k (passed w k)

  abbrev pub body : ℕ → Result (List TurnDone) Failure → Body
  body p (Ok ds) = Done (delta (filter (λ d. nat_le (first_turn s p) d.turn) ds))
  body p (Err e) = Failed e

  -- The piece of a worker for a period, asked for only where the worker's earlier pieces are done. A worker without a turn in it has an
  -- empty one.
  abbrev pub piece : ℕ → ℕ → Piece
  piece w p = record { worker = w; period = p; body = body p (passed w (behind s p)) }

  -- all pieces of a period, by worker
  abbrev pub period_pieces : ℕ → List Piece
  period_pieces p = map (λ w. piece w p) (below s.workers)
