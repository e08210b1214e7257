-- The classes of a loop's objects, by the lines of its profile, and why they leave a loop out.
use Rattle.std.specs.Prelude.{ℕ, ◌+◌, Bool, true, false, not, ◌&&◌, ◌||◌, nat_eq, nat_lt, nat_le, List, [], ◌∷◌, length, map, find, Option, Some, None, option_map, option_and_then, slice_get, is_some, if◌then◌else◌}
use Rattle.std.specs.List.{filter, filter_map, flat_map, list_any, list_all}
use Rattle.std.specs.Option.{option_or, option_map_or}
use Rattle.pv_base.specs.declared.place.Site.{Site}
use Rattle.pv_base.specs.declared.place.AllocSite.{AllocSite}
use Rattle.pv_base.specs.declared.place.AllocSite.TheVariants.{Global, At}
use Rattle.pv_base.specs.declared.place.Heap.{Heap}
use Rattle.pv_base.specs.declared.place.Heap.TheVariants.{Private, ShortLived, Reduction, ReadOnly, Unrestricted, Untagged}
use Rattle.int_num.specs.declared.ops.Flags.{Flags}
use Rattle.int_num.specs.declared.ops.RedOp.{RedOp}
use Rattle.int_num.specs.declared.ops.RedOp.TheVariants.{Add, Mul, And, Or, Xor, Smax, Smin, Umax, Umin}
use Rattle.int_num.specs.declared.ops.RedKind.{RedKind}
use Rattle.ir_tree.specs.Layouts.{layout_of}
use Rattle.ir_tree.specs.declared.plans.Tag.{Tag}
use Rattle.ir_tree.specs.declared.plans.Expect.{Expect}
use Rattle.ir_tree.specs.declared.plans.MemGuess.{MemGuess}
use Rattle.ir_tree.specs.declared.plans.Triple.{Triple}
use Rattle.ir_rules.specs.Seen.{ModuleV}
use Rattle.ir_rules.specs.Same.{same_bool}
use Rattle.profile_lines.specs.declared.profile.UseLine.{UseLine}
use Rattle.profile_lines.specs.declared.profile.FlowLine.{FlowLine}
use Rattle.profile_lines.specs.declared.profile.ValueLine.{ValueLine}
use Rattle.profile_lines.specs.declared.profile.ProfileLoop.{ProfileLoop}
use Rattle.loop_plan.specs.Naming.{instruction_at, site_named, maker_named, object_named, global_named, sites_of, places_of}
use Rattle.loop_plan.specs.Slots.{slot_at, slots_of}
use Rattle.loop_plan.specs.Triples.{triples_of, triple_with, same_site, touches_element}

-- ---- what is the same

abbrev pub same_place : AllocSite → AllocSite → Bool
same_place (Global a) (Global b) = nat_eq a b
same_place (At a) (At b) = same_site a b
same_place a b = false

abbrev pub heap_number : Heap → ℕ
heap_number Private = 0
heap_number ShortLived = 1
heap_number Reduction = 2
heap_number ReadOnly = 3
heap_number Unrestricted = 4
heap_number Untagged = 5

abbrev pub same_heap : Heap → Heap → Bool
same_heap a b = nat_eq (heap_number a) (heap_number b)

abbrev pub op_number : RedOp → ℕ
op_number Add = 0
op_number Mul = 1
op_number And = 2
op_number Or = 3
op_number Xor = 4
op_number Smax = 5
op_number Smin = 6
op_number Umax = 7
op_number Umin = 8

abbrev pub same_flags : Flags → Flags → Bool
same_flags a b =
    same_bool a.nsw b.nsw && same_bool a.nuw b.nuw && same_bool a.exact b.exact && same_bool a.disjoint b.disjoint && same_bool a.nneg b.nneg

-- the same operation, flags and width
abbrev pub same_kind : RedKind → RedKind → Bool
same_kind a b = nat_eq (op_number a.op) (op_number b.op) && same_flags a.flags b.flags && nat_eq a.width b.width

abbrev pub same_kinds : Option RedKind → Option RedKind → Bool
same_kinds None None = true
same_kinds (Some a) (Some b) = same_kind a b
same_kinds a b = false

-- the same class, and the same kind of reduction
abbrev pub same_tag : Tag → Tag → Bool
same_tag a b = same_heap a.heap b.heap && same_kinds a.kind b.kind

-- ---- the lines, by number

-- a slot of an instruction touched an object of a site
pub record Used : Type 0 where
  pub at : Site
  pub slot : ℕ
  pub writes : Bool
  pub object : AllocSite

-- bytes that flow from one turn to a later one
pub record Flow : Type 0 where
  pub object : AllocSite
  pub offset : ℕ
  pub length : ℕ

-- over a module, and a loop of its profile
module _ (v : ModuleV) (l : ProfileLoop) where
  abbrev pub used_slot : UseLine → Site → AllocSite → Option Used
  used_slot line at object =
      option_map (λ s. record { at = at; slot = s.number; writes = s.writes; object = object })
      (option_and_then (λ i. slot_at i line.slot) (instruction_at v at))

  abbrev pub used : UseLine → Option Used
  used line = option_and_then (λ at. option_and_then (used_slot line at) (object_named v line.object)) (site_named v line.at)

  abbrev pub uses : List Used
  uses = filter_map used l.uses

  -- the sites whose objects die in their turn
  abbrev pub locals : List AllocSite
  locals = filter_map (maker_named v) l.locals

  abbrev pub flow : FlowLine → Option Flow
  flow line = option_map (λ o. record { object = o; offset = line.offset; length = line.length }) (object_named v line.object)

  abbrev pub flows : List Flow
  flows = filter_map flow l.flows

  abbrev pub guess : ValueLine → Option MemGuess
  guess line = option_map (λ g. record { global = g; offset = line.offset; bytes = line.bytes }) (global_named v line.global)

  -- the guesses in the order of their lines
  abbrev pub guesses : List MemGuess
  guesses = filter_map guess l.values

  -- ---- classes

  -- a guess of the same global contains the bytes of a flow; an empty flow is contained in each
  abbrev pub contains : Flow → MemGuess → Bool
  contains d g = same_place d.object (Global g.global) && (nat_eq d.length 0 || (nat_le g.offset d.offset && nat_le (d.offset + d.length) (g.offset + length g.bytes)))

  abbrev pub is_covered : Flow → Bool
  is_covered d = list_any (contains d) guesses

  -- what touched the objects of a site
  abbrev pub uses_of : AllocSite → List Used
  uses_of a = filter (λ u. same_place a u.object) uses

  -- the kind of the triple to which an access belongs
  abbrev pub element_kind : Used → Option RedKind
  element_kind u = option_map (λ t. t.kind) (triple_with (triples_of v) u.at)

  -- the kind of a list of accesses that all belong to triples of one kind
  abbrev pub one_kind : List Used → Option RedKind
  one_kind [] = None
  one_kind (u ∷ us) = if is_some (element_kind u) && list_all (λ w. same_kinds (element_kind w) (element_kind u)) us then element_kind u else None

  abbrev pub tag : Heap → Tag
  tag heap = record { heap = heap; kind = None }

  abbrev pub reduction_tag : RedKind → Tag
  reduction_tag kind = record { heap = Reduction; kind = Some kind }

  abbrev pub when : Bool → Tag → Option Tag
  when true t = Some t
  when false t = None

  -- The tag of a site, by the first rule that it meets: its objects die in their turn; all that touches them are triples of one
  -- kind; bytes of them flow, and no guess covers these; they are written; they are read alone.
  abbrev pub tag_of : AllocSite → Option Tag
  tag_of a =
      option_or (when (list_any (same_place a) locals) (tag ShortLived))
      (option_or (option_map reduction_tag (one_kind (uses_of a)))
      (option_or (when (list_any (λ d. same_place a d.object && not (is_covered d)) flows) (tag Unrestricted))
      (option_or (when (list_any (λ u. u.writes) (uses_of a)) (tag Private))
      (when (list_any (λ u. not u.writes) (uses_of a)) (tag ReadOnly)))))

  -- the sites that have a tag, in order
  abbrev pub tags : List (AllocSite × Tag)
  tags = filter_map (λ a. option_map (λ t. (a, t)) (tag_of a)) (places_of v)

  -- ---- expected classes

  abbrev pub heap_of : AllocSite → Option Heap
  heap_of a = option_map (λ t. t.heap) (tag_of a)

  -- the classes of all objects that a slot touched
  abbrev pub heaps_at : Site → ℕ → List Heap
  heaps_at at slot = filter_map (λ u. if same_site at u.at && nat_eq slot u.slot then heap_of u.object else None) uses

  abbrev pub expectation : Site → ℕ → List Heap → Option Expect
  expectation at slot [] = None
  expectation at slot (heap ∷ rest) = Some (record { at = at; slot = slot; heap = heap })

  abbrev pub slots_at : Site → List ℕ
  slots_at at = option_map_or (λ i. map (λ s. s.number) (slots_of i)) (instruction_at v at) []

  abbrev pub expectations_at : Site → List Expect
  expectations_at at = filter_map (λ slot. expectation at slot (heaps_at at slot)) (slots_at at)

  -- the expected class of each slot that touched something, by site and slot
  abbrev pub expected : List Expect
  expected = flat_map expectations_at (sites_of v)

  -- ---- what leaves a loop out

  -- the least site whose bytes flow and are not guessed
  abbrev pub unrestricted : Option AllocSite
  unrestricted = option_map (λ p. p.0) (find (λ p. same_heap p.1.heap Unrestricted) tags)

  -- an expected class is not the only one at its slot
  abbrev pub is_mixed : Expect → Bool
  is_mixed e = not (list_all (same_heap e.heap) (heaps_at e.at e.slot))

  -- the least slot that touched objects of two classes
  abbrev pub mixed : Option Expect
  mixed = find is_mixed expected

  abbrev pub size_of : ℕ → Option ℕ
  size_of g = option_and_then (λ x. option_map (λ y. y.size) (layout_of v.types x.of)) (slice_get v.globals g)

  abbrev pub is_private : ℕ → Bool
  is_private g = option_map_or (same_heap Private) (heap_of (Global g)) false

  -- the guess lies inside a private global
  abbrev pub fits : MemGuess → Bool
  fits g = is_private g.global && option_map_or (nat_le (g.offset + length g.bytes)) (size_of g.global) false

  -- two guesses have a byte in common
  abbrev pub overlap : MemGuess → MemGuess → Bool
  overlap a b = nat_eq a.global b.global && nat_lt a.offset (b.offset + length b.bytes) && nat_lt b.offset (a.offset + length a.bytes)

  abbrev pub are_apart : List MemGuess → Bool
  are_apart [] = true
  are_apart (g ∷ gs) = not (list_any (overlap g) gs) && are_apart gs

  abbrev pub guesses_fit : Bool
  guesses_fit = list_all fits guesses && are_apart guesses

  -- ---- in order

  abbrev pub is_before : MemGuess → MemGuess → Bool
  is_before a b = nat_lt a.global b.global || (nat_eq a.global b.global && nat_le a.offset b.offset)

  abbrev pub insert : MemGuess → List MemGuess → List MemGuess
  insert g [] = g ∷ []
  insert g (h ∷ hs) = if is_before g h then g ∷ h ∷ hs else h ∷ insert g hs

  abbrev pub sort : List MemGuess → List MemGuess
  sort [] = []
  sort (g ∷ gs) = insert g (sort gs)

  -- the guesses by global and offset
  abbrev pub ordered_guesses : List MemGuess
  ordered_guesses = sort guesses

  -- the triples that have a slot of which a reduction is expected, by the sites of their loads
  abbrev pub scratch : List Triple
  scratch = filter (λ t. list_any (λ e. same_heap e.heap Reduction && touches_element e.at t) expected) (triples_of v)

-- ---- against earlier loops

-- a site has another tag among these
abbrev pub tagged_otherwise : List (AllocSite × Tag) → AllocSite × Tag → Bool
tagged_otherwise tags own = list_any (λ p. same_place p.0 own.0 && not (same_tag p.1 own.1)) tags
