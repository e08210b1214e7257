-- Where an instruction of a checked module leads, its block has an edge.
use Rattle.std.proofs.Common.{◌≡◌, ℕ, zero, suc, ◌+◌, true, false, Bool, List, [], ◌∷◌, ◌++◌, map, length, take, Option, Some, None, slice_get, refl, sym, ap, subst, ◌∙◌, inl, inr, if◌then◌else◌, nat_eq, eqb-true, eq-eqb}
use Rattle.std.specs.Prelude.{IfSome, ◌||◌, is_some, option_map, option_and_then, find, cond, filter, fold, slice_index_or}
use Rattle.std.specs.Option.{option_map_or, option_or}
use Rattle.std.specs.List.{AllByRecursion, list_all, list_any, flat_map, filter_map}
use Rattle.std.proofs.lemmas.List.{map-append}
use Rattle.std.proofs.lemmas.Option.{slice_get-map}
use Rattle.ir_tree.specs.declared.instruction.Operand.{Operand as Named}
use Rattle.ir_tree.specs.declared.instruction.Arm.{Arm}
use Rattle.ir_tree.specs.declared.instruction.Instruction.{Instruction}
use Rattle.ir_tree.specs.declared.instruction.Instruction.TheVariants as tree
use Rattle.ir_tree.specs.declared.items.Block.{Block}
use Rattle.ir_tree.specs.declared.items.Function.{Function}
use Rattle.ir_tree.specs.Table.{Table, IsTable, same_name, name_among}
use Rattle.ir_tree.specs.Naming.{name_at, type_at}
use Rattle.ir_tree.specs.Shown.{shown, shown_arm, shown_block, shown_function}
use Rattle.ir_tree.specs.Modules.{Items, types_of}
use Rattle.ir_tree.proofs.Bodies.{same_self}
use Rattle.ir_rules.specs.declared.given.Defined.{Defined}
use Rattle.ir_rules.specs.declared.given.Given.TheVariants.{Written}
use Rattle.ir_rules.specs.Seen.{BlockV, InstructionV}
use Rattle.ir_rules.specs.Forms.{result_of, used, uses, targets, sources, register_types}
use Rattle.ir_rules.specs.Spots.{Spot, has_edge_to, predecessors}
use Rattle.ir_rules.specs.Causes.{phi_fits}
use Rattle.ir_rules.specs.Defining.{is_label}
use Rattle.ir_rules.specs.Reading.{instruction_stands, is_register}
use Rattle.ir_rules.specs.Numbering.{is_name, is_type, is_within, block_within, function_within}
use Rattle.ir_rules.proofs.SameLemmas.{and_both}
use Rattle.ir_rules.proofs.ShownLemmas.{targets_shown}
use Rattle.global_laws.proofs.Found as found
use Rattle.ir_code.specs.declared.code.Move.{Move}
use Rattle.ir_code.specs.declared.code.Edge.{Edge}
use Rattle.ir_code.specs.declared.op.Operand.{Operand}
use Rattle.ir_code.specs.declared.op.Scalar.{Scalar}
use Rattle.ir_code.specs.Options.{every}
use Rattle.ir_code.specs.Places.{place_of, exit_at}
use Rattle.ir_code.specs.Places as places
use Rattle.ir_code.proofs.Noted.{place_of_push}
use Rattle.ir_code.specs.Tables.{scalar_at}
use Rattle.ir_code.specs.Families.{operand_at}
use Rattle.ir_code.specs.Blocks.{Join, joins_of, exits_of, arm_from, targets_of, move_of, edge_to, with_target, with_exit, edges_of}
use Rattle.ir_code.specs.Coding.{tables_of}
use Rattle.resolving_laws.specs.Looking.{IsFirst}
use Rattle.resolving_laws.specs.Resolved.{result_name, register_names}
use Rattle.resolving_laws.proofs.Options.{all_at, some_has}
use Rattle.resolving_laws.proofs.Lists.{some_or_none, some_of, all_right, of_filter, of_flat, all_made}
use Rattle.resolving_laws.proofs.Firsts.{find_first, named_first}
use Rattle.resolving_laws.proofs.Callees.{index_made}
use Rattle.resolving_laws.proofs.Names.{phi_or_not}
use Rattle.resolving_laws.proofs.Edges.{scope}
use Rattle.resolving_laws.proofs.Blocks.{in_flat}
use Rattle.resolving_laws.proofs.Known.{none_among, same_number, labels_known}
use Rattle.resolving_laws.proofs.Sound.{Sound, SoundIn, UseSound, IsUse, sound_uses, within_parts}
use Rattle.resolving_laws.proofs.Values.{typed_some, operand_some}

-- ---- the register of a result

pub own_register : (f : Function ℕ ℕ ℕ) (b q : ℕ) (bl : Block ℕ ℕ ℕ) (i : Instruction ℕ ℕ ℕ) (d : Defined ℕ ℕ) → slice_get f.blocks b ≡ Some bl → slice_get bl.instructions q ≡ Some i → result_of i ≡ Some d
    → (r : ℕ) × (place_of (register_names f) d.name ≡ Some r)
own_register f b q bl i d at here is = elim (some_or_none (place_of (register_names f) d.name)) [
  | inl r ↦ r
  | inr none ↦
      let all = all_right (λ y. y ≡ Some d.name → ⊥) (map (λ p. p.name) f.params) (flat_map (λ b. filter_map result_name b.instructions) f.blocks) (none_among d.name (register_names f) none) in
      let block = all_at (λ (c : Block ℕ ℕ ℕ). AllByRecursion (λ y. y ≡ Some d.name → ⊥) (filter_map result_name c.instructions)) f.blocks b bl (of_flat (λ (c : Block ℕ ℕ ℕ). filter_map result_name c.instructions) (λ y. y ≡ Some d.name → ⊥) f.blocks all) at in
      let own = all_at (λ j. IfSome (result_name j) (λ y. y ≡ Some d.name → ⊥)) bl.instructions q i (of_filter result_name (λ y. y ≡ Some d.name → ⊥) bl.instructions block) here in
      let not : Some d.name ≡ Some d.name → ⊥ = subst (λ o. IfSome (option_map (λ (e : Defined ℕ ℕ). Some e.name) o) (λ y. y ≡ Some d.name → ⊥)) is own in
      absurd (not refl)
]

-- ---- the phis that a block begins with

joins_if : (P : Join → Type 0) (x : Instruction ℕ ℕ ℕ) (is : List (Instruction ℕ ℕ ℕ)) → ((j : Join) → x ≡ tree.Phi j.to j.of j.arms → P j) → AllByRecursion P (joins_of is) → AllByRecursion P (joins_of (x ∷ is))
joins_if P x is h rest = elim (phi_or_not x) [
  | inl g ↦ rw (g.1) (h g.0 g.3, rest)
  | inr g ↦ rw (g.0) tt
]

joins_all : (P : Join → Type 0) (is : List (Instruction ℕ ℕ ℕ)) → ((q : ℕ) (i : Instruction ℕ ℕ ℕ) (j : Join) → slice_get is q ≡ Some i → i ≡ tree.Phi j.to j.of j.arms → P j) → AllByRecursion P (joins_of is)
joins_all P [] h = tt
joins_all P (x ∷ is) h = joins_if P x is (λ j e. h 0 x j refl e) (joins_all P is (λ q i j e g. h (suc q) i j e g))

pub every_some : {A B : Type 0} (f : A → Option B) (xs : List A) → AllByRecursion (λ a. (b : B) × (f a ≡ Some b)) xs → (bs : List B) × (every f xs ≡ Some bs)
every_some f [] h = ([], refl)
every_some f (x ∷ xs) h =
    let rest = every_some f xs h.1 in
    (h.0.0 ∷ rest.0, ap (option_and_then (λ y. option_and_then (λ ys. Some (y ∷ ys)) (every f xs))) h.0.1 ∙ ap (option_and_then (λ ys. Some (h.0.0 ∷ ys))) rest.1)

-- ---- names among names

any_at : {A : Type 0} (p : A → Bool) (xs : List A) (k : ℕ) (x : A) → slice_get xs k ≡ Some x → p x ≡ true → list_any p xs ≡ true
any_at p [] k x e h = absurd cc
any_at p (y ∷ xs) zero x e h = let same : x ≡ y = cc in let own : p y ≡ true = ap p (sym same) ∙ h in rw own refl
any_at p (y ∷ xs) (suc k) x e h = either (p y) (list_any p xs) (any_at p xs k x e h)
  where
    either : (a b : Bool) → b ≡ true → (a || b) ≡ true
    either true b h = refl
    either false b h = h

all_chosen : {A B : Type 0} (p : B → Bool) (g : A → B) (q : A → Bool) (xs : List A) (k : ℕ) (x : A) → list_all p (map g (filter q xs)) ≡ true → slice_get xs k ≡ Some x → q x ≡ true → p (g x) ≡ true
all_chosen p g q [] k x h e c = absurd cc
all_chosen p g q (y ∷ xs) zero x h e c =
    let same : x ≡ y = cc in
    let own : q y ≡ true = ap q (sym same) ∙ c in
    let here : list_all p (map g (y ∷ filter q xs)) ≡ true = subst (λ b. list_all p (map g (cond b (y ∷ filter q xs) (filter q xs))) ≡ true) own h in
    ap (λ z. p (g z)) same ∙ (and_both (p (g y)) (list_all p (map g (filter q xs))) here).0
all_chosen p g q (y ∷ xs) (suc k) x h e c = all_chosen p g q xs k x (fewer (q y) h) e c
  where
    fewer : (b : Bool) → list_all p (map g (cond b (y ∷ filter q xs) (filter q xs))) ≡ true → list_all p (map g (filter q xs)) ≡ true
    fewer true h = (and_both (p (g y)) (list_all p (map g (filter q xs))) h).1
    fewer false h = h

module _ (t : Table) (table : IsTable t) where
  arm_if : (label : ℕ) (a : Arm ℕ ℕ) (rest : Option (Arm ℕ ℕ)) (c : Bool) (o : Bool) → (o ≡ true → is_some rest ≡ true) → (c || o) ≡ true → is_some (cond c (Some a) rest) ≡ true
  arm_if label a rest true o h e = refl
  arm_if label a rest false o h e = h e

  arm_known : (label : ℕ) (arms : List (Arm ℕ ℕ)) → is_name t label ≡ true → list_all (is_name t) (map (λ a. a.from) arms) ≡ true → name_among (name_at t label) (map (λ a. a.from) (map (shown_arm t) arms)) ≡ true
      → is_some (find (λ a. nat_eq label a.from) arms) ≡ true
  arm_known label [] own within e = absurd cc
  arm_known label (a ∷ arms) own within e =
      let w = and_both (is_name t a.from) (list_all (is_name t) (map (λ a. a.from) arms)) within in
      arm_if label a (find (λ a. nat_eq label a.from) arms) (nat_eq label a.from) (name_among (name_at t label) (map (λ a. a.from) (map (shown_arm t) arms))) (arm_known label arms own w.1)
      (ap (λ c. c || name_among (name_at t label) (map (λ a. a.from) (map (shown_arm t) arms))) (same_number t table label a.from own w.0) ∙ e)

-- ---- what a phi of a checked module takes

exits_targets : (i : Instruction ℕ ℕ ℕ) → exits_of i ≡ targets i
unfolding targets
exits_targets (tree.Binary to op flags of left right) = refl
exits_targets (tree.Cast to op flags of value target) = refl
exits_targets (tree.Freeze to of value) = refl
exits_targets (tree.Compare to pred of left right) = refl
exits_targets (tree.Select to condition of on_true on_false) = refl
exits_targets (tree.Phi to of arms) = refl
exits_targets (tree.Alloca to of count) = refl
exits_targets (tree.Load to of pointer) = refl
exits_targets (tree.Store of value pointer) = refl
exits_targets (tree.Address to inbounds of base indices) = refl
exits_targets (tree.Call to of variadic what arguments) = refl
exits_targets (tree.Return value) = refl
exits_targets (tree.Jump target) = refl
exits_targets (tree.Branch condition on_true on_false) = refl
exits_targets (tree.Switch of value default cases) = refl
exits_targets tree.Unreachable = refl

-- over a function whose instructions keep the rules
module _ (m : Items) (f : Function ℕ ℕ ℕ) (table : IsTable m.names) (within : is_within m ≡ true) (inside : function_within m.names f ≡ true)
    (sound : (b q : ℕ) (bl : Block ℕ ℕ ℕ) (i : Instruction ℕ ℕ ℕ) → slice_get f.blocks b ≡ Some bl → slice_get bl.instructions q ≡ Some i → SoundIn m f bl q i) where
  phi_result : (j : Join) → result_of (tree.Phi j.to j.of j.arms) ≡ Some (let d : Defined ℕ ℕ = record { name = j.to; of = Some (Written j.of) } in d)
  unfolding result_of
  phi_result j = refl

  phi_uses : (j : Join) → uses (tree.Phi j.to j.of j.arms) ≡ map (λ a. used a.value (Written j.of)) j.arms
  unfolding uses
  phi_uses j = refl

  phi_sources : (j : Join) → sources (tree.Phi j.to j.of j.arms) ≡ map (λ a. a.from) j.arms
  unfolding sources
  phi_sources j = refl

  phi_stands : (j : Join) → instruction_stands (types_of m) (shown m.names (tree.Phi j.to j.of j.arms)) ≡ true → is_register (type_at m.names j.of) ≡ true
  unfolding shown register_types
  phi_stands j e = (and_both (is_register (type_at m.names j.of)) true (and_both _ _ (and_both _ _ (and_both _ _ (and_both _ _ e).0).0).0).0).0

  phi_among : (j : Join) (s : Spot) → phi_fits (shown_function m.names f) s (shown m.names (tree.Phi j.to j.of j.arms)) ≡ true
      → list_all (λ y. name_among y (map (λ a. a.from) (map (shown_arm m.names) j.arms))) (predecessors (shown_function m.names f) s.label) ≡ true
  unfolding phi_fits shown
  phi_among j s e = (and_both _ _ (and_both _ _ (and_both _ _ e).0).1).1

  -- this block has an edge to that one
  Enters : Block ℕ ℕ ℕ → ℕ → Type 0
  Enters bl target = has_edge_to (name_at m.names target) (shown_block m.names bl) ≡ true

  -- what a phi takes from a block
  record Taken (label : ℕ) (j : Join) : Type 0 where
    arm : Arm ℕ ℕ
    found : arm_from label j.arms ≡ Some arm.value
    operand : UseSound m f (type_at m.names j.of) arm.value
    type : is_type m.names j.of ≡ true

  arm_taken : (label : ℕ) (j : Join) (a : Arm ℕ ℕ) (k : ℕ) → find (λ a. nat_eq label a.from) j.arms ≡ Some a → slice_get j.arms k ≡ Some a → AllByRecursion (IsUse m f) (map (λ a. used a.value (Written j.of)) j.arms) → Taken label j
  arm_taken label j a k e at us =
      let u = all_at (λ (c : Arm ℕ ℕ). IsUse m f (used c.value (Written j.of))) j.arms k a (all_made (λ (c : Arm ℕ ℕ). used c.value (Written j.of)) (IsUse m f) j.arms us) at in
      record { arm = a; found = ap (option_map (λ (c : Arm ℕ ℕ). c.value)) e; operand = u.operand; type = u.type }

  taken : (b q : ℕ) (bl next : Block ℕ ℕ ℕ) (j : Join) → slice_get f.blocks b ≡ Some bl → is_name m.names bl.label ≡ true → Enters bl next.label → SoundIn m f next q (tree.Phi j.to j.of j.arms) → Taken bl.label j
  unfolding Enters
  taken b q bl next j at own enters s =
      let all = phi_among j s.spot s.phi in
      let named = subst (λ l. list_all (λ y. name_among y (map (λ a. a.from) (map (shown_arm m.names) j.arms))) (predecessors (shown_function m.names f) l) ≡ true) s.label all in
      let block : slice_get (shown_function m.names f).blocks b ≡ Some (shown_block m.names bl) = slice_get-map (shown_block m.names) f.blocks b ∙ ap (option_map (shown_block m.names)) at in
      let among = all_chosen (λ y. name_among y (map (λ a. a.from) (map (shown_arm m.names) j.arms))) (λ (c : BlockV). c.label) (has_edge_to (name_at m.names next.label)) (shown_function m.names f).blocks b (shown_block m.names bl) named block enters in
      let sourced : list_all (is_name m.names) (map (λ a. a.from) j.arms) ≡ true =
      subst (λ l. list_all (is_name m.names) l ≡ true) (phi_sources j) (within_parts m.names (tree.Phi j.to j.of j.arms) s.own.within).sources in
      let us = subst (AllByRecursion (IsUse m f)) (phi_uses j) (sound_uses m f (tree.Phi j.to j.of j.arms) s.own) in
      go (find (λ a. nat_eq bl.label a.from) j.arms) refl (arm_known m.names table bl.label j.arms own sourced among)
      (find_first (λ a. nat_eq bl.label a.from) (λ (c : Arm ℕ ℕ). c.from ≡ bl.label) j.arms (λ c e. sym (eqb-true bl.label c.from e)) (λ c e. eq-eqb bl.label c.from (sym e))) us
    where
      go : (o : Option (Arm ℕ ℕ)) → find (λ a. nat_eq bl.label a.from) j.arms ≡ o → is_some o ≡ true → IfSome o (λ y. (k : ℕ) × (g : IsFirst (λ (c : Arm ℕ ℕ). c.from ≡ bl.label) j.arms k) × (g.item ≡ y))
          → AllByRecursion (IsUse m f) (map (λ a. used a.value (Written j.of)) j.arms) → Taken bl.label j
      go None e some first us = absurd cc
      go (Some a) e some first us = arm_taken bl.label j a first.0 e (first.1.at ∙ ap Some first.2) us

  move_made : (label : ℕ) (j : Join) (r : ℕ) (s : Scalar) (arm : Named ℕ ℕ) (o : Operand) → place_of (register_names f) j.to ≡ Some r → scalar_at (tables_of m) j.of ≡ Some s → arm_from label j.arms ≡ Some arm → operand_at (tables_of m) (register_names f) s arm ≡ Some o
      → move_of (tables_of m) (register_names f) label j ≡ Some (record { register = r; value = o })
  move_made label j r s arm o p t a v = rw (p, t, a, v) refl

  move_some : (b to q : ℕ) (bl next : Block ℕ ℕ ℕ) (i : Instruction ℕ ℕ ℕ) (j : Join) → slice_get f.blocks b ≡ Some bl → slice_get f.blocks to ≡ Some next → is_name m.names bl.label ≡ true → Enters bl next.label
      → slice_get next.instructions q ≡ Some i → i ≡ tree.Phi j.to j.of j.arms → (mv : Move) × (move_of (tables_of m) (register_names f) bl.label j ≡ Some mv)
  move_some b to q bl next i j at there own enters here is =
      let s : SoundIn m f next q (tree.Phi j.to j.of j.arms) = subst (SoundIn m f next q) is (sound to q next i there here) in
      let a = taken b q bl next j at own enters s in
      let t = typed_some m j.of table a.type (phi_stands j s.own.stands) in
      let o = operand_some m f t.scalar a.arm.value table within inside t.stands (subst (λ type. UseSound m f type a.arm.value) t.type a.operand) in
      let r = own_register f to q next i (record { name = j.to; of = Some (Written j.of) }) there here (ap result_of is ∙ phi_result j) in
      (record { register = r.0; value = o.0 }, move_made bl.label j r.0 t.scalar a.arm.value o.0 r.1 t.is a.found o.1)

  -- ---- edges

  edge_some : (b to : ℕ) (bl next : Block ℕ ℕ ℕ) → slice_get f.blocks b ≡ Some bl → slice_get f.blocks to ≡ Some next → is_name m.names bl.label ≡ true → Enters bl next.label
      → (e : Edge) × (edge_to (tables_of m) (scope f) bl.label to ≡ Some e) × (e.to ≡ to)
  edge_some b to bl next at there own enters =
      let joins : slice_index_or (scope f).joins to [] ≡ joins_of next.instructions = index_made (λ (c : Block ℕ ℕ ℕ). joins_of c.instructions) f.blocks to next [] there in
      let moves = every_some (move_of (tables_of m) (register_names f) bl.label) (joins_of next.instructions)
      (joins_all (λ j. (mv : Move) × (move_of (tables_of m) (register_names f) bl.label j ≡ Some mv)) next.instructions (λ q i j here is. move_some b to q bl next i j at there own enters here is)) in (
        record { to = to; moves = moves.0 },
        ap (λ js. option_map (λ moves. let e : Edge = record { to = to; moves = moves } in e) (every (move_of (tables_of m) (register_names f) bl.label) js)) joins ∙ ap (option_map (λ moves. let e : Edge = record { to = to; moves = moves } in e)) moves.1,
        refl,
      )

  -- an edge leads to the block of this number
  Has : ℕ → List Edge → Type 0
  Has to edges = is_some (place_of (targets_of edges) to) ≡ true

  or_some : (a b : Option ℕ) → is_some a ≡ true → is_some (option_or a b) ≡ true
  or_some None b e = absurd cc
  or_some (Some x) b e = refl

  or_last : (a : Option ℕ) (b : ℕ) → is_some (option_or a (Some b)) ≡ true
  or_last None b = refl
  or_last (Some x) b = refl

  pushed : (edges : List Edge) (e : Edge) (to : ℕ) → place_of (targets_of (edges ++ e ∷ [])) to ≡ option_or (place_of (targets_of edges) to) (if places.is_name to (Some e.to) then Some (length (targets_of edges)) else None)
  pushed edges e to = ap (λ ns. place_of ns to) (map-append (λ (x : Edge). Some x.to) edges (e ∷ [])) ∙ place_of_push (targets_of edges) (Some e.to) to

  has_more : (edges : List Edge) (e : Edge) (to : ℕ) → Has to edges → Has to (edges ++ e ∷ [])
  unfolding Has
  has_more edges e to h = ap is_some (pushed edges e to) ∙ or_some (place_of (targets_of edges) to) _ h

  has_last : (edges : List Edge) (e : Edge) (to : ℕ) → e.to ≡ to → Has to (edges ++ e ∷ [])
  unfolding Has
  has_last edges e to same =
      let self : nat_eq to e.to ≡ true = eq-eqb to e.to (sym same) in
      ap is_some (pushed edges e to) ∙ ap (λ c. is_some (option_or (place_of (targets_of edges) to) (if c then Some (length (targets_of edges)) else None))) self ∙ or_last (place_of (targets_of edges) to) (length (targets_of edges))

  target_keeps : (label : ℕ) (edges : List Edge) (x to : ℕ) → Has to edges → Has to (with_target (tables_of m) (scope f) label edges x)
  target_keeps label edges x to h = go (is_some (place_of (targets_of edges) x)) (edge_to (tables_of m) (scope f) label x)
    where
      go : (b : Bool) (o : Option Edge) → Has to (if b then edges else option_map_or (λ e. edges ++ e ∷ []) o edges)
      go true o = h
      go false None = h
      go false (Some e) = has_more edges e to h

  exit_keeps : (label : ℕ) (edges : List Edge) (x to : ℕ) → Has to edges → Has to (with_exit (tables_of m) (scope f) label edges x)
  exit_keeps label edges x to h = go (place_of (scope f).labels x)
    where
      go : (o : Option ℕ) → Has to (option_map_or (with_target (tables_of m) (scope f) label edges) o edges)
      go None = h
      go (Some k) = target_keeps label edges k to h

  all_keep : (label : ℕ) (edges : List Edge) (xs : List ℕ) (to : ℕ) → Has to edges → Has to (fold (with_exit (tables_of m) (scope f) label) edges xs)
  all_keep label edges [] to h = h
  all_keep label edges (x ∷ xs) to h = all_keep label (with_exit (tables_of m) (scope f) label edges x) xs to (exit_keeps label edges x to h)

  exit_gives : (label : ℕ) (edges : List Edge) (x to : ℕ) (e : Edge) → place_of (scope f).labels x ≡ Some to → edge_to (tables_of m) (scope f) label to ≡ Some e → e.to ≡ to → Has to (with_exit (tables_of m) (scope f) label edges x)
  unfolding Has
  exit_gives label edges x to e place is same = subst (λ o. Has to (option_map_or (with_target (tables_of m) (scope f) label edges) o edges)) (sym place) (go (is_some (place_of (targets_of edges) to)) refl)
    where
      go : (b : Bool) → is_some (place_of (targets_of edges) to) ≡ b → Has to (if b then edges else option_map_or (λ e. edges ++ e ∷ []) (edge_to (tables_of m) (scope f) label to) edges)
      go true h = h
      go false h = subst (λ o. Has to (option_map_or (λ e. edges ++ e ∷ []) o edges)) (sym is) (has_last edges e to same)

  all_give : (label : ℕ) (edges : List Edge) (xs : List ℕ) (n x to : ℕ) (e : Edge) → slice_get xs n ≡ Some x → place_of (scope f).labels x ≡ Some to → edge_to (tables_of m) (scope f) label to ≡ Some e → e.to ≡ to
      → Has to (fold (with_exit (tables_of m) (scope f) label) edges xs)
  all_give label edges [] n x to e at place is same = absurd cc
  all_give label edges (y ∷ xs) zero x to e at place is same =
      let own : y ≡ x = cc in
      all_keep label (with_exit (tables_of m) (scope f) label edges y) xs to (subst (λ z. Has to (with_exit (tables_of m) (scope f) label edges z)) (sym own) (exit_gives label edges x to e place is same))
  all_give label edges (y ∷ xs) (suc n) x to e at place is same = all_give label (with_exit (tables_of m) (scope f) label edges y) xs n x to e at place is same

  -- ---- where an instruction leads

  known_at : (i : Instruction ℕ ℕ ℕ) (p x : ℕ) → Sound m f i → slice_get (targets i) p ≡ Some x → (is_name m.names x ≡ true) × (is_label (shown_function m.names f) (name_at m.names x) ≡ true)
  known_at i p x s at =
      let all = subst (λ l. list_all (is_label (shown_function m.names f)) l ≡ true) (targets_shown m.names i) (and_both _ _ (and_both _ _ (and_both _ _ s.known).0).0).1 in
      let made : slice_get (map (name_at m.names) (targets i)) p ≡ Some (name_at m.names x) = slice_get-map (name_at m.names) (targets i) p ∙ ap (option_map (name_at m.names)) at in (
        found.all_at (is_name m.names) (targets i) p x (within_parts m.names i s.within).targets at,
        found.all_at (is_label (shown_function m.names f)) (map (name_at m.names) (targets i)) p (name_at m.names x) all made,
      )

  enters : (bl : Block ℕ ℕ ℕ) (i : Instruction ℕ ℕ ℕ) (q p x : ℕ) → slice_get bl.instructions q ≡ Some i → slice_get (targets i) p ≡ Some x → Enters bl x
  unfolding Enters
  enters bl i q p x here at =
      let inner : slice_get (map (shown m.names) bl.instructions) q ≡ Some (shown m.names i) = slice_get-map (shown m.names) bl.instructions q ∙ ap (option_map (shown m.names)) here in
      let made : slice_get (map (name_at m.names) (targets i)) p ≡ Some (name_at m.names x) = slice_get-map (name_at m.names) (targets i) p ∙ ap (option_map (name_at m.names)) at in
      let among : name_among (name_at m.names x) (targets (shown m.names i)) ≡ true = ap (name_among (name_at m.names x)) (targets_shown m.names i) ∙ any_at (same_name (name_at m.names x)) (map (name_at m.names) (targets i)) p (name_at m.names x) made (same_self (name_at m.names x)) in
      any_at (λ (j : InstructionV). name_among (name_at m.names x) (targets j)) (map (shown m.names) bl.instructions) q (shown m.names i) inner among

  exit_made : (labels leads : List (Option ℕ)) (first x to k : ℕ) → place_of labels x ≡ Some to → place_of leads to ≡ Some k → exit_at labels leads first x ≡ Some (first + k)
  exit_made labels leads first x to k a b = rw (a, b) refl

  pub exit_some : (b q : ℕ) (bl : Block ℕ ℕ ℕ) (i : Instruction ℕ ℕ ℕ) (p x first : ℕ) → slice_get f.blocks b ≡ Some bl → slice_get bl.instructions q ≡ Some i → slice_get (targets i) p ≡ Some x
      → (e : ℕ) × (exit_at (scope f).labels (targets_of (edges_of (tables_of m) (scope f) bl)) first x ≡ Some e)
  unfolding Has
  exit_some b q bl i p x first at here leads =
      let k = known_at i p x (sound b q bl i at here).own leads in
      let blocks : list_all (block_within m.names) f.blocks ≡ true = (and_both _ _ inside).1 in
      let to = some_of (place_of (scope f).labels x) (labels_known m.names table x f.blocks k.0 blocks ∙ k.1) in
      let next = some_has (IsFirst (λ (c : Block ℕ ℕ ℕ). c.label ≡ x) f.blocks) (place_of (scope f).labels x) to.0 (named_first (λ (c : Block ℕ ℕ ℕ). c.label) f.blocks x) to.1 in
      let own = (and_both (is_name m.names bl.label) _ (found.all_at (block_within m.names) f.blocks b bl blocks at)).0 in
      let e = edge_some b to.0 bl next.item at next.at own (subst (Enters bl) (sym next.is) (enters bl i q p x here leads)) in
      let listed : slice_get (flat_map exits_of bl.instructions) (length (flat_map exits_of (take q bl.instructions)) + p) ≡ Some x =
      in_flat exits_of bl.instructions q i p x here (ap (λ l. slice_get l p) (exits_targets i) ∙ leads) in
      let has = all_give bl.label [] (flat_map exits_of bl.instructions) (length (flat_map exits_of (take q bl.instructions)) + p) x to.0 e.0 listed to.1 e.1 e.2 in
      let place = some_of (place_of (targets_of (edges_of (tables_of m) (scope f) bl)) to.0) has in
      (first + place.0, exit_made (scope f).labels (targets_of (edges_of (tables_of m) (scope f) bl)) first x to.0 place.0 to.1 place.1)
