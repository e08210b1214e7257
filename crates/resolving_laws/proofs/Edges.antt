-- Each edge of a block leads where its label says, with what the phis there take.
use Rattle.std.proofs.Common.{◌≡◌, ℕ, ◌+◌, List, [], ◌∷◌, ◌++◌, map, Option, Some, None, slice_get, sym, ap, subst, nat_eq, eqb-true, eq-eqb}
use Rattle.std.specs.Prelude.{IfSome, is_some, slice_index_or, fold, find}
use Rattle.std.specs.List.{AllByRecursion, flat_map}
use Rattle.ir_tree.specs.declared.instruction.Arm.{Arm}
use Rattle.ir_tree.specs.declared.instruction.Operand.{Operand as Named}
use Rattle.ir_tree.specs.declared.instruction.Instruction.TheVariants as tree
use Rattle.ir_tree.specs.declared.items.Block.{Block}
use Rattle.ir_tree.specs.declared.items.Function.{Function}
use Rattle.ir_tree.specs.Modules.{Items}
use Rattle.ir_code.specs.declared.op.Scalar.{Scalar}
use Rattle.ir_code.specs.declared.code.Move.{Move}
use Rattle.ir_code.specs.declared.code.Edge.{Edge}
use Rattle.ir_code.specs.Options.{every}
use Rattle.ir_code.specs.Places.{place_of, exit_at}
use Rattle.ir_code.specs.Tables.{Tables, scalar_at}
use Rattle.ir_code.specs.Families.{operand_at}
use Rattle.ir_code.specs.Blocks.{Scope, Join, joins_of, exits_of, arm_from, targets_of, move_of, edge_to, with_target, with_exit, edges_of}
use Rattle.ir_code.specs.Coding.{tables_of}
use Rattle.resolving_laws.specs.Looking.{IsFirst, Each}
use Rattle.resolving_laws.specs.Constants.{IsType}
use Rattle.resolving_laws.specs.Resolved.{register_names, phis_of, IsRegister, IsOperand, IsMove, LeadsTo}
use Rattle.resolving_laws.proofs.Options.{and_then, then_map, every_each, all_at, all_append, folded, one_of, map_or}
use Rattle.resolving_laws.proofs.Firsts.{place_first, named_first, find_first, first_made}
use Rattle.resolving_laws.proofs.Names.{joins_phis, joins_each}
use Rattle.resolving_laws.proofs.Callees.{index_made}
use Rattle.resolving_laws.proofs.Instructions.{operand_is}

-- the scope of a function, by the names of its registers
abbrev pub scope : Function ℕ ℕ ℕ → Scope
scope f = record { registers = register_names f; labels = map (λ b. Some b.label) f.blocks; joins = map (λ b. joins_of b.instructions) f.blocks }

module _ (m : Items) (f : Function ℕ ℕ ℕ) (label : ℕ) where
  abbrev tables : Tables
  tables = tables_of m

  -- ---- what a phi takes

  abbrev Arrives : Join → Named ℕ ℕ → Type 0
  Arrives j value = (k : ℕ) × (arm : IsFirst (λ (a : Arm ℕ ℕ). a.from ≡ label) j.arms k) × (arm.item.value ≡ value)

  arm_is : (j : Join) → IfSome (arm_from label j.arms) (Arrives j)
  arm_is j =
      then_map (λ a. (k : ℕ) × (arm : IsFirst (λ (a : Arm ℕ ℕ). a.from ≡ label) j.arms k) × (arm.item ≡ a)) (Arrives j) (find (λ a. nat_eq label a.from) j.arms) (λ a. a.value)
      (find_first (λ a. nat_eq label a.from) (λ (a : Arm ℕ ℕ). a.from ≡ label) j.arms (λ a e. sym (eqb-true label a.from e)) (λ a e. eq-eqb label a.from (sym e)))
      (λ a h. (h.0, h.1, ap (λ (b : Arm ℕ ℕ). b.value) h.2))

  abbrev Moves : Join → Move → Type 0
  Moves j move =
      (s : Scalar) × (k : ℕ) × (arm : IsFirst (λ (a : Arm ℕ ℕ). a.from ≡ label) j.arms k) × IsRegister f j.to move.register × IsType m.names j.of s × IsOperand m f s arm.item.value move.value

  move_is : (typed : (of : ℕ) → IfSome (scalar_at tables of) (IsType m.names of)) (j : Join) → IfSome (move_of tables (register_names f) label j) (Moves j)
  move_is typed j =
      and_then (IsRegister f j.to) (Moves j) (place_of (register_names f) j.to) _ (place_first (register_names f) j.to)
      (λ r p. and_then (IsType m.names j.of) (Moves j) (scalar_at tables j.of) _ (typed j.of)
      (λ s t. and_then (Arrives j) (Moves j) (arm_from label j.arms) _ (arm_is j)
      (λ value a. and_then (IsOperand m f s value) (Moves j) (operand_at tables (register_names f) s value) _ (operand_is m f s value)
      (λ o h. (s, a.0, a.1, p, t, subst (λ v. IsOperand m f s v o) (sym a.2) h)))))

  move_same : (j : Join) (move : Move) → Moves j move → IsMove m f label (tree.Phi j.to j.of j.arms) move
  move_same j move h = h

  -- ---- edges

  -- an edge has what the phis of its target take
  abbrev Takes : Edge → Type 0
  Takes e = Each Moves (slice_index_or (scope f).joins e.to []) e.moves

  module _ (typed : (of : ℕ) → IfSome (scalar_at tables of) (IsType m.names of)) where
    edge_is : (to : ℕ) → IfSome (edge_to tables (scope f) label to) Takes
    edge_is to = then_map (Each Moves (slice_index_or (scope f).joins to [])) Takes (every (move_of tables (register_names f) label) (slice_index_or (scope f).joins to [])) _ (every_each Moves (move_of tables (register_names f) label) (move_is typed) _) (λ moves h. h)

    target_is : (edges : List Edge) (to : ℕ) → AllByRecursion Takes edges → AllByRecursion Takes (with_target tables (scope f) label edges to)
    target_is edges to h =
        one_of (AllByRecursion Takes) (is_some (place_of (targets_of edges) to)) edges _ h
        (map_or (AllByRecursion Takes) Takes (λ e. edges ++ e ∷ []) (edge_to tables (scope f) label to) edges (edge_is to) (λ e p. all_append Takes edges (e ∷ []) h (p, tt)) h)

    exit_is : (edges : List Edge) (exit : ℕ) → AllByRecursion Takes edges → AllByRecursion Takes (with_exit tables (scope f) label edges exit)
    exit_is edges exit h = map_or (AllByRecursion Takes) (λ to. Unit {0}) (with_target tables (scope f) label edges) (place_of (scope f).labels exit) edges (any (place_of (scope f).labels exit)) (λ to u. target_is edges to h) h
      where
        any : (o : Option ℕ) → IfSome o (λ to. Unit {0})
        any None = tt
        any (Some to) = tt

    exits_are : (edges : List Edge) (exits : List ℕ) → AllByRecursion Takes edges → AllByRecursion Takes (fold (with_exit tables (scope f) label) edges exits)
    exits_are edges exits h = folded (AllByRecursion Takes) (with_exit tables (scope f) label) exit_is edges exits h

    -- ---- the edges of the function

    -- where an edge of the block stands among those of the function
    abbrev StandsIn : List Edge → List Edge → ℕ → Type 0
    StandsIn all own first = (k : ℕ) (e : Edge) → slice_get own k ≡ Some e → slice_get all (first + k) ≡ Some e

    place_target : (edges : List Edge) (to k : ℕ) → IsFirst (λ y. y ≡ Some to) (targets_of edges) k → (e : Edge) × (slice_get edges k ≡ Some e) × (e.to ≡ to)
    place_target edges to k h = let g = first_made (λ (e : Edge). Some e.to) (λ y. y ≡ Some to) edges k h in (g.item, g.at, cc_some g.item.to to g.is)
      where
        cc_some : (x y : ℕ) → Some x ≡ Some y → x ≡ y
        cc_some x y e = cc

    led : (all own : List Edge) (first target to : ℕ) → StandsIn all own first → AllByRecursion Takes own → IsFirst (λ b. b.label ≡ target) f.blocks to
        → (k : ℕ) → IsFirst (λ y. y ≡ Some to) (targets_of own) k → LeadsTo m f all label target (first + k)
    led all own first target to stands takes block k h =
        let e = place_target own to k h in
        let b : IsFirst (λ b. b.label ≡ target) f.blocks e.0.to = subst (IsFirst (λ (b : Block ℕ ℕ ℕ). b.label ≡ target) f.blocks) (sym e.2) block in
        let t : Takes e.0 = all_at Takes own k e.0 takes e.1 in
        let there : slice_index_or (scope f).joins e.0.to [] ≡ joins_of b.item.instructions = index_made (λ (b : Block ℕ ℕ ℕ). joins_of b.instructions) f.blocks e.0.to b.item [] b.at in
        record {
          edge = e.0;
          at = stands k e.0 e.1;
          to = b;
          moves = joins_each Moves (IsMove m f label) move_same (phis_of b.item.instructions) (joins_of b.item.instructions) e.0.moves (joins_phis b.item.instructions) (subst (λ js. Each Moves js e.0.moves) there t);
        }

    pub leads : (all : List Edge) (b : Block ℕ ℕ ℕ) (first target : ℕ) → b.label ≡ label → StandsIn all (edges_of tables (scope f) b) first
        → IfSome (exit_at (scope f).labels (targets_of (edges_of tables (scope f) b)) first target) (LeadsTo m f all label target)
    leads all b first target is stands =
        and_then (IsFirst (λ (b : Block ℕ ℕ ℕ). b.label ≡ target) f.blocks) (LeadsTo m f all label target) (place_of (scope f).labels target) _ (named_first (λ (b : Block ℕ ℕ ℕ). b.label) f.blocks target)
        (λ to h. and_then (IsFirst (λ y. y ≡ Some to) (targets_of own)) (LeadsTo m f all label target) (place_of (targets_of own) to) _ (place_first (targets_of own) to)
        (λ k g. led all own first target to stands takes h k g))
      where
        own : List Edge
        own = edges_of tables (scope f) b

        takes : AllByRecursion Takes (edges_of tables (scope f) b)
        takes = subst (λ l. AllByRecursion Takes (fold (with_exit tables (scope f) l) [] (flat_map exits_of b.instructions))) (sym is) (exits_are [] (flat_map exits_of b.instructions) tt)
