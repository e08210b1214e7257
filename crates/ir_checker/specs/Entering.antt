-- The edges of a function by the blocks to which they go.
use Rattle.std.specs.Prelude.{◌≡◌, ℕ, Bool, not, ◌||◌, is_some, Some, List, [], map, unwrap_or, slice_index_or}
use Rattle.std.specs.List.{list_all}
use Rattle.std.specs.Ordering.{nat_cmp}
use Rattle.std.specs.BTreeMap.{get, BTreeMap}
use Rattle.ir_tree.specs.declared.instruction.Arm.{Arm}
use Rattle.ir_tree.specs.declared.items.Function.{Function}
use Rattle.ir_tree.specs.Table.{Table, name_among}
use Rattle.ir_tree.specs.Naming.{name_at}
use Rattle.ir_tree.specs.Shown.{shown_operand, shown_block, shown_function}
use Rattle.ir_rules.specs.Same.{same_operand}
use Rattle.ir_rules.specs.Spots.{has_edge_to, predecessors}
use Rattle.ir_checker.specs.Firsts.{first_place}
use Rattle.ir_checker.specs.Keys.{key_of, IsZero}
use Rattle.ir_checker.specs.declared.edges.Edges.{Edges}

-- what stands at a key
abbrev pub list_at : BTreeMap ℕ (List ℕ) → ℕ → List ℕ
list_at m q = unwrap_or (get nat_cmp m q) []

-- at the key of a label stand the keys of the blocks with an edge to its block: a test passes for all of those as for all blocks with
-- such an edge
pub record AreEdges (t : Table) (f : Function ℕ ℕ ℕ) (e : Edges) : Type 0 where
  pub zero : IsZero t e.zero
  pub each : (k : ℕ) (p : ℕ → Bool) → list_all p (list_at e.to (key_of t e.zero k)) ≡ list_all (λ b. not (has_edge_to (name_at t k) (shown_block t b)) || p (key_of t e.zero b.label)) f.blocks

-- the keys of the blocks with an edge to the one of a label
pub record Enter (t : Table) (z : ℕ) (f : Function ℕ ℕ ℕ) (label : ℕ) (keys : List ℕ) : Type 0 where
  pub any : (k : ℕ) → is_some (first_place (key_of t z k) keys) ≡ name_among (name_at t k) (predecessors (shown_function t f) (name_at t label))
  pub all : (ks : List ℕ) → list_all (λ y. is_some (first_place y (map (key_of t z) ks))) keys ≡ list_all (λ y. name_among y (map (name_at t) ks)) (predecessors (shown_function t f) (name_at t label))

-- the answer tells whether an arm has the operand of the first arm of its label
abbrev pub IsFirstOperand : Table → ℕ → List ℕ → List (Arm ℕ ℕ) → ℕ → Bool → Type 0
IsFirstOperand t z from arms i answer =
    (p : ℕ) (d : Arm ℕ ℕ) → first_place (key_of t z (slice_index_or arms i d).from) from ≡ Some p
    → same_operand (shown_operand t (slice_index_or arms p d).value) (shown_operand t (slice_index_or arms i d).value) ≡ answer
