-- Where the instructions of a function stand, and the edges between its blocks.
use Rattle.std.specs.Prelude.{ℕ, ◌-◌, Bool, true, false, not, ◌&&◌, ◌||◌, nat_eq, nat_le, List, [], ◌∷◌, ◌++◌, map, filter, length, sum_by}
use Rattle.std.specs.List.{list_any, list_all, flat_map}
use Rattle.pv_base.specs.declared.name.Name.{Name}
use Rattle.ir_tree.specs.declared.items.Block.{Block}
use Rattle.ir_tree.specs.Table.{same_name, name_among}
use Rattle.ir_rules.specs.Seen.{InstructionV, BlockV, FunctionV, ArmV}
use Rattle.ir_rules.specs.Same.{same_operand}
use Rattle.ir_rules.specs.Forms.{is_phi, targets}

abbrev pub is_empty : {A : Type 0} → List A → Bool
is_empty [] = true
is_empty (x ∷ xs) = false

-- an instruction: its block's label, whether that is the entry block, whether only phis stand before it, and whether it is the
-- last of its block
pub record Spot : Type 0 where
  pub instruction : InstructionV
  pub label : Name
  pub entry : Bool
  pub behind_phis : Bool
  pub last : Bool

unfoldable pub spots_in : Name → Bool → Bool → List InstructionV → List Spot
spots_in label entry phis [] = []
spots_in label entry phis (i ∷ rest) =
    record { instruction = i; label = label; entry = entry; behind_phis = phis; last = is_empty rest } ∷ spots_in label entry (phis && is_phi i) rest

abbrev pub block_spots : Bool → BlockV → List Spot
block_spots entry b = spots_in b.label entry true b.instructions

abbrev pub blocks_spots : List BlockV → List Spot
blocks_spots [] = []
blocks_spots (entry ∷ others) = block_spots true entry ++ flat_map (block_spots false) others

-- the instructions of a function by their numbers
abbrev pub spots : FunctionV → List Spot
spots f = blocks_spots f.blocks

-- how many instructions blocks have
abbrev pub instruction_count : {N T C : Type 0} → List (Block N T C) → ℕ
instruction_count blocks = sum_by (λ b. length b.instructions) blocks

-- a block without instructions stands at this number
unfoldable pub empty_at : List BlockV → ℕ → Bool
empty_at [] k = false
empty_at (b ∷ rest) k = (is_empty b.instructions && nat_eq k 0) || (nat_le (length b.instructions) k && empty_at rest (k - length b.instructions))

-- a function without blocks is one of an empty block, unless it is declared
abbrev pub lacks_instruction : FunctionV → ℕ → Bool
lacks_instruction f k = empty_at f.blocks k || (not f.declared && is_empty f.blocks && nat_eq k 0)

-- a block has an edge to the one of a label: every instruction counts, an early terminator too
abbrev pub has_edge_to : {T C : Type 0} → Name → Block Name T C → Bool
has_edge_to label b = list_any (λ i. name_among label (targets i)) b.instructions

-- the labels of the blocks with an edge to a block
abbrev pub predecessors : FunctionV → Name → List Name
predecessors f label = map (λ b. b.label) (filter (has_edge_to label) f.blocks)

-- two lists have the same names
abbrev pub same_names : List Name → List Name → Bool
same_names xs ys = list_all (λ x. name_among x ys) xs && list_all (λ y. name_among y xs) ys

-- two arms for one block have one operand
abbrev pub arms_agree : ArmV → ArmV → Bool
arms_agree a b = not (same_name a.from b.from) || same_operand a.value b.value

-- the entry block has this label
abbrev pub is_entry : List BlockV → Name → Bool
is_entry [] label = false
is_entry (entry ∷ others) label = same_name entry.label label
