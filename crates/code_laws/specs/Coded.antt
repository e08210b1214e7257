-- The code of a module: its registers, edges, blocks and functions, of its names, types and constants alone.
use Rattle.std.specs.Prelude.{ℕ, ◌+◌, List, [], ◌∷◌, ◌++◌, length, map, fold, drop, replicate, find, position, Bool, false, codes, Option, Some, None, option_map, is_some, slice_index_or, if◌then◌else◌}
use Rattle.std.specs.List.{filter_map, flat_map, take_while}
use Rattle.std.specs.Option.{option_map_or}
use Rattle.pv_base.specs.declared.name.Name.{Name}
use Rattle.ir_tree.specs.declared.instruction.Instruction.TheVariants as tree
use Rattle.ir_tree.specs.declared.items.Param.{Param}
use Rattle.ir_tree.specs.Table.{same_name}
use Rattle.ir_tree.specs.Trees.{TypeV}
use Rattle.ir_rules.specs.Seen.{ModuleV, FunctionV, BlockV, InstructionV, OperandV, ArmV}
use Rattle.ir_rules.specs.declared.given.Defined.{Defined}
use Rattle.ir_rules.specs.Defining.{given_type}
use Rattle.ir_rules.specs.Forms.{is_phi, result_of, targets}
use Rattle.ir_code.specs.declared.op.Scalar.{Scalar}
use Rattle.ir_code.specs.declared.op.Scalar.TheVariants as scalar
use Rattle.ir_code.specs.declared.op.Op.{Op}
use Rattle.ir_code.specs.declared.op.Op.TheVariants as op
use Rattle.ir_code.specs.declared.code.Move.{Move}
use Rattle.ir_code.specs.declared.code.Edge.{Edge}
use Rattle.ir_code.specs.declared.code.BlockCode.{BlockCode}
use Rattle.ir_code.specs.declared.code.FunctionCode.{FunctionCode}
use Rattle.ir_code.specs.declared.code.Code.{Code}
use Rattle.ir_code.specs.Options.{◌>>=◌, every}
use Rattle.ir_code.specs.Places.{place_of}
use Rattle.ir_code.specs.Tables.{external_of}
use Rattle.ir_code.specs.Blocks.{targets_of}
use Rattle.ir_code.specs.Coding.{is_named}
use Rattle.code_laws.specs.Meanings.{place_named, scalar_type, scalar_or_ptr, operand_value}
use Rattle.code_laws.specs.Ops.{linkage_in, op_in}

-- a register, by the name that it may have, and its type
abbrev pub Slot : Type 0
Slot = Option Name × Scalar

abbrev pub parameter_slot : Param Name TypeV → Slot
parameter_slot p = (p.name, scalar_or_ptr p.of)

abbrev pub result_slot : Defined Name TypeV → Slot
result_slot d = (Some d.name, option_map_or (λ g. scalar_or_ptr (given_type g)) d.of scalar.Pointer)

-- the parameters first, then the results in text order
abbrev pub slots_of : FunctionV → List Slot
slots_of f = map parameter_slot f.params ++ flat_map (λ b. filter_map (λ i. option_map result_slot (result_of i)) b.instructions) f.blocks

-- the phis that a block begins with
abbrev pub phis_of : List InstructionV → List InstructionV
phis_of instructions = take_while is_phi instructions

-- what a phi takes from the block of this label: its first arm from there
abbrev pub value_from : Name → List ArmV → Option OperandV
value_from label arms = option_map (λ a. a.value) (find (λ a. same_name label a.from) arms)

-- the names of a function's registers and blocks, and the phis that its blocks begin with
pub record ScopeV : Type 0 where
  pub registers : List (Option Name)
  pub labels : List (Option Name)
  pub phis : List (List InstructionV)

-- the number of the edge to the block of a label, where the edges of this block lead and are numbered from `first` on
abbrev pub exit_to : List (Option Name) → List (Option ℕ) → ℕ → Name → Option ℕ
exit_to labels leads first label = do
  to ← place_named labels label
  place ← place_of leads to
  Some (first + place)

module _ (v : ModuleV) where
  -- what a phi's register takes on an edge from the block of a label
  abbrev pub move_from : List (Option Name) → Name → InstructionV → Option Move
  move_from registers label (tree.Phi to of arms) = do
    r ← place_named registers to
    s ← scalar_type of
    arm ← value_from label arms
    value ← operand_value v registers s arm
    Some (record { register = r; value = value })
  move_from registers label i = None

  module _ (s : ScopeV) where
    -- the edge from the block of this label to the block of a number
    abbrev pub edge_from : Name → ℕ → Option Edge
    edge_from label to = option_map (λ moves. record { to = to; moves = moves }) (every (move_from s.registers label) (slice_index_or s.phis to []))

    -- the edges of a block with that to one more block, which stands last where none leads there yet; none where it breaks a rule
    abbrev pub with_edge : Name → List Edge → ℕ → List Edge
    with_edge label edges to = if is_some (place_of (targets_of edges) to) then edges else option_map_or (λ e. edges ++ e ∷ []) (edge_from label to) edges

    -- the same by the label of that block
    abbrev pub with_label : Name → List Edge → Name → List Edge
    with_label label edges exit = option_map_or (with_edge label edges) (place_named s.labels exit) edges

    -- the edges of a block
    abbrev pub block_edges : BlockV → List Edge
    block_edges b = fold (with_label b.label) [] (flat_map targets b.instructions)

    -- the instructions of a block, whose edges lead so and are numbered from a first one on
    abbrev pub block_ops : ℕ → List (Option ℕ) → List InstructionV → List Op
    block_ops first leads instructions =
        let count = length (phis_of instructions) in
        replicate count op.Phi ++ map (op_in v s.registers (exit_to s.labels leads first)) (drop count instructions)

    -- a block whose first instruction and first edge have these numbers
    abbrev pub block_code : ℕ → ℕ → BlockV → BlockCode
    block_code first first_edge b = record {
      first = first;
      phis = length (phis_of b.instructions);
      ops = block_ops first_edge (targets_of (block_edges b)) b.instructions;
    }

    abbrev pub blocks_code : ℕ → ℕ → List BlockV → List BlockCode
    blocks_code first first_edge [] = []
    blocks_code first first_edge (b ∷ blocks) = block_code first first_edge b ∷ blocks_code (first + length b.instructions) (first_edge + length (block_edges b)) blocks

-- what the blocks of a function are resolved in
abbrev pub written_scope : FunctionV → ScopeV
written_scope f = record {
  registers = map (λ r. r.0) (slots_of f);
  labels = map (λ b. Some b.label) f.blocks;
  phis = map (λ b. phis_of b.instructions) f.blocks;
}

-- a function
unfoldable pub function_code : ModuleV → FunctionV → FunctionCode
function_code v f =
    let s = written_scope f in
    record {
      parameters = map (λ p. scalar_or_ptr p.of) f.params;
      result = scalar_type f.result;
      registers = map (λ r. r.1) (slots_of f);
      blocks = blocks_code v s 0 0 f.blocks;
      edges = flat_map (block_edges v s) f.blocks;
      external = external_of (linkage_in f);
      declared = f.declared;
    }

-- a definition of `main`
abbrev pub defines_main : FunctionV → Bool
defines_main f = if f.declared then false else is_named (codes "main") f.name

-- a module with its names resolved: its functions in text order, and the first definition of `main`
unfoldable pub module_code : ModuleV → Code
module_code v = record {
  functions = map (function_code v) v.functions;
  main = position defines_main v.functions;
}
