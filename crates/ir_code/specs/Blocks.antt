-- The registers, edges and blocks of a function.
use Rattle.std.specs.Prelude.{ℕ, ◌+◌, List, [], ◌∷◌, ◌++◌, length, map, fold, drop, replicate, find, nat_eq, Option, Some, None, option_map, unwrap_or, is_some, slice_index_or, if◌then◌else◌}
use Rattle.std.specs.List.{filter_map, flat_map}
use Rattle.std.specs.Option.{option_map_or}
use Rattle.ir_tree.specs.declared.instruction.Operand.{Operand as Named}
use Rattle.ir_tree.specs.declared.instruction.Arm.{Arm}
use Rattle.ir_tree.specs.declared.instruction.Instruction.{Instruction}
use Rattle.ir_tree.specs.declared.instruction.Instruction.TheVariants as tree
use Rattle.ir_tree.specs.declared.items.Param.{Param}
use Rattle.ir_tree.specs.declared.items.Block.{Block}
use Rattle.ir_tree.specs.declared.items.Function.{Function}
use Rattle.ir_tree.specs.Modules.{Items}
use Rattle.ir_code.specs.declared.registers.Register.{Register}
use Rattle.ir_code.specs.declared.op.Scalar.TheVariants as scalar
use Rattle.ir_code.specs.declared.op.Op.{Op}
use Rattle.ir_code.specs.declared.op.Op.TheVariants as op
use Rattle.ir_code.specs.declared.code.Move.{Move}
use Rattle.ir_code.specs.declared.code.Edge.{Edge}
use Rattle.ir_code.specs.declared.code.BlockCode.{BlockCode}
use Rattle.ir_code.specs.Options.{◌>>=◌, every}
use Rattle.ir_code.specs.Places.{place_of, exit_at}
use Rattle.ir_code.specs.Exits.{Leading}
use Rattle.ir_code.specs.Tables.{Tables, scalar_at, scalar_or_pointer}
use Rattle.ir_code.specs.Families.{operand_at, binary, cast, freeze, compare, select, alloca, load, store, call, return_of, jump, branch, switch}
use Rattle.ir_code.specs.Addresses.{address}

-- the register that an instruction gives a value
abbrev pub result_of : Tables → Instruction ℕ ℕ ℕ → Option Register
result_of t (tree.Binary to what flags of left right) = Some (record { name = Some to; of = scalar_or_pointer t of })
result_of t (tree.Cast to what flags of value target) = Some (record { name = Some to; of = scalar_or_pointer t target })
result_of t (tree.Freeze to of value) = Some (record { name = Some to; of = scalar_or_pointer t of })
result_of t (tree.Compare to pred of left right) = Some (record { name = Some to; of = scalar.Int 1 })
result_of t (tree.Select to condition of on_true on_false) = Some (record { name = Some to; of = scalar_or_pointer t of })
result_of t (tree.Phi to of arms) = Some (record { name = Some to; of = scalar_or_pointer t of })
result_of t (tree.Alloca to of count) = Some (record { name = Some to; of = scalar.Pointer })
result_of t (tree.Load to of pointer) = Some (record { name = Some to; of = scalar_or_pointer t of })
result_of t (tree.Store of value pointer) = None
result_of t (tree.Address to inbounds of base indices) = Some (record { name = Some to; of = scalar.Pointer })
result_of t (tree.Call to of variadic what arguments) = option_map (λ x. record { name = Some x; of = scalar_or_pointer t of }) to
result_of t (tree.Return value) = None
result_of t (tree.Jump target) = None
result_of t (tree.Branch condition on_true on_false) = None
result_of t (tree.Switch of value default cases) = None
result_of t tree.Unreachable = None

abbrev pub parameter_of : Tables → Param ℕ ℕ → Register
parameter_of t p = record { name = p.name; of = scalar_or_pointer t p.of }

-- the parameters first, then the results in text order
abbrev pub registers_of : Tables → Function ℕ ℕ ℕ → List Register
registers_of t f = map (parameter_of t) f.params ++ flat_map (λ b. filter_map (result_of t) b.instructions) f.blocks

-- a phi
pub record Join : Type 0 where
  pub to : ℕ
  pub of : ℕ
  pub arms : List (Arm ℕ ℕ)

abbrev pub join_of : Instruction ℕ ℕ ℕ → Option Join
join_of (tree.Binary to what flags of left right) = None
join_of (tree.Cast to what flags of value target) = None
join_of (tree.Freeze to of value) = None
join_of (tree.Compare to pred of left right) = None
join_of (tree.Select to condition of on_true on_false) = None
join_of (tree.Phi to of arms) = Some (record { to = to; of = of; arms = arms })
join_of (tree.Alloca to of count) = None
join_of (tree.Load to of pointer) = None
join_of (tree.Store of value pointer) = None
join_of (tree.Address to inbounds of base indices) = None
join_of (tree.Call to of variadic what arguments) = None
join_of (tree.Return value) = None
join_of (tree.Jump target) = None
join_of (tree.Branch condition on_true on_false) = None
join_of (tree.Switch of value default cases) = None
join_of tree.Unreachable = None

abbrev pub before_joins : Option Join → List Join → List Join
before_joins None joins = []
before_joins (Some j) joins = j ∷ joins

-- the phis that a block begins with
abbrev pub joins_of : List (Instruction ℕ ℕ ℕ) → List Join
joins_of [] = []
joins_of (i ∷ instructions) = before_joins (join_of i) (joins_of instructions)

-- the labels that an instruction names as the next block
abbrev pub exits_of : Instruction ℕ ℕ ℕ → List ℕ
exits_of (tree.Binary to what flags of left right) = []
exits_of (tree.Cast to what flags of value target) = []
exits_of (tree.Freeze to of value) = []
exits_of (tree.Compare to pred of left right) = []
exits_of (tree.Select to condition of on_true on_false) = []
exits_of (tree.Phi to of arms) = []
exits_of (tree.Alloca to of count) = []
exits_of (tree.Load to of pointer) = []
exits_of (tree.Store of value pointer) = []
exits_of (tree.Address to inbounds of base indices) = []
exits_of (tree.Call to of variadic what arguments) = []
exits_of (tree.Return value) = []
exits_of (tree.Jump target) = target ∷ []
exits_of (tree.Branch condition on_true on_false) = on_true ∷ on_false ∷ []
exits_of (tree.Switch of value default cases) = default ∷ map (λ c. c.to) cases
exits_of tree.Unreachable = []

-- what a phi takes from the block of this label: its first arm from there
abbrev pub arm_from : ℕ → List (Arm ℕ ℕ) → Option (Named ℕ ℕ)
arm_from label arms = option_map (λ a. a.value) (find (λ a. nat_eq label a.from) arms)

-- the names of a function's registers and blocks, and the phis that its blocks begin with
pub record Scope : Type 0 where
  pub registers : List (Option ℕ)
  pub labels : List (Option ℕ)
  pub joins : List (List Join)

-- where the edges of a block lead
abbrev pub targets_of : List Edge → List (Option ℕ)
targets_of edges = map (λ e. Some e.to) edges

-- what a phi's register takes on an edge from the block of a label, from the names of the registers
abbrev pub move_of : Tables → List (Option ℕ) → ℕ → Join → Option Move
move_of t registers label j = do
  r ← place_of registers j.to
  of ← scalar_at t j.of
  arm ← arm_from label j.arms
  value ← operand_at t registers of arm
  Some (record { register = r; value = value })

-- over what was found of the module, and the names of a function
module _ (t : Tables) (s : Scope) where
  -- the edge from the block of this label to the block of a number
  abbrev pub edge_to : ℕ → ℕ → Option Edge
  edge_to label to = option_map (λ moves. record { to = to; moves = moves }) (every (move_of t s.registers label) (slice_index_or s.joins to []))

  -- the edges of a block with that to one more block, which stands last where none leads there yet; none where it breaks a rule
  abbrev pub with_target : ℕ → List Edge → ℕ → List Edge
  with_target label edges to = if is_some (place_of (targets_of edges) to) then edges else option_map_or (λ e. edges ++ e ∷ []) (edge_to label to) edges

  -- the same by the label of that block
  abbrev pub with_exit : ℕ → List Edge → ℕ → List Edge
  with_exit label edges exit = option_map_or (with_target label edges) (place_of s.labels exit) edges

  -- the edges of a block
  abbrev pub edges_of : Block ℕ ℕ ℕ → List Edge
  edges_of b = fold (with_exit b.label) [] (flat_map exits_of b.instructions)

  -- an instruction that ends its block
  abbrev pub ending : (ℕ → Option ℕ) → Instruction ℕ ℕ ℕ → Option Op
  ending exit (tree.Return value) = return_of t s.registers value
  ending exit (tree.Jump target) = jump exit target
  ending exit (tree.Branch condition on_true on_false) = branch t s.registers exit condition on_true on_false
  ending exit (tree.Switch of value default cases) = switch t s.registers exit of value default cases
  ending exit tree.Unreachable = Some op.Unreachable
  ending exit _ = None

  -- an instruction whose value needs those of its operands alone; none for every other
  abbrev pub computed : Instruction ℕ ℕ ℕ → Option Op
  computed (tree.Binary to what flags of left right) = binary t s.registers to what flags of left right
  computed (tree.Cast to what flags of value target) = cast t s.registers to what flags of value target
  computed (tree.Freeze to of value) = freeze t s.registers to of value
  computed (tree.Compare to pred of left right) = compare t s.registers to pred of left right
  computed (tree.Select to condition of on_true on_false) = select t s.registers to condition of on_true on_false
  computed _ = None

-- over the module too
module _ (m : Items) (t : Tables) (s : Scope) where
  -- an instruction that is no phi of those that its block begins with
  unfoldable pub resolved : (ℕ → Option ℕ) → Instruction ℕ ℕ ℕ → Option Op
  resolved exit (tree.Binary to what flags of left right) = binary t s.registers to what flags of left right
  resolved exit (tree.Cast to what flags of value target) = cast t s.registers to what flags of value target
  resolved exit (tree.Freeze to of value) = freeze t s.registers to of value
  resolved exit (tree.Compare to pred of left right) = compare t s.registers to pred of left right
  resolved exit (tree.Select to condition of on_true on_false) = select t s.registers to condition of on_true on_false
  resolved exit (tree.Phi to of arms) = None
  resolved exit (tree.Alloca to of count) = alloca t s.registers to of count
  resolved exit (tree.Load to of pointer) = load t s.registers to of pointer
  resolved exit (tree.Store of value pointer) = store t s.registers of value pointer
  resolved exit (tree.Address to inbounds of base indices) = address m t s.registers to inbounds of base indices
  resolved exit (tree.Call to of variadic what arguments) = call t s.registers to of what arguments
  resolved exit (tree.Return value) = return_of t s.registers value
  resolved exit (tree.Jump target) = jump exit target
  resolved exit (tree.Branch condition on_true on_false) = branch t s.registers exit condition on_true on_false
  resolved exit (tree.Switch of value default cases) = switch t s.registers exit of value default cases
  resolved exit tree.Unreachable = Some op.Unreachable

  abbrev pub op_of : (ℕ → Option ℕ) → Instruction ℕ ℕ ℕ → Op
  op_of exit i = unwrap_or (resolved exit i) op.Stuck

  -- the instructions of a block, whose edges lead so and are numbered from a first one on
  abbrev pub ops_of : Leading → List (Instruction ℕ ℕ ℕ) → List Op
  ops_of exits instructions =
      let joins = joins_of instructions in
      replicate (length joins) op.Phi ++ map (op_of (exit_at s.labels exits.targets exits.first)) (drop (length joins) instructions)

  -- a block whose first instruction and first edge have these numbers
  abbrev pub block_of : ℕ → ℕ → Block ℕ ℕ ℕ → BlockCode
  block_of first first_edge b = record {
    first = first;
    phis = length (joins_of b.instructions);
    ops = ops_of (record { first = first_edge; targets = targets_of (edges_of t s b) }) b.instructions;
  }

  abbrev pub blocks_from : ℕ → ℕ → List (Block ℕ ℕ ℕ) → List BlockCode
  blocks_from first first_edge [] = []
  blocks_from first first_edge (b ∷ blocks) = block_of first first_edge b ∷ blocks_from (first + length b.instructions) (first_edge + length (edges_of t s b)) blocks
