-- The numbers in the items of a module are of its table, and a constant is made of those before it.
use Rattle.std.specs.Prelude.{ℕ, ◌+◌, Bool, true, ◌&&◌, nat_lt, List, [], ◌∷◌, length, Option, Some, None}
use Rattle.std.specs.List.{list_all}
use Rattle.ir_tree.specs.declared.instruction.Operand.{Operand}
use Rattle.ir_tree.specs.declared.instruction.Operand.TheVariants as operand
use Rattle.ir_tree.specs.declared.instruction.Instruction.{Instruction}
use Rattle.ir_tree.specs.declared.items.Global.{Global}
use Rattle.ir_tree.specs.declared.items.Param.{Param}
use Rattle.ir_tree.specs.declared.items.Block.{Block}
use Rattle.ir_tree.specs.declared.items.Function.{Function}
use Rattle.ir_tree.specs.declared.nodes.Element.{Element}
use Rattle.ir_tree.specs.declared.nodes.ConstantNode.{ConstantNode}
use Rattle.ir_tree.specs.declared.nodes.ConstantNode.TheVariants as constant
use Rattle.ir_tree.specs.Table.{Table}
use Rattle.ir_tree.specs.Modules.{Items}
use Rattle.ir_rules.specs.declared.given.Given.{Given}
use Rattle.ir_rules.specs.declared.given.Given.TheVariants.{Pointer, Bit, Written}
use Rattle.ir_rules.specs.declared.given.Defined.{Defined}
use Rattle.ir_rules.specs.declared.given.Use.{Use}
use Rattle.ir_rules.specs.Forms.{result_of, uses, targets, sources, memory_types, cast_types, called_types, called_names}

abbrev pub is_name : Table → ℕ → Bool
is_name t k = nat_lt k (length t.names)

abbrev pub is_type : Table → ℕ → Bool
is_type t k = nat_lt k (length t.types)

abbrev pub is_constant : Table → ℕ → Bool
is_constant t k = nat_lt k (length t.constants)

abbrev pub given_within : Table → Given ℕ → Bool
given_within t (Written k) = is_type t k
given_within t Pointer = true
given_within t Bit = true

abbrev pub operand_within : Table → Operand ℕ ℕ → Bool
operand_within t (operand.Register k) = is_name t k
operand_within t (operand.Constant k) = is_constant t k

abbrev pub use_within : Table → Use ℕ ℕ ℕ → Bool
use_within t u = operand_within t u.value && given_within t u.of

abbrev pub result_within : Table → Option (Defined ℕ ℕ) → Bool
result_within t None = true
result_within t (Some d) = is_name t d.name

abbrev pub instruction_within : Table → Instruction ℕ ℕ ℕ → Bool
instruction_within t i =
    result_within t (result_of i) && list_all (use_within t) (uses i) && list_all (is_name t) (targets i) && list_all (is_name t) (sources i)
    && list_all (is_type t) (memory_types i) && list_all (is_type t) (cast_types i) && list_all (is_type t) (called_types i) && list_all (is_name t) (called_names i)

abbrev pub block_within : Table → Block ℕ ℕ ℕ → Bool
block_within t b = is_name t b.label && list_all (instruction_within t) b.instructions

abbrev pub name_within : Table → Option ℕ → Bool
name_within t None = true
name_within t (Some k) = is_name t k

abbrev pub param_within : Table → Param ℕ ℕ → Bool
param_within t p = name_within t p.name && is_type t p.of

abbrev pub function_within : Table → Function ℕ ℕ ℕ → Bool
function_within t f = is_name t f.name && is_type t f.result && list_all (param_within t) f.params && list_all (block_within t) f.blocks

abbrev pub global_within : Table → Global ℕ ℕ ℕ → Bool
global_within t g = is_name t g.name && is_type t g.of && is_constant t g.init

abbrev pub element_within : Table → ℕ → Element → Bool
element_within t k e = is_type t e.of && nat_lt e.value k

-- what stands in the constant of a number is of the table, and of a smaller number
abbrev pub constant_within : Table → ℕ → ConstantNode → Bool
constant_within t k (constant.Array elements) = list_all (element_within t k) elements
constant_within t k (constant.Struct packed elements) = list_all (element_within t k) elements
constant_within t k (constant.Name name) = is_name t name
constant_within t k (constant.Address of base indices) = is_type t of && nat_lt base k && list_all (element_within t k) indices
constant_within t k c = true

abbrev pub constants_within : Table → ℕ → List ConstantNode → Bool
constants_within t k [] = true
constants_within t k (c ∷ rest) = constant_within t k c && constants_within t (k + 1) rest

-- every number in the items and the constants is of the table
abbrev pub is_within : Items → Bool
is_within m = list_all (global_within m.names) m.globals && list_all (function_within m.names) m.functions && constants_within m.names 0 m.names.constants
