-- What every module keeps that is read from text, and that a tree can break: registers have the types of registers, widths are 1 to
-- 64, nothing is defined twice, memory is named of types with a layout, and numbers and counts stay below their limits.
use Rattle.std.specs.Prelude.{◌≡◌, ◌<◌, ◌≤◌, ◌^◌, ℕ, Bool, true, false, not, ◌&&◌, nat_lt, nat_le, nat_eq, List, [], ◌∷◌, ◌++◌, map, length, is_some, sum_by, Option, Some, None}
use Rattle.std.specs.List.{list_any, list_all, flat_map, filter_map, range_with_len}
use Rattle.pv_base.specs.declared.name.Name.{Name}
use Rattle.pv_base.specs.Limits.{live_limit}
use Rattle.pv_base.specs.declared.name.Name.TheVariants.{Named, Numbered}
use Rattle.ir_tree.specs.declared.instruction.Operand.TheVariants as operand
use Rattle.ir_tree.specs.declared.instruction.Instruction.TheVariants as instruction
use Rattle.ir_tree.specs.declared.layout.Layout.{Layout}
use Rattle.ir_tree.specs.declared.items.NamedType.{NamedType}
use Rattle.ir_tree.specs.Table.{same_name}
use Rattle.ir_tree.specs.Trees.{TypeV, IntV, PtrV, VoidV, ArrayV, StructV, NamedV, TypesV, NoneV, MoreV}
use Rattle.ir_tree.specs.Trees.{ConstantV, ArrayC, StructC, AddressC, ElementsV, NoneC, MoreC}
use Rattle.ir_tree.specs.Naming.{type_at, constant_at}
use Rattle.ir_tree.specs.Layouts.{layout_of}
use Rattle.ir_tree.specs.Modules.{Items}
use Rattle.ir_rules.specs.Seen.{OperandV, InstructionV, FunctionV, ModuleV, seen}
use Rattle.ir_rules.specs.Forms.{uses, memory_types, register_types, called_types, case_values}
use Rattle.ir_rules.specs.Defining.{defined}
use Rattle.ir_rules.specs.Constants.{constant_bits, indices_of}
use Rattle.ir_rules.specs.Indexing.{path, is_inside}
use Rattle.ir_rules.specs.Spots.{is_empty, instruction_count}
use Rattle.ir_rules.specs.Causes.{operand_index}
use Rattle.ir_rules.specs.Numbering.{is_within}

-- no item is the same as one behind it
unfoldable pub all_differ : {A : Type 0} → (A → A → Bool) → List A → Bool
all_differ same [] = true
all_differ same (x ∷ rest) = not (list_any (same x) rest) && all_differ same rest

abbrev pub names_differ : List Name → Bool
names_differ names = all_differ same_name names

-- ---- types

-- the widths of integers
abbrev pub is_width : ℕ → Bool
is_width w = nat_lt 0 w && nat_le w 64

abbrev pub is_register : TypeV → Bool
is_register (IntV w) = is_width w
is_register PtrV = true
is_register type = false

abbrev pub is_answer : TypeV → Bool
is_answer VoidV = true
is_answer type = is_register type

abbrev pub is_void : TypeV → Bool
is_void VoidV = true
is_void type = false

abbrev pub none_void : TypesV → Bool
none_void NoneV = true
none_void (MoreV type rest) = not (is_void type) && none_void rest

abbrev pub is_known_type : List (NamedType Name TypeV) → Name → Bool
is_known_type types name = list_any (λ t. same_name name t.name) types

-- a type at its outermost level: its width, that nothing in it is `void`, or that its name is that of a type
abbrev pub level_stands : List (NamedType Name TypeV) → TypeV → Bool
level_stands types (IntV w) = is_width w
level_stands types (ArrayV n type) = not (is_void type)
level_stands types (StructV packed fields) = none_void fields
level_stands types (NamedV name) = is_known_type types name
level_stands types type = true

-- a type at each of its levels
unfoldable mutual
  pub type_stands : List (NamedType Name TypeV) → TypeV → Bool
  type_stands types (ArrayV n type) = level_stands types (ArrayV n type) && type_stands types type
  type_stands types (StructV packed fields) = level_stands types (StructV packed fields) && all_stand types fields
  type_stands types type = level_stands types type

  pub all_stand : List (NamedType Name TypeV) → TypesV → Bool
  all_stand types NoneV = true
  all_stand types (MoreV type rest) = type_stands types type && all_stand types rest

abbrev pub is_struct : TypeV → Bool
is_struct (StructV packed fields) = true
is_struct type = false

abbrev pub has_layout : List (NamedType Name TypeV) → TypeV → Bool
has_layout types type = is_some (layout_of types type)

-- ---- constants

-- a constant address at its outermost level: the type that it names has a layout, and its indices stay inside of its structs
abbrev pub address_stands : List (NamedType Name TypeV) → ConstantV → Bool
address_stands types (AddressC of base indices) = has_layout types of && is_inside (path types of (indices_of indices))
address_stands types c = true

-- a constant at each of its levels, with the types that are written in it
unfoldable mutual
  pub constant_stands : List (NamedType Name TypeV) → ConstantV → Bool
  constant_stands types (ArrayC elements) = elements_stand types elements
  constant_stands types (StructC packed elements) = elements_stand types elements
  constant_stands types (AddressC of base indices) = address_stands types (AddressC of base indices) && constant_stands types base && elements_stand types indices
  constant_stands types c = address_stands types c

  pub elements_stand : List (NamedType Name TypeV) → ElementsV → Bool
  elements_stand types NoneC = true
  elements_stand types (MoreC type c rest) = type_stands types type && constant_stands types c && elements_stand types rest

abbrev pub name_stands : Name → Bool
name_stands (Named bytes) = true
name_stands (Numbered n) = nat_lt n (2 ^ 63)

-- ---- instructions

unfoldable pub indices_stand : List (NamedType Name TypeV) → InstructionV → Bool
indices_stand types (instruction.Address to inbounds of base indices) = is_inside (path types of (map (λ a. operand_index a.of a.value) indices))
indices_stand types i = true

abbrev pub instruction_stands : List (NamedType Name TypeV) → InstructionV → Bool
instruction_stands types i =
    list_all is_register (register_types i) && list_all is_answer (called_types i) && list_all (has_layout types) (memory_types i)
    && all_differ nat_eq (filter_map constant_bits (case_values i)) && indices_stand types i

abbrev pub operand_stands : List (NamedType Name TypeV) → OperandV → Bool
operand_stands types (operand.Register name) = true
operand_stands types (operand.Constant c) = constant_stands types c

-- the constants that an instruction reads, the cases of a switch among them
abbrev pub constants_stand : List (NamedType Name TypeV) → InstructionV → Bool
constants_stand types i = list_all (λ u. operand_stands types u.value) (uses i)

-- ---- functions

-- a declared function has no blocks, and another takes no further arguments and names its parameters
abbrev pub form_stands : FunctionV → Bool
form_stands f = if_declared f.declared
  where
    if_declared : Bool → Bool
    if_declared true = is_empty f.blocks
    if_declared false = not f.variadic && list_all (λ p. is_some p.name) f.params

abbrev pub counts_stand : FunctionV → Bool
counts_stand f = nat_lt (length f.blocks) (2 ^ 32) && nat_lt (instruction_count f.blocks) (2 ^ 32)

abbrev pub function_stands : List (NamedType Name TypeV) → FunctionV → Bool
function_stands types f =
    is_answer f.result && list_all (λ p. is_register p.of) f.params && names_differ (map (λ d. d.name) (defined f)) && form_stands f && counts_stand f
    && list_all (λ b. list_all (instruction_stands types) b.instructions) f.blocks

-- ---- the whole

abbrev pub size_of : Option Layout → ℕ
size_of None = 0
size_of (Some l) = l.size

abbrev pub global_sizes : ModuleV → ℕ
global_sizes m = sum_by (λ g. size_of (layout_of m.types g.of)) m.globals

abbrev pub global_names : ModuleV → List Name
global_names m = map (λ g. g.name) m.globals ++ map (λ f. f.name) m.functions

abbrev pub type_names : ModuleV → List Name
type_names m = map (λ t. t.name) m.types

-- every name that a module defines
abbrev pub defined_names : ModuleV → List Name
defined_names m = type_names m ++ global_names m ++ flat_map (λ f. map (λ d. d.name) (defined f)) m.functions

-- nothing in a module breaks what reading keeps
pub record Stands (v : ModuleV) : Type 0 where
  pub names : list_all name_stands (defined_names v) ≡ true
  pub structs : list_all (λ t. is_struct t.of) v.types ≡ true
  pub bodies : list_all (λ t. type_stands v.types t.of) v.types ≡ true
  pub type_names : names_differ (type_names v) ≡ true
  pub global_names : names_differ (global_names v) ≡ true
  pub layouts : list_all (λ g. has_layout v.types g.of) v.globals ≡ true
  pub initialisers : list_all (λ g. constant_stands v.types g.init) v.globals ≡ true
  pub sizes : global_sizes v ≤ live_limit
  pub globals : length v.globals < 2 ^ 32
  pub function_count : length v.functions < 2 ^ 32
  pub functions : list_all (function_stands v.types) v.functions ≡ true
  pub constants : list_all (λ f. list_all (λ b. list_all (constants_stand v.types) b.instructions) f.blocks) v.functions ≡ true

-- the numbers of a module are of its table, and nothing in it breaks what reading keeps
pub record IsWellFormed (m : Items) : Type 0 where
  pub within : is_within m ≡ true
  pub stands : Stands (seen m)

-- ---- the table

abbrev pub numbers_below : ℕ → List ℕ
numbers_below n = range_with_len 0 n

-- each name, type and constant of the table stands, whether the items use it or not
pub record TableStands (m : Items) : Type 0 where
  pub names : list_all name_stands m.names.names ≡ true
  pub types : list_all (λ k. level_stands (seen m).types (type_at m.names k)) (numbers_below (length m.names.types)) ≡ true
  pub constants : list_all (λ k. address_stands (seen m).types (constant_at m.names k)) (numbers_below (length m.names.constants)) ≡ true
