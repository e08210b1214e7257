-- When a cause is met: at an instruction, at the initialiser of a global, and in the whole module.
use Rattle.std.specs.Prelude.{ℕ, Bool, true, false, not, ◌&&◌, ◌||◌, nat_lt, List, [], ◌∷◌, map, find, is_some, codes, Option, Some, None}
use Rattle.std.specs.List.{list_all}
use Rattle.pv_base.specs.declared.name.Name.{Name}
use Rattle.pv_base.specs.declared.name.Name.TheVariants.{Named}
use Rattle.int_num.specs.declared.ops.CastOp.{CastOp}
use Rattle.int_num.specs.declared.ops.CastOp.TheVariants.{Trunc, Zext, Sext}
use Rattle.ir_tree.specs.declared.instruction.Operand.TheVariants as operand
use Rattle.ir_tree.specs.declared.instruction.Callee.TheVariants as callee
use Rattle.ir_tree.specs.declared.instruction.Instruction.TheVariants as instruction
use Rattle.ir_tree.specs.Table.{same_name}
use Rattle.ir_tree.specs.Trees.{TypeV, IntV, PtrV, VoidV, ConstantV}
use Rattle.ir_rules.specs.declared.given.Use.{Use}
use Rattle.ir_rules.specs.Seen.{OperandV, ArgumentV, CalleeV, ArmV, InstructionV, FunctionV, GlobalV, ModuleV}
use Rattle.ir_rules.specs.Same.{same_bool, same_type}
use Rattle.ir_rules.specs.Forms.{is_terminator, uses, targets, sources, integer_types}
use Rattle.ir_rules.specs.Defining.{given_type, register_type, is_label, function_named}
use Rattle.ir_rules.specs.Constants.{names_known, is_integer, constant_index, is_of}
use Rattle.ir_rules.specs.Indexing.{path, agrees}
use Rattle.ir_rules.specs.Calls.{params_fit, param_types, call_fits, external_of, may_call}
use Rattle.ir_rules.specs.Spots.{Spot, is_entry, predecessors, same_names, arms_agree}

-- ---- a name that is not defined

abbrev pub operand_known : ModuleV → FunctionV → OperandV → Bool
operand_known m f (operand.Register name) = is_some (register_type f name)
operand_known m f (operand.Constant c) = names_known m c

abbrev pub callee_known : ModuleV → CalleeV → Bool
callee_known m (callee.Function name) = is_some (function_named m name)
callee_known m (callee.Pointer name) = true

-- the function that is called by its name is one of the module
unfoldable pub calls_known : ModuleV → InstructionV → Bool
calls_known m (instruction.Call to of variadic what arguments) = callee_known m what
calls_known m i = true

abbrev pub all_names_known : ModuleV → FunctionV → InstructionV → Bool
all_names_known m f i =
    list_all (λ u. operand_known m f u.value) (uses i) && list_all (is_label f) (targets i) && list_all (is_label f) (sources i) && calls_known m i

-- ---- a type that differs

-- an unknown register has no type that differs
abbrev pub register_fits : Option TypeV → TypeV → Bool
register_fits None type = true
register_fits (Some own) type = same_type own type

abbrev pub operand_fits : ModuleV → FunctionV → TypeV → OperandV → Bool
operand_fits m f type (operand.Register name) = register_fits (register_type f name) type
operand_fits m f type (operand.Constant c) = is_of m type c

abbrev pub use_fits : ModuleV → FunctionV → Use Name TypeV ConstantV → Bool
use_fits m f u = operand_fits m f (given_type u.of) u.value

-- a cast goes to a width that fits it
abbrev pub cast_fits : CastOp → TypeV → TypeV → Bool
cast_fits Trunc (IntV from) (IntV to) = nat_lt to from
cast_fits Zext (IntV from) (IntV to) = nat_lt from to
cast_fits Sext (IntV from) (IntV to) = nat_lt from to
cast_fits op from to = false

abbrev pub returns_fit : TypeV → Option ArgumentV → Bool
returns_fit type None = same_type type VoidV
returns_fit type (Some a) = same_type type a.of

abbrev pub named_call_fits : Option FunctionV → TypeV → Bool → List ArgumentV → Bool
named_call_fits None of variadic arguments = true
named_call_fits (Some f) of variadic arguments = call_fits f of variadic (map (λ a. a.of) arguments)

-- the form `(ptr, ...)` stands before a name alone
abbrev pub callee_fits : ModuleV → CalleeV → TypeV → Bool → List ArgumentV → Bool
callee_fits m (callee.Function name) of variadic arguments = named_call_fits (function_named m name) of variadic arguments
callee_fits m (callee.Pointer name) of variadic arguments = not variadic

abbrev pub operand_index : TypeV → OperandV → Option ℕ
operand_index type (operand.Register name) = None
operand_index type (operand.Constant c) = constant_index type c

-- what a form asks beyond its operands
unfoldable pub form_fits : ModuleV → FunctionV → InstructionV → Bool
form_fits m f (instruction.Cast to op flags of value target) = cast_fits op of target
form_fits m f (instruction.Address to inbounds of base indices) = agrees (path m.types of (map (λ a. operand_index a.of a.value) indices))
form_fits m f (instruction.Call to of variadic what arguments) = callee_fits m what of variadic arguments
form_fits m f (instruction.Return value) = returns_fit f.result value
form_fits m f i = true

abbrev pub all_types_fit : ModuleV → FunctionV → InstructionV → Bool
all_types_fit m f i = list_all (use_fits m f) (uses i) && list_all is_integer (integer_types i) && form_fits m f i

-- ---- blocks and edges

-- the last instruction of a block is a terminator, and no other is
abbrev pub terminates : Spot → Bool
terminates s = same_bool (is_terminator s.instruction) s.last

abbrev pub spares_entry : FunctionV → InstructionV → Bool
spares_entry f i = list_all (λ label. not (is_entry f.blocks label)) (targets i)

abbrev pub all_agree : List ArmV → Bool
all_agree arms = list_all (λ a. list_all (arms_agree a) arms) arms

unfoldable pub phi_fits : FunctionV → Spot → InstructionV → Bool
phi_fits f s (instruction.Phi to of arms) = s.behind_phis && same_names (map (λ a. a.from) arms) (predecessors f s.label) && all_agree arms
phi_fits f s i = true

-- ---- allocations and externals

abbrev pub is_constant : OperandV → Bool
is_constant (operand.Register name) = false
is_constant (operand.Constant c) = true

abbrev pub count_is_constant : Option ArgumentV → Bool
count_is_constant None = true
count_is_constant (Some count) = is_constant count.value

unfoldable pub alloca_fits : Bool → InstructionV → Bool
alloca_fits entry (instruction.Alloca to of count) = entry && count_is_constant count
alloca_fits entry i = true

-- a function that is declared is called as the external that it is
abbrev pub named_call_allowed : Option FunctionV → List ArgumentV → Bool
named_call_allowed None arguments = true
named_call_allowed (Some f) arguments = not f.declared || may_call f (external_of f.name) arguments

abbrev pub callee_allowed : ModuleV → CalleeV → List ArgumentV → Bool
callee_allowed m (callee.Function name) arguments = named_call_allowed (function_named m name) arguments
callee_allowed m (callee.Pointer name) arguments = true

unfoldable pub call_allowed : ModuleV → InstructionV → Bool
call_allowed m (instruction.Call to of variadic what arguments) = callee_allowed m what arguments
call_allowed m i = true

-- ---- the initialiser of a global

abbrev pub initialiser_known : ModuleV → GlobalV → Bool
initialiser_known m g = names_known m g.init

abbrev pub initialiser_fits : ModuleV → GlobalV → Bool
initialiser_fits m g = is_of m g.of g.init

-- ---- the function `main`

abbrev pub is_main : FunctionV → Bool
is_main f = not f.declared && same_name (Named (codes "main")) f.name

abbrev pub main_of : ModuleV → Option FunctionV
main_of m = find is_main m.functions

-- `i32 ()` or `i32 (i32, ptr)`
abbrev pub has_main_type : FunctionV → Bool
has_main_type f =
    same_type f.result (IntV 32) && not f.variadic && (params_fit false [] (param_types f) || params_fit false (IntV 32 ∷ PtrV ∷ []) (param_types f))

abbrev pub main_fits : Option FunctionV → Bool
main_fits None = true
main_fits (Some f) = has_main_type f
