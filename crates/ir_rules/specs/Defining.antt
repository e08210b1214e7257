-- What a function and a module define.
use Rattle.std.specs.Prelude.{List, ◌∷◌, ◌++◌, Bool, ◌||◌, Option, Some, None, option_map, option_and_then, find}
use Rattle.std.specs.List.{list_any, flat_map, filter_map}
use Rattle.pv_base.specs.declared.name.Name.{Name}
use Rattle.ir_tree.specs.declared.items.Param.{Param}
use Rattle.ir_tree.specs.declared.items.Block.{Block}
use Rattle.ir_tree.specs.declared.items.Function.{Function}
use Rattle.ir_tree.specs.Table.{same_name}
use Rattle.ir_tree.specs.Trees.{TypeV, IntV, PtrV}
use Rattle.ir_rules.specs.declared.given.Given.{Given}
use Rattle.ir_rules.specs.declared.given.Given.TheVariants.{Pointer, Bit, Written}
use Rattle.ir_rules.specs.declared.given.Defined.{Defined}
use Rattle.ir_rules.specs.Seen.{FunctionV, ModuleV}
use Rattle.ir_rules.specs.Forms.{result_of}

-- the type that is given
abbrev pub given_type : Given TypeV → TypeV
given_type Pointer = PtrV
given_type Bit = IntV 1
given_type (Written type) = type

-- an argument, where it has a name
abbrev pub argument_of : {N T : Type 0} → Param N T → Option (Defined N T)
argument_of p = option_map (λ name. record { name = name; of = Some (Written p.of) }) p.name

-- a label, and the results behind it
abbrev pub defined_in : {N T C : Type 0} → Block N T C → List (Defined N T)
defined_in b = record { name = b.label; of = None } ∷ filter_map result_of b.instructions

-- what a function defines in text order: its arguments, blocks and results share one set of names
abbrev pub defined : {N T C : Type 0} → Function N T C → List (Defined N T)
defined f = filter_map argument_of f.params ++ flat_map defined_in f.blocks

-- the type of a register of the function
abbrev pub register_type : FunctionV → Name → Option TypeV
register_type f name = option_and_then (λ d. option_map given_type d.of) (find (λ d. same_name name d.name) (defined f))

-- a block of the function has this label
abbrev pub is_label : FunctionV → Name → Bool
is_label f name = list_any (λ b. same_name name b.label) f.blocks

-- the function of a name
abbrev pub function_named : ModuleV → Name → Option FunctionV
function_named m name = find (λ f. same_name name f.name) m.functions

-- a global or a function has this name
abbrev pub is_global : ModuleV → Name → Bool
is_global m name = list_any (λ g. same_name name g.name) m.globals || list_any (λ f. same_name name f.name) m.functions
