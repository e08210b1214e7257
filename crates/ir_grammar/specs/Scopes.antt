-- What a function has defined so far, as far as its text was read.
use Rattle.std.specs.Prelude.{ℕ, ◌+◌, fold, List, [], Option, Some, None}
use Rattle.pv_base.specs.declared.name.Name.{Name}
use Rattle.pv_base.specs.declared.name.Name.TheVariants.{Named, Numbered}
use Rattle.ir_tree.specs.declared.instruction.Instruction.{Instruction}
use Rattle.ir_tree.specs.declared.items.Param.{Param}
use Rattle.ir_tree.specs.declared.items.Block.{Block}
use Rattle.ir_tree.specs.Table.{with_name}
use Rattle.ir_tree.specs.Trees.{TypeV, ConstantV}
pub use Rattle.ir_instr.specs.Results.{result_of}

-- The number at which the counter stands that unnamed arguments, blocks and results share, and the names that the function
-- has defined: its values and its labels are one set.
pub record Scope : Type 0 where
  pub next : ℕ
  pub defined : List Name

-- before its parameters
abbrev pub no_scope : Scope
no_scope = record { next = 0; defined = [] }

-- a number that was given moves the counter
abbrev pub counted : ℕ → Name → ℕ
counted next (Numbered n) = next + 1
counted next (Named text) = next

-- with a name that is defined
abbrev pub defining : Scope → Name → Scope
defining scope name = record { next = counted scope.next name; defined = with_name scope.defined name }

abbrev pub defining_some : Scope → Option Name → Scope
defining_some scope (Some name) = defining scope name
defining_some scope None = scope

-- behind an instruction: one without a result takes no number
abbrev pub after_instruction : Scope → Instruction Name TypeV ConstantV → Scope
after_instruction scope i = defining_some scope (result_of i)

-- behind a block
abbrev pub after_block : Scope → Block Name TypeV ConstantV → Scope
after_block scope b = fold after_instruction (defining scope b.label) b.instructions

abbrev pub after_name : Scope → Option Name → Scope
after_name scope (Some name) = defining scope name
after_name scope None = record { next = scope.next + 1; defined = scope.defined }

-- behind a parameter: one without a name takes a number all the same
abbrev pub after_param : Scope → Param Name TypeV → Scope
after_param scope p = after_name scope p.name
