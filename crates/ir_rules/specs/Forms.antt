-- The parts of an instruction by its form, after the LLVM Language Reference, "Instruction Reference", however its names, types
-- and constants are written.
use Rattle.std.specs.Prelude.{List, [], ◌∷◌, ◌++◌, map, Bool, true, false, Option, Some, None}
use Rattle.ir_tree.specs.declared.instruction.Operand.{Operand}
use Rattle.ir_tree.specs.declared.instruction.Operand.TheVariants as operand
use Rattle.ir_tree.specs.declared.instruction.Argument.{Argument}
use Rattle.ir_tree.specs.declared.instruction.Callee.{Callee}
use Rattle.ir_tree.specs.declared.instruction.Callee.TheVariants as callee
use Rattle.ir_tree.specs.declared.instruction.Instruction.{Instruction}
use Rattle.ir_tree.specs.declared.instruction.Instruction.TheVariants as instruction
use Rattle.ir_rules.specs.declared.given.Given.{Given}
use Rattle.ir_rules.specs.declared.given.Given.TheVariants.{Pointer, Bit, Written}
use Rattle.ir_rules.specs.declared.given.Defined.{Defined}
use Rattle.ir_rules.specs.declared.given.Use.{Use}

-- the last instruction of a block is one of these, and no other is
unfoldable pub is_terminator : {N T C : Type 0} → Instruction N T C → Bool
is_terminator (instruction.Return value) = true
is_terminator (instruction.Jump target) = true
is_terminator (instruction.Branch condition on_true on_false) = true
is_terminator (instruction.Switch of value default cases) = true
is_terminator instruction.Unreachable = true
is_terminator i = false

unfoldable pub is_phi : {N T C : Type 0} → Instruction N T C → Bool
is_phi (instruction.Phi to of arms) = true
is_phi i = false

unfoldable pub is_alloca : {N T C : Type 0} → Instruction N T C → Bool
is_alloca (instruction.Alloca to of count) = true
is_alloca i = false

-- the register of a result
abbrev pub register : {N T : Type 0} → N → Given T → Option (Defined N T)
register to of = Some (record { name = to; of = Some of })

abbrev pub call_register : {N T : Type 0} → Option N → T → Option (Defined N T)
call_register None of = None
call_register (Some to) of = register to (Written of)

-- what an instruction defines
unfoldable pub result_of : {N T C : Type 0} → Instruction N T C → Option (Defined N T)
result_of (instruction.Binary to op flags of left right) = register to (Written of)
result_of (instruction.Cast to op flags of value target) = register to (Written target)
result_of (instruction.Freeze to of value) = register to (Written of)
result_of (instruction.Compare to pred of left right) = register to Bit
result_of (instruction.Select to condition of on_true on_false) = register to (Written of)
result_of (instruction.Phi to of arms) = register to (Written of)
result_of (instruction.Alloca to of count) = register to Pointer
result_of (instruction.Load to of pointer) = register to (Written of)
result_of (instruction.Address to inbounds of base indices) = register to Pointer
result_of (instruction.Call to of variadic what arguments) = call_register to of
result_of i = None

abbrev pub used : {N T C : Type 0} → Operand N C → Given T → Use N T C
used value of = record { value = value; of = of }

-- an operand with its written type
abbrev pub argument_use : {N T C : Type 0} → Argument N T C → Use N T C
argument_use a = used a.value (Written a.of)

abbrev pub argument_uses : {N T C : Type 0} → Option (Argument N T C) → List (Use N T C)
argument_uses None = []
argument_uses (Some a) = argument_use a ∷ []

-- a callee that is no name is an operand
abbrev pub callee_uses : {N T C : Type 0} → Callee N → List (Use N T C)
callee_uses (callee.Function name) = []
callee_uses (callee.Pointer name) = used (operand.Register name) Pointer ∷ []

-- what an instruction reads, with the type that each operand needs
unfoldable pub uses : {N T C : Type 0} → Instruction N T C → List (Use N T C)
uses (instruction.Binary to op flags of left right) = used left (Written of) ∷ used right (Written of) ∷ []
uses (instruction.Cast to op flags of value target) = used value (Written of) ∷ []
uses (instruction.Freeze to of value) = used value (Written of) ∷ []
uses (instruction.Compare to pred of left right) = used left (Written of) ∷ used right (Written of) ∷ []
uses (instruction.Select to condition of on_true on_false) = used condition Bit ∷ used on_true (Written of) ∷ used on_false (Written of) ∷ []
uses (instruction.Phi to of arms) = map (λ a. used a.value (Written of)) arms
uses (instruction.Alloca to of count) = argument_uses count
uses (instruction.Load to of pointer) = used pointer Pointer ∷ []
uses (instruction.Store of value pointer) = used value (Written of) ∷ used pointer Pointer ∷ []
uses (instruction.Address to inbounds of base indices) = used base Pointer ∷ map argument_use indices
uses (instruction.Call to of variadic what arguments) = callee_uses what ++ map argument_use arguments
uses (instruction.Return value) = argument_uses value
uses (instruction.Jump target) = []
uses (instruction.Branch condition on_true on_false) = used condition Bit ∷ []
uses (instruction.Switch of value default cases) = used value (Written of) ∷ map (λ c. used (operand.Constant c.value) (Written of)) cases
uses instruction.Unreachable = []

-- the blocks to which an instruction has an edge
unfoldable pub targets : {N T C : Type 0} → Instruction N T C → List N
targets (instruction.Jump target) = target ∷ []
targets (instruction.Branch condition on_true on_false) = on_true ∷ on_false ∷ []
targets (instruction.Switch of value default cases) = default ∷ map (λ c. c.to) cases
targets i = []

-- the labels of a phi
unfoldable pub sources : {N T C : Type 0} → Instruction N T C → List N
sources (instruction.Phi to of arms) = map (λ a. a.from) arms
sources i = []

abbrev pub argument_types : {N T C : Type 0} → Option (Argument N T C) → List T
argument_types None = []
argument_types (Some a) = a.of ∷ []

-- the written types that are to be of integers
unfoldable pub integer_types : {N T C : Type 0} → Instruction N T C → List T
integer_types (instruction.Binary to op flags of left right) = of ∷ []
integer_types (instruction.Cast to op flags of value target) = of ∷ target ∷ []
integer_types (instruction.Alloca to of count) = argument_types count
integer_types (instruction.Address to inbounds of base indices) = map (λ a. a.of) indices
integer_types (instruction.Switch of value default cases) = of ∷ []
integer_types i = []

-- the types of which memory is named
unfoldable pub memory_types : {N T C : Type 0} → Instruction N T C → List T
memory_types (instruction.Alloca to of count) = of ∷ []
memory_types (instruction.Load to of pointer) = of ∷ []
memory_types (instruction.Store of value pointer) = of ∷ []
memory_types (instruction.Address to inbounds of base indices) = of ∷ []
memory_types i = []

-- a call without a register may answer nothing
abbrev pub answer_types : {N T : Type 0} → Option N → T → List T
answer_types None of = []
answer_types (Some to) of = of ∷ []

-- the written types that are to be those of a register
unfoldable pub register_types : {N T C : Type 0} → Instruction N T C → List T
register_types (instruction.Binary to op flags of left right) = of ∷ []
register_types (instruction.Cast to op flags of value target) = of ∷ target ∷ []
register_types (instruction.Freeze to of value) = of ∷ []
register_types (instruction.Compare to pred of left right) = of ∷ []
register_types (instruction.Select to condition of on_true on_false) = of ∷ []
register_types (instruction.Phi to of arms) = of ∷ []
register_types (instruction.Alloca to of count) = argument_types count
register_types (instruction.Load to of pointer) = of ∷ []
register_types (instruction.Store of value pointer) = of ∷ []
register_types (instruction.Address to inbounds of base indices) = map (λ a. a.of) indices
register_types (instruction.Call to of variadic what arguments) = answer_types to of ++ map (λ a. a.of) arguments
register_types (instruction.Return value) = argument_types value
register_types (instruction.Jump target) = []
register_types (instruction.Branch condition on_true on_false) = []
register_types (instruction.Switch of value default cases) = of ∷ []
register_types instruction.Unreachable = []

-- the type of a call's answer, which may be `void`
unfoldable pub called_types : {N T C : Type 0} → Instruction N T C → List T
called_types (instruction.Call to of variadic what arguments) = of ∷ []
called_types i = []

abbrev pub callee_names : {N : Type 0} → Callee N → List N
callee_names (callee.Function name) = name ∷ []
callee_names (callee.Pointer name) = []

-- the function that is called by its name
unfoldable pub called_names : {N T C : Type 0} → Instruction N T C → List N
called_names (instruction.Call to of variadic what arguments) = callee_names what
called_names i = []

-- the values of a switch
unfoldable pub case_values : {N T C : Type 0} → Instruction N T C → List C
case_values (instruction.Switch of value default cases) = map (λ c. c.value) cases
case_values i = []

-- the type that a cast goes to
unfoldable pub cast_types : {N T C : Type 0} → Instruction N T C → List T
cast_types (instruction.Cast to op flags of value target) = target ∷ []
cast_types i = []
