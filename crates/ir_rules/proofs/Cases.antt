-- The rules computed on small modules: one that meets them all, and one for each cause.
use Prim.Native.String.{String}
use Rattle.std.specs.Prelude.{◌≡◌, ℕ, Bool, true, false, List, [], ◌∷◌, codes, Option, Some, None, refl}
use Rattle.pv_base.specs.declared.name.Name.{Name}
use Rattle.pv_base.specs.declared.name.Name.TheVariants.{Named}
use Rattle.int_num.specs.declared.ops.BinOp.TheVariants.{Add}
use Rattle.int_num.specs.declared.ops.Flags.{Flags}
use Rattle.ir_tree.specs.declared.instruction.Operand.TheVariants as operand
use Rattle.ir_tree.specs.declared.instruction.Argument.{Argument}
use Rattle.ir_tree.specs.declared.instruction.Arm.{Arm}
use Rattle.ir_tree.specs.declared.instruction.Callee.TheVariants as callee
use Rattle.ir_tree.specs.declared.instruction.Instruction.TheVariants as instruction
use Rattle.ir_tree.specs.declared.items.Param.{Param}
use Rattle.ir_tree.specs.Trees.{TypeV, IntV, PtrV, VoidV, ArrayV, StructV, NamedV, NoneV, MoreV}
use Rattle.ir_tree.specs.Trees.{ConstantV, IntegerC, NullC, ZeroC, TextC, ArrayC, StructC, NameC, AddressC, NoneC, MoreC}
use Rattle.ir_rules.specs.declared.fault.CheckSite.TheVariants as at
use Rattle.ir_rules.specs.declared.fault.CheckCause.{CheckCause}
use Rattle.ir_rules.specs.declared.fault.CheckCause.TheVariants as cause
use Rattle.ir_rules.specs.declared.fault.CheckError.{CheckError}
use Rattle.ir_rules.specs.Seen.{OperandV, InstructionV, BlockV, FunctionV, ModuleV}
use Rattle.ir_rules.specs.Same.{same_type, same_types, same_constant, same_elements}
use Rattle.ir_rules.specs.Forms.{is_terminator, is_phi, result_of, uses, targets, sources, integer_types}
use Rattle.ir_rules.specs.Constants.{names_known, all_known, written_types, type_count, are_all, indices_of, all_integers, holds_together, all_together}
use Rattle.ir_rules.specs.Indexing.{step_into}
use Rattle.ir_rules.specs.Calls.{params_fit, is_external}
use Rattle.ir_rules.specs.Spots.{spots_in, empty_at}
use Rattle.ir_rules.specs.Causes.{calls_known, form_fits, phi_fits, alloca_fits, call_allowed}
use Rattle.ir_rules.specs.Faults.{first_fault}
use Rattle.seq_calls.specs.Names.{known, named, width_of, width_behind, extreme}

abbrev n : String → Name
n text = Named (codes text)

abbrev int : ℕ → ℕ → OperandV
int width bits = operand.Constant (IntegerC (record { width = width; bits = bits }))

abbrev reg : String → OperandV
reg name = operand.Register (n name)

abbrev zero : InstructionV
zero = instruction.Return (Some (record { of = IntV 32; value = int 32 0 }))

abbrev block : String → List InstructionV → BlockV
block label instructions = record { label = n label; instructions = instructions }

abbrev main : List BlockV → FunctionV
main blocks = record { name = n "main"; result = IntV 32; params = []; variadic = false; blocks = blocks; declared = false }

abbrev just : FunctionV → ModuleV
just f = record { types = []; globals = []; functions = f ∷ [] }

abbrev body : List InstructionV → ModuleV
body instructions = just (main (block "entry" instructions ∷ []))

abbrev fault : ℕ → CheckCause → Option CheckError
fault k c = Some (record { at = at.At (record { function = 0; place = k }); cause = c })

abbrev whole : CheckCause → Option CheckError
whole c = Some (record { at = at.Whole; cause = c })

abbrev of_global : ℕ → CheckCause → Option CheckError
of_global k c = Some (record { at = at.Global k; cause = c })

abbrev flags : Flags
flags = record { nsw = false; nuw = false; exact = false; disjoint = false; nneg = false }

abbrev add : String → OperandV → OperandV → InstructionV
add to left right = instruction.Binary (n to) Add flags (IntV 32) left right

abbrev call : String → List OperandV → InstructionV
call f arguments = instruction.Call None (IntV 32) false (callee.Function (n f)) (ints arguments)
  where
    ints : List OperandV → List (Argument Name TypeV ConstantV)
    ints [] = []
    ints (a ∷ rest) = record { of = IntV 32; value = a } ∷ ints rest

abbrev jump : String → InstructionV
jump label = instruction.Jump (n label)

abbrev arm : OperandV → String → Arm Name ConstantV
arm value from = record { value = value; from = n from }

abbrev phi : String → List (Arm Name ConstantV) → InstructionV
phi to arms = instruction.Phi (n to) (IntV 32) arms

-- a function of one argument that answers it
abbrev echo : FunctionV
echo = record { name = n "echo"; result = IntV 32; params = record { name = Some (n "x"); of = IntV 32 } ∷ []; variadic = false; blocks = block "entry" (instruction.Return (Some (record { of = IntV 32; value = reg "x" })) ∷ []) ∷ []; declared = false }

abbrev declaration : String → TypeV → List TypeV → Bool → FunctionV
declaration name result types variadic = record { name = n name; result = result; params = params types; variadic = variadic; blocks = []; declared = true }
  where
    params : List TypeV → List (Param Name TypeV)
    params [] = []
    params (t ∷ rest) = record { name = None; of = t } ∷ params rest

abbrev with : FunctionV → List InstructionV → ModuleV
with f instructions = record { types = []; globals = []; functions = main (block "entry" instructions ∷ []) ∷ f ∷ [] }

abbrev holding : TypeV → ConstantV → ModuleV
holding type init = record { types = record { name = n "T"; of = StructV false (MoreV (IntV 8) (MoreV (ArrayV 2 (IntV 32)) NoneV)) } ∷ []; globals = record { name = n "g"; of = type; constant = false; init = init } ∷ []; functions = main (block "entry" (zero ∷ []) ∷ []) ∷ [] }

abbrev integer : ℕ → ℕ → ConstantV
integer width bits = IntegerC (record { width = width; bits = bits })

abbrev bytes : ConstantV → List OperandV → InstructionV
bytes of indices = instruction.Address (n "p") true (NamedV (n "T")) (operand.Constant of) (ints indices)
  where
    ints : List OperandV → List (Argument Name TypeV ConstantV)
    ints [] = []
    ints (a ∷ rest) = record { of = IntV 32; value = a } ∷ ints rest

abbrev indexing : List OperandV → ModuleV
indexing indices = record { types = (holding PtrV NullC).types; globals = (holding PtrV NullC).globals; functions = main (block "entry" (bytes (NameC (n "g")) indices ∷ zero ∷ []) ∷ []) ∷ [] }

abbrev copying : OperandV → ModuleV
copying flag = with (declaration "llvm.memcpy.p0.p0.i64" VoidV (PtrV ∷ PtrV ∷ IntV 64 ∷ IntV 1 ∷ []) false)
    (instruction.Call None VoidV false (callee.Function (n "llvm.memcpy.p0.p0.i64")) (record { of = PtrV; value = operand.Constant NullC } ∷ record { of = PtrV; value = operand.Constant NullC } ∷ record { of = IntV 64; value = int 64 0 } ∷ record { of = IntV 1; value = flag } ∷ []) ∷ zero ∷ [])

-- `ret i32 0`
returns_zero : first_fault (body (zero ∷ [])) ≡ None
unfolding first_fault spots_in is_terminator is_phi uses targets sources result_of integer_types calls_known form_fits phi_fits alloca_fits call_allowed empty_at same_type same_types same_constant same_elements names_known all_known written_types type_count are_all indices_of all_integers holds_together all_together step_into params_fit is_external known named width_of width_behind extreme
returns_zero = refl

-- an operand that is not defined
unknown_register : first_fault (body (add "a" (reg "b") (int 32 1) ∷ zero ∷ [])) ≡ fault 0 cause.UnknownName
unfolding first_fault spots_in is_terminator is_phi uses targets sources result_of integer_types calls_known form_fits phi_fits alloca_fits call_allowed empty_at same_type same_types same_constant same_elements names_known all_known written_types type_count are_all indices_of all_integers holds_together all_together step_into params_fit is_external known named width_of width_behind extreme
unknown_register = refl

-- a label as an operand
label_as_operand : first_fault (body (add "a" (reg "entry") (int 32 1) ∷ zero ∷ [])) ≡ fault 0 cause.UnknownName
unfolding first_fault spots_in is_terminator is_phi uses targets sources result_of integer_types calls_known form_fits phi_fits alloca_fits call_allowed empty_at same_type same_types same_constant same_elements names_known all_known written_types type_count are_all indices_of all_integers holds_together all_together step_into params_fit is_external known named width_of width_behind extreme
label_as_operand = refl

-- a register as a label
register_as_label : first_fault (just (main (block "entry" (add "a" (int 32 1) (int 32 1) ∷ jump "a" ∷ []) ∷ []))) ≡ fault 1 cause.UnknownName
unfolding first_fault spots_in is_terminator is_phi uses targets sources result_of integer_types calls_known form_fits phi_fits alloca_fits call_allowed empty_at same_type same_types same_constant same_elements names_known all_known written_types type_count are_all indices_of all_integers holds_together all_together step_into params_fit is_external known named width_of width_behind extreme
register_as_label = refl

-- a callee that is not defined
unknown_callee : first_fault (body (call "f" [] ∷ zero ∷ [])) ≡ fault 0 cause.UnknownName
unfolding first_fault spots_in is_terminator is_phi uses targets sources result_of integer_types calls_known form_fits phi_fits alloca_fits call_allowed empty_at same_type same_types same_constant same_elements names_known all_known written_types type_count are_all indices_of all_integers holds_together all_together step_into params_fit is_external known named width_of width_behind extreme
unknown_callee = refl

-- a global as a callee
global_as_callee : first_fault (record { types = []; globals = record { name = n "g"; of = IntV 32; constant = false; init = ZeroC } ∷ []; functions = main (block "entry" (call "g" [] ∷ zero ∷ []) ∷ []) ∷ [] }) ≡ fault 0 cause.UnknownName
unfolding first_fault spots_in is_terminator is_phi uses targets sources result_of integer_types calls_known form_fits phi_fits alloca_fits call_allowed empty_at same_type same_types same_constant same_elements names_known all_known written_types type_count are_all indices_of all_integers holds_together all_together step_into params_fit is_external known named width_of width_behind extreme
global_as_callee = refl

-- an operand of another width
other_width : first_fault (body (add "a" (int 8 1) (int 32 1) ∷ zero ∷ [])) ≡ fault 0 cause.TypeDiffers
unfolding first_fault spots_in is_terminator is_phi uses targets sources result_of integer_types calls_known form_fits phi_fits alloca_fits call_allowed empty_at same_type same_types same_constant same_elements names_known all_known written_types type_count are_all indices_of all_integers holds_together all_together step_into params_fit is_external known named width_of width_behind extreme
other_width = refl

-- of two causes at one site the first of the order
first_cause : first_fault (body (add "a" (int 8 1) (reg "b") ∷ zero ∷ [])) ≡ fault 0 cause.UnknownName
unfolding first_fault spots_in is_terminator is_phi uses targets sources result_of integer_types calls_known form_fits phi_fits alloca_fits call_allowed empty_at same_type same_types same_constant same_elements names_known all_known written_types type_count are_all indices_of all_integers holds_together all_together step_into params_fit is_external known named width_of width_behind extreme
first_cause = refl

-- of two sites the first
first_site : first_fault (body (add "a" (int 8 1) (int 32 1) ∷ add "b" (reg "c") (int 32 1) ∷ zero ∷ [])) ≡ fault 0 cause.TypeDiffers
unfolding first_fault spots_in is_terminator is_phi uses targets sources result_of integer_types calls_known form_fits phi_fits alloca_fits call_allowed empty_at same_type same_types same_constant same_elements names_known all_known written_types type_count are_all indices_of all_integers holds_together all_together step_into params_fit is_external known named width_of width_behind extreme
first_site = refl

-- a result of another type
other_result : first_fault (body (instruction.Return None ∷ [])) ≡ fault 0 cause.TypeDiffers
unfolding first_fault spots_in is_terminator is_phi uses targets sources result_of integer_types calls_known form_fits phi_fits alloca_fits call_allowed empty_at same_type same_types same_constant same_elements names_known all_known written_types type_count are_all indices_of all_integers holds_together all_together step_into params_fit is_external known named width_of width_behind extreme
other_result = refl

-- a call with its arguments
call_by_name : first_fault (with echo (call "echo" (int 32 7 ∷ []) ∷ zero ∷ [])) ≡ None
unfolding first_fault spots_in is_terminator is_phi uses targets sources result_of integer_types calls_known form_fits phi_fits alloca_fits call_allowed empty_at same_type same_types same_constant same_elements names_known all_known written_types type_count are_all indices_of all_integers holds_together all_together step_into params_fit is_external known named width_of width_behind extreme
call_by_name = refl

-- a call with an argument too few
missing_argument : first_fault (with echo (call "echo" [] ∷ zero ∷ [])) ≡ fault 0 cause.TypeDiffers
unfolding first_fault spots_in is_terminator is_phi uses targets sources result_of integer_types calls_known form_fits phi_fits alloca_fits call_allowed empty_at same_type same_types same_constant same_elements names_known all_known written_types type_count are_all indices_of all_integers holds_together all_together step_into params_fit is_external known named width_of width_behind extreme
missing_argument = refl

-- a call with an argument of another type
other_argument : first_fault (with echo (instruction.Call None (IntV 32) false (callee.Function (n "echo")) (record { of = PtrV; value = operand.Constant NullC } ∷ []) ∷ zero ∷ [])) ≡ fault 0 cause.TypeDiffers
unfolding first_fault spots_in is_terminator is_phi uses targets sources result_of integer_types calls_known form_fits phi_fits alloca_fits call_allowed empty_at same_type same_types same_constant same_elements names_known all_known written_types type_count are_all indices_of all_integers holds_together all_together step_into params_fit is_external known named width_of width_behind extreme
other_argument = refl

-- functions that call each other
mutual_recursion : first_fault (with echo (call "main" [] ∷ call "echo" (int 32 7 ∷ []) ∷ zero ∷ [])) ≡ None
unfolding first_fault spots_in is_terminator is_phi uses targets sources result_of integer_types calls_known form_fits phi_fits alloca_fits call_allowed empty_at same_type same_types same_constant same_elements names_known all_known written_types type_count are_all indices_of all_integers holds_together all_together step_into params_fit is_external known named width_of width_behind extreme
mutual_recursion = refl

-- a call through a pointer with types of no function
call_through_pointer : first_fault (body (instruction.Alloca (n "p") (IntV 8) None ∷ instruction.Call None VoidV false (callee.Pointer (n "p")) (record { of = IntV 7; value = int 7 1 } ∷ []) ∷ zero ∷ [])) ≡ None
unfolding first_fault spots_in is_terminator is_phi uses targets sources result_of integer_types calls_known form_fits phi_fits alloca_fits call_allowed empty_at same_type same_types same_constant same_elements names_known all_known written_types type_count are_all indices_of all_integers holds_together all_together step_into params_fit is_external known named width_of width_behind extreme
call_through_pointer = refl

-- a call through an integer
call_through_integer : first_fault (body (add "p" (int 32 1) (int 32 1) ∷ instruction.Call None VoidV false (callee.Pointer (n "p")) [] ∷ zero ∷ [])) ≡ fault 1 cause.TypeDiffers
unfolding first_fault spots_in is_terminator is_phi uses targets sources result_of integer_types calls_known form_fits phi_fits alloca_fits call_allowed empty_at same_type same_types same_constant same_elements names_known all_known written_types type_count are_all indices_of all_integers holds_together all_together step_into params_fit is_external known named width_of width_behind extreme
call_through_integer = refl

-- a block that does not end in a terminator
no_terminator : first_fault (body (add "a" (int 32 1) (int 32 1) ∷ [])) ≡ fault 0 cause.Terminator
unfolding first_fault spots_in is_terminator is_phi uses targets sources result_of integer_types calls_known form_fits phi_fits alloca_fits call_allowed empty_at same_type same_types same_constant same_elements names_known all_known written_types type_count are_all indices_of all_integers holds_together all_together step_into params_fit is_external known named width_of width_behind extreme
no_terminator = refl

-- an early terminator
early_terminator : first_fault (body (zero ∷ zero ∷ [])) ≡ fault 0 cause.Terminator
unfolding first_fault spots_in is_terminator is_phi uses targets sources result_of integer_types calls_known form_fits phi_fits alloca_fits call_allowed empty_at same_type same_types same_constant same_elements names_known all_known written_types type_count are_all indices_of all_integers holds_together all_together step_into params_fit is_external known named width_of width_behind extreme
early_terminator = refl

-- an empty block, where its first instruction would be
empty_block : first_fault (just (main (block "entry" (jump "a" ∷ []) ∷ block "a" [] ∷ []))) ≡ fault 1 cause.Terminator
unfolding first_fault spots_in is_terminator is_phi uses targets sources result_of integer_types calls_known form_fits phi_fits alloca_fits call_allowed empty_at same_type same_types same_constant same_elements names_known all_known written_types type_count are_all indices_of all_integers holds_together all_together step_into params_fit is_external known named width_of width_behind extreme
empty_block = refl

-- an empty block and an unknown name at one number
empty_block_before : first_fault (just (main (block "entry" [] ∷ block "a" (jump "c" ∷ []) ∷ []))) ≡ fault 0 cause.UnknownName
unfolding first_fault spots_in is_terminator is_phi uses targets sources result_of integer_types calls_known form_fits phi_fits alloca_fits call_allowed empty_at same_type same_types same_constant same_elements names_known all_known written_types type_count are_all indices_of all_integers holds_together all_together step_into params_fit is_external known named width_of width_behind extreme
empty_block_before = refl

-- a definition without blocks
no_blocks : first_fault (just (main [])) ≡ fault 0 cause.Terminator
unfolding first_fault spots_in is_terminator is_phi uses targets sources result_of integer_types calls_known form_fits phi_fits alloca_fits call_allowed empty_at same_type same_types same_constant same_elements names_known all_known written_types type_count are_all indices_of all_integers holds_together all_together step_into params_fit is_external known named width_of width_behind extreme
no_blocks = refl

-- an edge to the entry block
edge_to_entry : first_fault (body (jump "entry" ∷ [])) ≡ fault 0 cause.EntryHasPreds
unfolding first_fault spots_in is_terminator is_phi uses targets sources result_of integer_types calls_known form_fits phi_fits alloca_fits call_allowed empty_at same_type same_types same_constant same_elements names_known all_known written_types type_count are_all indices_of all_integers holds_together all_together step_into params_fit is_external known named width_of width_behind extreme
edge_to_entry = refl

-- an early terminator has an edge, so the phi takes it
edge_of_early_terminator : first_fault (just (main (block "entry" (jump "a" ∷ zero ∷ []) ∷ block "a" (phi "x" (arm (int 32 1) "entry" ∷ []) ∷ zero ∷ []) ∷ []))) ≡ fault 0 cause.Terminator
unfolding first_fault spots_in is_terminator is_phi uses targets sources result_of integer_types calls_known form_fits phi_fits alloca_fits call_allowed empty_at same_type same_types same_constant same_elements names_known all_known written_types type_count are_all indices_of all_integers holds_together all_together step_into params_fit is_external known named width_of width_behind extreme
edge_of_early_terminator = refl

-- a phi of its one predecessor
phi_of_predecessor : first_fault (just (main (block "entry" (jump "a" ∷ []) ∷ block "a" (phi "x" (arm (int 32 1) "entry" ∷ []) ∷ zero ∷ []) ∷ []))) ≡ None
unfolding first_fault spots_in is_terminator is_phi uses targets sources result_of integer_types calls_known form_fits phi_fits alloca_fits call_allowed empty_at same_type same_types same_constant same_elements names_known all_known written_types type_count are_all indices_of all_integers holds_together all_together step_into params_fit is_external known named width_of width_behind extreme
phi_of_predecessor = refl

-- two equal operands for one block
equal_arms : first_fault (just (main (block "entry" (jump "a" ∷ []) ∷ block "a" (phi "x" (arm (int 32 1) "entry" ∷ arm (int 32 1) "entry" ∷ []) ∷ zero ∷ []) ∷ []))) ≡ None
unfolding first_fault spots_in is_terminator is_phi uses targets sources result_of integer_types calls_known form_fits phi_fits alloca_fits call_allowed empty_at same_type same_types same_constant same_elements names_known all_known written_types type_count are_all indices_of all_integers holds_together all_together step_into params_fit is_external known named width_of width_behind extreme
equal_arms = refl

-- two different operands for one block
different_arms : first_fault (just (main (block "entry" (jump "a" ∷ []) ∷ block "a" (phi "x" (arm (int 32 1) "entry" ∷ arm (int 32 2) "entry" ∷ []) ∷ zero ∷ []) ∷ []))) ≡ fault 1 cause.PhiEdges
unfolding first_fault spots_in is_terminator is_phi uses targets sources result_of integer_types calls_known form_fits phi_fits alloca_fits call_allowed empty_at same_type same_types same_constant same_elements names_known all_known written_types type_count are_all indices_of all_integers holds_together all_together step_into params_fit is_external known named width_of width_behind extreme
different_arms = refl

-- `zeroinitializer` and 0 are different operands
zero_is_not_integer : first_fault (just (main (block "entry" (jump "a" ∷ []) ∷ block "a" (phi "x" (arm (int 32 0) "entry" ∷ arm (operand.Constant ZeroC) "entry" ∷ []) ∷ zero ∷ []) ∷ []))) ≡ fault 1 cause.PhiEdges
unfolding first_fault spots_in is_terminator is_phi uses targets sources result_of integer_types calls_known form_fits phi_fits alloca_fits call_allowed empty_at same_type same_types same_constant same_elements names_known all_known written_types type_count are_all indices_of all_integers holds_together all_together step_into params_fit is_external known named width_of width_behind extreme
zero_is_not_integer = refl

-- a phi without one of its predecessors
missing_arm : first_fault (just (main (block "entry" (instruction.Branch (int 1 0) (n "a") (n "b") ∷ []) ∷ block "b" (jump "a" ∷ []) ∷ block "a" (phi "x" (arm (int 32 1) "entry" ∷ []) ∷ zero ∷ []) ∷ []))) ≡ fault 2 cause.PhiEdges
unfolding first_fault spots_in is_terminator is_phi uses targets sources result_of integer_types calls_known form_fits phi_fits alloca_fits call_allowed empty_at same_type same_types same_constant same_elements names_known all_known written_types type_count are_all indices_of all_integers holds_together all_together step_into params_fit is_external known named width_of width_behind extreme
missing_arm = refl

-- a phi behind another instruction
phi_behind : first_fault (just (main (block "entry" (jump "a" ∷ []) ∷ block "a" (add "y" (int 32 1) (int 32 1) ∷ phi "x" (arm (int 32 1) "entry" ∷ []) ∷ zero ∷ []) ∷ []))) ≡ fault 2 cause.PhiEdges
unfolding first_fault spots_in is_terminator is_phi uses targets sources result_of integer_types calls_known form_fits phi_fits alloca_fits call_allowed empty_at same_type same_types same_constant same_elements names_known all_known written_types type_count are_all indices_of all_integers holds_together all_together step_into params_fit is_external known named width_of width_behind extreme
phi_behind = refl

-- an `alloca` of a constant count
alloca_in_entry : first_fault (body (instruction.Alloca (n "p") (IntV 32) (Some (record { of = IntV 64; value = int 64 3 })) ∷ zero ∷ [])) ≡ None
unfolding first_fault spots_in is_terminator is_phi uses targets sources result_of integer_types calls_known form_fits phi_fits alloca_fits call_allowed empty_at same_type same_types same_constant same_elements names_known all_known written_types type_count are_all indices_of all_integers holds_together all_together step_into params_fit is_external known named width_of width_behind extreme
alloca_in_entry = refl

-- an `alloca` outside the entry block
alloca_outside : first_fault (just (main (block "entry" (jump "a" ∷ []) ∷ block "a" (instruction.Alloca (n "p") (IntV 32) None ∷ zero ∷ []) ∷ []))) ≡ fault 1 cause.AllocaPlace
unfolding first_fault spots_in is_terminator is_phi uses targets sources result_of integer_types calls_known form_fits phi_fits alloca_fits call_allowed empty_at same_type same_types same_constant same_elements names_known all_known written_types type_count are_all indices_of all_integers holds_together all_together step_into params_fit is_external known named width_of width_behind extreme
alloca_outside = refl

-- an `alloca` of a count that is no constant
alloca_of_register : first_fault (body (add "a" (int 32 1) (int 32 1) ∷ instruction.Alloca (n "p") (IntV 32) (Some (record { of = IntV 32; value = reg "a" })) ∷ zero ∷ [])) ≡ fault 1 cause.AllocaPlace
unfolding first_fault spots_in is_terminator is_phi uses targets sources result_of integer_types calls_known form_fits phi_fits alloca_fits call_allowed empty_at same_type same_types same_constant same_elements names_known all_known written_types type_count are_all indices_of all_integers holds_together all_together step_into params_fit is_external known named width_of width_behind extreme
alloca_of_register = refl

-- a known external
external_of_type : first_fault (with (declaration "putchar" (IntV 32) (IntV 32 ∷ []) false) (call "putchar" (int 32 65 ∷ []) ∷ zero ∷ [])) ≡ None
unfolding first_fault spots_in is_terminator is_phi uses targets sources result_of integer_types calls_known form_fits phi_fits alloca_fits call_allowed empty_at same_type same_types same_constant same_elements names_known all_known written_types type_count are_all indices_of all_integers holds_together all_together step_into params_fit is_external known named width_of width_behind extreme
external_of_type = refl

-- a known external of another type
external_of_other_type : first_fault (with (declaration "putchar" (IntV 32) (IntV 8 ∷ []) false) (instruction.Call None (IntV 32) false (callee.Function (n "putchar")) (record { of = IntV 8; value = int 8 65 } ∷ []) ∷ zero ∷ [])) ≡ fault 0 cause.External
unfolding first_fault spots_in is_terminator is_phi uses targets sources result_of integer_types calls_known form_fits phi_fits alloca_fits call_allowed empty_at same_type same_types same_constant same_elements names_known all_known written_types type_count are_all indices_of all_integers holds_together all_together step_into params_fit is_external known named width_of width_behind extreme
external_of_other_type = refl

-- an external that is not known
external_unknown : first_fault (with (declaration "f" (IntV 32) [] false) (call "f" [] ∷ zero ∷ [])) ≡ fault 0 cause.External
unfolding first_fault spots_in is_terminator is_phi uses targets sources result_of integer_types calls_known form_fits phi_fits alloca_fits call_allowed empty_at same_type same_types same_constant same_elements names_known all_known written_types type_count are_all indices_of all_integers holds_together all_together step_into params_fit is_external known named width_of width_behind extreme
external_unknown = refl

-- an external that is not known and not called
external_not_called : first_fault (with (declaration "f" (IntV 32) [] false) (zero ∷ [])) ≡ None
unfolding first_fault spots_in is_terminator is_phi uses targets sources result_of integer_types calls_known form_fits phi_fits alloca_fits call_allowed empty_at same_type same_types same_constant same_elements names_known all_known written_types type_count are_all indices_of all_integers holds_together all_together step_into params_fit is_external known named width_of width_behind extreme
external_not_called = refl

-- `printf` with arguments of any types
printf_takes_more : first_fault (with (declaration "printf" (IntV 32) (PtrV ∷ []) true) (instruction.Call None (IntV 32) true (callee.Function (n "printf")) (record { of = PtrV; value = operand.Constant NullC } ∷ record { of = IntV 7; value = int 7 1 } ∷ []) ∷ zero ∷ [])) ≡ None
unfolding first_fault spots_in is_terminator is_phi uses targets sources result_of integer_types calls_known form_fits phi_fits alloca_fits call_allowed empty_at same_type same_types same_constant same_elements names_known all_known written_types type_count are_all indices_of all_integers holds_together all_together step_into params_fit is_external known named width_of width_behind extreme
printf_takes_more = refl

-- `printf` called as if it took one argument
printf_written_plainly : first_fault (with (declaration "printf" (IntV 32) (PtrV ∷ []) true) (instruction.Call None (IntV 32) false (callee.Function (n "printf")) (record { of = PtrV; value = operand.Constant NullC } ∷ []) ∷ zero ∷ [])) ≡ fault 0 cause.TypeDiffers
unfolding first_fault spots_in is_terminator is_phi uses targets sources result_of integer_types calls_known form_fits phi_fits alloca_fits call_allowed empty_at same_type same_types same_constant same_elements names_known all_known written_types type_count are_all indices_of all_integers holds_together all_together step_into params_fit is_external known named width_of width_behind extreme
printf_written_plainly = refl

-- `memcpy` with a flag of `false`
not_volatile : first_fault (copying (int 1 0)) ≡ None
unfolding first_fault spots_in is_terminator is_phi uses targets sources result_of integer_types calls_known form_fits phi_fits alloca_fits call_allowed empty_at same_type same_types same_constant same_elements names_known all_known written_types type_count are_all indices_of all_integers holds_together all_together step_into params_fit is_external known named width_of width_behind extreme
not_volatile = refl

-- `memcpy` with a flag of `zeroinitializer`
zero_flag : first_fault (copying (operand.Constant ZeroC)) ≡ None
unfolding first_fault spots_in is_terminator is_phi uses targets sources result_of integer_types calls_known form_fits phi_fits alloca_fits call_allowed empty_at same_type same_types same_constant same_elements names_known all_known written_types type_count are_all indices_of all_integers holds_together all_together step_into params_fit is_external known named width_of width_behind extreme
zero_flag = refl

-- `memcpy` with a flag of `true`
volatile : first_fault (copying (int 1 1)) ≡ fault 0 cause.External
unfolding first_fault spots_in is_terminator is_phi uses targets sources result_of integer_types calls_known form_fits phi_fits alloca_fits call_allowed empty_at same_type same_types same_constant same_elements names_known all_known written_types type_count are_all indices_of all_integers holds_together all_together step_into params_fit is_external known named width_of width_behind extreme
volatile = refl

-- an initialiser of a named struct
global_of_integers : first_fault (holding (NamedV (n "T")) (StructC false (MoreC (IntV 8) (integer 8 1) (MoreC (ArrayV 2 (IntV 32)) (ArrayC (MoreC (IntV 32) (integer 32 1) (MoreC (IntV 32) ZeroC NoneC))) NoneC)))) ≡ None
unfolding first_fault spots_in is_terminator is_phi uses targets sources result_of integer_types calls_known form_fits phi_fits alloca_fits call_allowed empty_at same_type same_types same_constant same_elements names_known all_known written_types type_count are_all indices_of all_integers holds_together all_together step_into params_fit is_external known named width_of width_behind extreme
global_of_integers = refl

-- an initialiser that is a text
global_of_text : first_fault (holding (ArrayV 2 (IntV 8)) (TextC (104 ∷ 105 ∷ []))) ≡ None
unfolding first_fault spots_in is_terminator is_phi uses targets sources result_of integer_types calls_known form_fits phi_fits alloca_fits call_allowed empty_at same_type same_types same_constant same_elements names_known all_known written_types type_count are_all indices_of all_integers holds_together all_together step_into params_fit is_external known named width_of width_behind extreme
global_of_text = refl

-- a text of another length
global_of_longer_text : first_fault (holding (ArrayV 3 (IntV 8)) (TextC (104 ∷ 105 ∷ []))) ≡ of_global 0 cause.TypeDiffers
unfolding first_fault spots_in is_terminator is_phi uses targets sources result_of integer_types calls_known form_fits phi_fits alloca_fits call_allowed empty_at same_type same_types same_constant same_elements names_known all_known written_types type_count are_all indices_of all_integers holds_together all_together step_into params_fit is_external known named width_of width_behind extreme
global_of_longer_text = refl

-- an initialiser that names an unknown global
global_of_unknown : first_fault (holding PtrV (NameC (n "h"))) ≡ of_global 0 cause.UnknownName
unfolding first_fault spots_in is_terminator is_phi uses targets sources result_of integer_types calls_known form_fits phi_fits alloca_fits call_allowed empty_at same_type same_types same_constant same_elements names_known all_known written_types type_count are_all indices_of all_integers holds_together all_together step_into params_fit is_external known named width_of width_behind extreme
global_of_unknown = refl

-- an initialiser that names its own global
global_of_itself : first_fault (holding PtrV (NameC (n "g"))) ≡ None
unfolding first_fault spots_in is_terminator is_phi uses targets sources result_of integer_types calls_known form_fits phi_fits alloca_fits call_allowed empty_at same_type same_types same_constant same_elements names_known all_known written_types type_count are_all indices_of all_integers holds_together all_together step_into params_fit is_external known named width_of width_behind extreme
global_of_itself = refl

-- an element of another type, within
global_of_inner_type : first_fault (holding (ArrayV 1 (ArrayV 1 (IntV 8))) (ArrayC (MoreC (ArrayV 1 (IntV 8)) (ArrayC (MoreC (IntV 16) (integer 16 1) NoneC)) NoneC))) ≡ of_global 0 cause.TypeDiffers
unfolding first_fault spots_in is_terminator is_phi uses targets sources result_of integer_types calls_known form_fits phi_fits alloca_fits call_allowed empty_at same_type same_types same_constant same_elements names_known all_known written_types type_count are_all indices_of all_integers holds_together all_together step_into params_fit is_external known named width_of width_behind extreme
global_of_inner_type = refl

-- `{ i8, [2 x i32] }` as the type of an element is not `%T`
global_of_named_body : first_fault (holding (ArrayV 1 (NamedV (n "T"))) (ArrayC (MoreC (StructV false (MoreV (IntV 8) (MoreV (ArrayV 2 (IntV 32)) NoneV))) ZeroC NoneC))) ≡ of_global 0 cause.TypeDiffers
unfolding first_fault spots_in is_terminator is_phi uses targets sources result_of integer_types calls_known form_fits phi_fits alloca_fits call_allowed empty_at same_type same_types same_constant same_elements names_known all_known written_types type_count are_all indices_of all_integers holds_together all_together step_into params_fit is_external known named width_of width_behind extreme
global_of_named_body = refl

-- a constant address
global_of_address : first_fault (holding PtrV (AddressC (NamedV (n "T")) (NameC (n "g")) (MoreC (IntV 32) (integer 32 0) (MoreC (IntV 32) (integer 32 1) (MoreC (IntV 64) (integer 64 1) NoneC))))) ≡ None
unfolding first_fault spots_in is_terminator is_phi uses targets sources result_of integer_types calls_known form_fits phi_fits alloca_fits call_allowed empty_at same_type same_types same_constant same_elements names_known all_known written_types type_count are_all indices_of all_integers holds_together all_together step_into params_fit is_external known named width_of width_behind extreme
global_of_address = refl

-- a constant address with an index of a struct that is no `i32`
global_of_wide_address : first_fault (holding PtrV (AddressC (NamedV (n "T")) (NameC (n "g")) (MoreC (IntV 32) (integer 32 0) (MoreC (IntV 64) (integer 64 1) (MoreC (IntV 64) (integer 64 1) NoneC))))) ≡ of_global 0 cause.TypeDiffers
unfolding first_fault spots_in is_terminator is_phi uses targets sources result_of integer_types calls_known form_fits phi_fits alloca_fits call_allowed empty_at same_type same_types same_constant same_elements names_known all_known written_types type_count are_all indices_of all_integers holds_together all_together step_into params_fit is_external known named width_of width_behind extreme
global_of_wide_address = refl

-- a constant address with an index into an integer
global_of_deep_address : first_fault (holding PtrV (AddressC (NamedV (n "T")) (NameC (n "g")) (MoreC (IntV 32) (integer 32 0) (MoreC (IntV 32) (integer 32 0) (MoreC (IntV 64) (integer 64 0) NoneC))))) ≡ of_global 0 cause.TypeDiffers
unfolding first_fault spots_in is_terminator is_phi uses targets sources result_of integer_types calls_known form_fits phi_fits alloca_fits call_allowed empty_at same_type same_types same_constant same_elements names_known all_known written_types type_count are_all indices_of all_integers holds_together all_together step_into params_fit is_external known named width_of width_behind extreme
global_of_deep_address = refl

-- a constant index of a struct
struct_index : first_fault (indexing (int 32 0 ∷ int 32 1 ∷ int 32 1 ∷ [])) ≡ None
unfolding first_fault spots_in is_terminator is_phi uses targets sources result_of integer_types calls_known form_fits phi_fits alloca_fits call_allowed empty_at same_type same_types same_constant same_elements names_known all_known written_types type_count are_all indices_of all_integers holds_together all_together step_into params_fit is_external known named width_of width_behind extreme
struct_index = refl

-- an index past the fields of a struct has no type that differs
struct_index_outside : first_fault (indexing (int 32 0 ∷ int 32 2 ∷ [])) ≡ None
unfolding first_fault spots_in is_terminator is_phi uses targets sources result_of integer_types calls_known form_fits phi_fits alloca_fits call_allowed empty_at same_type same_types same_constant same_elements names_known all_known written_types type_count are_all indices_of all_integers holds_together all_together step_into params_fit is_external known named width_of width_behind extreme
struct_index_outside = refl

-- no function `main`
no_main : first_fault (just echo) ≡ whole cause.NoMain
unfolding first_fault spots_in is_terminator is_phi uses targets sources result_of integer_types calls_known form_fits phi_fits alloca_fits call_allowed empty_at same_type same_types same_constant same_elements names_known all_known written_types type_count are_all indices_of all_integers holds_together all_together step_into params_fit is_external known named width_of width_behind extreme
no_main = refl

-- a `main` that is declared
declared_main : first_fault (just (declaration "main" (IntV 32) [] false)) ≡ whole cause.NoMain
unfolding first_fault spots_in is_terminator is_phi uses targets sources result_of integer_types calls_known form_fits phi_fits alloca_fits call_allowed empty_at same_type same_types same_constant same_elements names_known all_known written_types type_count are_all indices_of all_integers holds_together all_together step_into params_fit is_external known named width_of width_behind extreme
declared_main = refl

-- `i32 @main(i32, ptr)`
main_with_arguments : first_fault (just (record (main (block "entry" (zero ∷ []) ∷ [])) { params = record { name = Some (n "a"); of = IntV 32 } ∷ record { name = Some (n "b"); of = PtrV } ∷ [] })) ≡ None
unfolding first_fault spots_in is_terminator is_phi uses targets sources result_of integer_types calls_known form_fits phi_fits alloca_fits call_allowed empty_at same_type same_types same_constant same_elements names_known all_known written_types type_count are_all indices_of all_integers holds_together all_together step_into params_fit is_external known named width_of width_behind extreme
main_with_arguments = refl

-- `i32 @main(i32)`
main_with_other_arguments : first_fault (just (record (main (block "entry" (zero ∷ []) ∷ [])) { params = record { name = Some (n "a"); of = IntV 32 } ∷ [] })) ≡ whole cause.MainType
unfolding first_fault spots_in is_terminator is_phi uses targets sources result_of integer_types calls_known form_fits phi_fits alloca_fits call_allowed empty_at same_type same_types same_constant same_elements names_known all_known written_types type_count are_all indices_of all_integers holds_together all_together step_into params_fit is_external known named width_of width_behind extreme
main_with_other_arguments = refl
