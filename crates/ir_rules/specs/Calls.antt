-- Callees, and the functions outside a module that may be called, by name and type.
use Rattle.std.specs.Prelude.{Bool, true, false, not, ◌&&◌, ◌||◌, ◌==◌, List, [], ◌∷◌, map, Option, Some, None, slice_get}
use Rattle.std.specs.List.{list_any}
use Rattle.pv_base.specs.External.{ExternalType, IntegerOf, Pointer, Void, external_result, external_parameters, takes_more}
use Rattle.pv_base.specs.declared.external.External.{External}
use Rattle.pv_base.specs.declared.external.External.TheVariants.{Memcpy, Memmove, Memset}
use Rattle.pv_base.specs.declared.name.Name.{Name}
use Rattle.pv_base.specs.declared.name.Name.TheVariants.{Named, Numbered}
use Rattle.seq_calls.specs.Names.{known}
use Rattle.ir_tree.specs.declared.instruction.Operand.TheVariants as operand
use Rattle.ir_tree.specs.Trees.{TypeV, IntV, PtrV, VoidV}
use Rattle.ir_tree.specs.Trees.{IntegerC, ZeroC}
use Rattle.ir_rules.specs.Seen.{ArgumentV, OperandV, FunctionV}
use Rattle.ir_rules.specs.Same.{same_bool, same_type}

-- the types of arguments begin with those of the parameters, and more follow only where the function takes more
unfoldable pub params_fit : Bool → List TypeV → List TypeV → Bool
params_fit more [] [] = true
params_fit more [] (a ∷ rest) = more
params_fit more (p ∷ ps) [] = false
params_fit more (p ∷ ps) (a ∷ rest) = same_type p a && params_fit more ps rest

abbrev pub param_types : FunctionV → List TypeV
param_types f = map (λ p. p.of) f.params

abbrev pub written_form : List TypeV → Bool
written_form params = params_fit false (PtrV ∷ []) params

-- a call is of a function's type: its result, whether it is written `(ptr, ...)`, and its arguments
abbrev pub call_fits : FunctionV → TypeV → Bool → List TypeV → Bool
call_fits f result variadic arguments =
    same_type f.result result && same_bool f.variadic variadic && (not variadic || written_form (param_types f)) && params_fit variadic (param_types f) arguments

-- the type of an external's argument or answer
abbrev pub outer_type : ExternalType → TypeV
outer_type (IntegerOf n) = IntV n
outer_type Pointer = PtrV
outer_type Void = VoidV

abbrev pub outer_types : List ExternalType → List TypeV
outer_types types = map outer_type types

-- a declared function has the type of an external
unfoldable pub is_external : FunctionV → External → Bool
is_external f e =
    same_type (outer_type (external_result e)) f.result && same_bool (takes_more e) f.variadic
    && list_any (λ params. params_fit false (outer_types params) (param_types f)) (external_parameters e)

-- the external of a function's name
abbrev pub external_of : Name → Option External
external_of (Named bytes) = known bytes
external_of (Numbered n) = None

abbrev pub is_false : OperandV → Bool
is_false (operand.Constant (IntegerC n)) = n.bits == 0
is_false (operand.Constant ZeroC) = true
is_false value = false

abbrev pub flag_is_false : Option ArgumentV → Bool
flag_is_false None = true
flag_is_false (Some flag) = is_false flag.value

-- the volatile flag of a transfer of bytes, its fourth argument, is `false`
abbrev pub not_volatile : External → List ArgumentV → Bool
not_volatile (Memcpy n) arguments = flag_is_false (slice_get arguments 3)
not_volatile (Memmove n) arguments = flag_is_false (slice_get arguments 3)
not_volatile (Memset n) arguments = flag_is_false (slice_get arguments 3)
not_volatile e arguments = true

abbrev pub may_call : FunctionV → Option External → List ArgumentV → Bool
may_call f None arguments = false
may_call f (Some e) arguments = is_external f e && not_volatile e arguments
