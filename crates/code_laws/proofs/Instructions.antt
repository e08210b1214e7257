-- Each instruction, by numbers and written out.
use Rattle.std.proofs.Common.{◌≡◌, ℕ, true, List, [], ◌∷◌, map, Option, Some, None, refl, ap}
use Rattle.std.specs.Prelude.{option_map, fold}
use Rattle.std.specs.List.{AllByRecursion}
use Rattle.pv_base.specs.declared.name.Name.{Name}
use Rattle.ir_tree.specs.declared.instruction.Operand.{Operand as Named}
use Rattle.ir_tree.specs.declared.instruction.Operand.TheVariants as named
use Rattle.ir_tree.specs.declared.instruction.Argument.{Argument}
use Rattle.ir_tree.specs.declared.instruction.Case.{Case}
use Rattle.ir_tree.specs.declared.instruction.Callee.TheVariants as callee
use Rattle.ir_tree.specs.declared.instruction.Instruction.{Instruction}
use Rattle.ir_tree.specs.declared.instruction.Instruction.TheVariants as tree
use Rattle.ir_tree.specs.declared.items.Function.{Function}
use Rattle.ir_tree.specs.Table.{Table, IsTable}
use Rattle.ir_tree.specs.Naming.{name_at, type_at}
use Rattle.ir_tree.specs.Shown.{shown, shown_operand, shown_argument, shown_case, shown_function}
use Rattle.ir_tree.specs.Modules.{Items}
use Rattle.ir_tree.specs.Written.{shown_module}
use Rattle.ir_rules.specs.declared.given.Given.TheVariants.{Written}
use Rattle.ir_rules.specs.Forms.{result_of, call_register, used, argument_use, argument_uses, uses, targets, memory_types, cast_types, called_types, called_names}
use Rattle.ir_rules.specs.Numbering.{is_type, operand_within, name_within, function_within, result_within}
use Rattle.ir_code.specs.declared.op.Scalar.{Scalar}
use Rattle.ir_code.specs.declared.op.Scalar.TheVariants as scalar
use Rattle.ir_code.specs.declared.op.Op.TheVariants as op
use Rattle.ir_code.specs.Options.{every}
use Rattle.ir_code.specs.Places.{place_of}
use Rattle.ir_code.specs.Cases.{with_case}
use Rattle.ir_code.specs.Tables.{scalar_at, linkage_of}
use Rattle.ir_code.specs.Families.{operand_at, argument_at, constant_count, count_of, case_at, cases_at, result_register}
use Rattle.ir_code.specs.Blocks.{Scope, resolved}
use Rattle.ir_code.specs.Coding.{tables_of}
use Rattle.code_laws.specs.Meanings.{place_named, scalar_type, operand_value, argument_value}
use Rattle.code_laws.specs.Ops.{linkage_in, result_place, count_bits, element_count, case_in, cases_in, instruction_op}
use Rattle.code_laws.proofs.Steps.{bind_same, bind_then, every_same, all_map, all_both}
use Rattle.code_laws.proofs.Leaves.{place_same, scalar_same, size_same}
use Rattle.code_laws.proofs.Values.{ItemsWithin, function_parts, fixed_same, operand_same, argument_same}
use Rattle.code_laws.proofs.Parts.{IsUse, IsName, InstructionParts}

function_names : (t : Table) (fs : List (Function ℕ ℕ ℕ)) → map (option_map (name_at t)) (map (λ f. Some f.name) fs) ≡ map (λ f. Some f.name) (map (shown_function t) fs)
function_names t [] = refl
function_names t (f ∷ fs) = ap (λ xs. Some (name_at t f.name) ∷ xs) (function_names t fs)

named_all : (t : Table) (fs : List (Function ℕ ℕ ℕ)) → AllByRecursion (λ f. function_within t f ≡ true) fs → AllByRecursion (λ o. name_within t o ≡ true) (map (λ f. Some f.name) fs)
named_all t [] all = tt
named_all t (f ∷ fs) all = ((function_parts t f all.0).name, named_all t fs all.1)

pub linkages_same : (t : Table) (fs : List (Function ℕ ℕ ℕ)) → map (linkage_of t) fs ≡ map linkage_in (map (shown_function t) fs)
linkages_same t [] = refl
linkages_same t (f ∷ fs) = ap (λ xs. linkage_of t f ∷ xs) (linkages_same t fs)

module _ (m : Items) (is : IsTable m.names) (within : ItemsWithin m) where
  function_same : (x : ℕ) → IsName m.names x → place_of (tables_of m).functions x ≡ place_named (map (λ f. Some f.name) (shown_module m).functions) (name_at m.names x)
  function_same x e = rw (← function_names m.names m.functions) (place_same m.names is (map (λ f. Some f.name) m.functions) x (named_all m.names m.functions within.functions) e)

  count_value : (of : ℕ) (o : Named ℕ ℕ) → operand_within m.names o ≡ true → is_type m.names of ≡ true → constant_count (tables_of m) of o ≡ count_bits (shown_module m) (type_at m.names of) (shown_operand m.names o)
  count_value of (named.Register x) e f = refl
  count_value of (named.Constant k) e f = bind_same (scalar_same m is of f) (λ s. bind_same (fixed_same m is within s k e) (λ n. refl))

  count_same : (o : Option (Argument ℕ ℕ ℕ)) → AllByRecursion (IsUse m.names) (argument_uses o) → count_of (tables_of m) o ≡ element_count (shown_module m) (option_map (shown_argument m.names) o)
  count_same None all = refl
  count_same (Some a) all = count_value a.of a.value all.0.0 all.0.1

  parameters_same : (args : List (Argument ℕ ℕ ℕ)) → AllByRecursion (IsUse m.names) (map argument_use args) → every (λ a. scalar_at (tables_of m) a.of) args ≡ every (λ a. scalar_type a.of) (map (shown_argument m.names) args)
  parameters_same args all = every_same (λ a. IsUse m.names (argument_use a)) _ _ (shown_argument m.names) (λ a e. scalar_same m is a.of e.1) args (all_map (IsUse m.names) argument_use args all)

  module _ (registers : List (Option ℕ)) (all : AllByRecursion (λ o. name_within m.names o ≡ true) registers) where
    arguments_same : (args : List (Argument ℕ ℕ ℕ)) → AllByRecursion (IsUse m.names) (map argument_use args)
        → every (argument_at (tables_of m) registers) args ≡ every (argument_value (shown_module m) (map (option_map (name_at m.names)) registers)) (map (shown_argument m.names) args)
    arguments_same args uses = every_same (λ a. IsUse m.names (argument_use a)) _ _ (shown_argument m.names) (λ a e. argument_same m is within registers all a e) args (all_map (IsUse m.names) argument_use args uses)

    result_same : (to : Option ℕ) (of : ℕ) → result_within m.names (call_register to of) ≡ true → result_register registers to ≡ result_place (map (option_map (name_at m.names)) registers) (option_map (name_at m.names) to)
    result_same None of e = refl
    result_same (Some x) of e = ap (option_map Some) (place_same m.names is registers x all e)

  module _ (exit : ℕ → Option ℕ) (out : Name → Option ℕ) (exits : (x : ℕ) → IsName m.names x → exit x ≡ out (name_at m.names x)) where
    case_same : (s : Scalar) (of : ℕ) (c : Case ℕ ℕ) → IsUse m.names (used (named.Constant c.value) (Written of)) × IsName m.names c.to → case_at (tables_of m) exit s c ≡ case_in (shown_module m) out s (shown_case m.names c)
    case_same s of c e = bind_same (fixed_same m is within s c.value e.0.0) (λ n. bind_then _ (λ bits. bind_same (exits c.to e.1) (λ edge. refl)))

    cases_same : (s : Scalar) (of : ℕ) (cs : List (Case ℕ ℕ)) → AllByRecursion (IsUse m.names) (map (λ c. used (named.Constant c.value) (Written of)) cs) → AllByRecursion (IsName m.names) (map (λ c. c.to) cs)
        → cases_at (tables_of m) exit s cs ≡ cases_in (shown_module m) out s (map (shown_case m.names) cs)
    cases_same s of cs values labels =
        ap (option_map (fold (λ done c. with_case done c.0 c.1) []))
        (every_same _ _ _ (shown_case m.names) (λ c e. case_same s of c e) cs
        (all_both _ _ cs (all_map (IsUse m.names) (λ c. used (named.Constant c.value) (Written of)) cs values) (all_map (IsName m.names) (λ c. c.to) cs labels)))

    module _ (scope : Scope) (all : AllByRecursion (λ o. name_within m.names o ≡ true) scope.registers) where
      place : (x : ℕ) → IsName m.names x → place_of scope.registers x ≡ place_named (map (option_map (name_at m.names)) scope.registers) (name_at m.names x)
      place x e = place_same m.names is scope.registers x all e

      operand : (s : Scalar) (o : Named ℕ ℕ) → operand_within m.names o ≡ true → operand_at (tables_of m) scope.registers s o ≡ operand_value (shown_module m) (map (option_map (name_at m.names)) scope.registers) s (shown_operand m.names o)
      operand s o e = operand_same m is within scope.registers all s o e

      -- one instruction
      pub resolved_same : (i : Instruction ℕ ℕ ℕ) → InstructionParts m.names i
          → resolved m (tables_of m) scope exit i ≡ instruction_op (shown_module m) (map (option_map (name_at m.names)) scope.registers) out (shown m.names i)
      unfolding resolved instruction_op shown result_of uses targets memory_types cast_types called_types called_names
      resolved_same (tree.Binary to what flags of left right) p =
          bind_same (place to p.result) (λ r. bind_same (scalar_same m is of p.uses.0.1) (λ s. bind_same (operand s left p.uses.0.0) (λ a. bind_same (operand s right p.uses.1.0.0) (λ b. refl))))
      resolved_same (tree.Cast to what flags of value target) p =
          bind_same (place to p.result) (λ r. bind_same (scalar_same m is of p.uses.0.1) (λ s. bind_same (operand s value p.uses.0.0) (λ a. bind_same (scalar_same m is target p.cast.0) (λ u. refl))))
      resolved_same (tree.Freeze to of value) p = bind_same (place to p.result) (λ r. bind_same (scalar_same m is of p.uses.0.1) (λ s. bind_same (operand s value p.uses.0.0) (λ a. refl)))
      resolved_same (tree.Compare to pred of left right) p =
          bind_same (place to p.result) (λ r. bind_same (scalar_same m is of p.uses.0.1) (λ s. bind_same (operand s left p.uses.0.0) (λ a. bind_same (operand s right p.uses.1.0.0) (λ b. refl))))
      resolved_same (tree.Select to condition of on_true on_false) p =
          bind_same (place to p.result) (λ r. bind_same (scalar_same m is of p.uses.1.0.1) (λ s. bind_same (operand (scalar.Int 1) condition p.uses.0.0)
          (λ c. bind_same (operand s on_true p.uses.1.0.0) (λ a. bind_same (operand s on_false p.uses.1.1.0.0) (λ b. refl)))))
      resolved_same (tree.Phi to of arms) p = refl
      resolved_same (tree.Alloca to of count) p = bind_same (place to p.result) (λ r. bind_same (size_same m is of p.memory.0) (λ size. bind_same (count_same count p.uses) (λ n. refl)))
      resolved_same (tree.Load to of pointer) p = bind_same (place to p.result) (λ r. bind_same (scalar_same m is of p.memory.0) (λ s. bind_then _ (λ u. bind_same (operand scalar.Pointer pointer p.uses.0.0) (λ q. refl))))
      resolved_same (tree.Store of value pointer) p =
          bind_same (scalar_same m is of p.memory.0) (λ s. bind_then _ (λ u. bind_same (operand u value p.uses.0.0) (λ a. bind_same (operand scalar.Pointer pointer p.uses.1.0.0) (λ q. refl))))
      resolved_same (tree.Address to inbounds of base indices) p =
          bind_same (place to p.result) (λ r. bind_same (size_same m is of p.memory.0) (λ size. bind_same (operand scalar.Pointer base p.uses.0.0) (λ q. bind_same (arguments_same scope.registers all indices p.uses.1) (λ values. refl))))
      resolved_same (tree.Call to of variadic (callee.Function x) arguments) p =
          bind_same (result_same scope.registers all to of p.result) (λ r. bind_same (function_same x p.names.0) (λ k. bind_same (arguments_same scope.registers all arguments p.uses) (λ values. rw (linkages_same m.names m.functions) refl)))
      resolved_same (tree.Call to of variadic (callee.Pointer x) arguments) p =
          bind_same (result_same scope.registers all to of p.result) (λ r. bind_same (place x p.uses.0.0) (λ q. bind_same (arguments_same scope.registers all arguments p.uses.1)
          (λ values. bind_same (parameters_same arguments p.uses.1) (λ parameters. rw (scalar_same m is of p.types.0) refl))))
      resolved_same (tree.Return None) p = refl
      resolved_same (tree.Return (Some a)) p = ap (option_map (λ value. op.Return (Some value))) (argument_same m is within scope.registers all a p.uses.0)
      resolved_same (tree.Jump target) p = ap (option_map op.Jump) (exits target p.targets.0)
      resolved_same (tree.Branch condition on_true on_false) p =
          bind_same (operand (scalar.Int 1) condition p.uses.0.0) (λ c. bind_same (exits on_true p.targets.0) (λ a. bind_same (exits on_false p.targets.1.0) (λ b. refl)))
      resolved_same (tree.Switch of value default cases) p =
          bind_same (scalar_same m is of p.uses.0.1) (λ s. bind_same (operand s value p.uses.0.0) (λ a. bind_same (exits default p.targets.0) (λ d. bind_same (cases_same s of cases p.uses.1 p.targets.1) (λ all. refl))))
      resolved_same tree.Unreachable p = refl
