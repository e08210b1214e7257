-- The phis of a block and where a block leads, by numbers and written out.
use Rattle.std.proofs.Common.{◌≡◌, ℕ, Bool, true, false, List, [], ◌∷◌, ◌++◌, map, Option, Some, None, refl, sym, ap, ◌∙◌}
use Rattle.std.specs.Prelude.{option_map, option_and_then, cond}
use Rattle.std.specs.List.{AllByRecursion, flat_map}
use Rattle.std.proofs.lemmas.List.{map-append}
use Rattle.std.proofs.lemmas.List.Sums.{take_while-cons}
use Rattle.pv_base.specs.declared.name.Name.{Name}
use Rattle.ir_tree.specs.declared.instruction.Operand.{Operand as Named}
use Rattle.ir_tree.specs.declared.instruction.Arm.{Arm}
use Rattle.ir_tree.specs.declared.instruction.Instruction.{Instruction}
use Rattle.ir_tree.specs.declared.instruction.Instruction.TheVariants as tree
use Rattle.ir_tree.specs.Table.{Table, IsTable, same_name}
use Rattle.ir_tree.specs.Trees.{TypeV, ConstantV}
use Rattle.ir_tree.specs.Naming.{name_at, type_at}
use Rattle.ir_tree.specs.Shown.{shown, shown_operand, shown_arm}
use Rattle.ir_tree.specs.Modules.{Items}
use Rattle.ir_tree.specs.Written.{shown_module}
use Rattle.ir_rules.specs.declared.given.Given.TheVariants.{Written}
use Rattle.ir_rules.specs.Forms.{is_phi, result_of, used, uses, sources, targets}
use Rattle.ir_rules.specs.Numbering.{operand_within, name_within}
use Rattle.ir_rules.proofs.ShownLemmas.{targets_shown}
use Rattle.ir_code.specs.declared.code.Move.{Move}
use Rattle.ir_code.specs.Tables.{scalar_at}
use Rattle.ir_code.specs.Families.{operand_at}
use Rattle.ir_code.specs.Blocks.{Join, joins_of, exits_of, arm_from, move_of}
use Rattle.ir_code.specs.Coding.{tables_of}
use Rattle.code_laws.specs.Meanings.{scalar_type, operand_value}
use Rattle.code_laws.specs.Coded.{phis_of, value_from, move_from}
use Rattle.code_laws.proofs.Steps.{bind_same, all_map}
use Rattle.code_laws.proofs.Leaves.{names_same, place_same, scalar_same}
use Rattle.code_laws.proofs.Values.{ItemsWithin, operand_same}
use Rattle.code_laws.proofs.Registers.{all_append}
use Rattle.code_laws.proofs.Parts.{IsUse, IsName, InstructionParts}

-- ---- where an instruction leads

exits_are : (i : Instruction ℕ ℕ ℕ) → exits_of i ≡ targets i
unfolding targets
exits_are (tree.Binary to what flags of left right) = refl
exits_are (tree.Cast to what flags of value target) = refl
exits_are (tree.Freeze to of value) = refl
exits_are (tree.Compare to pred of left right) = refl
exits_are (tree.Select to condition of on_true on_false) = refl
exits_are (tree.Phi to of arms) = refl
exits_are (tree.Alloca to of count) = refl
exits_are (tree.Load to of pointer) = refl
exits_are (tree.Store of value pointer) = refl
exits_are (tree.Address to inbounds of base indices) = refl
exits_are (tree.Call to of variadic what arguments) = refl
exits_are (tree.Return value) = refl
exits_are (tree.Jump target) = refl
exits_are (tree.Branch condition on_true on_false) = refl
exits_are (tree.Switch of value default cases) = refl
exits_are tree.Unreachable = refl

pub exits_shown : (t : Table) (is : List (Instruction ℕ ℕ ℕ)) → map (name_at t) (flat_map exits_of is) ≡ flat_map targets (map (shown t) is)
exits_shown t [] = refl
exits_shown t (i ∷ is) =
    let one : map (name_at t) (exits_of i) ≡ targets (shown t i) = ap (map (name_at t)) (exits_are i) ∙ sym (targets_shown t i) in
    map-append (name_at t) (exits_of i) (flat_map exits_of is) ∙ (λ j. one j ++ exits_shown t is j)

exits_named : (t : Table) (i : Instruction ℕ ℕ ℕ) → InstructionParts t i → AllByRecursion (IsName t) (exits_of i)
exits_named t i parts = rw (exits_are i) parts.targets

pub exits_within : (t : Table) (is : List (Instruction ℕ ℕ ℕ)) → AllByRecursion (InstructionParts t) is → AllByRecursion (IsName t) (flat_map exits_of is)
exits_within t [] all = tt
exits_within t (i ∷ is) all = all_append (IsName t) (exits_of i) (flat_map exits_of is) (exits_named t i all.0) (exits_within t is all.1)

-- ---- phis

pub phi_shown : Table → Join → Instruction Name TypeV ConstantV
phi_shown t p = tree.Phi (name_at t p.to) (type_at t p.of) (map (shown_arm t) p.arms)

pub phis_same : (t : Table) (is : List (Instruction ℕ ℕ ℕ)) → phis_of (map (shown t) is) ≡ map (phi_shown t) (joins_of is)
unfolding shown is_phi phi_shown
phis_same t [] = refl
phis_same t (tree.Binary to what flags of left right ∷ is) = refl
phis_same t (tree.Cast to what flags of value target ∷ is) = refl
phis_same t (tree.Freeze to of value ∷ is) = refl
phis_same t (tree.Compare to pred of left right ∷ is) = refl
phis_same t (tree.Select to condition of on_true on_false ∷ is) = refl
phis_same t (tree.Phi to of arms ∷ is) =
    take_while-cons is_phi (tree.Phi (name_at t to) (type_at t of) (map (shown_arm t) arms)) (map (shown t) is) ∙ ap (λ l. tree.Phi (name_at t to) (type_at t of) (map (shown_arm t) arms) ∷ l) (phis_same t is)
phis_same t (tree.Alloca to of count ∷ is) = refl
phis_same t (tree.Load to of pointer ∷ is) = refl
phis_same t (tree.Store of value pointer ∷ is) = refl
phis_same t (tree.Address to inbounds of base indices ∷ is) = refl
phis_same t (tree.Call to of variadic what arguments ∷ is) = refl
phis_same t (tree.Return value ∷ is) = refl
phis_same t (tree.Jump target ∷ is) = refl
phis_same t (tree.Branch condition on_true on_false ∷ is) = refl
phis_same t (tree.Switch of value default cases ∷ is) = refl
phis_same t (tree.Unreachable ∷ is) = refl

-- the numbers of a phi are of the table
pub record JoinParts (t : Table) (p : Join) : Type 0 where
  pub to : IsName t p.to
  pub values : AllByRecursion (λ a. IsUse t (used a.value (Written p.of))) p.arms
  pub sources : AllByRecursion (λ a. IsName t a.from) p.arms

pub joins_within : (t : Table) (is : List (Instruction ℕ ℕ ℕ)) → AllByRecursion (InstructionParts t) is → AllByRecursion (JoinParts t) (joins_of is)
unfolding result_of uses sources
joins_within t [] all = tt
joins_within t (tree.Binary to what flags of left right ∷ is) all = tt
joins_within t (tree.Cast to what flags of value target ∷ is) all = tt
joins_within t (tree.Freeze to of value ∷ is) all = tt
joins_within t (tree.Compare to pred of left right ∷ is) all = tt
joins_within t (tree.Select to condition of on_true on_false ∷ is) all = tt
joins_within t (tree.Phi to of arms ∷ is) all =
    (record { to = all.0.result; values = all_map (IsUse t) (λ a. used a.value (Written of)) arms all.0.uses; sources = all_map (IsName t) (λ a. a.from) arms all.0.sources }, joins_within t is all.1)
joins_within t (tree.Alloca to of count ∷ is) all = tt
joins_within t (tree.Load to of pointer ∷ is) all = tt
joins_within t (tree.Store of value pointer ∷ is) all = tt
joins_within t (tree.Address to inbounds of base indices ∷ is) all = tt
joins_within t (tree.Call to of variadic what arguments ∷ is) all = tt
joins_within t (tree.Return value ∷ is) all = tt
joins_within t (tree.Jump target ∷ is) all = tt
joins_within t (tree.Branch condition on_true on_false ∷ is) all = tt
joins_within t (tree.Switch of value default cases ∷ is) all = tt
joins_within t (tree.Unreachable ∷ is) all = tt

-- ---- moves

module _ (t : Table) (is : IsTable t) {B : Type 0} (k : Named ℕ ℕ → Option B) (l : Named Name ConstantV → Option B) (same : (o : Named ℕ ℕ) → operand_within t o ≡ true → k o ≡ l (shown_operand t o)) where
  arm_by : (a : Arm ℕ ℕ) (p : Option (Arm ℕ ℕ)) (q : Option (Arm Name ConstantV)) (b : Bool) → k a.value ≡ l (shown_operand t a.value) → option_and_then k (option_map (λ x. x.value) p) ≡ option_and_then l (option_map (λ x. x.value) q)
      → option_and_then k (option_map (λ x. x.value) (cond b (Some a) p)) ≡ option_and_then l (option_map (λ x. x.value) (cond b (Some (shown_arm t a)) q))
  arm_by a p q true e f = e
  arm_by a p q false e f = f

  arms_same : (label of : ℕ) → IsName t label → (arms : List (Arm ℕ ℕ)) → AllByRecursion (λ a. IsUse t (used a.value (Written of))) arms → AllByRecursion (λ a. IsName t a.from) arms
      → option_and_then k (arm_from label arms) ≡ option_and_then l (value_from (name_at t label) (map (shown_arm t) arms))
  arms_same label of e [] values sources = refl
  arms_same label of e (a ∷ arms) values sources =
      rw (names_same t is label a.from e sources.0) (arm_by a _ _ (same_name (name_at t label) (name_at t a.from)) (same a.value values.0.0) (arms_same label of e arms values.1 sources.1))

none_either : {A B : Type 0} (a : Option A) → option_and_then {U = B} (λ x. None) a ≡ None
none_either None = refl
none_either (Some x) = refl

module _ (m : Items) (is : IsTable m.names) (within : ItemsWithin m) (registers : List (Option ℕ)) (all : AllByRecursion (λ o. name_within m.names o ≡ true) registers) where
  value_same : (label of r : ℕ) (arms : List (Arm ℕ ℕ)) → IsName m.names label → AllByRecursion (λ a. IsUse m.names (used a.value (Written of))) arms → AllByRecursion (λ a. IsName m.names a.from) arms
      → option_and_then {U = Move} (λ s. option_and_then (λ arm. option_and_then (λ value. Some (record { register = r; value = value })) (operand_at (tables_of m) registers s arm)) (arm_from label arms)) (scalar_at (tables_of m) of)
      ≡ option_and_then (λ s. option_and_then (λ arm. option_and_then (λ value. Some (record { register = r; value = value })) (operand_value (shown_module m) (map (option_map (name_at m.names)) registers) s arm))
      (value_from (name_at m.names label) (map (shown_arm m.names) arms))) (scalar_type (type_at m.names of))
  value_same label of r [] e values sources = none_either (scalar_at (tables_of m) of) ∙ sym (none_either (scalar_type (type_at m.names of)))
  value_same label of r (a ∷ arms) e values sources =
      bind_same (scalar_same m is of values.0.1) (λ s. arms_same m.names is _ _ (λ o f. bind_same (operand_same m is within registers all s o f) (λ value. refl)) label of e (a ∷ arms) values sources)

  pub move_same : (label : ℕ) → IsName m.names label → (p : Join) → JoinParts m.names p
      → move_of (tables_of m) registers label p ≡ move_from (shown_module m) (map (option_map (name_at m.names)) registers) (name_at m.names label) (phi_shown m.names p)
  unfolding phi_shown
  move_same label e p parts = bind_same (place_same m.names is registers p.to all parts.to) (λ r. value_same label p.of r p.arms e parts.values parts.sources)
