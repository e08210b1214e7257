-- A table whose rows stand: so do the types, the constants and the names of all its numbers.
use Rattle.std.proofs.Common.{◌≡◌, ℕ, zero, suc, ◌<◌, Bool, true, List, [], ◌∷◌, map, length, Option, Some, None, slice_get, get_or, All, refl, ap, ◌∙◌, arith}
use Rattle.std.specs.List.{list_all, flat_map, AllByRecursion}
use Rattle.std.proofs.lemmas.Option.{slice_get_within}
use Rattle.std.proofs.lemmas.List.Elements.{recursion_from_All}
use Rattle.std.proofs.lemmas.List.Folds.{list_all-append}
use Rattle.pv_base.specs.declared.name.Name.{Name}
use Rattle.pv_base.specs.declared.name.Name.TheVariants.{Numbered}
use Rattle.ir_tree.specs.declared.nodes.TypeNode.{TypeNode}
use Rattle.ir_tree.specs.declared.nodes.TypeNode.TheVariants as node
use Rattle.ir_tree.specs.declared.nodes.ConstantNode.{ConstantNode}
use Rattle.ir_tree.specs.declared.nodes.ConstantNode.TheVariants as constant
use Rattle.ir_tree.specs.declared.nodes.Element.{Element}
use Rattle.ir_tree.specs.declared.instruction.Operand.{Operand}
use Rattle.ir_tree.specs.declared.instruction.Operand.TheVariants as operand
use Rattle.ir_tree.specs.declared.instruction.Instruction.{Instruction}
use Rattle.ir_tree.specs.declared.items.NamedType.{NamedType}
use Rattle.ir_tree.specs.declared.items.Global.{Global}
use Rattle.ir_tree.specs.declared.items.Block.{Block}
use Rattle.ir_tree.specs.declared.items.Function.{Function}
use Rattle.ir_tree.specs.Table.{Table, IsTable, TypeWithin, ConstantWithin, ElementBefore}
use Rattle.ir_tree.specs.Trees.{TypeV}
use Rattle.ir_tree.specs.Naming.{name_at, type_at, constant_at, types_by, elements_by, type_of_node, constant_of_node}
use Rattle.ir_tree.specs.Shown.{shown, shown_operand, shown_named, shown_global, shown_block, shown_function}
use Rattle.ir_rules.specs.Forms.{uses}
use Rattle.ir_rules.specs.Heads.{constant_below, shown_use}
use Rattle.ir_rules.specs.Defining.{defined}
use Rattle.ir_rules.specs.Reading.{level_stands, type_stands, all_stand, address_stands, constant_stands, elements_stand, name_stands, operand_stands, constants_stand}
use Rattle.ir_tree.proofs.Filled.{type_is}
use Rattle.ir_rules.proofs.SameLemmas.{and_both, both}
use Rattle.ir_rules.proofs.TypeLemmas.{type_none}
use Rattle.ir_rules.proofs.ConstantLemmas.{below_is, constant_none, constant_some}
use Rattle.ir_rules.proofs.ShownLemmas.{uses_shown}
use Rattle.rule_tests.proofs.FunctionLemmas.{names_are}

-- ---- types and constants

module _ (types : List (NamedType Name TypeV)) (t : Table) (is : IsTable t) (rows : (k : ℕ) → k < length t.types → level_stands types (type_at t k) ≡ true) where
  fields_stand : (k : ℕ) (js : List ℕ) → ((j : ℕ) → j < k → type_stands types (type_at t j) ≡ true) → AllByRecursion (λ j. j < k) js → all_stand types (types_by (type_at t) js) ≡ true
  unfolding all_stand
  fields_stand k [] before all = refl
  fields_stand k (j ∷ js) before all = both (type_stands types (type_at t j)) (all_stand types (types_by (type_at t) js)) (before j all.0) (fields_stand k js before all.1)

  node_stands : (k : ℕ) (n : TypeNode) → TypeWithin (length t.names) k n → ((j : ℕ) → j < k → type_stands types (type_at t j) ≡ true) → level_stands types (type_of_node (name_at t) (type_at t) n) ≡ true
      → type_stands types (type_of_node (name_at t) (type_at t) n) ≡ true
  unfolding type_stands
  node_stands k (node.Int w) within before level = level
  node_stands k node.Ptr within before level = level
  node_stands k node.Void within before level = level
  node_stands k (node.Array n j) within before level = both _ _ level (before j within)
  node_stands k (node.Struct packed js) within before level = both _ _ level (fields_stand k js before (recursion_from_All (λ j. j < k) js within))
  node_stands k (node.Named x) within before level = level

  type_by : (k : ℕ) (o : Option TypeNode) → slice_get t.types k ≡ o → ((j : ℕ) → j < k → type_stands types (type_at t j) ≡ true) → type_stands types (type_at t k) ≡ true
  unfolding type_stands
  type_by k None e before = rw (type_none t k e) refl
  type_by k (Some x) e before =
      let shape = type_is t k x is e in
      let within : k < length t.types = slice_get_within t.types k x e in
      rw shape (node_stands k x (is.types k x e) before (rw shape at (rows k within)))

  type_below : (n k : ℕ) → k < n → type_stands types (type_at t k) ≡ true
  type_below zero k lt = absurd (omega arith)
  type_below (suc n) k lt = type_by k (slice_get t.types k) refl (λ j less. type_below n j (omega arith))

  -- the type of any number
  pub types_all : (k : ℕ) → type_stands types (type_at t k) ≡ true
  types_all k = type_below (suc k) k (omega arith)

  module _ (values : (k : ℕ) → k < length t.constants → address_stands types (constant_at t k) ≡ true) where
    parts_stand : (k : ℕ) (es : List Element) → ((j : ℕ) → j < k → constant_stands types (constant_at t j) ≡ true) → AllByRecursion (ElementBefore (length t.types) k) es
        → elements_stand types (elements_by (type_at t) (constant_below t k) es) ≡ true
    unfolding elements_stand
    parts_stand k [] before all = refl
    parts_stand k (e ∷ es) before all =
        let value : constant_stands types (constant_below t k e.value) ≡ true = ap (constant_stands types) (below_is t k e.value all.0.value) ∙ before e.value all.0.value in
        both _ _ (both _ _ (types_all e.of) value) (parts_stand k es before all.1)

    all_parts : (k : ℕ) (es : List Element) → ((j : ℕ) → j < k → constant_stands types (constant_at t j) ≡ true) → All (ElementBefore (length t.types) k) es
        → elements_stand types (elements_by (type_at t) (constant_below t k) es) ≡ true
    all_parts k es before all = parts_stand k es before (recursion_from_All (ElementBefore (length t.types) k) es all)

    value_stands : (k : ℕ) (n : ConstantNode) → ConstantWithin (length t.names) (length t.types) k n → ((j : ℕ) → j < k → constant_stands types (constant_at t j) ≡ true)
        → address_stands types (constant_of_node (name_at t) (type_at t) (constant_below t k) n) ≡ true → constant_stands types (constant_of_node (name_at t) (type_at t) (constant_below t k) n) ≡ true
    unfolding constant_stands
    value_stands k (constant.Integer n) within before level = level
    value_stands k constant.Null within before level = level
    value_stands k constant.Zero within before level = level
    value_stands k (constant.Text bytes) within before level = level
    value_stands k (constant.Array es) within before level = all_parts k es before within
    value_stands k (constant.Struct packed es) within before level = all_parts k es before within
    value_stands k (constant.Name x) within before level = level
    value_stands k (constant.Address of base es) within before level =
        let value : constant_stands types (constant_below t k base) ≡ true = ap (constant_stands types) (below_is t k base within.1) ∙ before base within.1 in
        both _ _ (both _ _ level value) (all_parts k es before within.2)

    constant_by : (k : ℕ) (o : Option ConstantNode) → slice_get t.constants k ≡ o → ((j : ℕ) → j < k → constant_stands types (constant_at t j) ≡ true) → constant_stands types (constant_at t k) ≡ true
    unfolding constant_stands
    constant_by k None e before = rw (constant_none t k e) refl
    constant_by k (Some x) e before =
        let shape = constant_some t k x e in
        let within : k < length t.constants = slice_get_within t.constants k x e in
        rw shape (value_stands k x (is.constants k x e) before (rw shape at (values k within)))

    constant_before : (n k : ℕ) → k < n → constant_stands types (constant_at t k) ≡ true
    constant_before zero k lt = absurd (omega arith)
    constant_before (suc n) k lt = constant_by k (slice_get t.constants k) refl (λ j less. constant_before n j (omega arith))

    -- the constant of any number
    pub constants_all : (k : ℕ) → constant_stands types (constant_at t k) ≡ true
    constants_all k = constant_before (suc k) k (omega arith)

-- ---- what items are made of

mapped : {X Y : Type 0} (p : Y → Bool) (h : X → Y) → ((x : X) → p (h x) ≡ true) → (xs : List X) → list_all p (map h xs) ≡ true
mapped p h each [] = refl
mapped p h each (x ∷ xs) = both (p (h x)) (list_all p (map h xs)) (each x) (mapped p h each xs)

pub bodies_all : (types : List (NamedType Name TypeV)) (t : Table) → ((k : ℕ) → type_stands types (type_at t k) ≡ true) → (ns : List (NamedType ℕ ℕ)) → list_all (λ n. type_stands types n.of) (map (shown_named t) ns) ≡ true
bodies_all types t each ns = mapped (λ n. type_stands types n.of) (shown_named t) (λ n. each n.of) ns

module _ (types : List (NamedType Name TypeV)) (t : Table) (each : (k : ℕ) → constant_stands types (constant_at t k) ≡ true) where
  pub initialisers_all : (gs : List (Global ℕ ℕ ℕ)) → list_all (λ g. constant_stands types g.init) (map (shown_global t) gs) ≡ true
  initialisers_all gs = mapped (λ g. constant_stands types g.init) (shown_global t) (λ g. each g.init) gs

  operand_all : (o : Operand ℕ ℕ) → operand_stands types (shown_operand t o) ≡ true
  operand_all (operand.Register x) = refl
  operand_all (operand.Constant k) = each k

  instruction_all : (i : Instruction ℕ ℕ ℕ) → constants_stand types (shown t i) ≡ true
  instruction_all i = rw (uses_shown t i) (mapped (λ u. operand_stands types u.value) (shown_use t) (λ u. operand_all u.value) (uses i))

  block_all : (b : Block ℕ ℕ ℕ) → list_all (constants_stand types) (shown_block t b).instructions ≡ true
  block_all b = mapped (constants_stand types) (shown t) instruction_all b.instructions

  function_all : (f : Function ℕ ℕ ℕ) → list_all (λ b. list_all (constants_stand types) b.instructions) (shown_function t f).blocks ≡ true
  function_all f = mapped (λ b. list_all (constants_stand types) b.instructions) (shown_block t) block_all f.blocks

  pub functions_all : (fs : List (Function ℕ ℕ ℕ)) → list_all (λ f. list_all (λ b. list_all (constants_stand types) b.instructions) f.blocks) (map (shown_function t) fs) ≡ true
  functions_all fs = mapped (λ f. list_all (λ b. list_all (constants_stand types) b.instructions) f.blocks) (shown_function t) function_all fs

-- ---- names

name_in : (names : List Name) (k : ℕ) → list_all name_stands names ≡ true → name_stands (get_or names k (Numbered 0)) ≡ true
name_in [] k e = refl
name_in (x ∷ xs) zero e = (and_both (name_stands x) (list_all name_stands xs) e).0
name_in (x ∷ xs) (suc k) e = name_in xs k (and_both (name_stands x) (list_all name_stands xs) e).1

-- the name of any number
pub names_all : (t : Table) → list_all name_stands t.names ≡ true → (k : ℕ) → name_stands (name_at t k) ≡ true
names_all t e k = name_in t.names k e

module _ (t : Table) (each : (k : ℕ) → name_stands (name_at t k) ≡ true) where
  pub all_named : (ks : List ℕ) → list_all name_stands (map (name_at t) ks) ≡ true
  all_named ks = mapped name_stands (name_at t) each ks

  pub definers_named : (fs : List (Function ℕ ℕ ℕ)) → list_all name_stands (flat_map (λ f. map (λ d. d.name) (defined f)) (map (shown_function t) fs)) ≡ true
  definers_named [] = refl
  definers_named (f ∷ fs) =
      let own = map (λ d. d.name) (defined (shown_function t f)) in
      let rest = flat_map (λ f. map (λ d. d.name) (defined f)) (map (shown_function t) fs) in
      let first : list_all name_stands own ≡ true = rw (names_are t f) (all_named (map (λ d. d.name) (defined f))) in
      list_all-append name_stands own rest ∙ both (list_all name_stands own) (list_all name_stands rest) first (definers_named fs)
