-- What is found for a constant is what it is.
use Rattle.std.proofs.Common.{◌≡◌, ℕ, zero, suc, ◌+◌, ◌<◌, ◌≤◌, List, [], ◌∷◌, ◌++◌, length, take, Option, Some, None, slice_get, get_or, refl, sym, ap, ◌∙◌, arith, All, length-append}
use Rattle.std.specs.List.{AllByRecursion}
use Rattle.std.proofs.lemmas.List.{get_or-take}
use Rattle.std.proofs.lemmas.List.Elements.{recursion_from_All}
use Rattle.std.proofs.lemmas.Option.{slice_get-get_or}
use Rattle.pv_base.specs.declared.name.Name.{Name}
use Rattle.ir_tree.specs.declared.nodes.Element.{Element}
use Rattle.ir_tree.specs.declared.nodes.ConstantNode.{ConstantNode}
use Rattle.ir_tree.specs.declared.nodes.ConstantNode.TheVariants as constant
use Rattle.ir_tree.specs.Table.{Table, IsTable, ElementBefore, ConstantWithin}
use Rattle.ir_tree.specs.Trees.{TypeV, PtrV}
use Rattle.ir_tree.specs.Trees.{ConstantV, NullC, ArrayC, StructC}
use Rattle.ir_tree.specs.Naming.{meanings, name_at, type_at, constant_at, constant_of_node, elements_by, elements_at}
use Rattle.ir_tree.specs.Modules.{Items}
use Rattle.ir_tree.proofs.Showing.{meaning_from, elements_same}
use Rattle.ir_code.specs.declared.op.Fixed.{Fixed}
use Rattle.ir_code.specs.Fixed.{fixed_of, operands_of}
use Rattle.ir_code.specs.Walking.{AreNamed, node_at, value_at, operands_at, node_fixed, AreFixedBelow}

values_before : (types k : ℕ) (es : List Element) → AllByRecursion (ElementBefore types k) es → AllByRecursion (λ e. e.value < k) es
values_before types k [] all = tt
values_before types k (e ∷ es) all = (all.0.value, values_before types k es all.1)

elements_alike : (type : ℕ → TypeV) (types k : ℕ) (es : List Element) (at to : ℕ → ConstantV) → All (ElementBefore types k) es → ((j : ℕ) → j < k → at j ≡ to j) → elements_by type at es ≡ elements_by type to es
elements_alike type types k es at to all same = elements_same type at to k es (values_before types k es (recursion_from_All (ElementBefore types k) es all)) same

parts : (name : ℕ → Name) (type : ℕ → TypeV) (names types k : ℕ) (n : ConstantNode) (at to : ℕ → ConstantV) → ConstantWithin names types k n → ((j : ℕ) → j < k → at j ≡ to j) → constant_of_node name type at n ≡ constant_of_node name type to n
parts name type names types k (constant.Integer n) at to within same = refl
parts name type names types k constant.Null at to within same = refl
parts name type names types k constant.Zero at to within same = refl
parts name type names types k (constant.Text bytes) at to within same = refl
parts name type names types k (constant.Array es) at to within same = ap ArrayC (elements_alike type types k es at to within same)
parts name type names types k (constant.Struct packed es) at to within same = ap (StructC packed) (elements_alike type types k es at to within same)
parts name type names types k (constant.Name x) at to within same = refl
parts name type names types k (constant.Address of base es) at to within same =
    let first : at base ≡ to base = same base within.1 in
    let others = elements_alike type types k es at to within.2 same in
    cc

-- the constant of a node, by those of the numbers in it
pub constant_is : (t : Table) (k : ℕ) (n : ConstantNode) → IsTable t → slice_get t.constants k ≡ Some n → constant_at t k ≡ constant_of_node (name_at t) (type_at t) (constant_at t) n
unfolding constant_at
constant_is t k n is known =
    let all = meanings (constant_of_node (name_at t) (type_at t)) NullC [] t.constants in
    meaning_from (constant_of_node (name_at t) (type_at t)) NullC [] t.constants k n known
    ∙ parts (name_at t) (type_at t) (length t.names) (length t.types) k n (λ j. get_or (take k all) j NullC) (λ j. get_or all j NullC) (is.constants k n known) (λ j lt. get_or-take k all j NullC lt)

-- only `zeroinitializer` depends on its type
value_here : (m : Items) (found : List (Option Fixed)) (type k : ℕ) (n : ConstantNode) → constant_at m.names k ≡ constant_of_node (name_at m.names) (type_at m.names) (constant_at m.names) n
    → get_or found k None ≡ fixed_of m PtrV (constant_at m.names k) → node_at m.names found type k (Some n) ≡ fixed_of m (type_at m.names type) (constant_at m.names k)
value_here m found type k (constant.Integer n) e is = is ∙ ap (fixed_of m PtrV) e ∙ sym (ap (fixed_of m (type_at m.names type)) e)
value_here m found type k constant.Null e is = is ∙ ap (fixed_of m PtrV) e ∙ sym (ap (fixed_of m (type_at m.names type)) e)
value_here m found type k constant.Zero e is = sym (ap (fixed_of m (type_at m.names type)) e)
value_here m found type k (constant.Text bytes) e is = is ∙ ap (fixed_of m PtrV) e ∙ sym (ap (fixed_of m (type_at m.names type)) e)
value_here m found type k (constant.Array es) e is = is ∙ ap (fixed_of m PtrV) e ∙ sym (ap (fixed_of m (type_at m.names type)) e)
value_here m found type k (constant.Struct packed es) e is = is ∙ ap (fixed_of m PtrV) e ∙ sym (ap (fixed_of m (type_at m.names type)) e)
value_here m found type k (constant.Name x) e is = is ∙ ap (fixed_of m PtrV) e ∙ sym (ap (fixed_of m (type_at m.names type)) e)
value_here m found type k (constant.Address of base es) e is = is ∙ ap (fixed_of m PtrV) e ∙ sym (ap (fixed_of m (type_at m.names type)) e)

pub value_right : (m : Items) (found : List (Option Fixed)) (type k : ℕ) → IsTable m.names → k < length m.names.constants → get_or found k None ≡ fixed_of m PtrV (constant_at m.names k)
    → value_at m.names found type k ≡ fixed_of m (type_at m.names type) (constant_at m.names k)
value_right m found type k is lt here =
    let n = get_or m.names.constants k constant.Null in
    let known : slice_get m.names.constants k ≡ Some n = slice_get-get_or m.names.constants k constant.Null lt in
    rw known (value_here m found type k n (constant_is m.names k n is known) here)

operands_right : (m : Items) (found : List (Option Fixed)) (k types : ℕ) (es : List Element) → IsTable m.names → k ≤ length m.names.constants
    → ((j : ℕ) → j < k → get_or found j None ≡ fixed_of m PtrV (constant_at m.names j)) → AllByRecursion (ElementBefore types k) es
    → operands_at m.names found es ≡ operands_of m (elements_at m.names es)
operands_right m found k types [] is le below all = refl
operands_right m found k types (e ∷ es) is le below all =
    let lt : e.value < k = all.0.value in
    let first = value_right m found e.of e.value is (omega arith) (below e.value lt) in
    let others = operands_right m found k types es is le below all.1 in
    rw (first, others) refl

pub node_right : (m : Items) (items found : List (Option Fixed)) (k : ℕ) (n : ConstantNode) → IsTable m.names → AreNamed m items → k ≤ length m.names.constants
    → ((j : ℕ) → j < k → get_or found j None ≡ fixed_of m PtrV (constant_at m.names j)) → ConstantWithin (length m.names.names) (length m.names.types) k n
    → node_fixed m items found n ≡ fixed_of m PtrV (constant_of_node (name_at m.names) (type_at m.names) (constant_at m.names) n)
node_right m items found k (constant.Integer n) is named le below within = refl
node_right m items found k constant.Null is named le below within = refl
node_right m items found k constant.Zero is named le below within = refl
node_right m items found k (constant.Text bytes) is named le below within = refl
node_right m items found k (constant.Array es) is named le below within = refl
node_right m items found k (constant.Struct packed es) is named le below within = refl
node_right m items found k (constant.Name x) is named le below within = named.each x within
node_right m items found k (constant.Address of base es) is named le below within =
    let first = below base within.1 in
    let others = operands_right m found k (length m.names.types) es is le below (recursion_from_All (ElementBefore (length m.names.types) k) es within.2) in
    rw (first, others) refl

-- ---- one constant after another

last_or_before : (found : List (Option Fixed)) (v : Option Fixed) (k : ℕ) (P : ℕ → Option Fixed → Type 0) → ((j : ℕ) → j < length found → P j (get_or found j None)) → P (length found) v → k < length found + 1
    → P k (get_or (found ++ v ∷ []) k None)
last_or_before [] v zero P before last lt = last
last_or_before [] v (suc k) P before last lt = absurd (omega arith)
last_or_before (x ∷ xs) v zero P before last lt = before zero (omega arith)
last_or_before (x ∷ xs) v (suc k) P before last lt = last_or_before xs v k (λ j. P (suc j)) (λ j h. before (suc j) (omega arith)) last (omega arith)

pub found_more : (m : Items) (found : List (Option Fixed)) (v : Option Fixed) → AreFixedBelow m found → v ≡ fixed_of m PtrV (constant_at m.names (length found)) → AreFixedBelow m (found ++ v ∷ [])
found_more m found v below is = record {
  each = λ k lt. last_or_before found v k (λ j o. o ≡ fixed_of m PtrV (constant_at m.names j)) below.each is (omega (arith, length-append found (v ∷ [])));
}
