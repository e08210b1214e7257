-- Numbers that stand for the same as a table grows are of the table.
use Rattle.std.proofs.Common.{◌≡◌, ℕ, zero, suc, ◌<◌, ◌≤◌, ◌+◌, Bool, true, List, [], ◌∷◌, ◌++◌, map, length, Option, Some, None, slice_get, All, refl, sym, ap, ◌∙◌, inl, inr, arith}
use Rattle.std.specs.Prelude.{option_map}
use Rattle.std.specs.List.{list_all, AllByRecursion}
use Rattle.std.proofs.Math.ListN.{replicate}
use Rattle.std.proofs.lemmas.Bool.{lt-ltb, cases_lt}
use Rattle.std.proofs.lemmas.List.{length-replicate, get_or-replicate}
use Rattle.std.proofs.lemmas.List.Elements.{recursion_from_All}
use Rattle.std.proofs.lemmas.Option.{slice_get_past, slice_get-get_or, get_or_from_slice_get}
use Rattle.std.proofs.Math.ListN.{get_or-eq_default}
use Rattle.pv_base.specs.declared.name.Name.{Name}
use Rattle.pv_base.specs.declared.name.Name.TheVariants.{Numbered}
use Rattle.ir_tree.specs.declared.nodes.TypeNode.TheVariants as type
use Rattle.ir_tree.specs.declared.nodes.ConstantNode.{ConstantNode}
use Rattle.ir_tree.specs.declared.nodes.ConstantNode.TheVariants as node
use Rattle.ir_tree.specs.declared.nodes.Element.{Element}
use Rattle.ir_tree.specs.declared.instruction.Operand.{Operand}
use Rattle.ir_tree.specs.declared.instruction.Operand.TheVariants as operand
use Rattle.ir_tree.specs.declared.instruction.Instruction.{Instruction}
use Rattle.ir_tree.specs.declared.items.Param.{Param}
use Rattle.ir_tree.specs.declared.items.Block.{Block}
use Rattle.ir_tree.specs.declared.items.Global.{Global}
use Rattle.ir_tree.specs.declared.items.Function.{Function}
use Rattle.ir_tree.specs.Table.{Table, IsTable, ConstantWithin, ElementBefore}
use Rattle.ir_tree.specs.Trees.{TypeV, PtrV, VoidV, ConstantV, NullC, ZeroC}
use Rattle.ir_tree.specs.Naming.{Grows, name_at, type_at, constant_at, type_of_node, constant_of_node}
use Rattle.ir_tree.specs.Modules.{Items}
use Rattle.ir_tree.specs.Staying.{StaysSame}
use Rattle.ir_tree.specs.Shown.{shown, shown_operand, shown_global, shown_param, shown_block, shown_function}
use Rattle.ir_tree.proofs.Showing.{meaning_from}
use Rattle.ir_rules.specs.declared.given.Given.{Given}
use Rattle.ir_rules.specs.declared.given.Given.TheVariants.{Pointer, Bit, Written}
use Rattle.ir_rules.specs.declared.given.Defined.{Defined}
use Rattle.ir_rules.specs.declared.given.Use.{Use}
use Rattle.ir_rules.specs.Seen.{ModuleV, seen}
use Rattle.ir_rules.specs.Heads.{shown_given, shown_use, shown_defined}
use Rattle.ir_rules.specs.Forms.{result_of, uses, targets, sources, memory_types, cast_types, called_types, called_names}
use Rattle.ir_rules.specs.Numbering.{is_name, is_type, is_constant, given_within, operand_within, use_within, result_within, instruction_within, block_within, name_within, param_within, function_within, global_within, element_within, constant_within, constants_within, is_within}
use Rattle.ir_rules.proofs.SameLemmas.{both}
use Rattle.ir_rules.proofs.TypeLemmas.{type_none}
use Rattle.ir_rules.proofs.ConstantLemmas.{constant_none}
use Rattle.ir_rules.proofs.ShownLemmas.{result_shown, uses_shown, targets_shown, sources_shown}
use Rattle.ir_rules.proofs.WrittenLemmas.{memory_shown, cast_shown, called_shown, callee_shown}

-- ---- what stands in constants, by the table's own rule

elements_within : (t : Table) (k : ℕ) (es : List Element) → AllByRecursion (ElementBefore (length t.types) k) es → list_all (element_within t k) es ≡ true
elements_within t k [] all = refl
elements_within t k (e ∷ es) all = rw (lt-ltb e.of (length t.types) all.0.of, lt-ltb e.value k all.0.value) (elements_within t k es all.1)

elements_are : (t : Table) (k : ℕ) (es : List Element) → All (ElementBefore (length t.types) k) es → list_all (element_within t k) es ≡ true
elements_are t k es all = elements_within t k es (recursion_from_All (ElementBefore (length t.types) k) es all)

constant_is : (t : Table) (k : ℕ) (n : ConstantNode) → ConstantWithin (length t.names) (length t.types) k n → constant_within t k n ≡ true
constant_is t k (node.Integer n) w = refl
constant_is t k node.Null w = refl
constant_is t k node.Zero w = refl
constant_is t k (node.Text bytes) w = refl
constant_is t k (node.Array es) w = elements_are t k es w
constant_is t k (node.Struct packed es) w = elements_are t k es w
constant_is t k (node.Name x) w = lt-ltb x (length t.names) w
constant_is t k (node.Address of base es) w = rw (lt-ltb of (length t.types) w.0, lt-ltb base k w.1) (elements_are t k es w.2)

constants_from : (t : Table) (k : ℕ) (cs : List ConstantNode) → ((i j : ℕ) (n : ConstantNode) → slice_get cs i ≡ Some n → j ≡ k + i → ConstantWithin (length t.names) (length t.types) j n) → constants_within t k cs ≡ true
constants_from t k [] h = refl
constants_from t k (c ∷ cs) h =
    let first : constant_within t k c ≡ true = constant_is t k c (h 0 k c refl (omega arith)) in
    rw first (constants_from t (k + 1) cs (λ i j n e f. h (suc i) j n e (omega arith)))

whole : (t : Table) → IsTable t → (i j : ℕ) (n : ConstantNode) → slice_get t.constants i ≡ Some n → j ≡ 0 + i → ConstantWithin (length t.names) (length t.types) j n
whole t is i j n e f = let g : j ≡ i = omega arith in rw g (is.constants i n e)

-- the table's own rule
pub constants_are : (t : Table) → IsTable t → constants_within t 0 t.constants ≡ true
constants_are t is = constants_from t 0 t.constants (whole t is)

-- ---- a table with rows that stand for something else than no row does

stays_at : {X : Type 0} (xs ys : List X) (k : ℕ) (x : X) → slice_get xs k ≡ Some x → slice_get (xs ++ ys) k ≡ Some x
stays_at [] ys k x e = absurd cc
stays_at (y ∷ xs) ys zero x e = e
stays_at (y ∷ xs) ys (suc k) x e = stays_at xs ys k x e

new_at : {X : Type 0} (xs : List X) (n k : ℕ) (x : X) → length xs ≤ k → k < n → slice_get (xs ++ replicate n x) k ≡ Some x
new_at [] n k x le lt =
    let inside : k < length (replicate n x) = rw (length-replicate n x) lt in
    slice_get-get_or (replicate n x) k x inside ∙ ap Some (get_or-replicate n k x x lt)
new_at (y ∷ xs) n zero x le lt = absurd (omega arith)
new_at (y ∷ xs) n (suc k) x le lt = new_at xs n k x (omega arith) (omega arith)

-- so many more rows, none of which is what a missing row stands for
longer : Table → ℕ → Table
longer t n = record { names = t.names ++ replicate n (Numbered 1); types = t.types ++ replicate n type.Void; constants = t.constants ++ replicate n node.Zero }

grows_longer : (t : Table) (n : ℕ) → Grows t (longer t n)
unfolding longer
grows_longer t n = record { names = λ k x e. stays_at t.names _ k x e; types = λ k x e. stays_at t.types _ k x e; constants = λ k x e. stays_at t.constants _ k x e }

module _ (t : Table) where
  name_new : (k : ℕ) → length t.names ≤ k → name_at (longer t (suc k)) k ≡ Numbered 1
  unfolding longer
  name_new k le = get_or_from_slice_get (t.names ++ replicate (suc k) (Numbered 1)) k (Numbered 1) (Numbered 0) (new_at t.names (suc k) k (Numbered 1) le (omega arith))

  type_new : (k : ℕ) → length t.types ≤ k → type_at (longer t (suc k)) k ≡ VoidV
  unfolding longer type_at
  type_new k le = meaning_from (type_of_node (name_at (longer t (suc k)))) PtrV [] (t.types ++ replicate (suc k) type.Void) k type.Void (new_at t.types (suc k) k type.Void le (omega arith))

  constant_new : (k : ℕ) → length t.constants ≤ k → constant_at (longer t (suc k)) k ≡ ZeroC
  unfolding longer constant_at
  constant_new k le =
      meaning_from (constant_of_node (name_at (longer t (suc k))) (type_at (longer t (suc k)))) NullC [] (t.constants ++ replicate (suc k) node.Zero) k node.Zero (new_at t.constants (suc k) k node.Zero le (omega arith))

  number_same : (a b : ℕ) → Numbered a ≡ Numbered b → a ≡ b
  number_same a b e = cc

  other_name : Numbered 1 ≡ Numbered 0 → ⊥
  other_name e = let h = number_same 1 0 e in omega (arith, h)

  -- a number that stands for the same in each of them is of the table
  name_stays : (k : ℕ) → ((n : ℕ) → name_at (longer t n) k ≡ name_at t k) → is_name t k ≡ true
  name_stays k same =
      elim (cases_lt k (length t.names)) [
        | inl lt ↦ lt-ltb k (length t.names) lt
        | inr ge ↦ absurd (other_name (sym (name_new k ge) ∙ same (suc k) ∙ get_or-eq_default t.names (Numbered 0) ge))
      ]

  type_stays : (k : ℕ) → ((n : ℕ) → type_at (longer t n) k ≡ type_at t k) → is_type t k ≡ true
  type_stays k same =
      elim (cases_lt k (length t.types)) [
        | inl lt ↦ lt-ltb k (length t.types) lt
        | inr ge ↦ let e : VoidV ≡ PtrV = sym (type_new k ge) ∙ same (suc k) ∙ type_none t k (slice_get_past t.types k ge) in absurd cc
      ]

  constant_stays : (k : ℕ) → ((n : ℕ) → constant_at (longer t n) k ≡ constant_at t k) → is_constant t k ≡ true
  constant_stays k same =
      elim (cases_lt k (length t.constants)) [
        | inl lt ↦ lt-ltb k (length t.constants) lt
        | inr ge ↦ let e : ZeroC ≡ NullC = sym (constant_new k ge) ∙ same (suc k) ∙ constant_none t k (slice_get_past t.constants k ge) in absurd cc
      ]

-- ---- the parts of items

head_same : {X : Type 0} (x y : X) (xs ys : List X) → x ∷ xs ≡ y ∷ ys → x ≡ y
head_same x y xs ys e = cc

tail_same : {X : Type 0} (x y : X) (xs ys : List X) → x ∷ xs ≡ y ∷ ys → xs ≡ ys
tail_same x y xs ys e = cc

all_stay : {X Y : Type 0} (f : ℕ → X → Y) (g : X → Y) (p : X → Bool) → ((x : X) → ((n : ℕ) → f n x ≡ g x) → p x ≡ true) → (xs : List X) → ((n : ℕ) → map (f n) xs ≡ map g xs) → list_all p xs ≡ true
all_stay f g p each [] same = refl
all_stay f g p each (x ∷ xs) same =
    both (p x) (list_all p xs) (each x (λ n. head_same (f n x) (g x) (map (f n) xs) (map g xs) (same n))) (all_stay f g p each xs (λ n. tail_same (f n x) (g x) (map (f n) xs) (map g xs) (same n)))

some_same : {X : Type 0} (x y : X) → Some x ≡ Some y → x ≡ y
some_same x y e = cc

written_same : (a b : TypeV) → Written a ≡ Written b → a ≡ b
written_same a b e = cc

register_same : (a b : Name) → (let o : Operand Name ConstantV = operand.Register a in o) ≡ operand.Register b → a ≡ b
register_same a b e = cc

value_same : (a b : ConstantV) → (let o : Operand Name ConstantV = operand.Constant a in o) ≡ operand.Constant b → a ≡ b
value_same a b e = cc

module _ (t : Table) where
  given_stays : (g : Given ℕ) → ((n : ℕ) → shown_given (longer t n) g ≡ shown_given t g) → given_within t g ≡ true
  given_stays Pointer same = refl
  given_stays Bit same = refl
  given_stays (Written k) same = type_stays t k (λ n. written_same (type_at (longer t n) k) (type_at t k) (same n))

  operand_stays : (o : Operand ℕ ℕ) → ((n : ℕ) → shown_operand (longer t n) o ≡ shown_operand t o) → operand_within t o ≡ true
  operand_stays (operand.Register k) same = name_stays t k (λ n. register_same (name_at (longer t n) k) (name_at t k) (same n))
  operand_stays (operand.Constant k) same = constant_stays t k (λ n. value_same (constant_at (longer t n) k) (constant_at t k) (same n))

  use_stays : (u : Use ℕ ℕ ℕ) → ((n : ℕ) → shown_use (longer t n) u ≡ shown_use t u) → use_within t u ≡ true
  use_stays u same =
      both (operand_within t u.value) (given_within t u.of)
      (operand_stays u.value (λ n. ap (λ (x : Use Name TypeV ConstantV). x.value) (same n)))
      (given_stays u.of (λ n. ap (λ (x : Use Name TypeV ConstantV). x.of) (same n)))

  result_stays : (o : Option (Defined ℕ ℕ)) → ((n : ℕ) → option_map (shown_defined (longer t n)) o ≡ option_map (shown_defined t) o) → result_within t o ≡ true
  result_stays None same = refl
  result_stays (Some d) same = name_stays t d.name (λ n. ap (λ (x : Defined Name TypeV). x.name) (some_same (shown_defined (longer t n) d) (shown_defined t d) (same n)))

  names_stay : (ks : List ℕ) → ((n : ℕ) → map (name_at (longer t n)) ks ≡ map (name_at t) ks) → list_all (is_name t) ks ≡ true
  names_stay ks same = all_stay (λ n. name_at (longer t n)) (name_at t) (is_name t) (name_stays t) ks same

  types_stay : (ks : List ℕ) → ((n : ℕ) → map (type_at (longer t n)) ks ≡ map (type_at t) ks) → list_all (is_type t) ks ≡ true
  types_stay ks same = all_stay (λ n. type_at (longer t n)) (type_at t) (is_type t) (type_stays t) ks same

  instruction_stays : (i : Instruction ℕ ℕ ℕ) → ((n : ℕ) → shown (longer t n) i ≡ shown t i) → instruction_within t i ≡ true
  instruction_stays i same =
      let result = result_stays (result_of i) (λ n. sym (result_shown (longer t n) i) ∙ ap result_of (same n) ∙ result_shown t i) in
      let used = all_stay (λ n. shown_use (longer t n)) (shown_use t) (use_within t) use_stays (uses i) (λ n. sym (uses_shown (longer t n) i) ∙ ap uses (same n) ∙ uses_shown t i) in
      let to = names_stay (targets i) (λ n. sym (targets_shown (longer t n) i) ∙ ap targets (same n) ∙ targets_shown t i) in
      let from = names_stay (sources i) (λ n. sym (sources_shown (longer t n) i) ∙ ap sources (same n) ∙ sources_shown t i) in
      let memory = types_stay (memory_types i) (λ n. sym (memory_shown (longer t n) i) ∙ ap memory_types (same n) ∙ memory_shown t i) in
      let cast = types_stay (cast_types i) (λ n. sym (cast_shown (longer t n) i) ∙ ap cast_types (same n) ∙ cast_shown t i) in
      let answer = types_stay (called_types i) (λ n. sym (called_shown (longer t n) i) ∙ ap called_types (same n) ∙ called_shown t i) in
      let callee = names_stay (called_names i) (λ n. sym (callee_shown (longer t n) i) ∙ ap called_names (same n) ∙ callee_shown t i) in
      rw (result, used, to, from, memory, cast, answer, callee) refl

  block_stays : (b : Block ℕ ℕ ℕ) → ((n : ℕ) → shown_block (longer t n) b ≡ shown_block t b) → block_within t b ≡ true
  block_stays b same =
      both (is_name t b.label) (list_all (instruction_within t) b.instructions)
      (name_stays t b.label (λ n. ap (λ (x : Block Name TypeV ConstantV). x.label) (same n)))
      (all_stay (λ n. shown (longer t n)) (shown t) (instruction_within t) instruction_stays b.instructions (λ n. ap (λ (x : Block Name TypeV ConstantV). x.instructions) (same n)))

  given_name_stays : (o : Option ℕ) → ((n : ℕ) → option_map (name_at (longer t n)) o ≡ option_map (name_at t) o) → name_within t o ≡ true
  given_name_stays None same = refl
  given_name_stays (Some k) same = name_stays t k (λ n. some_same (name_at (longer t n) k) (name_at t k) (same n))

  param_stays : (p : Param ℕ ℕ) → ((n : ℕ) → shown_param (longer t n) p ≡ shown_param t p) → param_within t p ≡ true
  param_stays p same =
      both (name_within t p.name) (is_type t p.of) (given_name_stays p.name (λ n. ap (λ (x : Param Name TypeV). x.name) (same n))) (type_stays t p.of (λ n. ap (λ (x : Param Name TypeV). x.of) (same n)))

  function_stays : (f : Function ℕ ℕ ℕ) → ((n : ℕ) → shown_function (longer t n) f ≡ shown_function t f) → function_within t f ≡ true
  function_stays f same =
      let name = name_stays t f.name (λ n. ap (λ (x : Function Name TypeV ConstantV). x.name) (same n)) in
      let result = type_stays t f.result (λ n. ap (λ (x : Function Name TypeV ConstantV). x.result) (same n)) in
      let params = all_stay (λ n. shown_param (longer t n)) (shown_param t) (param_within t) param_stays f.params (λ n. ap (λ (x : Function Name TypeV ConstantV). x.params) (same n)) in
      let blocks = all_stay (λ n. shown_block (longer t n)) (shown_block t) (block_within t) block_stays f.blocks (λ n. ap (λ (x : Function Name TypeV ConstantV). x.blocks) (same n)) in
      rw (name, result, params, blocks) refl

  global_stays : (g : Global ℕ ℕ ℕ) → ((n : ℕ) → shown_global (longer t n) g ≡ shown_global t g) → global_within t g ≡ true
  global_stays g same =
      let name = name_stays t g.name (λ n. ap (λ (x : Global Name TypeV ConstantV). x.name) (same n)) in
      let of = type_stays t g.of (λ n. ap (λ (x : Global Name TypeV ConstantV). x.of) (same n)) in
      let init = constant_stays t g.init (λ n. ap (λ (x : Global Name TypeV ConstantV). x.init) (same n)) in
      rw (name, of, init) refl

-- where a module stays the same as its table grows, its numbers are of the table
pub module_within : (m : Items) → IsTable m.names → StaysSame m → is_within m ≡ true
module_within m is stays =
    let t = m.names in
    let same : (n : ℕ) → seen (record m { names = longer t n }) ≡ seen m = λ n. stays (longer t n) (grows_longer t n) in
    let globals = all_stay (λ n. shown_global (longer t n)) (shown_global t) (global_within t) (global_stays t) m.globals (λ n. ap (λ (v : ModuleV). v.globals) (same n)) in
    let functions = all_stay (λ n. shown_function (longer t n)) (shown_function t) (function_within t) (function_stays t) m.functions (λ n. ap (λ (v : ModuleV). v.functions) (same n)) in
    rw (globals, functions, constants_are t is) refl
