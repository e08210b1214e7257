-- Places of names, types and constants, by numbers and written out.
use Rattle.std.proofs.Common.{◌≡◌, ℕ, ◌+◌, ◌<◌, Bool, true, List, [], ◌∷◌, map, length, Option, Some, None, slice_get, get_or, refl, sym, ap, ◌∙◌, arith}
use Rattle.std.specs.Prelude.{option_map, option_and_then, slice_index_or, nat_eq, nat_lt}
use Rattle.std.specs.List.{AllByRecursion, range_with_len}
use Rattle.std.proofs.lemmas.List.FromFn.{get_or-map-range_with_len}
use Rattle.std.proofs.lemmas.Option.{slice_get-get_or}
use borrow.Author.Tests.{ltb-true}
use Rattle.pv_base.specs.declared.name.Name.{Name}
use Rattle.pv_base.specs.declared.name.Name.TheVariants.{Numbered}
use Rattle.ir_tree.specs.declared.nodes.TypeNode.{TypeNode}
use Rattle.ir_tree.specs.declared.nodes.TypeNode.TheVariants as node
use Rattle.ir_tree.specs.Table.{Table, IsTable, same_name}
use Rattle.ir_tree.specs.Trees.{TypeV}
use Rattle.ir_tree.specs.Naming.{name_at, type_at, type_of_node}
use Rattle.ir_tree.specs.Modules.{Items}
use Rattle.ir_tree.specs.Written.{shown_module}
use Rattle.ir_tree.proofs.Bodies.{each_same}
use Rattle.ir_tree.proofs.Filled.{type_is}
use Rattle.ir_rules.specs.Numbering.{is_name, is_type, name_within}
use Rattle.ir_code.specs.declared.op.Fixed.{Fixed}
use Rattle.ir_code.specs.Places.{is_name as is_that, place_of}
use Rattle.ir_code.specs.Fixed.{goes_by, first_item}
use Rattle.ir_code.specs.Tables.{scalar_of, scalar_at, size_at}
use Rattle.ir_code.specs.Coding.{scalar_in, size_in, tables_of}
use Rattle.code_laws.specs.Meanings.{is_called, place_named, scalar_type, type_size}

-- ---- names

module _ (t : Table) (is : IsTable t) where
  pub names_same : (x y : ℕ) → is_name t x ≡ true → is_name t y ≡ true → nat_eq x y ≡ same_name (name_at t x) (name_at t y)
  names_same x y e f = each_same t x y is (ltb-true x (length t.names) e) (ltb-true y (length t.names) f)

  called : (o : Option ℕ) (x : ℕ) → name_within t o ≡ true → is_name t x ≡ true → is_that x o ≡ is_called (name_at t x) (option_map (name_at t) o)
  called None x e f = refl
  called (Some y) x e f = names_same x y f e

  pub place_same : (xs : List (Option ℕ)) (x : ℕ) → AllByRecursion (λ o. name_within t o ≡ true) xs → is_name t x ≡ true → place_of xs x ≡ place_named (map (option_map (name_at t)) xs) (name_at t x)
  place_same [] x all e = refl
  place_same (o ∷ xs) x all e = rw (called o x all.0 e, place_same xs x all.1 e) refl

pub goes : (t : Table) (x : Name) (k : ℕ) → is_name t k ≡ true → goes_by t x k ≡ same_name x (name_at t k)
goes t x k e =
    let at : slice_get t.names k ≡ Some (name_at t k) = slice_get-get_or t.names k (Numbered 0) (ltb-true k (length t.names) e) in
    rw at refl

pub first_shown : {X Y : Type 0} (P : X → Type 0) (p : X → Bool) (q : Y → Bool) (h : X → Y) (item : ℕ → Fixed) → ((x : X) → P x → p x ≡ q (h x)) → (i : ℕ) (xs : List X) (a b : Option Fixed) → AllByRecursion P xs → a ≡ b
    → first_item p item i xs a ≡ first_item q item i (map h xs) b
first_shown P p q h item e i [] a b all f = f
first_shown P p q h item e i (x ∷ xs) a b all f = rw (e x all.0, first_shown P p q h item e (i + 1) xs a b all.1 f) refl

-- ---- what is found by number

pub at_number : {X : Type 0} (f : ℕ → Option X) (n k : ℕ) → nat_lt k n ≡ true → slice_index_or (map f (range_with_len 0 n)) k None ≡ f k
at_number f n k e = let lt : k < n = ltb-true k n e in get_or-map-range_with_len f 0 n k k None lt (omega arith)

scalar_node : (name : ℕ → Name) (at : ℕ → TypeV) (n : TypeNode) → scalar_of n ≡ scalar_type (type_of_node name at n)
scalar_node name at (node.Int w) = refl
scalar_node name at node.Ptr = refl
scalar_node name at node.Void = refl
scalar_node name at (node.Array n k) = refl
scalar_node name at (node.Struct packed ks) = refl
scalar_node name at (node.Named k) = refl

module _ (m : Items) (is : IsTable m.names) where
  pub scalar_same : (k : ℕ) → is_type m.names k ≡ true → scalar_at (tables_of m) k ≡ scalar_type (type_at m.names k)
  scalar_same k e =
      let lt : k < length m.names.types = ltb-true k (length m.names.types) e in
      let n = get_or m.names.types k node.Ptr in
      let known : slice_get m.names.types k ≡ Some n = slice_get-get_or m.names.types k node.Ptr lt in
      at_number (scalar_in m.names) (length m.names.types) k e ∙ ap (option_and_then scalar_of) known ∙ scalar_node (name_at m.names) (type_at m.names) n ∙ ap scalar_type (sym (type_is m.names k n is known))

  pub size_same : (k : ℕ) → is_type m.names k ≡ true → size_at (tables_of m) k ≡ type_size (shown_module m) (type_at m.names k)
  size_same k e = at_number (size_in m) (length m.names.types) k e
