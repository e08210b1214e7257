-- Constants and operands, by numbers and written out.
use Rattle.std.proofs.Common.{◌≡◌, ℕ, ◌≤◌, true, List, map, length, Option, Some, None, refl, sym, ap, ◌∙◌, arith, inl, inr}
use Rattle.std.specs.Prelude.{option_map, option_and_then, unwrap_or, nat_lt, pos}
use Rattle.std.specs.List.{AllByRecursion, range_with_len}
use Rattle.std.proofs.lemmas.Bool.{cases_Bool}
use Rattle.std.proofs.lemmas.List.{get_or_past}
use Rattle.std.proofs.lemmas.List.FromFn.{length-map-range_with_len}
use Rattle.std.proofs.lemmas.Option.{slice_get_past}
use borrow.Author.Tests.{ltb-false}
use Rattle.pv_base.specs.declared.name.Name.{Name}
use Rattle.ir_tree.specs.declared.instruction.Operand.{Operand as Named}
use Rattle.ir_tree.specs.declared.instruction.Operand.TheVariants as named
use Rattle.ir_tree.specs.declared.instruction.Argument.{Argument}
use Rattle.ir_tree.specs.declared.items.Function.{Function}
use Rattle.ir_tree.specs.Table.{Table, IsTable, same_name}
use Rattle.ir_tree.specs.Trees.{TypeV, PtrV}
use Rattle.ir_tree.specs.Trees.{ConstantV, IntegerC, NullC, ZeroC, TextC, ArrayC, StructC, NameC, AddressC, ElementsV, NoneC, MoreC}
use Rattle.ir_tree.specs.Naming.{name_at, type_at, constant_at}
use Rattle.ir_tree.specs.Shown.{shown_operand, shown_argument, shown_global, shown_function}
use Rattle.ir_tree.specs.Modules.{Items}
use Rattle.ir_tree.specs.Written.{shown_module}
use Rattle.ir_tree.proofs.Opened.{type_past}
use Rattle.ir_rules.specs.Numbering.{is_name, is_type, is_constant, operand_within, name_within, param_within, block_within, global_within, function_within, is_within}
use Rattle.ir_rules.proofs.SameLemmas.{and_both}
use Rattle.ir_code.specs.declared.op.Scalar.{Scalar}
use Rattle.ir_code.specs.declared.op.Scalar.TheVariants as scalar
use Rattle.ir_code.specs.declared.op.Fixed.{Fixed}
use Rattle.ir_code.specs.declared.op.Fixed.TheVariants as fixed
use Rattle.ir_code.specs.declared.op.Operand.TheVariants as operand
use Rattle.ir_code.specs.declared.lookups.Constant.TheVariants as constant
use Rattle.ir_code.specs.Fixed.{item_named, fixed_of, operands_of}
use Rattle.ir_code.specs.Tables.{scalar_at, scalar_or_pointer, type_of, fixed_at, fixed_of as known_at}
use Rattle.ir_code.specs.Families.{operand_at, argument_at}
use Rattle.ir_code.specs.Coding.{scalar_in, constant_of, constant_in, tables_of}
use Rattle.code_laws.specs.Meanings.{scalar_or_ptr, item_called, constant_value, index_values, operand_value, argument_value}
use Rattle.code_laws.proofs.Steps.{bind_same, all_of}
use Rattle.code_laws.proofs.Leaves.{place_same, goes, first_shown, at_number, scalar_same}

-- the type of a register, also of a number that is not of the table
pub scalar_or_same : (m : Items) (k : ℕ) → IsTable m.names → scalar_or_pointer (tables_of m) k ≡ scalar_or_ptr (type_at m.names k)
scalar_or_same m k is =
    elim (cases_Bool (nat_lt k (length m.names.types))) [
      | inl inside ↦ ap (λ o. unwrap_or o scalar.Pointer) (scalar_same m is k inside)
      | inr outside ↦
          let le : length m.names.types ≤ k = ltb-false k (length m.names.types) outside in
          let size : length (map (scalar_in m.names) (range_with_len 0 (length m.names.types))) ≡ length m.names.types = length-map-range_with_len (scalar_in m.names) 0 (length m.names.types) in
          let none : scalar_at (tables_of m) k ≡ None = get_or_past (map (scalar_in m.names) (range_with_len 0 (length m.names.types))) k None (omega arith) in
          let past : type_at m.names k ≡ PtrV = type_past m.names k (slice_get_past m.names.types k le) in
          ap (λ o. unwrap_or o scalar.Pointer) none ∙ sym (ap scalar_or_ptr past)
    ]

-- what the numbers of a function are
pub record FunctionParts (t : Table) (f : Function ℕ ℕ ℕ) : Type 0 where
  pub name : is_name t f.name ≡ true
  pub result : is_type t f.result ≡ true
  pub params : AllByRecursion (λ p. param_within t p ≡ true) f.params
  pub blocks : AllByRecursion (λ b. block_within t b ≡ true) f.blocks

pub function_parts : (t : Table) (f : Function ℕ ℕ ℕ) → function_within t f ≡ true → FunctionParts t f
function_parts t f e =
    let one = and_both _ _ e in
    let two = and_both _ _ one.0 in
    let three = and_both _ _ two.0 in
    record { name = three.0; result = three.1; params = all_of (param_within t) f.params two.1; blocks = all_of (block_within t) f.blocks one.1 }

-- the names of a module's items are of its table
pub record ItemsWithin (m : Items) : Type 0 where
  pub globals : AllByRecursion (λ g. global_within m.names g ≡ true) m.globals
  pub functions : AllByRecursion (λ f. function_within m.names f ≡ true) m.functions

pub items_within : (m : Items) → is_within m ≡ true → ItemsWithin m
items_within m e =
    let one = and_both _ _ e in
    let two = and_both _ _ one.0 in
    record { globals = all_of (global_within m.names) m.globals two.0; functions = all_of (function_within m.names) m.functions two.1 }

module _ (m : Items) (within : ItemsWithin m) where
  pub item_same : (x : Name) → item_named m x ≡ item_called (shown_module m) x
  item_same x =
      first_shown (λ g. global_within m.names g ≡ true) _ (λ g. same_name x g.name) (shown_global m.names) (λ i. fixed.Global i (pos 0)) (λ g e. goes m.names x g.name (and_both _ _ (and_both _ _ e).0).0) 0 m.globals _ _ within.globals
      (first_shown (λ f. function_within m.names f ≡ true) _ (λ f. same_name x f.name) (shown_function m.names) fixed.Function (λ f e. goes m.names x f.name (function_parts m.names f e).name) 0 m.functions None None within.functions refl)

mutual
  pub constant_same : (m : Items) → ItemsWithin m → (type : TypeV) (c : ConstantV) → fixed_of m type c ≡ constant_value (shown_module m) type c
  constant_same m within type (IntegerC n) = refl
  constant_same m within type NullC = refl
  constant_same m within type ZeroC = refl
  constant_same m within type (TextC bytes) = refl
  constant_same m within type (ArrayC elements) = refl
  constant_same m within type (StructC packed elements) = refl
  constant_same m within type (NameC x) = item_same m within x
  constant_same m within type (AddressC of base indices) = rw (constant_same m within PtrV base, indices_same m within indices) refl

  indices_same : (m : Items) → ItemsWithin m → (es : ElementsV) → operands_of m es ≡ index_values (shown_module m) es
  indices_same m within NoneC = refl
  indices_same m within (MoreC type value rest) = rw (constant_same m within type value, indices_same m within rest) refl

given : (s : Scalar) (o : Option Fixed) → option_and_then (known_at s) (option_map constant.Is o) ≡ o
given s None = refl
given s (Some v) = refl

known : (m : Items) (s : Scalar) (c : ConstantV) → option_and_then (known_at s) (constant_of m c) ≡ fixed_of m (type_of s) c
known m s (IntegerC n) = refl
known m s NullC = refl
known m s ZeroC = refl
known m s (TextC bytes) = refl
known m s (ArrayC elements) = refl
known m s (StructC packed elements) = refl
known m s (NameC x) = given s (item_named m x)
known m s (AddressC of base indices) = given s _

module _ (m : Items) (is : IsTable m.names) (within : ItemsWithin m) where
  pub fixed_same : (s : Scalar) (k : ℕ) → is_constant m.names k ≡ true → fixed_at (tables_of m) s k ≡ constant_value (shown_module m) (type_of s) (constant_at m.names k)
  fixed_same s k e = ap (option_and_then (known_at s)) (at_number (constant_in m) (length m.names.constants) k e) ∙ known m s (constant_at m.names k) ∙ constant_same m within (type_of s) (constant_at m.names k)

  module _ (registers : List (Option ℕ)) (all : AllByRecursion (λ o. name_within m.names o ≡ true) registers) where
    pub operand_same : (s : Scalar) (o : Named ℕ ℕ) → operand_within m.names o ≡ true → operand_at (tables_of m) registers s o ≡ operand_value (shown_module m) (map (option_map (name_at m.names)) registers) s (shown_operand m.names o)
    operand_same s (named.Register x) e = ap (option_map operand.Register) (place_same m.names is registers x all e)
    operand_same s (named.Constant k) e = ap (option_map operand.Constant) (fixed_same s k e)

    pub argument_same : (a : Argument ℕ ℕ ℕ) → (operand_within m.names a.value ≡ true) × (is_type m.names a.of ≡ true)
        → argument_at (tables_of m) registers a ≡ argument_value (shown_module m) (map (option_map (name_at m.names)) registers) (shown_argument m.names a)
    argument_same a e = bind_same (scalar_same m is a.of e.1) (λ s. operand_same s a.value e.0)
