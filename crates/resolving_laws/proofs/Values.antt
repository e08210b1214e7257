-- Types, constants and operands of a checked module have values.
use Rattle.std.proofs.Common.{◌≡◌, ℕ, zero, suc, ◌+◌, ◌<◌, true, false, Bool, List, [], ◌∷◌, length, Option, Some, None, slice_get, refl, sym, ap, ◌∙◌, if◌then◌else◌, nat_eq, arith, eqb-true}
use Rattle.std.specs.Prelude.{◌&&◌, ◌||◌, is_some, option_map, option_and_then, nat_lt, nat_le}
use Rattle.std.proofs.lemmas.Bool.{ltb-true}
use Rattle.std.proofs.lemmas.Bool.Decides.{nat_tests}
use Rattle.int_num.specs.Integer.{Integer}
use Rattle.ir_tree.specs.declared.nodes.TypeNode.{TypeNode}
use Rattle.ir_tree.specs.declared.nodes.TypeNode.TheVariants as node
use Rattle.ir_tree.specs.declared.instruction.Operand.{Operand as Named}
use Rattle.ir_tree.specs.declared.instruction.Operand.TheVariants as named
use Rattle.ir_tree.specs.declared.items.Function.{Function}
use Rattle.ir_tree.specs.declared.layout.Layout.{Layout}
use Rattle.ir_tree.specs.Table.{IsTable}
use Rattle.ir_tree.specs.Trees.{IntV, PtrV, VoidV}
use Rattle.ir_tree.specs.Trees.{ConstantV, IntegerC, NullC, ZeroC, TextC, ArrayC, StructC, NameC, AddressC}
use Rattle.ir_tree.specs.Naming.{type_at, constant_at}
use Rattle.ir_tree.specs.Layouts.{layout_of}
use Rattle.ir_tree.specs.Modules.{Items, types_of}
use Rattle.ir_rules.specs.Seen.{seen}
use Rattle.ir_rules.specs.Constants.{has_form, holds_together, names_known, constant_index}
use Rattle.ir_rules.specs.Reading.{is_width, is_register, has_layout, constant_stands}
use Rattle.ir_rules.specs.Numbering.{is_type, is_constant, is_within, function_within}
use Rattle.ir_rules.proofs.SameLemmas.{and_both}
use Rattle.ir_rules.proofs.TypeLemmas.{shape, type_shape}
use Rattle.global_laws.specs.Filled.{is_address}
use Rattle.global_laws.proofs.Addresses.{pointer_found}
use Rattle.ir_code.specs.declared.op.Scalar.{Scalar}
use Rattle.ir_code.specs.declared.op.Scalar.TheVariants as scalar
use Rattle.ir_code.specs.declared.op.Fixed.{Fixed}
use Rattle.ir_code.specs.declared.op.Fixed.TheVariants as fixed
use Rattle.ir_code.specs.declared.op.Operand.{Operand}
use Rattle.ir_code.specs.declared.op.Operand.TheVariants as operand
use Rattle.ir_code.specs.declared.lookups.Constant.{Constant}
use Rattle.ir_code.specs.declared.lookups.Constant.TheVariants as constant
use Rattle.ir_code.specs.Fixed.{fixed_of}
use Rattle.ir_code.specs.Strides.{integer_index}
use Rattle.ir_code.specs.Tables.{scalar_at, size_at, type_of, fixed_at}
use Rattle.ir_code.specs.Tables as tables
use Rattle.ir_code.specs.Families.{is_stored, stored, operand_at}
use Rattle.ir_code.specs.Coding.{constant_of, constant_in, size_in, tables_of}
use Rattle.resolving_laws.specs.Constants.{IsType}
use Rattle.resolving_laws.specs.Resolved.{register_names}
use Rattle.resolving_laws.proofs.Constants.{looked, typed_back}
use Rattle.resolving_laws.proofs.Lists.{some_of}
use Rattle.resolving_laws.proofs.Known.{register_known}
use Rattle.resolving_laws.proofs.Sound.{UseSound}

-- ---- types

-- a type of registers, by its number
pub record Typed (m : Items) (of : ℕ) : Type 0 where
  pub scalar : Scalar
  pub is : scalar_at (tables_of m) of ≡ Some scalar
  pub node : IsType m.names of scalar
  pub type : type_at m.names of ≡ type_of scalar
  pub stands : is_register (type_of scalar) ≡ true

typed_if : (m : Items) (of : ℕ) (o : Option TypeNode) → slice_get m.names.types of ≡ o → type_at m.names of ≡ shape m.names o → of < length m.names.types → is_register (type_at m.names of) ≡ true → Typed m of
typed_if m of None e t lt stands = absurd (past m.names.types of lt e)
  where
    past : {A : Type 0} (xs : List A) (k : ℕ) → k < length xs → slice_get xs k ≡ None → ⊥
    past [] k lt e = absurd (omega arith)
    past (x ∷ xs) zero lt e = absurd cc
    past (x ∷ xs) (suc k) lt e = past xs k (omega arith) e
typed_if m of (Some (node.Int w)) e t lt stands = record { scalar = scalar.Int w; is = typed_back m of (scalar.Int w) e; node = e; type = t; stands = ap is_register (sym t) ∙ stands }
typed_if m of (Some node.Ptr) e t lt stands = record { scalar = scalar.Pointer; is = typed_back m of scalar.Pointer e; node = e; type = t; stands = refl }
typed_if m of (Some node.Void) e t lt stands = let h : is_register VoidV ≡ true = ap is_register (sym t) ∙ stands in absurd cc
typed_if m of (Some (node.Array n k)) e t lt stands = let h = ap is_register (sym t) ∙ stands in absurd cc
typed_if m of (Some (node.Struct p ks)) e t lt stands = let h = ap is_register (sym t) ∙ stands in absurd cc
typed_if m of (Some (node.Named x)) e t lt stands = let h = ap is_register (sym t) ∙ stands in absurd cc

pub typed_some : (m : Items) (of : ℕ) → IsTable m.names → is_type m.names of ≡ true → is_register (type_at m.names of) ≡ true → Typed m of
typed_some m of table within stands = typed_if m of (slice_get m.names.types of) refl (type_shape m.names of table) (ltb-true of (length m.names.types) within) stands

-- a type with a layout has its size
pub size_some : (m : Items) (of : ℕ) → is_type m.names of ≡ true → has_layout (types_of m) (type_at m.names of) ≡ true → (n : ℕ) × (size_at (tables_of m) of ≡ Some n)
size_some m of within laid =
    let l = some_of (layout_of (types_of m) (type_at m.names of)) laid in
    let z : 0 + of ≡ of = omega arith in
    (l.0.size, looked (size_in m) 0 (length m.names.types) of (ltb-true of (length m.names.types) within) ∙ ap (size_in m) z ∙ ap (option_map (λ (y : Layout). y.size)) l.1)

-- memory holds values of a type with a layout
kept_if : (a b c d e : Bool) → is_some (let l : Layout = record { size = 1; align = 1 } in if (a || b) then Some l else (if c then Some (record { size = 2; align = 2 }) else (if d then Some (record { size = 4; align = 4 }) else (if e then Some (record { size = 8; align = 8 }) else None)))) ≡ true → (a || b || c || d || e) ≡ true
kept_if true b c d e h = refl
kept_if false true c d e h = refl
kept_if false false true d e h = refl
kept_if false false false true e h = refl
kept_if false false false false true h = refl
kept_if false false false false false h = absurd cc

pub stored_some : (m : Items) (s : Scalar) → has_layout (types_of m) (type_of s) ≡ true → stored s ≡ Some s
stored_some m (scalar.Int w) h = let k : is_stored (scalar.Int w) ≡ true = kept_if (nat_eq w 1) (nat_eq w 8) (nat_eq w 16) (nat_eq w 32) (nat_eq w 64) h in rw k refl
stored_some m scalar.Pointer h = refl

-- ---- constants

zero_if : (w : ℕ) (a b : Bool) → a ≡ true → b ≡ true → (if a && b then Some (fixed.Int (record { width = w; bits = 0 })) else None) ≡ Some (fixed.Int (record { width = w; bits = 0 }))
zero_if w true true e f = refl
zero_if w false b e f = absurd cc
zero_if w true false e f = absurd cc

least_is : (w : ℕ) → nat_lt 0 w ≡ true → nat_le 1 w ≡ true
least_is w e = grind (arith, nat_tests)

some_address : (o : Option Fixed) → is_address o ≡ true → (v : Fixed) × (o ≡ Some v)
some_address None e = absurd cc
some_address (Some v) e = (v, refl)

-- what a constant of a type is found as
pub record Valued (m : Items) (s : Scalar) (c : ConstantV) : Type 0 where
  pub found : Constant
  pub value : Fixed
  pub there : constant_of m c ≡ Some found
  pub is : tables.fixed_of s found ≡ Some value

pub integer_valued : (m : Items) (w : ℕ) (c : ConstantV) → is_width w ≡ true → has_form (seen m) (IntV w) c ≡ true → (v : Valued m (scalar.Int w) c) × (n : Integer) × (v.value ≡ fixed.Int n) × (constant_index (IntV w) c ≡ integer_index n)
integer_valued m w (IntegerC n) stands form =
    (record { found = constant.Is (fixed.Int n); value = fixed.Int n; there = refl; is = refl }, n, refl, let same : w ≡ n.width = eqb-true w n.width form in ap (λ (x : ℕ). if nat_eq x 32 then Some n.bits else None) same)
integer_valued m w ZeroC stands form =
    let h = and_both (nat_lt 0 w) (nat_le w 64) stands in
    (record { found = constant.Zero; value = fixed.Int (record { width = w; bits = 0 }); there = refl; is = zero_if w (nat_le 1 w) (nat_le w 64) (least_is w h.0) h.1 }, record { width = w; bits = 0 }, refl, refl)
integer_valued m w NullC stands form = absurd cc
integer_valued m w (TextC bytes) stands form = absurd cc
integer_valued m w (ArrayC es) stands form = absurd cc
integer_valued m w (StructC packed es) stands form = absurd cc
integer_valued m w (NameC x) stands form = absurd cc
integer_valued m w (AddressC of base es) stands form = absurd cc

pub pointer_valued : (m : Items) (c : ConstantV) → is_within m ≡ true → has_form (seen m) PtrV c ≡ true → holds_together (seen m) c ≡ true → names_known (seen m) c ≡ true → constant_stands (types_of m) c ≡ true → Valued m scalar.Pointer c
pointer_valued m (IntegerC n) within form holds known stands = absurd cc
pointer_valued m NullC within form holds known stands = record { found = constant.Is fixed.Null; value = fixed.Null; there = refl; is = refl }
pointer_valued m ZeroC within form holds known stands = record { found = constant.Zero; value = fixed.Null; there = refl; is = refl }
pointer_valued m (TextC bytes) within form holds known stands = absurd cc
pointer_valued m (ArrayC es) within form holds known stands = absurd cc
pointer_valued m (StructC packed es) within form holds known stands = absurd cc
pointer_valued m (NameC x) within form holds known stands =
    let v = some_address (fixed_of m PtrV (NameC x)) (pointer_found m (NameC x) within form holds known stands) in record { found = constant.Is v.0; value = v.0; there = ap (option_map constant.Is) v.1; is = refl }
pointer_valued m (AddressC of base es) within form holds known stands =
    let v = some_address (fixed_of m PtrV (AddressC of base es)) (pointer_found m (AddressC of base es) within form holds known stands) in record { found = constant.Is v.0; value = v.0; there = ap (option_map constant.Is) v.1; is = refl }

fixed_some : (m : Items) (s : Scalar) (k : ℕ) (v : Valued m s (constant_at m.names k)) → is_constant m.names k ≡ true → fixed_at (tables_of m) s k ≡ Some v.value
fixed_some m s k v within =
    let z : 0 + k ≡ k = omega arith in
    ap (option_and_then (tables.fixed_of s)) (looked (constant_in m) 0 (length m.names.constants) k (ltb-true k (length m.names.constants) within) ∙ ap (constant_in m) z ∙ v.there) ∙ v.is

-- ---- operands

-- a constant operand of a type has a value, and one of an integer's type is an integer
pub constant_some : (m : Items) (f : Function ℕ ℕ ℕ) (s : Scalar) (k : ℕ) → is_within m ≡ true → is_register (type_of s) ≡ true → UseSound m f (type_of s) (named.Constant k) → (v : Fixed) × (fixed_at (tables_of m) s k ≡ Some v)
constant_some m f (scalar.Int w) k within stands u =
    let c = and_both _ _ u.fits in let v = integer_valued m w (constant_at m.names k) stands c.0 in (v.0.value, fixed_some m (scalar.Int w) k v.0 u.within)
constant_some m f scalar.Pointer k within stands u =
    let c = and_both _ _ u.fits in let v = pointer_valued m (constant_at m.names k) within c.0 c.1 u.known u.stands in (v.value, fixed_some m scalar.Pointer k v u.within)

pub integer_some : (m : Items) (f : Function ℕ ℕ ℕ) (w k : ℕ) → is_width w ≡ true → UseSound m f (IntV w) (named.Constant k) → (n : Integer) × (fixed_at (tables_of m) (scalar.Int w) k ≡ Some (fixed.Int n)) × (constant_index (IntV w) (constant_at m.names k) ≡ integer_index n)
integer_some m f w k stands u =
    let c = and_both _ _ u.fits in let v = integer_valued m w (constant_at m.names k) stands c.0 in (v.1, fixed_some m (scalar.Int w) k v.0 u.within ∙ ap Some v.2, v.3)

pub operand_some : (m : Items) (f : Function ℕ ℕ ℕ) (s : Scalar) (value : Named ℕ ℕ) → IsTable m.names → is_within m ≡ true → function_within m.names f ≡ true → is_register (type_of s) ≡ true → UseSound m f (type_of s) value
    → (o : Operand) × (operand_at (tables_of m) (register_names f) s value ≡ Some o)
operand_some m f s (named.Register x) table within inside stands u =
    let r = register_known m.names table f x inside u.within u.known in (operand.Register r.0, ap (option_map operand.Register) r.1)
operand_some m f s (named.Constant k) table within inside stands u =
    let v = constant_some m f s k within stands u in (operand.Constant v.0, ap (option_map operand.Constant) v.1)
