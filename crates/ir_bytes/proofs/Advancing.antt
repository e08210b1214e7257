-- A constant's bytes are those of its parts, one after another.
use Rattle.std.proofs.Common.{◌≡◌, ℕ, ◌+◌, ◌-◌, ◌<◌, ◌≤◌, max, Bool, List, [], ◌∷◌, ◌++◌, length, map, Option, Some, None, slice_get, refl, sym, ap, ◌∙◌, arith, append_assoc, length-append}
use Rattle.std.proofs.lemmas.List.{append-nil}
use Rattle.ir_tree.specs.declared.nodes.Element.{Element}
use Rattle.ir_tree.specs.declared.nodes.ConstantNode.{ConstantNode}
use Rattle.ir_tree.specs.declared.nodes.ConstantNode.TheVariants as constant
use Rattle.ir_tree.specs.Table.{IsTable}
use Rattle.ir_tree.specs.Trees.{ConstantV, IntegerC, NullC, ZeroC, TextC, ArrayC, StructC, NameC, AddressC}
use Rattle.ir_tree.specs.Naming.{name_at, type_at, constant_at, elements_at}
use Rattle.ir_tree.specs.Modules.{Items}
use Rattle.ir_code.specs.declared.op.Fixed.{Fixed}
use Rattle.ir_code.specs.Fixed.{fixed_of, fixed_at}
use Rattle.ir_tree.proofs.Opened.{constant_past}
use Rattle.ir_code.proofs.Values.{constant_is}
use Rattle.mem_image.specs.declared.object.Byte.{Byte}
use Rattle.mem_image.specs.declared.object.Byte.TheVariants.{Num}
use Rattle.ir_bytes.specs.declared.initial.Work.{Work}
use Rattle.ir_bytes.specs.declared.initial.Work.TheVariants as work
use Rattle.ir_bytes.specs.Initial.{zeros, size_in, aligned_in, gap, padded, scalar_bytes, bytes_of, array_bytes, struct_bytes, bytes_at}
use Rattle.ir_bytes.specs.Works.{laid_out, value_works, field_works, greatest, struct_works, weight, weights, load, AreWorks, AreAligned, Lays, Advances}

-- ---- what is to come

values_laid : (m : Items) (so : List Byte) (es : List Element) (works : List Work) → laid_out m so (value_works es ++ works) ≡ laid_out m (so ++ array_bytes m (elements_at m.names es)) works
values_laid m so [] works = ap (λ b. laid_out m b works) (sym (append-nil so))
values_laid m so (e ∷ es) works =
    values_laid m (so ++ bytes_at m e.of e.value) es works ∙ ap (λ b. laid_out m b works) (append_assoc so (bytes_at m e.of e.value) (array_bytes m (elements_at m.names es)))

behind : (front part : List Byte) (align : ℕ) → (front ++ part) ++ zeros (gap (length (front ++ part) - length front) align) ≡ front ++ padded part align
behind front part align =
    let len : length (front ++ part) - length front ≡ length part = omega (arith, length-append front part) in
    rw len (append_assoc front part (zeros (gap (length part) align)))

struct_laid : (m : Items) (packed : Bool) (front part : List Byte) (align : ℕ) (es : List Element) (works : List Work)
    → laid_out m (front ++ part) (field_works m packed (length front) es ++ work.Padding (length front) (greatest m packed align es) ∷ works)
    ≡ laid_out m (front ++ struct_bytes m packed part align (elements_at m.names es)) works
struct_laid m packed front part align [] works = ap (λ b. laid_out m b works) (behind front part align)
struct_laid m packed front part align (e ∷ es) works =
    let a = aligned_in m packed (type_at m.names e.of) in
    let rest = field_works m packed (length front) es ++ work.Padding (length front) (greatest m packed (max align a) es) ∷ works in
    ap (λ b. laid_out m (b ++ bytes_at m e.of e.value) rest) (behind front part a)
    ∙ ap (λ b. laid_out m b rest) (append_assoc front (padded part a) (bytes_at m e.of e.value))
    ∙ struct_laid m packed front (padded part a ++ bytes_at m e.of e.value) (max align a) es works

whole_struct : (m : Items) (packed : Bool) (so : List Byte) (es : List Element) (works : List Work)
    → laid_out m so (struct_works m packed (length so) es ++ works) ≡ laid_out m (so ++ struct_bytes m packed [] 1 (elements_at m.names es)) works
whole_struct m packed so es works =
    ap (laid_out m so) (append_assoc (field_works m packed (length so) es) (work.Padding (length so) (greatest m packed 1 es) ∷ []) works)
    ∙ ap (λ b. laid_out m b (field_works m packed (length so) es ++ work.Padding (length so) (greatest m packed 1 es) ∷ works)) (sym (append-nil so))
    ∙ struct_laid m packed so [] 1 es works

-- ---- how much is to come

values_load : (m : Items) (es : List Element) (works : List Work) → load m (value_works es ++ works) < weights (elements_at m.names es) + load m works
values_load m [] works = omega arith
values_load m (e ∷ es) works = let less = values_load m es works in omega arith

fields_load : (m : Items) (packed : Bool) (start align : ℕ) (es : List Element) (works : List Work)
    → load m (field_works m packed start es ++ work.Padding start align ∷ works) ≤ weights (elements_at m.names es) + load m works
fields_load m packed start align [] works = omega arith
fields_load m packed start align (e ∷ es) works = let less = fields_load m packed start align es works in omega arith

-- ---- padding is to a multiple of an alignment

values_inside : (es : List Element) (works : List Work) → AreWorks works → AreWorks (value_works es ++ works)
values_inside [] works inside = inside
values_inside (e ∷ es) works inside = (tt, values_inside es works inside)

greatest_more : (m : Items) (packed : Bool) (align : ℕ) (es : List Element) → align ≤ greatest m packed align es
greatest_more m packed align [] = omega arith
greatest_more m packed align (e ∷ es) =
    let a = aligned_in m packed (type_at m.names e.of) in
    let more = greatest_more m packed (max align a) es in
    omega arith

fields_inside : (m : Items) (packed : Bool) (start align : ℕ) (es : List Element) (works : List Work) → AreAligned m packed es → 0 < align → AreWorks works
    → AreWorks (field_works m packed start es ++ work.Padding start align ∷ works)
fields_inside m packed start align [] works aligned some inside = (some, inside)
fields_inside m packed start align (e ∷ es) works aligned some inside = (aligned.0, (tt, fields_inside m packed start align es works aligned.1 some inside))

-- ---- one constant

module _ (m : Items) (e : Element) (so : List Byte) (works : List Work) (new : List Byte) (after : List Work) where
  leaf : (c : ConstantV) (b : List Byte) → constant_at m.names e.value ≡ c → bytes_of m (type_at m.names e.of) c ≡ b → weight c ≡ 1 → new ≡ so ++ b → after ≡ works → Advances m so (work.Value e) works new after
  leaf c b is bytes one laid same = record {
    same = rw (laid, same, is, bytes) refl;
    inside = λ inside. rw same inside;
    lighter = rw (same, is, one) (omega arith);
  }

  array : (es : List Element) → constant_at m.names e.value ≡ ArrayC (elements_at m.names es) → new ≡ so → after ≡ value_works es ++ works → Advances m so (work.Value e) works new after
  array es is laid put = record {
    same = rw (laid, put, is) (values_laid m so es works);
    inside = λ inside. rw put (values_inside es works inside);
    lighter = rw (put, is) (let less = values_load m es works in omega arith);
  }

  structure : (packed : Bool) (es : List Element) → constant_at m.names e.value ≡ StructC packed (elements_at m.names es) → AreAligned m packed es → new ≡ so
      → after ≡ struct_works m packed (length so) es ++ works → Advances m so (work.Value e) works new after
  structure packed es is aligned laid put =
      let flat : struct_works m packed (length so) es ++ works ≡ field_works m packed (length so) es ++ work.Padding (length so) (greatest m packed 1 es) ∷ works =
      append_assoc (field_works m packed (length so) es) (work.Padding (length so) (greatest m packed 1 es) ∷ []) works in
      let some : 0 < greatest m packed 1 es = let more = greatest_more m packed 1 es in omega arith in
      record {
        same = rw (laid, put, is) (whole_struct m packed so es works);
        inside = λ inside. rw (put, flat) (fields_inside m packed (length so) (greatest m packed 1 es) es works aligned some inside);
        lighter = rw (put, flat, is) (let less = fields_load m packed (length so) (greatest m packed 1 es) es works in omega arith);
      }

-- what a node laid down, or put before what is to come, is the constant's
pub lays_advances : (m : Items) (e : Element) (n : ConstantNode) (value : Option Fixed) (so new : List Byte) (works after : List Work) → IsTable m.names
    → slice_get m.names.constants e.value ≡ Some n → value ≡ fixed_at m e.of e.value → Lays m e.of value so works new after n → Advances m so (work.Value e) works new after
lays_advances m e constant.Zero value so new works after is known fixed lays =
    leaf m e so works new after ZeroC (zeros (size_in m (type_at m.names e.of))) (constant_is m.names e.value constant.Zero is known) refl refl lays.0 lays.1
lays_advances m e (constant.Text text) value so new works after is known fixed lays =
    leaf m e so works new after (TextC text) (map Num text) (constant_is m.names e.value (constant.Text text) is known) refl refl lays.0 lays.1
lays_advances m e (constant.Array es) value so new works after is known fixed lays =
    array m e so works new after es (constant_is m.names e.value (constant.Array es) is known) lays.0 lays.1
lays_advances m e (constant.Struct packed es) value so new works after is known fixed lays =
    structure m e so works new after packed es (constant_is m.names e.value (constant.Struct packed es) is known) lays.2 lays.0 lays.1
lays_advances m e (constant.Integer n) value so new works after is known fixed lays =
    let at = constant_is m.names e.value (constant.Integer n) is known in
    leaf m e so works new after (IntegerC n) (scalar_bytes value) at (ap scalar_bytes (sym (fixed ∙ ap (fixed_of m (type_at m.names e.of)) at))) refl lays.0 lays.1
lays_advances m e constant.Null value so new works after is known fixed lays =
    let at = constant_is m.names e.value constant.Null is known in
    leaf m e so works new after NullC (scalar_bytes value) at (ap scalar_bytes (sym (fixed ∙ ap (fixed_of m (type_at m.names e.of)) at))) refl lays.0 lays.1
lays_advances m e (constant.Name x) value so new works after is known fixed lays =
    let at = constant_is m.names e.value (constant.Name x) is known in
    leaf m e so works new after (NameC (name_at m.names x)) (scalar_bytes value) at (ap scalar_bytes (sym (fixed ∙ ap (fixed_of m (type_at m.names e.of)) at))) refl lays.0 lays.1
lays_advances m e (constant.Address of base es) value so new works after is known fixed lays =
    let at = constant_is m.names e.value (constant.Address of base es) is known in
    leaf m e so works new after (AddressC (type_at m.names of) (constant_at m.names base) (elements_at m.names es)) (scalar_bytes value) at (ap scalar_bytes (sym (fixed ∙ ap (fixed_of m (type_at m.names e.of)) at))) refl lays.0 lays.1

-- a number of no constant is taken for `null`
pub past_advances : (m : Items) (e : Element) (value : Option Fixed) (so new : List Byte) (works : List Work) → slice_get m.names.constants e.value ≡ None → value ≡ fixed_at m e.of e.value
    → new ≡ so ++ scalar_bytes value → Advances m so (work.Value e) works new works
past_advances m e value so new works missing fixed laid =
    let at = constant_past m.names e.value missing in
    leaf m e so works new works NullC (scalar_bytes value) at (ap scalar_bytes (sym (fixed ∙ ap (fixed_of m (type_at m.names e.of)) at))) refl laid refl
