-- Indices of constant addresses that are printed, read back.
use Rattle.std.proofs.Common.{◌≡◌, ℕ, true, List, ◌∷◌, ◌++◌, Option, Some, None, Result, Ok, Err, refl, sym, ap, subst, ◌∙◌, arith, inl, inr}
use Rattle.std.specs.Prelude.{nat_eq, if◌then◌else◌, is_some, codes}
use Rattle.std.proofs.lemmas.Bool.{cases_Bool}
use Rattle.ir_lex.specs.declared.token.TokenKind.{TokenKind}
use Rattle.ir_lex.specs.declared.token.TokenKind.TheVariants as kind
use Rattle.ir_lex.specs.declared.token.Cause.{Cause}
use Rattle.ir_lex.specs.declared.token.Cause.TheVariants as causes
use Rattle.int_num.specs.Integer.{IsWidth}
use Rattle.ir_tree.specs.Layouts.{field_type}
use Rattle.ir_tree.specs.Trees.{TypeV, TypesV}
use Rattle.ir_tree.specs.Trees.{ConstantV}
use Rattle.ir_text.specs.Tokens.{TokenV, same, word_is}
use Rattle.ir_text.specs.Spelled.{one_token}
use Rattle.ir_text.specs.Repeated.{Both}
use Rattle.ir_text.specs.Types.{word_type, register_type, register_by}
use Rattle.ir_text.specs.Indices as index
use Rattle.ir_text.specs.Indices.{Entry, Counted, Field, Never, entry_of, led_to, of_32_bits, field_number, one_of_fields}
use Rattle.ir_text.specs.Constants.{width_of, simple_constant}
use Rattle.ir_text.specs.ConstantSpelled.{an_index}
use Rattle.ir_printer.specs.Pieces.{Piece, Blank}
use Rattle.ir_printer.specs.Operands.{type_pieces, constant_pieces}
use Rattle.print_values.specs.Printed.{AreSound, Printed}
use Rattle.print_values.proofs.Composing.{both_rest, printed_both, printed_blank}
use Rattle.print_values.proofs.Types.{Counting, counting_plain, word_counting, int_word_other, register_plain, plain_back}
use Rattle.print_values.proofs.Constants.{single_back}

-- ---- types of indices

counting_by : (k : TokenKind) (t : TokenV) (of : TypeV) → (if word_is (codes "ptr") k t.text then Err causes.Operand else register_by k t) ≡ Ok of → Counting of
counting_by kind.Word t of e =
    elim (cases_Bool (same t.text (codes "ptr"))) [
      | inl h ↦ let f : bad ≡ Ok of = rw h at e in absurd cc
      | inr h ↦ let f : word_type t.text ≡ Ok of = rw h at e in word_counting t.text of h f
    ]
  where
    bad : Result TypeV Cause
    bad = Err causes.Operand
counting_by kind.GlobalName t of e = absurd cc
counting_by kind.LocalName t of e = absurd cc
counting_by kind.Label t of e = absurd cc
counting_by kind.Integer t of e = absurd cc
counting_by kind.Text t of e = absurd cc
counting_by kind.Punct t of e = absurd cc

counting_read : (text : List ℕ) (of : TypeV) → Counting of → word_type text ≡ Ok of → (if same text (codes "ptr") then Err causes.Operand else word_type text) ≡ Ok of
counting_read text of c e = let h = int_word_other text of c e in rw h e

pub counting_back : (of : TypeV) (ws : List TokenV) → one_token index.integer_type of ws → Printed (one_token index.integer_type of) (type_pieces of)
counting_back of ws o =
    let c = counting_by o.token.kind o.token of o.is in
    plain_back index.integer_type of (counting_plain of c) (λ text line other e. counting_read text of c e)

-- of 32 bits
of_32 : (r : Result TypeV Cause) (of : TypeV) → of_32_bits r ≡ Ok of → (r ≡ Ok of) × (nat_eq (width_of of) 32 ≡ true)
of_32 (Err cause) of e = absurd cc
of_32 (Ok x) of e =
    elim (cases_Bool (nat_eq (width_of x) 32)) [
      | inl h ↦ let f : Ok x ≡ Ok of = rw h at e in let g : x ≡ of = cc in (f, ap (λ (y : TypeV). nat_eq (width_of y) 32) (sym g) ∙ h)
      | inr h ↦ let f : bad ≡ Ok of = rw h at e in absurd cc
    ]
  where
    bad : Result TypeV Cause
    bad = Err causes.Operand

of_32_read : (r : Result TypeV Cause) (of : TypeV) → nat_eq (width_of of) 32 ≡ true → r ≡ Ok of → of_32_bits r ≡ Ok of
of_32_read r of h e = ap of_32_bits e ∙ (rw h refl)

word_32_back : (of : TypeV) (ws : List TokenV) → one_token index.word_of_32 of ws → Printed (one_token index.word_of_32 of) (type_pieces of)
word_32_back of ws o =
    let h = of_32 (register_type o.token) of o.is in
    plain_back index.word_of_32 of (register_plain o.token.kind o.token of h.0) (λ text line other e. of_32_read (word_type text) of h.1 e)

-- ---- the number of a field

field_one : (fields : TypesV) (c d : ConstantV) (i : Option ℕ) → one_of_fields fields c i ≡ Ok d → c ≡ d
field_one fields c d None e = absurd cc
field_one fields c d (Some i) e =
    elim (cases_Bool (is_some (field_type fields i))) [
      | inl h ↦ let f : Ok c ≡ Ok d = rw h at e in cc
      | inr h ↦ let f : bad ≡ Ok d = rw h at e in absurd cc
    ]
  where
    bad : Result ConstantV Cause
    bad = Err causes.Number

field_of : (fields : TypesV) (r : Result ConstantV Cause) (d : ConstantV) → index.field_by fields r ≡ Ok d → (r ≡ Ok d) × (index.field_by fields (Ok d) ≡ Ok d)
field_of fields (Err cause) d e = absurd cc
field_of fields (Ok c) d e = let g = field_one fields c d (field_number c) e in (ap Ok g, subst (λ (x : ConstantV). index.field_by fields (Ok x) ≡ Ok d) g e)

width_32 : IsWidth 32
width_32 = record { positive = omega arith; most = omega arith }

field_back : (fields : TypesV) (c : ConstantV) (ws : List TokenV) → AreSound ws → one_token (index.field fields) c ws → Printed (one_token (index.field fields) c) (constant_pieces c)
field_back fields c ws s o =
    let h = field_of fields (simple_constant 32 o.token) c o.is in
    single_back 32 width_32 (index.field fields) c c ws s (record { token = o.token; parts = o.parts; is = h.0 }) (λ t e. ap (index.field_by fields) e ∙ h.1)

-- a type, and a value at it
pub item_back : {first others : List TokenV → Type 0} (ts cs : List Piece) → Printed first ts → Printed others cs → Printed (Both first others) (ts ++ Blank ∷ cs)
item_back ts cs a b = printed_both ts (Blank ∷ cs) a (printed_blank cs b)

pub index_back : (e : Entry) (of : TypeV) (c : ConstantV) (value : List TokenV → Type 0) (ws : List TokenV) → AreSound ws → an_index e of c value ws
    → ((us : List TokenV) → AreSound us → value us → Printed value (constant_pieces c)) → Printed (an_index e of c value) (type_pieces of ++ Blank ∷ constant_pieces c)
index_back (Counted into) of c value ws s b inner = item_back (type_pieces of) (constant_pieces c) (counting_back of b.front b.first_spells) (inner b.rest (both_rest s b) b.rest_spells)
index_back (Field fields) of c value ws s b inner = item_back (type_pieces of) (constant_pieces c) (word_32_back of b.front b.first_spells) (field_back fields c b.rest (both_rest s b) b.rest_spells)
index_back Never of c value ws s b inner = absurd b
