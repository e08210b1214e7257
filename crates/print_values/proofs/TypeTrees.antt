-- Types with types in them that are printed, read back.
use Rattle.std.proofs.Common.{◌≡◌, ℕ, ◌^◌, ◌<◌, true, false, List, [], ◌∷◌, ◌++◌, None, Result, Ok, Err, refl, ap, subst, arith, append_assoc, inl, inr}
use Rattle.std.specs.Prelude.{not, ◌&&◌, ◌==◌, pos, codes}
use Rattle.std.proofs.lemmas.Bool.{cases_Bool}
use Rattle.ir_lex.specs.declared.token.TokenKind.{TokenKind}
use Rattle.ir_lex.specs.declared.token.TokenKind.TheVariants as kind
use Rattle.ir_lex.specs.declared.token.Form.TheVariants as form
use Rattle.ir_lex.specs.declared.token.Cause.{Cause}
use Rattle.ir_lex.specs.declared.token.Cause.TheVariants as causes
use Rattle.ir_lex.specs.declared.token.Integer.{Integer as Written}
use Rattle.ir_lex.specs.Spelling.{integer_of, limit_of}
use Rattle.ir_tree.specs.Trees.{TypeV, IntV, PtrV, VoidV, ArrayV, StructV, NamedV, TypesV, NoneV, MoreV}
use Rattle.ir_text.specs.Tokens.{TokenV}
use Rattle.ir_text.specs.Spelled.{one_token}
use Rattle.ir_text.specs.Repeated.{Both}
use Rattle.ir_text.specs.Types.{Known, not_negative, count, count_by}
use Rattle.ir_text.specs.TypeSpelled.{a_mark, a_type, some_fields, more_fields}
use Rattle.ir_printer.specs.Pieces.{Piece, Blank, Word, Mark, Number, within}
use Rattle.ir_printer.specs.Operands.{type_pieces, types_pieces}
use Rattle.print_tokens.specs.Standing.{is_plain_mark}
use Rattle.print_values.specs.Printed.{AreSound, Printed}
use Rattle.print_values.specs.Laws.{TypesReadBack}
use Rattle.print_values.proofs.Composing.{both_front, both_rest, one_sound, printed_one, printed_both, printed_blank}
use Rattle.print_values.proofs.Tokens.{mark_then, printed_mark, then_mark, plain_word, word_blank, first_item, next_item}
use Rattle.print_values.proofs.Numbers.{whole_back, below_limit}
use Rattle.print_values.proofs.Types.{simple_back}

-- ---- the count of an array

counted : (m : Written) (n : ℕ) → not_negative m ≡ Ok n → m.magnitude ≡ n
counted m n e =
    elim (cases_Bool (m.negative && not (m.magnitude == 0))) [
      | inl h ↦ let f : bad ≡ Ok n = rw h at e in absurd cc
      | inr h ↦ let f : Ok m.magnitude ≡ Ok n = rw h at e in cc
    ]
  where
    bad : Result ℕ Cause
    bad = Err causes.Number

count_limit : (k : TokenKind) (t : TokenV) (n : ℕ) → limit_of (form.Token k) t.text ≡ None → count_by k t ≡ Ok n → n < 2 ^ 128
unfolding limit_of
count_limit kind.Integer t n limit e = let m = counted (integer_of t.text) n e in let b = below_limit t.text limit in rw (← m) b
count_limit kind.Word t n limit e = absurd cc
count_limit kind.GlobalName t n limit e = absurd cc
count_limit kind.LocalName t n limit e = absurd cc
count_limit kind.Label t n limit e = absurd cc
count_limit kind.Text t n limit e = absurd cc
count_limit kind.Punct t n limit e = absurd cc

count_back : (n : ℕ) → n < 2 ^ 128 → Printed (one_token count n) (Number (pos n) ∷ [])
count_back n lt = printed_one (Number (pos n)) kind.Integer refl lt (λ line. ap not_negative (whole_back n (omega arith)))

counts_back : (n : ℕ) (ws : List TokenV) → AreSound ws → one_token count n ws → Printed (one_token count n) (Number (pos n) ∷ [])
counts_back n ws s o = let sound = one_sound s o in count_back n (count_limit o.token.kind o.token n sound.limits o.is)

-- ---- arrays

array_back : (known : Known) (n : ℕ) (of : TypeV) (ws : List TokenV) (ps : List Piece) → AreSound ws → a_type known (ArrayV n of) ws
    → ((us : List TokenV) → AreSound us → a_type known of us → Printed (a_type known of) ps)
    → Printed (a_type known (ArrayV n of)) (Mark 91 ∷ Number (pos n) ∷ Blank ∷ Word (codes "x") ∷ Blank ∷ ps ++ Mark 93 ∷ [])
unfolding is_plain_mark plain_word
array_back known n of ws ps s b inner =
    let s1 = both_rest s b in
    let s2 = both_rest s1 b.rest_spells in
    let s3 = both_rest s2 b.rest_spells.rest_spells in
    let element = inner b.rest_spells.rest_spells.rest_spells.front (both_front s3 b.rest_spells.rest_spells.rest_spells) b.rest_spells.rest_spells.rest_spells.first_spells in
    let number = counts_back n b.rest_spells.front (both_front s1 b.rest_spells) b.rest_spells.first_spells in
    let times = word_blank (codes "x") (ps ++ Mark 93 ∷ []) refl (then_mark ps 93 refl element) in
    mark_then 91 (Number (pos n) ∷ Blank ∷ Word (codes "x") ∷ Blank ∷ ps ++ Mark 93 ∷ []) refl
    (printed_both (Number (pos n) ∷ []) (Blank ∷ Word (codes "x") ∷ Blank ∷ ps ++ Mark 93 ∷ []) number (printed_blank (Word (codes "x") ∷ Blank ∷ ps ++ Mark 93 ∷ []) times))

-- ---- structs

-- between `<{` and `}>`
packed_pieces : (known : Known) (fields : TypesV) (ps : List Piece) → Printed (some_fields known fields) (ps ++ Mark 125 ∷ []) → Printed (a_type known (StructV true fields)) (Mark 60 ∷ Mark 123 ∷ ps ++ Mark 125 ∷ Mark 62 ∷ [])
unfolding is_plain_mark
packed_pieces known fields ps p =
    let e : Printed (Both (some_fields known fields) (a_mark 62)) (ps ++ Mark 125 ∷ Mark 62 ∷ []) =
    subst (Printed (Both (some_fields known fields) (a_mark 62))) (append_assoc ps (Mark 125 ∷ []) (Mark 62 ∷ [])) (then_mark (ps ++ Mark 125 ∷ []) 62 refl p) in
    mark_then 60 (Mark 123 ∷ ps ++ Mark 125 ∷ Mark 62 ∷ []) refl (mark_then 123 (ps ++ Mark 125 ∷ Mark 62 ∷ []) refl e)

closing_brace : Printed (a_mark 125) (Mark 125 ∷ [])
unfolding is_plain_mark
closing_brace = printed_mark 125 refl

open_brace : {others : List TokenV → Type 0} (ps : List Piece) → Printed others ps → Printed (Both (a_mark 123) others) (Mark 123 ∷ ps)
unfolding is_plain_mark
open_brace ps p = mark_then 123 ps refl p

mutual
  unfolding type_pieces types_pieces

  pub type_back : (known : Known) (of : TypeV) (ws : List TokenV) → AreSound ws → a_type known of ws → Printed (a_type known of) (type_pieces of)
  type_back known (IntV w) ws s o = simple_back known (IntV w) ws s o
  type_back known PtrV ws s o = simple_back known PtrV ws s o
  type_back known VoidV ws s o = absurd o
  type_back known (NamedV name) ws s o = simple_back known (NamedV name) ws s o
  type_back known (ArrayV n of) ws s b = array_back known n of ws (type_pieces of) s b (λ us t e. type_back known of us t e)
  type_back known (StructV false fields) ws s b = open_brace (within false (types_pieces fields) ++ Mark 125 ∷ []) (some_back known fields b.rest (both_rest s b) b.rest_spells)
  type_back known (StructV true fields) ws s b =
      packed_pieces known fields (within false (types_pieces fields))
      (some_back known fields b.rest_spells.rest_spells.front (both_front (both_rest (both_rest s b) b.rest_spells) b.rest_spells.rest_spells) b.rest_spells.rest_spells.first_spells)

  some_back : (known : Known) (fields : TypesV) (ws : List TokenV) → AreSound ws → some_fields known fields ws → Printed (some_fields known fields) (within false (types_pieces fields) ++ Mark 125 ∷ [])
  some_back known NoneV ws s o = closing_brace
  some_back known (MoreV type rest) ws s b =
      first_item (type_pieces type) (within true (types_pieces rest)) (Mark 125 ∷ []) (type_back known type b.front (both_front s b) b.first_spells) (more_back known rest b.rest (both_rest s b) b.rest_spells)

  more_back : (known : Known) (fields : TypesV) (ws : List TokenV) → AreSound ws → more_fields known fields ws → Printed (more_fields known fields) (within true (types_pieces fields) ++ Mark 125 ∷ [])
  more_back known NoneV ws s o = printed_blank (Mark 125 ∷ []) closing_brace
  more_back known (MoreV type rest) ws s b =
      next_item (type_pieces type) (within true (types_pieces rest)) (Mark 125 ∷ [])
      (type_back known type b.rest_spells.front (both_front (both_rest s b) b.rest_spells) b.rest_spells.first_spells)
      (more_back known rest b.rest_spells.rest (both_rest (both_rest s b) b.rest_spells) b.rest_spells.rest_spells)

pub types_back : TypesReadBack
types_back = type_back
