-- Constants of one token that are printed, read back.
use Rattle.std.proofs.Common.{◌≡◌, ℕ, ◌-◌, ◌^◌, ◌<◌, false, List, [], ◌∷◌, length, drop, Option, Some, None, Result, Ok, Err, refl, sym, ap, subst, ◌∙◌, arith, inl, inr}
use Rattle.std.specs.Prelude.{nat_abs, nat_eq, nat_le, ◌&&◌, codes}
use Rattle.std.specs.Fmt.{signed_decimal}
use Rattle.std.proofs.lemmas.Bool.{cases_Bool, cases_lt}
use Rattle.std.proofs.lemmas.Bool.Decides.{nat_tests}
use Rattle.std.proofs.lemmas.List.Elements.{All-take, All-drop}
use Rattle.pv_base.specs.declared.name.Name.{Name}
use Rattle.ir_lex.specs.declared.token.TokenKind.{TokenKind}
use Rattle.ir_lex.specs.declared.token.TokenKind.TheVariants as kind
use Rattle.ir_lex.specs.declared.token.Cause.{Cause}
use Rattle.ir_lex.specs.declared.token.Cause.TheVariants as causes
use Rattle.ir_lex.specs.declared.token.Integer.{Integer as Written}
use Rattle.ir_lex.specs.Spelling.{integer_of, decoded, unquoted, IsNameKind}
use Rattle.int_num.specs.Integer.{Integer, IsWidth, signed}
use Rattle.ir_tree.specs.Trees.{TypeV, IntV, PtrV, VoidV, ArrayV, StructV, NamedV}
use Rattle.ir_tree.specs.Trees.{ConstantV, IntegerC, NullC, ZeroC, TextC, ArrayC, StructC, NameC, AddressC}
use Rattle.ir_text.specs.Tokens.{TokenV, same}
use Rattle.ir_text.specs.Reading.{Meaning}
use Rattle.ir_text.specs.Spelled.{one_token}
use Rattle.ir_text.specs.Leaves.{spelled_name, string, text_by}
use Rattle.ir_text.specs.Constants.{width_of, integer_in, some_constant, word_constant, simple_by, simple_constant}
use Rattle.ir_printer.specs.Pieces.{Piece, Word, Global, Number, Quote}
use Rattle.ir_printer.specs.Operands.{integer_piece, constant_pieces}
use Rattle.print_tokens.specs.Standing.{AreBytes, NameFits}
use Rattle.print_tokens.proofs.Decoding.{decoded_quoted}
use Rattle.print_values.specs.Printed.{IsSound, AreSound, Printed}
use Rattle.print_values.proofs.Composing.{one_sound, printed_one}
use Rattle.print_values.proofs.Tokens.{plain_word, word_fits}
use Rattle.print_values.proofs.Names.{names_back, names_fit, decoded_small}
use Rattle.print_values.proofs.Numbers.{OfWidth, in_width, integer_back, integer_fits}

-- the width at which a constant of a type is written
pub width_fits : (of : TypeV) → IsWidth (width_of of)
width_fits (IntV w) =
    elim (cases_Bool (nat_le 1 w && nat_le w 64)) [
      | inl h ↦ rw h (record { positive = grind (arith, nat_tests); most = grind (arith, nat_tests) })
      | inr h ↦ rw h (record { positive = omega arith; most = omega arith })
    ]
width_fits PtrV = record { positive = omega arith; most = omega arith }
width_fits VoidV = record { positive = omega arith; most = omega arith }
width_fits (ArrayV n of) = record { positive = omega arith; most = omega arith }
width_fits (StructV packed fields) = record { positive = omega arith; most = omega arith }
width_fits (NamedV name) = record { positive = omega arith; most = omega arith }

-- ---- integers

abbrev bit : ℕ → Integer
bit b = record { width = 1; bits = b }

-- an integer that a token spells at a width: `false`, `true`, or one of the width
data Spelled (w : ℕ) (n : Integer) : Type 0 where
  False : bit 0 ≡ n → Spelled w n
  True : bit 1 ≡ n → Spelled w n
  Wide : nat_eq n.width 1 ≡ false → OfWidth w n → Spelled w n

bit_is : (n : Integer) (b : ℕ) → n.width ≡ 1 → n.bits ≡ b → bit b ≡ n
bit_is n b e f = sym (ap (λ (k : ℕ). record { width = k; bits = n.bits }) e ∙ ap (λ (k : ℕ). record { width = 1; bits = k }) f)

spelled_of : (w : ℕ) (n : Integer) → OfWidth w n → Spelled w n
spelled_of w n o =
    elim (cases_Bool (nat_eq n.width 1)) [
      | inr more ↦ Wide more o
      | inl one ↦
          let e : n.width ≡ 1 = grind (arith, nat_tests) in
          let f : n.width ≡ w = ap (λ (i : Integer). i.width) o.is in
          let g : n.bits < 2 ^ 1 = subst (λ (k : ℕ). n.bits < 2 ^ k) (sym f ∙ e) o.bits in
          elim (cases_lt n.bits 1) [
            | inl low ↦ False (bit_is n 0 e (omega arith))
            | inr high ↦ True (bit_is n 1 e (omega arith))
          ]
    ]

-- ---- what a token spells

abbrev Single : ℕ → ConstantV → Type 0
Single w (IntegerC n) = Spelled w n
Single w NullC = Unit {0}
Single w ZeroC = Unit {0}
Single w (NameC name) = NameFits name
Single w _ = ⊥

module _ (w : ℕ) (width : IsWidth w) where
  some_single : (m : Written) (c : ConstantV) (o : Option Integer) → integer_in w m ≡ o → some_constant o ≡ Ok c → Single w c
  some_single m c None is e = absurd cc
  some_single m c (Some n) is e = let f : IntegerC n ≡ c = cc in subst (Single w) f (spelled_of w n (in_width w width m n is))

  word_single : (text : List ℕ) (c : ConstantV) → word_constant text ≡ Ok c → Single w c
  unfolding word_constant
  word_single text c e =
      elim (cases_Bool (same text (codes "true"))) [
        | inl h ↦ let f : Ok (IntegerC (bit 1)) ≡ Ok c = rw h at e in let g : IntegerC (bit 1) ≡ c = cc in subst (Single w) g (True refl)
        | inr h ↦ elim (cases_Bool (same text (codes "false"))) [
          | inl i ↦ let f : Ok (IntegerC (bit 0)) ≡ Ok c = rw (h, i) at e in let g : IntegerC (bit 0) ≡ c = cc in subst (Single w) g (False refl)
          | inr i ↦ elim (cases_Bool (same text (codes "null"))) [
            | inl j ↦ let f : Ok NullC ≡ Ok c = rw (h, i, j) at e in let g : NullC ≡ c = cc in subst (Single w) g tt
            | inr j ↦ elim (cases_Bool (same text (codes "zeroinitializer"))) [
              | inl k ↦ let f : Ok ZeroC ≡ Ok c = rw (h, i, j, k) at e in let g : ZeroC ≡ c = cc in subst (Single w) g tt
              | inr k ↦ let f : bad ≡ Ok c = rw (h, i, j, k) at e in absurd cc
            ]
          ]
        ]
      ]
    where
      bad : Result ConstantV Cause
      bad = Err causes.Operand

  kind_single : (k : TokenKind) (t : TokenV) (c : ConstantV) → IsSound t → t.kind ≡ k → simple_by w k t ≡ Ok c → Single w c
  kind_single kind.Integer t c sound is e = some_single (integer_of t.text) c (integer_in w (integer_of t.text)) refl e
  kind_single kind.Word t c sound is e = word_single t.text c e
  kind_single kind.GlobalName t c sound is e = let f : NameC (spelled_name t) ≡ c = cc in subst (Single w) f (names_fit t sound (subst IsNameKind (sym is) tt))
  kind_single kind.LocalName t c sound is e = absurd cc
  kind_single kind.Label t c sound is e = absurd cc
  kind_single kind.Text t c sound is e = absurd cc
  kind_single kind.Punct t c sound is e = absurd cc

  -- ---- and what is printed of it

  module _ {D : Type 0} (means : Meaning D) (d : D) where
    integer_printed : (n : Integer) → Spelled w n → ((t : TokenV) → simple_constant w t ≡ Ok (IntegerC n) → means t ≡ Ok d) → Printed (one_token means d) (integer_piece n ∷ [])
    unfolding integer_piece plain_word word_constant
    integer_printed n (False e) reads =
        subst (λ (p : Piece). Printed (one_token means d) (p ∷ [])) (ap integer_piece e)
        (printed_one (Word (codes "false")) kind.Word refl (word_fits (codes "false") refl) (λ line. reads _ (ap (λ (m : Integer). Ok (IntegerC m)) e)))
    integer_printed n (True e) reads =
        subst (λ (p : Piece). Printed (one_token means d) (p ∷ [])) (ap integer_piece e)
        (printed_one (Word (codes "true")) kind.Word refl (word_fits (codes "true") refl) (λ line. reads _ (ap (λ (m : Integer). Ok (IntegerC m)) e)))
    integer_printed n (Wide more o) reads =
        let fits : nat_abs (signed n) < 2 ^ 128 = subst (λ (m : Integer). nat_abs (signed m) < 2 ^ 128) (sym o.is) (integer_fits w width n.bits o.bits) in
        let back : integer_in w (integer_of (signed_decimal (signed n))) ≡ Some n = subst (λ (m : Integer). integer_in w (integer_of (signed_decimal (signed m))) ≡ Some m) (sym o.is) (integer_back w width n.bits o.bits) in
        let p : Printed (one_token means d) (Number (signed n) ∷ []) = printed_one (Number (signed n)) kind.Integer refl fits (λ line. reads _ (ap some_constant back)) in
        rw more p

    single_printed : (c : ConstantV) → Single w c → ((t : TokenV) → simple_constant w t ≡ Ok c → means t ≡ Ok d) → Printed (one_token means d) (constant_pieces c)
    unfolding constant_pieces plain_word word_constant
    single_printed (IntegerC n) p reads = integer_printed n p reads
    single_printed NullC p reads = printed_one (Word (codes "null")) kind.Word refl (word_fits (codes "null") refl) (λ line. reads _ refl)
    single_printed ZeroC p reads = printed_one (Word (codes "zeroinitializer")) kind.Word refl (word_fits (codes "zeroinitializer") refl) (λ line. reads _ refl)
    single_printed (NameC name) p reads = printed_one (Global name) kind.GlobalName refl p (λ line. reads _ (ap (λ (x : Name). Ok (NameC x)) ((names_back name p).global line)))
    single_printed (TextC bytes) p reads = absurd p
    single_printed (ArrayC elements) p reads = absurd p
    single_printed (StructC packed fields) p reads = absurd p
    single_printed (AddressC of base indices) p reads = absurd p

  -- what reads the tokens of such a constant as something reads what is printed of it as the same
  pub single_back : {D : Type 0} (means : Meaning D) (d : D) (c : ConstantV) (ws : List TokenV) → AreSound ws → one_token (simple_constant w) c ws
      → ((t : TokenV) → simple_constant w t ≡ Ok c → means t ≡ Ok d) → Printed (one_token means d) (constant_pieces c)
  single_back means d c ws s o reads = single_printed means d c (kind_single o.token.kind o.token c (one_sound s o) refl o.is) reads

-- ---- strings

text_bytes : (k : TokenKind) (t : TokenV) (bytes : List ℕ) → IsSound t → text_by k t ≡ Ok bytes → AreBytes bytes
text_bytes kind.Text t bytes sound e =
    let f : decoded (unquoted t.text) ≡ bytes = cc in
    subst AreBytes f (decoded_small (unquoted t.text) 0 (All-take (λ b. b < 256) (length t.text - 2) (drop 1 t.text) (All-drop (λ b. b < 256) 1 t.text sound.bytes)))
text_bytes kind.Word t bytes sound e = absurd cc
text_bytes kind.GlobalName t bytes sound e = absurd cc
text_bytes kind.LocalName t bytes sound e = absurd cc
text_bytes kind.Label t bytes sound e = absurd cc
text_bytes kind.Integer t bytes sound e = absurd cc
text_bytes kind.Punct t bytes sound e = absurd cc

pub string_back : (bytes : List ℕ) (ws : List TokenV) → AreSound ws → one_token string bytes ws → Printed (one_token string bytes) (Quote bytes ∷ [])
string_back bytes ws s o =
    let fits = text_bytes o.token.kind o.token bytes (one_sound s o) o.is in
    printed_one (Quote bytes) kind.Text refl fits (λ line. ap Ok (decoded_quoted bytes fits))
