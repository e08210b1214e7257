-- Types that are printed, read back.
use Rattle.std.proofs.Common.{◌≡◌, ℕ, ◌<◌, ◌≤◌, Bool, true, false, List, [], ◌∷◌, length, drop, Result, Ok, Err, refl, sym, subst, arith, ◌⊎◌, inl, inr}
use Rattle.std.specs.Prelude.{◌&&◌, nat_le, if◌then◌else◌, is_some, codes, decimal}
use Rattle.std.specs.List.{prefix_len}
use Rattle.std.proofs.lemmas.Bool.{cases_Bool}
use Rattle.std.proofs.lemmas.Bool.Decides.{nat_tests}
use Rattle.std.proofs.lemmas.Fmt.{decimal_nonempty}
use Rattle.pv_base.specs.declared.name.Name.{Name}
use Rattle.ir_lex.specs.declared.token.TokenKind.{TokenKind}
use Rattle.ir_lex.specs.declared.token.TokenKind.TheVariants as kind
use Rattle.ir_lex.specs.declared.token.Cause.{Cause}
use Rattle.ir_lex.specs.declared.token.Cause.TheVariants as causes
use Rattle.ir_lex.specs.Classes.{is_digit, is_word_start, is_word_byte, is_letter}
use Rattle.ir_lex.specs.Cut.{Each}
use Rattle.ir_lex.specs.Spelling.{number, IsNameKind}
use Rattle.ir_tree.specs.Trees.{TypeV, IntV, PtrV, VoidV, ArrayV, StructV, NamedV}
use Rattle.ir_text.specs.Tokens.{TokenV, same}
use Rattle.ir_text.specs.Spelled.{one_token}
use Rattle.ir_text.specs.Leaves.{spelled_name}
use Rattle.ir_text.specs.Passed.{is_int_word}
use Rattle.ir_text.specs.Types.{Known, int_type, word_type, register_type, register_by, result_type, result_by, known_type, simple, simple_by}
use Rattle.ir_printer.specs.Pieces.{Word, Local}
use Rattle.ir_printer.specs.Operands.{type_pieces}
use Rattle.print_tokens.specs.Standing.{NameFits, PieceFits}
use Rattle.print_tokens.proofs.Decoding.{number_decimal}
use Rattle.print_values.specs.Printed.{IsSound, AreSound, Printed}
use Rattle.print_values.specs.Laws.{RegisterTypesReadBack, ResultTypesReadBack}
use Rattle.print_values.proofs.Composing.{one_sound, printed_one}
use Rattle.print_values.proofs.Tokens.{plain_word, word_fits}
use Rattle.print_values.proofs.Names.{names_back, names_fit, each_digit}

-- ---- words that are types

prefix_all : (p : ℕ → Bool) (ds : List ℕ) → Each p ds → prefix_len p ds ≡ length ds
prefix_all p [] all = refl
prefix_all p (d ∷ ds) all = let e = prefix_all p ds all.1 in rw all.0 (omega arith)

int_word : (w : ℕ) → w ≤ 64 → is_int_word (105 ∷ decimal w) ≡ true
unfolding is_int_word
int_word w most =
    let some : 0 < length (decimal w) = decimal_nonempty w (omega arith) in
    let e : prefix_len is_digit (decimal w) ≡ length (decimal w) = prefix_all is_digit (decimal w) (each_digit w (omega arith)) in
    grind (arith, nat_tests)

int_back : (w : ℕ) → 1 ≤ w → w ≤ 64 → word_type (105 ∷ decimal w) ≡ Ok (IntV w)
unfolding word_type int_type
int_back w least most =
    let a : nat_le 1 w ≡ true = grind (arith, nat_tests) in
    let b : nat_le w 64 ≡ true = grind (arith, nat_tests) in
    rw (int_word w most, number_decimal w (omega arith), a, b) refl

digit_byte : (b : ℕ) → is_digit b ≡ true → is_word_byte b ≡ true
unfolding is_word_byte is_word_start is_letter is_digit
digit_byte b e = grind (arith, nat_tests)

each_byte : (ds : List ℕ) → Each is_digit ds → Each is_word_byte ds
each_byte [] all = tt
each_byte (d ∷ ds) all = (digit_byte d all.0, each_byte ds all.1)

int_fits : (w : ℕ) → w ≤ 64 → PieceFits (Word (105 ∷ decimal w))
unfolding is_word_start is_letter
int_fits w most = record { head = 105; tail = decimal w; is = refl; begins = refl; goes_on = each_byte (decimal w) (each_digit w (omega arith)) }

-- a type that a word spells
abbrev pub Plain : TypeV → Type 0
Plain (IntV w) = (1 ≤ w) × (w ≤ 64)
Plain PtrV = Unit {0}
Plain _ = ⊥

-- of an integer
abbrev pub Counting : TypeV → Type 0
Counting (IntV w) = (1 ≤ w) × (w ≤ 64)
Counting _ = ⊥

pub counting_plain : (of : TypeV) → Counting of → Plain of
counting_plain (IntV w) p = p
counting_plain PtrV p = absurd p
counting_plain VoidV p = p
counting_plain (ArrayV n of) p = p
counting_plain (StructV packed fields) p = p
counting_plain (NamedV name) p = p

int_counting : (digits : List ℕ) (of : TypeV) → int_type digits ≡ Ok of → Counting of
unfolding int_type
int_counting digits of e =
    elim (cases_Bool (nat_le 1 (number digits) && nat_le (number digits) 64)) [
      | inl h ↦ let f : Ok (IntV (number digits)) ≡ Ok of = rw h at e in let g : IntV (number digits) ≡ of = cc in subst Counting g (grind (arith, nat_tests), grind (arith, nat_tests))
      | inr h ↦ let f : bad ≡ Ok of = rw h at e in absurd cc
    ]
  where
    bad : Result TypeV Cause
    bad = Err causes.Width

pub word_plain : (text : List ℕ) (of : TypeV) → word_type text ≡ Ok of → Plain of
unfolding word_type
word_plain text of e =
    elim (cases_Bool (same text (codes "ptr"))) [
      | inl h ↦ let f : Ok PtrV ≡ Ok of = rw h at e in let g : PtrV ≡ of = cc in subst Plain g tt
      | inr h ↦ elim (cases_Bool (is_int_word text)) [
        | inl i ↦ counting_plain of (int_counting (drop 1 text) of (rw (h, i) at e))
        | inr i ↦ let f : bad ≡ Ok of = rw (h, i) at e in absurd cc
      ]
    ]
  where
    bad : Result TypeV Cause
    bad = Err causes.BadType

-- a word but `ptr`
pub word_counting : (text : List ℕ) (of : TypeV) → same text (codes "ptr") ≡ false → word_type text ≡ Ok of → Counting of
unfolding word_type
word_counting text of other e =
    elim (cases_Bool (is_int_word text)) [
      | inl i ↦ int_counting (drop 1 text) of (rw (other, i) at e)
      | inr i ↦ let f : bad ≡ Ok of = rw (other, i) at e in absurd cc
    ]
  where
    bad : Result TypeV Cause
    bad = Err causes.BadType

-- and what is printed of an integer's type is none
pub int_word_other : (text : List ℕ) (of : TypeV) → Counting of → word_type text ≡ Ok of → same text (codes "ptr") ≡ false
unfolding word_type
int_word_other text of c e =
    elim (cases_Bool (same text (codes "ptr"))) [
      | inl h ↦ let f : Ok PtrV ≡ Ok of = rw h at e in let g : PtrV ≡ of = cc in absurd (subst Counting (sym g) c)
      | inr h ↦ h
    ]

-- what reads a word as a type reads what is printed of it
pub plain_back : (means : TokenV → Result TypeV Cause) (of : TypeV) → Plain of
    → ((text : List ℕ) (line : ℕ) → same text (codes "void") ≡ false → word_type text ≡ Ok of → means (record { kind = kind.Word; text = text; line = line }) ≡ Ok of)
    → Printed (one_token means of) (type_pieces of)
unfolding type_pieces plain_word word_type
plain_back means (IntV w) p reads = printed_one (Word (105 ∷ decimal w)) kind.Word refl (int_fits w p.1) (λ line. reads (105 ∷ decimal w) line refl (int_back w p.0 p.1))
plain_back means PtrV p reads = printed_one (Word (codes "ptr")) kind.Word refl (word_fits (codes "ptr") refl) (λ line. reads (codes "ptr") line refl refl)
plain_back means VoidV p reads = absurd p
plain_back means (ArrayV n of) p reads = absurd p
plain_back means (StructV packed fields) p reads = absurd p
plain_back means (NamedV name) p reads = absurd p

pub register_plain : (k : TokenKind) (t : TokenV) (of : TypeV) → register_by k t ≡ Ok of → Plain of
register_plain kind.Word t of e = word_plain t.text of e
register_plain kind.GlobalName t of e = absurd cc
register_plain kind.LocalName t of e = absurd cc
register_plain kind.Label t of e = absurd cc
register_plain kind.Integer t of e = absurd cc
register_plain kind.Text t of e = absurd cc
register_plain kind.Punct t of e = absurd cc

pub register_types_back : RegisterTypesReadBack
register_types_back of ws o = plain_back register_type of (register_plain o.token.kind o.token of o.is) (λ text line other e. e)

-- a type of a result: `void` too
void_or_plain : (text : List ℕ) (of : TypeV) → (if same text (codes "void") then Ok VoidV else word_type text) ≡ Ok of → (VoidV ≡ of) ⊎ Plain of
void_or_plain text of e =
    elim (cases_Bool (same text (codes "void"))) [
      | inl h ↦ let f : Ok VoidV ≡ Ok of = rw h at e in inl cc
      | inr h ↦ inr (word_plain text of (rw h at e))
    ]

result_plain : (k : TokenKind) (t : TokenV) (of : TypeV) → result_by k t ≡ Ok of → (VoidV ≡ of) ⊎ Plain of
result_plain kind.Word t of e = void_or_plain t.text of e
result_plain kind.GlobalName t of e = absurd cc
result_plain kind.LocalName t of e = absurd cc
result_plain kind.Label t of e = absurd cc
result_plain kind.Integer t of e = absurd cc
result_plain kind.Text t of e = absurd cc
result_plain kind.Punct t of e = absurd cc

void_back : Printed (one_token result_type VoidV) (type_pieces VoidV)
unfolding type_pieces plain_word
void_back = printed_one (Word (codes "void")) kind.Word refl (word_fits (codes "void") refl) (λ line. refl)

pub result_types_back : ResultTypesReadBack
result_types_back of ws o =
    elim (result_plain o.token.kind o.token of o.is) [
      | inl e ↦ subst (λ (x : TypeV). Printed (one_token result_type x) (type_pieces x)) e void_back
      | inr p ↦ plain_back result_type of p (λ text line other e. rw other e)
    ]

-- ---- types of one token

-- a type that one token spells
abbrev One : Known → TypeV → Type 0
One known (NamedV name) = NameFits name × (is_some (known name) ≡ true)
One known of = Plain of

named_one : (known : Known) (name : Name) (of : TypeV) → NameFits name → known_type known name ≡ Ok of → One known of
named_one known name of fits e =
    elim (cases_Bool (is_some (known name))) [
      | inl h ↦ let f : Ok (NamedV name) ≡ Ok of = rw h at e in let g : NamedV name ≡ of = cc in subst (One known) g (fits, h)
      | inr h ↦ let f : bad ≡ Ok of = rw h at e in absurd cc
    ]
  where
    bad : Result TypeV Cause
    bad = Err causes.BadType

plain_one : (known : Known) (of : TypeV) → Plain of → One known of
plain_one known (IntV w) p = p
plain_one known PtrV p = p
plain_one known VoidV p = p
plain_one known (ArrayV n of) p = p
plain_one known (StructV packed fields) p = p
plain_one known (NamedV name) p = absurd p

local_name : (t : TokenV) → IsSound t → t.kind ≡ kind.LocalName → NameFits (spelled_name t)
local_name t sound is = names_fit t sound (subst IsNameKind (sym is) tt)

simple_one : (known : Known) (k : TokenKind) (t : TokenV) (of : TypeV) → IsSound t → t.kind ≡ k → simple_by known k t ≡ Ok of → One known of
simple_one known kind.Word t of sound is e = plain_one known of (word_plain t.text of e)
simple_one known kind.LocalName t of sound is e = named_one known (spelled_name t) of (local_name t sound is) e
simple_one known kind.GlobalName t of sound is e = absurd cc
simple_one known kind.Label t of sound is e = absurd cc
simple_one known kind.Integer t of sound is e = absurd cc
simple_one known kind.Text t of sound is e = absurd cc
simple_one known kind.Punct t of sound is e = absurd cc

one_back : (known : Known) (of : TypeV) → One known of → Printed (one_token (simple known) of) (type_pieces of)
unfolding type_pieces
one_back known (IntV w) p = plain_back (simple known) (IntV w) p (λ text line other e. e)
one_back known PtrV p = plain_back (simple known) PtrV p (λ text line other e. e)
one_back known VoidV p = absurd p
one_back known (ArrayV n of) p = absurd p
one_back known (StructV packed fields) p = absurd p
one_back known (NamedV name) p = printed_one (Local name) kind.LocalName refl p.0 (λ line. let e = (names_back name p.0).local line in rw e (rw p.1 refl))

pub simple_back : (known : Known) (of : TypeV) (ws : List TokenV) → AreSound ws → one_token (simple known) of ws → Printed (one_token (simple known) of) (type_pieces of)
simple_back known of ws s o = one_back known of (simple_one known o.token.kind o.token of (one_sound s o) refl o.is)
