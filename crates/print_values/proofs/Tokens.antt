-- Marks and words, printed.
use Rattle.std.proofs.Common.{◌≡◌, ℕ, Bool, true, false, List, [], ◌∷◌, ◌++◌, Ok, refl, sym, ap, subst, ◌∙◌, append_assoc}
use Rattle.std.specs.Prelude.{◌&&◌, codes}
use Rattle.std.specs.List.{list_all}
use Rattle.std.proofs.lemmas.Bool.{and_parts}
use lib.Pointwise.{bytes_decides}
use Rattle.ir_lex.specs.declared.token.TokenKind.TheVariants as kind
use Rattle.ir_lex.specs.declared.token.Cause.TheVariants as causes
use Rattle.ir_lex.specs.Classes.{is_word_start, is_word_byte, is_letter, is_digit}
use Rattle.ir_lex.specs.Cut.{Each}
use Rattle.ir_text.specs.Tokens.{TokenV, same}
use Rattle.ir_text.specs.Leaves.{tested}
use Rattle.ir_text.specs.Repeated.{Both}
use Rattle.ir_text.specs.TypeSpelled.{a_mark, a_word}
use Rattle.ir_printer.specs.Pieces.{Piece, Blank, Word, Mark, comma}
use Rattle.ir_printer.specs.Operands.{address_head, pointer_lead}
use Rattle.print_tokens.specs.Standing.{is_plain_mark, PieceFits}
use Rattle.print_values.specs.Printed.{Printed}
use Rattle.print_values.proofs.Composing.{printed_one, printed_both, printed_blank}

pub same_self : (bs : List ℕ) → same bs bs ≡ true
same_self bs = (bytes_decides bs bs).1 refl

passes : (b : Bool) → b ≡ true → tested b causes.Operand ≡ Ok tt
passes true e = refl
passes false e = absurd cc

-- ---- marks

pub printed_mark : (b : ℕ) → is_plain_mark b ≡ true → Printed (a_mark b) (Mark b ∷ [])
printed_mark b e = printed_one (Mark b) kind.Punct refl e (λ line. passes (same (b ∷ []) (b ∷ [])) (same_self (b ∷ [])))

-- a mark, and then others
pub mark_then : {others : List TokenV → Type 0} (b : ℕ) (qs : List Piece) → is_plain_mark b ≡ true → Printed others qs → Printed (Both (a_mark b) others) (Mark b ∷ qs)
mark_then b qs e p = printed_both (Mark b ∷ []) qs (printed_mark b e) p

-- a mark, a blank and then others
pub mark_blank : {others : List TokenV → Type 0} (b : ℕ) (qs : List Piece) → is_plain_mark b ≡ true → Printed others qs → Printed (Both (a_mark b) others) (Mark b ∷ Blank ∷ qs)
mark_blank b qs e p = mark_then b (Blank ∷ qs) e (printed_blank qs p)

-- some pieces, and then a mark
pub then_mark : {first : List TokenV → Type 0} (ps : List Piece) (b : ℕ) → is_plain_mark b ≡ true → Printed first ps → Printed (Both first (a_mark b)) (ps ++ Mark b ∷ [])
then_mark ps b e p = printed_both ps (Mark b ∷ []) p (printed_mark b e)

-- ---- words

-- the bytes of a word
unfoldable pub plain_word : List ℕ → Bool
unfolding is_word_start is_word_byte is_letter is_digit
plain_word [] = false
plain_word (b ∷ bs) = is_word_start b && list_all is_word_byte bs

each_word : (bs : List ℕ) → list_all is_word_byte bs ≡ true → Each is_word_byte bs
each_word [] e = tt
each_word (b ∷ bs) e = let h = and_parts (is_word_byte b) (list_all is_word_byte bs) e in (h.0, each_word bs h.1)

pub word_fits : (bs : List ℕ) → plain_word bs ≡ true → PieceFits (Word bs)
unfolding plain_word
word_fits [] e = absurd cc
word_fits (b ∷ bs) e = let h = and_parts (is_word_start b) (list_all is_word_byte bs) e in record { head = b; tail = bs; is = refl; begins = h.0; goes_on = each_word bs h.1 }

pub printed_word : (bs : List ℕ) → plain_word bs ≡ true → Printed (a_word bs) (Word bs ∷ [])
printed_word bs e = printed_one (Word bs) kind.Word refl (word_fits bs e) (λ line. passes (same bs bs) (same_self bs))

-- a word, and then others
pub word_then : {others : List TokenV → Type 0} (bs : List ℕ) (qs : List Piece) → plain_word bs ≡ true → Printed others qs → Printed (Both (a_word bs) others) (Word bs ∷ qs)
word_then bs qs e p = printed_both (Word bs ∷ []) qs (printed_word bs e) p

-- a word, a blank and then others
pub word_blank : {others : List TokenV → Type 0} (bs : List ℕ) (qs : List Piece) → plain_word bs ≡ true → Printed others qs → Printed (Both (a_word bs) others) (Word bs ∷ Blank ∷ qs)
word_blank bs qs e p = word_then bs (Blank ∷ qs) e (printed_blank qs p)

-- ---- lists with commas

pub printed_grouped : {s : List TokenV → Type 0} (ps qs rs : List Piece) → Printed s (ps ++ (qs ++ rs)) → Printed s ((ps ++ qs) ++ rs)
printed_grouped {s} ps qs rs p = subst (Printed s) (sym (append_assoc ps qs rs)) p

-- the first item behind a blank, and then what stands behind it
pub first_item : {first others : List TokenV → Type 0} (ps qs rs : List Piece) → Printed first ps → Printed others (qs ++ rs) → Printed (Both first others) ((Blank ∷ ps ++ qs) ++ rs)
first_item ps qs rs a b = printed_blank ((ps ++ qs) ++ rs) (printed_grouped ps qs rs (printed_both ps (qs ++ rs) a b))

-- an item behind a comma, and then what stands behind it
pub next_item : {first others : List TokenV → Type 0} (ps qs rs : List Piece) → Printed first ps → Printed others (qs ++ rs) → Printed (Both (a_mark 44) (Both first others)) ((comma ++ ps ++ qs) ++ rs)
unfolding is_plain_mark
next_item ps qs rs a b = mark_blank 44 ((ps ++ qs) ++ rs) refl (printed_grouped ps qs rs (printed_both ps (qs ++ rs) a b))

-- ---- addresses

-- `getelementptr (`, a type, `, ptr `, a base, and what stands behind them
pub address_is : (ts bs rs : List Piece) → address_head ++ ts ++ pointer_lead ++ bs ++ rs ≡ Word (codes "getelementptr") ∷ Blank ∷ Mark 40 ∷ (ts ++ (Mark 44 ∷ Blank ∷ Word (codes "ptr") ∷ Blank ∷ (bs ++ rs)))
address_is ts bs rs = ap (λ (u : List Piece). address_head ++ u) (append_assoc (ts ++ pointer_lead) bs rs ∙ append_assoc ts pointer_lead (bs ++ rs))
