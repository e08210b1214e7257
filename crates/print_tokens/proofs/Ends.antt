-- Where a token ends: before a byte that goes on with none, or at the end of the text.
use Rattle.std.proofs.Common.{◌≡◌, ℕ, ◌+◌, Bool, true, false, cond, List, [], ◌∷◌, ◌++◌, length, get_or, refl, arith}
use Rattle.std.specs.Prelude.{◌==◌}
use Rattle.std.specs.List.{prefix_len}
use Rattle.std.proofs.lemmas.Bool.{false_from_ne_true}
use Rattle.std.proofs.lemmas.Bool.Decides.{nat_tests}
use Rattle.ir_lex.specs.Classes.{is_digit, is_letter, is_name_start, is_name_byte}
use Rattle.ir_lex.specs.Forms.{name_len, label_len}
use Rattle.ir_lex.specs.Cut.{Each}
use Rattle.ir_lex.proofs.Runs.{each_all}
use Rattle.ir_printer.specs.Pieces.{Piece, Blank, LineEnd, Word, Mark, Dots, Global, Local, Label, Number, Quote, bytes_of}
use Rattle.print_tokens.specs.Standing.{PieceFits, is_plain_mark, begins_end}

-- the text ends here, or its next byte is none of a name and no colon
abbrev pub Ends : List ℕ → Type 0
Ends [] = Unit {0}
Ends (y ∷ ys) = (is_name_byte y ≡ false) × ((y == 58) ≡ false)

each_last : (p : ℕ → Bool) (xs : List ℕ) → Each p xs → prefix_len p (xs ++ []) ≡ length xs
each_last p [] all = refl
each_last p (x ∷ xs) all = let go = each_last p xs all.1 in rw all.0 (omega arith)

-- a run ends before an end
pub run_ends : (p : ℕ → Bool) → ((b : ℕ) → p b ≡ true → is_name_byte b ≡ true) → (xs rest : List ℕ) → Each p xs → Ends rest → prefix_len p (xs ++ rest) ≡ length xs
run_ends p named xs [] all ends = each_last p xs all
run_ends p named xs (y ∷ ys) all ends = each_all p xs y ys all (false_from_ne_true (p y) (λ is. let e = named y is in let f = ends.0 in cc))

-- and so does no label
pub no_colon : (xs rest : List ℕ) → Ends rest → (get_or (xs ++ rest) (length xs) 0 == 58) ≡ false
no_colon [] [] ends = refl
no_colon [] (y ∷ ys) ends = ends.1
no_colon (x ∷ xs) rest ends = no_colon xs rest ends

-- ---- texts that begin with no label

pub unnamed_label : (text : List ℕ) → name_len text ≡ 0 → label_len text ≡ 0
unfolding label_len
unnamed_label text none = rw none refl

cond_none : (none : Bool) (n : ℕ) → cond none 0 (cond false n 0) ≡ 0
cond_none true n = refl
cond_none false n = refl

pub plain_label : (text : List ℕ) (n : ℕ) → name_len text ≡ n → (get_or text n 0 == 58) ≡ false → label_len text ≡ 0
unfolding label_len
plain_label text n len colon = rw (len, colon) (cond_none (n == 0) (n + 1))

-- ---- pieces that are ends

mark_ends : (b : ℕ) → is_plain_mark b ≡ true → (is_name_byte b ≡ false) × ((b == 58) ≡ false)
unfolding is_plain_mark is_name_byte is_name_start is_letter is_digit
mark_ends b is = (grind (arith, nat_tests), grind (arith, nat_tests))

byte_ends : (is_name_byte 32 ≡ false) × (is_name_byte 10 ≡ false) × (is_name_byte 34 ≡ false)
unfolding is_name_byte is_name_start is_letter is_digit
byte_ends = (refl, refl, refl)

-- what stands behind a token that needs an end
pub ends_behind : (ps : List Piece) → ((p : Piece) (qs : List Piece) → ps ≡ p ∷ qs → PieceFits p) → begins_end ps ≡ true → Ends (bytes_of ps)
ends_behind [] fits is = tt
ends_behind (Blank ∷ ps) fits is = (byte_ends.0, refl)
ends_behind (LineEnd ∷ ps) fits is = (byte_ends.1, refl)
ends_behind (Word bs ∷ ps) fits is = absurd (cc)
ends_behind (Mark b ∷ ps) fits is = mark_ends b (fits (Mark b) ps refl)
ends_behind (Dots ∷ ps) fits is = absurd (cc)
ends_behind (Global n ∷ ps) fits is = absurd (cc)
ends_behind (Local n ∷ ps) fits is = absurd (cc)
ends_behind (Label n ∷ ps) fits is = absurd (cc)
ends_behind (Number z ∷ ps) fits is = absurd (cc)
ends_behind (Quote bs ∷ ps) fits is = (byte_ends.2, refl)
