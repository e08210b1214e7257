-- No token has a newline.
use Rattle.std.proofs.Common.{◌≡◌, ℕ, ◌+◌, Bool, true, false, not, List, [], ◌∷◌, ◌++◌, get_or, refl, arith}
use Rattle.std.specs.Prelude.{◌==◌}
use Rattle.std.proofs.lemmas.Bool.{not-true, and_parts}
use Rattle.std.proofs.lemmas.Bool.Decides.{nat_tests}
use Rattle.std.proofs.lemmas.List.Sums.{sum_by-append}
use Rattle.ir_lex.specs.declared.token.TokenKind.{TokenKind}
use Rattle.ir_lex.specs.declared.token.TokenKind.TheVariants as kind
use Rattle.ir_lex.specs.declared.token.Form.TheVariants as form
use Rattle.ir_lex.specs.Classes.{is_digit, is_letter, is_name_start, is_name_byte, is_word_start, is_word_byte, is_mark, in_line, in_string}
use Rattle.ir_lex.specs.Lexing.{line_after}
use Rattle.ir_lex.specs.Cut.{Each, IsRun, IsQuoted, IsName, Plain, Digits, Quoted, IsSigned, IsLabel, IsInteger, Positive, Negative, IsPunct, Mark, Points, IsGap, Blank, Comment, IsForm, newlines}
use Rattle.ir_lex.proofs.Runs.{run_each}
use Rattle.ir_lex.proofs.Shapes.{start_name, word_start_byte, same_byte}

pub newlines_join : (xs ys : List ℕ) → newlines (xs ++ ys) ≡ newlines xs + newlines ys
newlines_join xs ys = sum_by-append _ xs ys

none_of : (p : ℕ → Bool) → ((b : ℕ) → p b ≡ true → (b == 10) ≡ false) → (t : List ℕ) → Each p t → newlines t ≡ 0
none_of p off [] all = refl
none_of p off (b ∷ t) all = let go = none_of p off t all.1 in rw (off b all.0) (omega arith)

digit_off : (b : ℕ) → is_digit b ≡ true → (b == 10) ≡ false
unfolding is_digit
digit_off b is = grind (arith, nat_tests)

name_off : (b : ℕ) → is_name_byte b ≡ true → (b == 10) ≡ false
unfolding is_name_byte is_name_start is_letter is_digit
name_off b is = grind (arith, nat_tests)

word_off : (b : ℕ) → is_word_byte b ≡ true → (b == 10) ≡ false
unfolding is_word_byte is_word_start is_letter is_digit
word_off b is = grind (arith, nat_tests)

mark_off : (b : ℕ) → is_mark b ≡ true → (b == 10) ≡ false
unfolding is_mark
mark_off b is = grind (arith, nat_tests)

string_off : (b : ℕ) → in_string b ≡ true → (b == 10) ≡ false
unfolding in_string
string_off b is = not-true (b == 10) (and_parts (not (b == 10)) (not (b == 34)) is).0

line_off : (b : ℕ) → in_line b ≡ true → (b == 10) ≡ false
unfolding in_line
line_off b is = not-true (b == 10) is

in_digits : (t : List ℕ) → IsRun is_digit is_digit t → newlines t ≡ 0
in_digits t run = none_of is_digit digit_off t (run_each is_digit is_digit same_byte t run)

in_quoted : (t : List ℕ) → IsQuoted t → newlines t ≡ 0
in_quoted t q = let body = none_of in_string string_off q.body q.within in rw q.is (omega (arith, newlines_join q.body (34 ∷ []), body))

in_name : (t : List ℕ) → IsName t → newlines t ≡ 0
in_name t (Plain run) = none_of is_name_byte name_off t (run_each is_name_start is_name_byte start_name t run)
in_name t (Digits run) = in_digits t run
in_name t (Quoted q) = in_quoted t q

in_label : (t : List ℕ) → IsLabel t → newlines t ≡ 0
in_label t l = let n = in_name l.name l.spells in rw l.is (omega (arith, newlines_join l.name (58 ∷ []), n))

in_global : (t : List ℕ) → IsSigned 64 t → newlines t ≡ 0
in_global t s = let n = in_name s.name s.spells in rw s.is (omega (arith, n))

in_local : (t : List ℕ) → IsSigned 37 t → newlines t ≡ 0
in_local t s = let n = in_name s.name s.spells in rw s.is (omega (arith, n))

in_integer : (t : List ℕ) → IsInteger t → newlines t ≡ 0
in_integer t (Positive run) = in_digits t run
in_integer t (Negative digits is run) = let n = in_digits digits run in rw is (omega (arith, n))

in_word : (t : List ℕ) → IsRun is_word_start is_word_byte t → newlines t ≡ 0
in_word t run = none_of is_word_byte word_off t (run_each is_word_start is_word_byte word_start_byte t run)

in_punct : (t : List ℕ) → IsPunct t → newlines t ≡ 0
in_punct t (Mark b is mark) = rw (is, mark_off b mark) refl
in_punct t (Points is) = rw is refl

in_token : (k : TokenKind) (t : List ℕ) → IsForm (form.Token k) t → newlines t ≡ 0
in_token kind.GlobalName t is = in_global t is
in_token kind.LocalName t is = in_local t is
in_token kind.Label t is = in_label t is
in_token kind.Integer t is = in_integer t is
in_token kind.Word t is = in_word t is
in_token kind.Text t is = in_quoted t is
in_token kind.Punct t is = in_punct t is

pub token_line : (k : TokenKind) (t : List ℕ) (line : ℕ) → IsForm (form.Token k) t → line + newlines t ≡ line
token_line k t line is = omega (arith, in_token k t is)

blank_line : (b line : ℕ) → line + newlines (b ∷ []) ≡ line_after line b
blank_line b line = grind (arith, nat_tests)

pub gap_line : (t : List ℕ) (line : ℕ) → IsGap t → line + newlines t ≡ line_after line (get_or t 0 0)
gap_line t line (Blank b is blank) = rw is (blank_line b line)
gap_line t line (Comment behind is all) = let go = none_of in_line line_off behind all in rw is (omega (arith, go))
