-- Names as they are written: their form, their length before an end, and their limit.
use Rattle.std.proofs.Common.{◌≡◌, ℕ, suc, ◌^◌, ◌<◌, ◌≤◌, Bool, true, false, List, [], ◌∷◌, ◌++◌, length, get_or, None, refl, ◌∙◌, arith}
use Rattle.std.specs.Prelude.{◌==◌, decimal}
use Rattle.std.specs.List.{list_all}
use Rattle.std.proofs.lemmas.Bool.{and_parts, lt-leb}
use Rattle.std.proofs.lemmas.Bool.Decides.{nat_tests}
use Rattle.std.proofs.lemmas.Fmt.{length-decimal-le_wide}
use Rattle.pv_base.specs.declared.name.Name.{Name}
use Rattle.pv_base.specs.declared.name.Name.TheVariants.{Named, Numbered}
use Rattle.ir_lex.specs.Classes.{is_digit, is_letter, is_name_start, is_name_byte, in_string}
use Rattle.ir_lex.specs.Forms.{name_len}
use Rattle.ir_lex.specs.Spelling.{number, decoded, unquoted, longer, name_limit}
use Rattle.ir_lex.specs.Cut.{Each, IsRun, IsQuoted, IsName, Plain, Digits, Quoted}
use Rattle.ir_lex.proofs.Runs.{run_each, run_first}
use Rattle.ir_lex.proofs.Shapes.{digit_name, start_name, same_byte, plain_len, digits_len, quote_len, quoted_exact}
use Rattle.ir_printer.specs.Pieces.{upper_hex, escaped_byte, escaped, quoted, is_plain, name_text}
use Rattle.print_tokens.specs.Standing.{AreBytes, NameFits}
use Rattle.print_tokens.proofs.Decoding.{decoded_quoted, number_decimal, run_decimal, each_join}
use Rattle.print_tokens.proofs.Ends.{Ends, run_ends}

-- ---- bytes in quotes

name_in_string : (b : ℕ) → is_name_byte b ≡ true → in_string b ≡ true
unfolding is_name_byte is_name_start is_letter is_digit in_string
name_in_string b is = grind (arith, nat_tests)

hex_in_string : (n : ℕ) → n < 16 → in_string (upper_hex n) ≡ true
unfolding upper_hex in_string
hex_in_string n lt = grind (arith, nat_tests)

sign_in_string : in_string 92 ≡ true
unfolding in_string
sign_in_string = refl

byte_in_string : (b : ℕ) → b < 256 → (named : Bool) → is_name_byte b ≡ named → Each in_string (escaped_byte b)
unfolding escaped_byte
byte_in_string b lt true is = rw is (name_in_string b is, tt)
byte_in_string b lt false is = rw is (sign_in_string, (hex_in_string _ (omega arith), (hex_in_string _ (omega arith), tt)))

escaped_in_string : (bs : List ℕ) → AreBytes bs → Each in_string (escaped bs)
unfolding escaped
escaped_in_string [] all = tt
escaped_in_string (b ∷ bs) all = each_join in_string (escaped_byte b) (escaped bs) (byte_in_string b (all 0 0 (omega arith)) (is_name_byte b) refl) (escaped_in_string bs (λ k d lt. all (suc k) d (omega arith)))

-- bytes in quotes are a quoted string
pub quoted_is : (bs : List ℕ) → AreBytes bs → IsQuoted (quoted bs)
quoted_is bs all = record { body = escaped bs; is = refl; within = escaped_in_string bs all }

-- ---- names

each_all_pass : (p : ℕ → Bool) (xs : List ℕ) → list_all p xs ≡ true → Each p xs
each_all_pass p [] is = tt
each_all_pass p (x ∷ xs) is = let h = and_parts (p x) (list_all p xs) is in (h.0, each_all_pass p xs h.1)

plain_is : (bs : List ℕ) → is_plain bs ≡ true → IsRun is_name_start is_name_byte bs
plain_is [] is = absurd (cc)
plain_is (b ∷ bs) is = let h = and_parts (is_name_start b) (list_all is_name_byte bs) is in record { head = b; tail = bs; is = refl; begins = h.0; goes_on = each_all_pass is_name_byte bs h.1 }

named_is : (bs : List ℕ) → AreBytes bs → (plain : Bool) → is_plain bs ≡ plain → IsName (name_text (Named bs))
unfolding name_text
named_is bs all true is = rw is (Plain (plain_is bs is))
named_is bs all false is = rw is (Quoted (quoted_is bs all))

numbered_is : (n : ℕ) → n < 2 ^ 63 → IsName (name_text (Numbered n))
unfolding name_text
numbered_is n lt = Digits (run_decimal n (omega arith))

-- a name as it is written is a name
pub name_is : (n : Name) → NameFits n → IsName (name_text n)
name_is (Named bs) fits = named_is bs fits.0 (is_plain bs) refl
name_is (Numbered n) fits = numbered_is n fits

-- before an end it has its own length
pub name_ends : (t rest : List ℕ) → IsName t → Ends rest → name_len (t ++ rest) ≡ length t
name_ends t rest (Plain run) ends = plain_len (t ++ rest) (run_first is_name_start is_name_byte t rest run) ∙ run_ends is_name_byte (λ b is. is) t rest (run_each is_name_start is_name_byte start_name t run) ends
name_ends t rest (Digits run) ends = digits_len (t ++ rest) (run_first is_digit is_digit t rest run) ∙ run_ends is_digit digit_name t rest (run_each is_digit is_digit same_byte t run) ends
name_ends t rest (Quoted q) ends = let e = quoted_exact t rest q in quote_len (t ++ rest) e.1 ∙ e.0

-- ---- limits

pub run_begins : (first p : ℕ → Bool) (t : List ℕ) → IsRun first p t → first (get_or t 0 0) ≡ true
run_begins first p t run = rw run.is run.begins

not_longer : (n : ℕ) → n ≤ 4096 → longer n ≡ None
not_longer n le = grind (arith, nat_tests)

start_no_digit : (b : ℕ) → is_name_start b ≡ true → (is_digit b ≡ false) × ((b == 34) ≡ false)
unfolding is_name_start is_letter is_digit
start_no_digit b is = (grind (arith, nat_tests), grind (arith, nat_tests))

start_limit : (text : List ℕ) → is_name_start (get_or text 0 0) ≡ true → length text ≤ 4096 → name_limit text ≡ None
unfolding name_limit
start_limit text first le = let other = start_no_digit (get_or text 0 0) first in rw (other.0, other.1) (not_longer (length text) le)

quoted_limit : (bs : List ℕ) → length (decoded (unquoted (quoted bs))) ≤ 4096 → name_limit (quoted bs) ≡ None
unfolding name_limit is_digit
quoted_limit bs le = not_longer (length (decoded (unquoted (quoted bs)))) le

digits_limit : (text : List ℕ) → is_digit (get_or text 0 0) ≡ true → number text < 2 ^ 63 → length text ≤ 4096 → name_limit text ≡ None
unfolding name_limit
digits_limit text first lt le = rw (first, lt-leb (2 ^ 63) (number text) lt) (not_longer (length text) le)

named_limit : (bs : List ℕ) → AreBytes bs → length bs ≤ 4096 → (plain : Bool) → is_plain bs ≡ plain → name_limit (name_text (Named bs)) ≡ None
unfolding name_text
named_limit bs all le true is = rw is (start_limit bs (run_begins is_name_start is_name_byte bs (plain_is bs is)) le)
named_limit bs all le false is = let e = decoded_quoted bs all in rw is (quoted_limit bs (rw e le))

numbered_limit : (n : ℕ) → n < 2 ^ 63 → name_limit (name_text (Numbered n)) ≡ None
unfolding name_text
numbered_limit n lt =
    let run = run_decimal n (omega arith) in
    let first = run_begins is_digit is_digit (decimal n) run in
    let is = number_decimal n (omega arith) in
    let le = length-decimal-le_wide 20 n (omega arith) (omega arith) (omega arith) in
    digits_limit (decimal n) first (rw is lt) (omega arith)

-- a name as it is written passes no limit
pub name_within : (n : Name) → NameFits n → name_limit (name_text n) ≡ None
name_within (Named bs) fits = named_limit bs fits.0 fits.1 (is_plain bs) refl
name_within (Numbered n) fits = numbered_limit n fits
