-- What is written for bytes and for numbers is read back.
use Rattle.std.proofs.Common.{◌≡◌, ℕ, suc, ◌+◌, ◌-◌, ◌*◌, ◌/◌, ◌%◌, ◌^◌, ◌<◌, ◌≤◌, Bool, true, false, List, [], ◌∷◌, ◌++◌, length, refl, ap, ◌∙◌, arith, length-append}
use Rattle.std.specs.Prelude.{◌==◌, decimal}
use Rattle.std.proofs.lemmas.Bool.Decides.{nat_tests}
use Rattle.std.proofs.lemmas.List.{take_at}
use Rattle.std.proofs.lemmas.Fmt.{decimal_by_steps_wide}
use Rattle.ir_lex.specs.Classes.{is_digit, is_letter, is_hex, hex_value, is_name_start, is_name_byte}
use Rattle.ir_lex.specs.Spelling.{number_after, number, written, meant, decoded_from, decoded, unquoted}
use Rattle.ir_lex.specs.Cut.{Each, IsRun}
use Rattle.ir_printer.specs.Pieces.{upper_hex, escaped_byte, escaped, quoted}
use Rattle.print_tokens.specs.Standing.{AreBytes}

-- ---- bytes in quotes

hex_back : (n : ℕ) → n < 16 → hex_value (upper_hex n) ≡ n
unfolding hex_value upper_hex is_digit
hex_back n lt = grind (arith, nat_tests)

hex_is : (n : ℕ) → n < 16 → is_hex (upper_hex n) ≡ true
unfolding is_hex upper_hex is_digit
hex_is n lt = grind (arith, nat_tests)

hex_other : (n : ℕ) → n < 16 → (upper_hex n == 92) ≡ false
unfolding upper_hex
hex_other n lt = grind (arith, nat_tests)

name_other : (b : ℕ) → is_name_byte b ≡ true → (b == 92) ≡ false
unfolding is_name_byte is_name_start is_letter is_digit
name_other b is = grind (arith, nat_tests)

plain_front : (b : ℕ) (rest : List ℕ) → (b == 92) ≡ false → decoded_from (b ∷ rest) 0 ≡ b ∷ decoded_from rest 0
unfolding decoded_from written meant
plain_front b rest other = rw other refl

hex_front : (h l : ℕ) (rest : List ℕ) → (h == 92) ≡ false → is_hex h ≡ true → is_hex l ≡ true → decoded_from (92 ∷ h ∷ l ∷ rest) 0 ≡ (16 * hex_value h + hex_value l) ∷ decoded_from rest 0
unfolding decoded_from written meant
hex_front h l rest other high low = rw (other, high, low) refl

-- a byte is less than 16 times 16
halves : (b : ℕ) → b < 256 → (b / 16 < 16) × (b % 16 < 16) × (16 * (b / 16) + b % 16 ≡ b)
halves b lt = (omega arith, omega arith, omega arith)

byte_front : (b : ℕ) (rest : List ℕ) → b < 256 → (named : Bool) → is_name_byte b ≡ named → decoded_from (escaped_byte b ++ rest) 0 ≡ b ∷ decoded_from rest 0
unfolding escaped_byte
byte_front b rest lt true is = rw is (plain_front b rest (name_other b is))
byte_front b rest lt false is =
    let h = halves b lt in
    let e = hex_front (upper_hex (b / 16)) (upper_hex (b % 16)) rest (hex_other (b / 16) h.0) (hex_is (b / 16) h.0) (hex_is (b % 16) h.1) in
    let v : 16 * hex_value (upper_hex (b / 16)) + hex_value (upper_hex (b % 16)) ≡ b = rw (hex_back (b / 16) h.0, hex_back (b % 16) h.1) h.2 in
    rw is (e ∙ ap (λ (x : ℕ). x ∷ decoded_from rest 0) v)

decoded_escaped : (bs : List ℕ) → AreBytes bs → decoded (escaped bs) ≡ bs
unfolding escaped decoded_from
decoded_escaped [] all = refl
decoded_escaped (b ∷ bs) all = byte_front b (escaped bs) (all 0 0 (omega arith)) (is_name_byte b) refl ∙ ap (λ (x : List ℕ). b ∷ x) (decoded_escaped bs (λ k d lt. all (suc k) d (omega arith)))

unquoted_quoted : (bs : List ℕ) → unquoted (quoted bs) ≡ escaped bs
unquoted_quoted bs = take_at (escaped bs) (34 ∷ []) (length (quoted bs) - 2) (omega (arith, length-append (escaped bs) (34 ∷ [])))

-- bytes in quotes spell those bytes
pub decoded_quoted : (bs : List ℕ) → AreBytes bs → decoded (unquoted (quoted bs)) ≡ bs
decoded_quoted bs all = ap decoded (unquoted_quoted bs) ∙ decoded_escaped bs all

-- ---- numbers

number_join : (n : ℕ) (ds es : List ℕ) → number_after n (ds ++ es) ≡ number_after (number_after n ds) es
unfolding number_after
number_join n [] es = refl
number_join n (d ∷ ds) es = number_join (n * 10 + (d - 48)) ds es

last_digit : (n d : ℕ) → d < 10 → number_after n ((48 + d) ∷ []) ≡ n * 10 + d
unfolding number_after
last_digit n d lt = omega arith

number_more : (n : ℕ) (ds : List ℕ) → number ds ≡ n / 10 → number (ds ++ (48 + n % 10) ∷ []) ≡ n
number_more n ds is =
    let lt : n % 10 < 10 = omega arith in
    let e : number (ds ++ (48 + n % 10) ∷ []) ≡ number ds * 10 + n % 10 = number_join 0 ds ((48 + n % 10) ∷ []) ∙ last_digit (number ds) (n % 10) lt in
    omega arith

number_one : (n : ℕ) → n < 10 → number ((48 + n) ∷ []) ≡ n
number_one n lt = let e = last_digit 0 n lt in omega arith

-- a number in decimal spells that number, up to 64 digits
pub number_decimal : (n : ℕ) → n < 10 ^ 64 → number (decimal n) ≡ n
number_decimal n lt = decimal_by_steps_wide (λ n ds. number ds ≡ n) number_one (λ n ds le is. number_more n ds is) n lt

digit_is : (n : ℕ) → n < 10 → is_digit (48 + n) ≡ true
unfolding is_digit
digit_is n lt = grind (arith, nat_tests)

pub each_join : (p : ℕ → Bool) (xs ys : List ℕ) → Each p xs → Each p ys → Each p (xs ++ ys)
each_join p [] ys all more = more
each_join p (x ∷ xs) ys all more = (all.0, each_join p xs ys all.1 more)

run_join : (xs ys : List ℕ) → IsRun is_digit is_digit xs → Each is_digit ys → IsRun is_digit is_digit (xs ++ ys)
run_join xs ys run more = record { head = run.head; tail = run.tail ++ ys; is = rw run.is refl; begins = run.begins; goes_on = each_join is_digit run.tail ys run.goes_on more }

run_one : (n : ℕ) → n < 10 → IsRun is_digit is_digit ((48 + n) ∷ [])
run_one n lt = record { head = 48 + n; tail = []; is = refl; begins = digit_is n lt; goes_on = tt }

run_more : (n : ℕ) (ds : List ℕ) → 10 ≤ n → IsRun is_digit is_digit ds → IsRun is_digit is_digit (ds ++ (48 + n % 10) ∷ [])
run_more n ds le run = run_join ds ((48 + n % 10) ∷ []) run (digit_is (n % 10) (omega arith), tt)

-- and is written in digits alone
pub run_decimal : (n : ℕ) → n < 10 ^ 64 → IsRun is_digit is_digit (decimal n)
run_decimal n lt = decimal_by_steps_wide (λ n ds. IsRun is_digit is_digit ds) run_one run_more n lt
