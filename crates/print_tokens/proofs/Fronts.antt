-- Each piece is the one that is found where it stands.
use Rattle.std.proofs.Common.{◌≡◌, ℕ, ℤ, pos, negsuc, suc, ◌-◌, ◌^◌, ◌<◌, true, false, List, [], ◌∷◌, ◌++◌, length, take, get_or, Option, Some, None, refl, ◌∙◌, arith, length-append}
use Rattle.std.specs.Prelude.{◌==◌, nat_abs, decimal}
use Rattle.std.specs.Fmt.{signed_decimal}
use Rattle.std.specs.List.{prefix_len}
use Rattle.std.proofs.lemmas.Bool.{ne_eqb, lt-leb}
use Rattle.std.proofs.lemmas.Bool.Decides.{nat_tests}
use Rattle.std.proofs.lemmas.List.{take_at}
use Rattle.pv_base.specs.declared.name.Name.{Name}
use Rattle.ir_lex.specs.declared.token.TokenKind.TheVariants as kind
use Rattle.ir_lex.specs.declared.token.Form.{Form}
use Rattle.ir_lex.specs.declared.token.Form.TheVariants as form
use Rattle.ir_lex.specs.declared.token.Piece.TheVariants as piece
use Rattle.ir_lex.specs.Classes.{is_blank, is_digit, is_letter, is_name_start, is_name_byte, is_word_start, is_word_byte, is_mark}
use Rattle.ir_lex.specs.Forms.{quoted_len, name_len, label_len, signed_len, integer_len, punct_len, gap_len, form_of, form_len}
use Rattle.ir_lex.specs.Spelling.{number, name_limit, limit_of}
use Rattle.ir_lex.specs.Lexing.{piece_as, piece_of}
use Rattle.ir_lex.specs.Cut.{IsRun, IsName, IsLabel}
use Rattle.ir_lex.proofs.Runs.{each_more, run_each, run_first, run_some}
use Rattle.ir_lex.proofs.Shapes.{digit_name, start_name, same_byte, word_start_byte, word_start_name, word_byte_name, plain_len, digits_len, quote_len, quoted_exact, name_some, label_exact, label_some, mark_form, blank_form, digit_form, word_form, other_forms}
use Rattle.ir_lex.proofs.Cuts.{tried, label_form_len}
use Rattle.ir_printer.specs.Pieces.{quoted, name_text}
use Rattle.print_tokens.specs.Standing.{AreBytes, NameFits, is_plain_mark}
use Rattle.print_tokens.proofs.Decoding.{number_decimal, run_decimal}
use Rattle.print_tokens.proofs.Ends.{Ends, run_ends, no_colon, unnamed_label, plain_label}
use Rattle.print_tokens.proofs.Names.{quoted_is, name_is, name_ends, name_within, run_begins}

-- a piece of this form is found, and it has a byte
pub record Front (f : Form) (t rest : List ℕ) : Type 0 where
  pub is : piece_of (t ++ rest) ≡ piece.Found f (length t)
  pub some : 0 < length t

found_by : (o : Option Form) (f : Form) (text : List ℕ) (n : ℕ) → o ≡ Some f → form_len f text ≡ n → 0 < n → limit_of f (take n text) ≡ None → piece_as o text ≡ piece.Found f n
found_by o f text n o_is len some limits =
    let other : (n == 0) ≡ false = ne_eqb n 0 (λ z. omega arith) in
    rw (o_is, len, other, limits) refl

front_of : (f : Form) (t rest : List ℕ) → label_len (t ++ rest) ≡ 0 → form_of (get_or (t ++ rest) 0 0) ≡ Some f → form_len f (t ++ rest) ≡ length t → 0 < length t → limit_of f t ≡ None → Front f t rest
unfolding piece_of
front_of f t rest none class len some limits =
    let behind : limit_of f (take (length t) (t ++ rest)) ≡ None = rw (take_at t rest (length t) refl) limits in
    record { is = found_by (tried (label_len (t ++ rest) == 0) (t ++ rest)) f (t ++ rest) (length t) (rw none class) len some behind; some = some }

front_label : (t rest : List ℕ) → IsLabel t → limit_of (form.Token kind.Label) t ≡ None → Front (form.Token kind.Label) t rest
unfolding piece_of
front_label t rest is limits =
    let text = t ++ rest in
    let len = label_exact t rest is in
    let some = label_some t is in
    let other : (label_len (t ++ rest) == 0) ≡ false = ne_eqb (label_len (t ++ rest)) 0 (λ z. omega arith) in
    let behind : limit_of (form.Token kind.Label) (take (length t) (t ++ rest)) ≡ None = rw (take_at t rest (length t) refl) limits in
    record { is = found_by (tried (label_len text == 0) text) (form.Token kind.Label) text (length t) (rw other refl) (label_form_len text ∙ len) some behind; some = some }

no_name : (b : ℕ) (xs : List ℕ) → is_name_start b ≡ false → is_digit b ≡ false → (b == 34) ≡ false → name_len (b ∷ xs) ≡ 0
unfolding name_len quoted_len
no_name b xs start digit quote = rw (start, digit, quote) refl

-- ---- what stands between tokens

pub front_blank : (rest : List ℕ) → Front form.Gap (32 ∷ []) rest
unfolding is_blank is_name_start is_letter is_digit form_len gap_len limit_of
front_blank rest = front_of form.Gap (32 ∷ []) rest (unnamed_label (32 ∷ rest) (no_name 32 rest refl refl refl)) (blank_form 32 refl) refl (omega arith) refl

pub front_line_end : (rest : List ℕ) → Front form.Gap (10 ∷ []) rest
unfolding is_blank is_name_start is_letter is_digit form_len gap_len limit_of
front_line_end rest = front_of form.Gap (10 ∷ []) rest (unnamed_label (10 ∷ rest) (no_name 10 rest refl refl refl)) (blank_form 10 refl) refl (omega arith) refl

-- ---- words and marks

word_limit : (t : List ℕ) → limit_of (form.Token kind.Word) t ≡ None
unfolding limit_of
word_limit t = refl

word_len : (text : List ℕ) → form_len (form.Token kind.Word) text ≡ prefix_len is_word_byte text
unfolding form_len
word_len text = refl

pub front_word : (t rest : List ℕ) → IsRun is_word_start is_word_byte t → Ends rest → Front (form.Token kind.Word) t rest
front_word t rest run ends =
    let first = run_first is_word_start is_word_byte t rest run in
    let all = run_each is_word_start is_word_byte word_start_byte t run in
    let named = each_more is_word_byte is_name_byte word_byte_name t all in
    let len = plain_len (t ++ rest) (word_start_name (get_or (t ++ rest) 0 0) first) ∙ run_ends is_name_byte (λ b is. is) t rest named ends in
    front_of (form.Token kind.Word) t rest (plain_label (t ++ rest) (length t) len (no_colon t rest ends)) (word_form (get_or (t ++ rest) 0 0) first)
    (word_len (t ++ rest) ∙ run_ends is_word_byte word_byte_name t rest all ends) (run_some is_word_start is_word_byte t run) (word_limit t)

mark_other : (b : ℕ) → is_plain_mark b ≡ true → (is_name_start b ≡ false) × (is_digit b ≡ false) × ((b == 34) ≡ false)
unfolding is_plain_mark is_name_start is_letter is_digit
mark_other b is = (grind (arith, nat_tests), grind (arith, nat_tests), grind (arith, nat_tests))

pub mark_is : (b : ℕ) → is_plain_mark b ≡ true → is_mark b ≡ true
unfolding is_plain_mark is_mark
mark_is b is = rw is refl

mark_len : (b : ℕ) (rest : List ℕ) → is_mark b ≡ true → form_len (form.Token kind.Punct) (b ∷ rest) ≡ 1
unfolding form_len punct_len
mark_len b rest is = rw is refl

punct_limit : (t : List ℕ) → limit_of (form.Token kind.Punct) t ≡ None
unfolding limit_of
punct_limit t = refl

pub front_mark : (b : ℕ) (rest : List ℕ) → is_plain_mark b ≡ true → Front (form.Token kind.Punct) (b ∷ []) rest
front_mark b rest is =
    let other = mark_other b is in
    front_of (form.Token kind.Punct) (b ∷ []) rest (unnamed_label (b ∷ rest) (no_name b rest other.0 other.1 other.2)) (mark_form b (mark_is b is)) (mark_len b rest (mark_is b is)) (omega arith) (punct_limit (b ∷ []))

dots_len : (rest : List ℕ) → form_len (form.Token kind.Punct) (46 ∷ 46 ∷ 46 ∷ rest) ≡ 3
unfolding form_len punct_len is_mark
dots_len rest = refl

dot_starts : (is_name_start 46 ≡ true) × (is_name_start 45 ≡ true)
unfolding is_name_start is_letter
dot_starts = (refl, refl)

pub front_dots : (rest : List ℕ) → Ends rest → Front (form.Token kind.Punct) (46 ∷ 46 ∷ 46 ∷ []) rest
front_dots rest ends =
    let dot = start_name 46 dot_starts.0 in
    let t = 46 ∷ 46 ∷ 46 ∷ [] in
    let len = plain_len (t ++ rest) dot_starts.0 ∙ run_ends is_name_byte (λ b is. is) t rest (dot, (dot, (dot, tt))) ends in
    front_of (form.Token kind.Punct) t rest (plain_label (t ++ rest) 3 len (no_colon t rest ends)) other_forms.5 (dots_len rest) (omega arith) (punct_limit t)

-- ---- names

sign_no_name : (xs : List ℕ) → (name_len (64 ∷ xs) ≡ 0) × (name_len (37 ∷ xs) ≡ 0)
unfolding is_name_start is_letter is_digit
sign_no_name xs = (no_name 64 xs refl refl refl, no_name 37 xs refl refl refl)

signed_ends : (b : ℕ) (t rest : List ℕ) → IsName t → Ends rest → signed_len (b ∷ (t ++ rest)) ≡ length (b ∷ t)
unfolding signed_len
signed_ends b t rest is ends =
    let some = name_some t is in
    rw (name_ends t rest is ends, ne_eqb (length t) 0 (λ z. omega arith)) (omega arith)

pub front_global : (n : Name) (rest : List ℕ) → NameFits n → Ends rest → Front (form.Token kind.GlobalName) (64 ∷ name_text n) rest
unfolding form_len limit_of
front_global n rest fits ends =
    front_of (form.Token kind.GlobalName) (64 ∷ name_text n) rest (unnamed_label (64 ∷ (name_text n ++ rest)) (sign_no_name (name_text n ++ rest)).0) other_forms.1 (signed_ends 64 (name_text n) rest (name_is n fits) ends) (omega arith) (name_within n fits)

pub front_local : (n : Name) (rest : List ℕ) → NameFits n → Ends rest → Front (form.Token kind.LocalName) (37 ∷ name_text n) rest
unfolding form_len limit_of
front_local n rest fits ends =
    front_of (form.Token kind.LocalName) (37 ∷ name_text n) rest (unnamed_label (37 ∷ (name_text n ++ rest)) (sign_no_name (name_text n ++ rest)).1) other_forms.2 (signed_ends 37 (name_text n) rest (name_is n fits) ends) (omega arith) (name_within n fits)

label_limit : (t : List ℕ) → name_limit t ≡ None → limit_of (form.Token kind.Label) (t ++ 58 ∷ []) ≡ None
unfolding limit_of
label_limit t limits =
    let e : take (length (t ++ 58 ∷ []) - 1) (t ++ 58 ∷ []) ≡ t = take_at t (58 ∷ []) (length (t ++ 58 ∷ []) - 1) (omega (arith, length-append t (58 ∷ []))) in
    rw e limits

pub front_name_label : (n : Name) (rest : List ℕ) → NameFits n → Front (form.Token kind.Label) (name_text n ++ 58 ∷ []) rest
front_name_label n rest fits =
    front_label (name_text n ++ 58 ∷ []) rest (record { name = name_text n; is = refl; spells = name_is n fits }) (label_limit (name_text n) (name_within n fits))

-- ---- numbers

digit_no_minus : (b : ℕ) → is_digit b ≡ true → (b == 45) ≡ false
unfolding is_digit
digit_no_minus b is = grind (arith, nat_tests)

positive_limit : (t : List ℕ) → (get_or t 0 0 == 45) ≡ false → number t < 2 ^ 128 → limit_of (form.Token kind.Integer) t ≡ None
unfolding limit_of
positive_limit t first lt = rw (first, lt-leb (2 ^ 128) (number t) lt) refl

negative_limit : (t : List ℕ) → number t < 2 ^ 128 → limit_of (form.Token kind.Integer) (45 ∷ t) ≡ None
unfolding limit_of
negative_limit t lt = rw (lt-leb (2 ^ 128) (number t) lt) refl

positive_len : (text : List ℕ) → is_digit (get_or text 0 0) ≡ true → form_len (form.Token kind.Integer) text ≡ prefix_len is_digit text
unfolding form_len integer_len
positive_len text is = rw (digit_no_minus (get_or text 0 0) is) refl

negative_len : (xs : List ℕ) (n : ℕ) → prefix_len is_digit xs ≡ n → 0 < n → form_len (form.Token kind.Integer) (45 ∷ xs) ≡ suc n
unfolding form_len integer_len
negative_len xs n len some = rw (len, ne_eqb n 0 (λ z. omega arith)) (omega arith)

front_digits : (t rest : List ℕ) → IsRun is_digit is_digit t → number t < 2 ^ 128 → Ends rest → Front (form.Token kind.Integer) t rest
front_digits t rest run lt ends =
    let first = run_first is_digit is_digit t rest run in
    let len = run_ends is_digit digit_name t rest (run_each is_digit is_digit same_byte t run) ends in
    front_of (form.Token kind.Integer) t rest (plain_label (t ++ rest) (length t) (digits_len (t ++ rest) first ∙ len) (no_colon t rest ends)) (digit_form (get_or (t ++ rest) 0 0) first)
    (positive_len (t ++ rest) first ∙ len) (run_some is_digit is_digit t run) (positive_limit t (digit_no_minus (get_or t 0 0) (run_begins is_digit is_digit t run)) lt)

front_minus : (t rest : List ℕ) → IsRun is_digit is_digit t → number t < 2 ^ 128 → Ends rest → Front (form.Token kind.Integer) (45 ∷ t) rest
front_minus t rest run lt ends =
    let all = run_each is_digit is_digit same_byte t run in
    let named = each_more is_digit is_name_byte digit_name t all in
    let len = plain_len (45 ∷ (t ++ rest)) dot_starts.1 ∙ run_ends is_name_byte (λ b is. is) (45 ∷ t) rest (start_name 45 dot_starts.1, named) ends in
    front_of (form.Token kind.Integer) (45 ∷ t) rest (plain_label (45 ∷ (t ++ rest)) (length (45 ∷ t)) len (no_colon (45 ∷ t) rest ends)) other_forms.3
    (negative_len (t ++ rest) (length t) (run_ends is_digit digit_name t rest all ends) (run_some is_digit is_digit t run)) (omega arith) (negative_limit t lt)

front_number : (n : ℕ) (rest : List ℕ) → n < 2 ^ 128 → Ends rest → Front (form.Token kind.Integer) (decimal n) rest
front_number n rest lt ends = front_digits (decimal n) rest (run_decimal n (omega arith)) (let e = number_decimal n (omega arith) in rw e lt) ends

front_negative : (n : ℕ) (rest : List ℕ) → n < 2 ^ 128 → Ends rest → Front (form.Token kind.Integer) (45 ∷ decimal n) rest
front_negative n rest lt ends = front_minus (decimal n) rest (run_decimal n (omega arith)) (let e = number_decimal n (omega arith) in rw e lt) ends

pub front_integer : (z : ℤ) (rest : List ℕ) → nat_abs z < 2 ^ 128 → Ends rest → Front (form.Token kind.Integer) (signed_decimal z) rest
front_integer (pos n) rest lt ends = front_number n rest lt ends
front_integer (negsuc n) rest lt ends = front_negative (suc n) rest lt ends

-- ---- strings

text_limit : (t : List ℕ) → limit_of (form.Token kind.Text) t ≡ None
unfolding limit_of
text_limit t = refl

text_len : (text : List ℕ) → form_len (form.Token kind.Text) text ≡ quoted_len text
unfolding form_len
text_len text = refl

pub front_quote : (bs rest : List ℕ) → AreBytes bs → Ends rest → Front (form.Token kind.Text) (quoted bs) rest
front_quote bs rest all ends =
    let e = quoted_exact (quoted bs) rest (quoted_is bs all) in
    front_of (form.Token kind.Text) (quoted bs) rest (plain_label (quoted bs ++ rest) (length (quoted bs)) (quote_len (quoted bs ++ rest) e.1 ∙ e.0) (no_colon (quoted bs) rest ends)) other_forms.4
    (text_len (quoted bs ++ rest) ∙ e.0) (omega arith) (text_limit (quoted bs))
