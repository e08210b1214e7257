-- The longest piece of each form is of that form, and no piece of the form is longer.
use Rattle.std.proofs.Common.{◌≡◌, ℕ, suc, ◌+◌, ◌<◌, ◌≤◌, inl, inr, Bool, true, false, cond, List, [], ◌∷◌, ◌++◌, length, take, get_or, Some, refl, sym, ap, subst, ◌∙◌, arith, append_assoc, length-append}
use Rattle.std.specs.Prelude.{◌&&◌, ◌||◌, ◌==◌}
use Rattle.std.specs.List.{prefix_len}
use Rattle.std.proofs.Math.Seq.{take-suc}
use Rattle.std.proofs.lemmas.Bool.{eqb-true, eqb-false, ne_eqb, or_cases, cases_lt}
use Rattle.std.proofs.lemmas.Bool.Decides.{nat_tests}
use Rattle.std.proofs.lemmas.List.{get_or_past}
use Rattle.std.proofs.lemmas.List.Sums.{prefix_len-le-length}
use Rattle.ir_lex.specs.declared.token.TokenKind.TheVariants as kind
use Rattle.ir_lex.specs.declared.token.Form.{Form}
use Rattle.ir_lex.specs.declared.token.Form.TheVariants as form
use Rattle.ir_lex.specs.Classes.{is_blank, is_digit, is_letter, is_name_start, is_name_byte, is_word_start, is_word_byte, is_mark, in_line, in_string}
use Rattle.ir_lex.specs.Forms.{quoted_len, name_len, label_len, signed_len, integer_len, punct_len, gap_len, form_of}
use Rattle.ir_lex.specs.Cut.{Each, IsRun, IsQuoted, IsName, Plain, Digits, Quoted, IsSigned, IsLabel, IsInteger, Positive, Negative, IsPunct, Mark, Points, IsGap, Blank, Comment, IsForm}
use Rattle.ir_lex.proofs.Runs.{each_take, each_most, each_all, run_take, run_most, run_each, run_first, run_some}

get_or_at : (xs : List ℕ) (y : ℕ) (ys : List ℕ) → get_or (xs ++ y ∷ ys) (length xs) 0 ≡ y
get_or_at [] y ys = refl
get_or_at (x ∷ xs) y ys = get_or_at xs y ys

-- a byte that is not 0 stands in the list
stands : (xs : List ℕ) (i b : ℕ) → (get_or xs i 0 == suc b) ≡ true → i < length xs
stands xs i b is = elim (cases_lt i (length xs)) [ inl lt ↦ lt | inr le ↦ absurd (let e = get_or_past xs i 0 le in let f = eqb-true (get_or xs i 0) (suc b) is in omega arith) ]

-- classes

pub digit_name : (b : ℕ) → is_digit b ≡ true → is_name_byte b ≡ true
unfolding is_digit is_name_byte
digit_name b is = rw is (grind arith)

pub start_name : (b : ℕ) → is_name_start b ≡ true → is_name_byte b ≡ true
unfolding is_name_byte
start_name b is = rw is refl

pub word_start_byte : (b : ℕ) → is_word_start b ≡ true → is_word_byte b ≡ true
unfolding is_word_byte
word_start_byte b is = rw is refl

pub digit_no_start : (b : ℕ) → is_digit b ≡ true → is_name_start b ≡ false
unfolding is_digit is_name_start is_letter
digit_no_start b is = grind (arith, nat_tests)

pub word_start_name : (b : ℕ) → is_word_start b ≡ true → is_name_start b ≡ true
unfolding is_word_start is_name_start is_letter
word_start_name b is = grind (arith, nat_tests)

pub word_byte_name : (b : ℕ) → is_word_byte b ≡ true → is_name_byte b ≡ true
unfolding is_word_start is_word_byte is_name_byte is_name_start is_letter is_digit
word_byte_name b is = grind (arith, nat_tests)

no_quote : in_string 34 ≡ false
unfolding in_string
no_quote = refl

no_colon : is_name_byte 58 ≡ false
unfolding is_name_byte is_name_start is_letter is_digit
no_colon = refl

no_digit_colon : is_digit 58 ≡ false
unfolding is_digit
no_digit_colon = refl

-- a form of a piece that is so long
pub record Shape (f : Form) (text : List ℕ) (n : ℕ) : Type 0 where
  pub is : IsForm f (take n text)
  pub fits : n ≤ length text

-- quoted strings

quoted_body : (body after : List ℕ) → Each in_string body → quoted_len (34 ∷ (body ++ 34 ∷ after)) ≡ length body + 2
unfolding quoted_len
quoted_body body after all =
    let n : prefix_len in_string (body ++ 34 ∷ after) ≡ length body = each_all in_string body 34 after all no_quote in
    let e : length body + 1 ≡ suc (length body) = omega arith in
    let g : get_or (34 ∷ (body ++ 34 ∷ after)) (length body + 1) 0 ≡ 34 = rw e (get_or_at body 34 after) in
    rw (n, g) refl

pub quoted_exact : (t after : List ℕ) → IsQuoted t → (quoted_len (t ++ after) ≡ length t) × (get_or (t ++ after) 0 0 ≡ 34)
quoted_exact t after q =
    let e : (q.body ++ 34 ∷ []) ++ after ≡ q.body ++ 34 ∷ after = append_assoc q.body (34 ∷ []) after in
    let l : length (q.body ++ 34 ∷ []) ≡ length q.body + 1 = simp length-append in
    rw q.is ((ap (λ (x : List ℕ). quoted_len (34 ∷ x)) e ∙ quoted_body q.body after q.within ∙ omega (arith, l)), refl)

quoted_tests : (b : ℕ) (xs : List ℕ) (s e : Bool) → (b == 34) ≡ s → (get_or (b ∷ xs) (prefix_len in_string xs + 1) 0 == 34) ≡ e
    → (cond (s && e) (prefix_len in_string xs + 2) 0 ≡ 0 → ⊥) → IsQuoted (take (cond (s && e) (prefix_len in_string xs + 2) 0) (b ∷ xs)) × (cond (s && e) (prefix_len in_string xs + 2) 0 ≤ length (b ∷ xs))
quoted_tests b xs true true first last some =
    let k = prefix_len in_string xs in
    let e : k + 1 ≡ suc k = omega arith in
    let e2 : k + 2 ≡ suc (suc k) = omega arith in
    let b34 : b ≡ 34 = eqb-true b 34 first in
    let last2 : (get_or xs k 0 == 34) ≡ true = rw e at last in
    let lt : k < length xs = stands xs k 33 last2 in
    let c34 : get_or xs k 0 ≡ 34 = eqb-true (get_or xs k 0) 34 last2 in
    rw e2 (record { body = take k xs; is = ap (λ (x : List ℕ). b ∷ x) (take-suc xs k 0 lt) ∙ rw (b34, c34) refl; within = each_take in_string xs }, omega arith)
quoted_tests b xs true false first last some = absurd (some refl)
quoted_tests b xs false e first last some = absurd (some refl)

pub quoted_take : (text : List ℕ) → (quoted_len text ≡ 0 → ⊥) → IsQuoted (take (quoted_len text) text) × (quoted_len text ≤ length text)
unfolding quoted_len
quoted_take [] some = absurd (some refl)
quoted_take (b ∷ xs) some = quoted_tests b xs (b == 34) (get_or (b ∷ xs) (prefix_len in_string xs + 1) 0 == 34) refl refl some

-- names

name_tests : (b : ℕ) (xs : List ℕ) (s d : Bool) → is_name_start b ≡ s → is_digit b ≡ d
    → (cond s (prefix_len is_name_byte (b ∷ xs)) (cond d (prefix_len is_digit (b ∷ xs)) (quoted_len (b ∷ xs))) ≡ 0 → ⊥)
    → IsName (take (cond s (prefix_len is_name_byte (b ∷ xs)) (cond d (prefix_len is_digit (b ∷ xs)) (quoted_len (b ∷ xs)))) (b ∷ xs)) × (cond s (prefix_len is_name_byte (b ∷ xs)) (cond d (prefix_len is_digit (b ∷ xs)) (quoted_len (b ∷ xs))) ≤ length (b ∷ xs))
name_tests b xs true d start digit some = (Plain (run_take is_name_start is_name_byte b xs start (start_name b start)), prefix_len-le-length is_name_byte (b ∷ xs))
name_tests b xs false true start digit some = (Digits (run_take is_digit is_digit b xs digit digit), prefix_len-le-length is_digit (b ∷ xs))
name_tests b xs false false start digit some = let q = quoted_take (b ∷ xs) some in (Quoted q.0, q.1)

name_none : name_len [] ≡ 0
unfolding name_len quoted_len is_name_start is_letter is_digit
name_none = refl

pub name_take : (text : List ℕ) → (name_len text ≡ 0 → ⊥) → IsName (take (name_len text) text) × (name_len text ≤ length text)
unfolding name_len
name_take [] some = absurd (some name_none)
name_take (b ∷ xs) some = name_tests b xs (is_name_start b) (is_digit b) refl refl some

pub name_some : (t : List ℕ) → IsName t → 0 < length t
name_some t (Plain run) = run_some is_name_start is_name_byte t run
name_some t (Digits run) = run_some is_digit is_digit t run
name_some t (Quoted q) = rw q.is (omega arith)

pub same_byte : (b : ℕ) → is_digit b ≡ true → is_digit b ≡ true
same_byte b is = is

not_start_34 : is_name_start 34 ≡ false
unfolding is_name_start is_letter
not_start_34 = refl

not_digit_34 : is_digit 34 ≡ false
unfolding is_digit
not_digit_34 = refl

pub plain_len : (text : List ℕ) → is_name_start (get_or text 0 0) ≡ true → name_len text ≡ prefix_len is_name_byte text
unfolding name_len
plain_len text is = rw is refl

pub digits_len : (text : List ℕ) → is_digit (get_or text 0 0) ≡ true → name_len text ≡ prefix_len is_digit text
unfolding name_len
digits_len text is = rw (digit_no_start (get_or text 0 0) is, is) refl

pub quote_len : (text : List ℕ) → get_or text 0 0 ≡ 34 → name_len text ≡ quoted_len text
unfolding name_len
quote_len text is = rw (is, not_start_34, not_digit_34) refl

pub name_most : (t after : List ℕ) → IsName t → length t ≤ name_len (t ++ after)
name_most t after (Plain run) = rw (plain_len (t ++ after) (run_first is_name_start is_name_byte t after run)) (run_most is_name_start is_name_byte start_name t after run)
name_most t after (Digits run) = rw (digits_len (t ++ after) (run_first is_digit is_digit t after run)) (run_most is_digit is_digit same_byte t after run)
name_most t after (Quoted q) = let e = quoted_exact t after q in omega (arith, e.0, quote_len (t ++ after) e.1)

pub name_exact : (t after : List ℕ) → IsName t → name_len (t ++ 58 ∷ after) ≡ length t
name_exact t after (Plain run) = plain_len (t ++ 58 ∷ after) (run_first is_name_start is_name_byte t (58 ∷ after) run) ∙ each_all is_name_byte t 58 after (run_each is_name_start is_name_byte start_name t run) no_colon
name_exact t after (Digits run) = digits_len (t ++ 58 ∷ after) (run_first is_digit is_digit t (58 ∷ after) run) ∙ each_all is_digit t 58 after (run_each is_digit is_digit same_byte t run) no_digit_colon
name_exact t after (Quoted q) = let e = quoted_exact t (58 ∷ after) q in quote_len (t ++ 58 ∷ after) e.1 ∙ e.0

-- labels

label_tests : (text : List ℕ) (none colon : Bool) → (name_len text == 0) ≡ none → (get_or text (name_len text) 0 == 58) ≡ colon
    → (cond none 0 (cond colon (name_len text + 1) 0) ≡ 0 → ⊥) → IsLabel (take (cond none 0 (cond colon (name_len text + 1) 0)) text) × (cond none 0 (cond colon (name_len text + 1) 0) ≤ length text) × (cond none 0 (cond colon (name_len text + 1) 0) ≡ name_len text + 1)
label_tests text true colon named last some = absurd (some refl)
label_tests text false false named last some = absurd (some refl)
label_tests text false true named last some =
    let n = name_len text in
    let e : n + 1 ≡ suc n = omega arith in
    let lt : n < length text = stands text n 57 last in
    let c58 : get_or text n 0 ≡ 58 = eqb-true (get_or text n 0) 58 last in
    rw e (record { name = take n text; is = take-suc text n 0 lt ∙ rw c58 refl; spells = (name_take text (eqb-false n 0 named)).0 }, omega arith, refl)

pub label_take : (text : List ℕ) → (label_len text ≡ 0 → ⊥) → IsLabel (take (label_len text) text) × (label_len text ≤ length text) × (label_len text ≡ name_len text + 1)
unfolding label_len
label_take text some = label_tests text (name_len text == 0) (get_or text (name_len text) 0 == 58) refl refl some

label_named : (text : List ℕ) → (name_len text ≡ 0 → ⊥) → get_or text (name_len text) 0 ≡ 58 → label_len text ≡ name_len text + 1
unfolding label_len
label_named text some colon = rw (ne_eqb (name_len text) 0 some, colon) refl

pub label_exact : (t after : List ℕ) → IsLabel t → label_len (t ++ after) ≡ length t
label_exact t after l =
    let e : (l.name ++ 58 ∷ []) ++ after ≡ l.name ++ 58 ∷ after = append_assoc l.name (58 ∷ []) after in
    let n : name_len (l.name ++ 58 ∷ after) ≡ length l.name = name_exact l.name after l.spells in
    let some : name_len (l.name ++ 58 ∷ after) ≡ 0 → ⊥ = λ z. let s = name_some l.name l.spells in omega arith in
    let at : get_or (l.name ++ 58 ∷ after) (name_len (l.name ++ 58 ∷ after)) 0 ≡ 58 = rw n (get_or_at l.name 58 after) in
    let size : length (l.name ++ 58 ∷ []) ≡ length l.name + 1 = simp length-append in
    rw l.is (ap label_len e ∙ label_named (l.name ++ 58 ∷ after) some at ∙ omega (arith, n, size))

pub label_some : (t : List ℕ) → IsLabel t → 0 < length t
label_some t l = let size : length (l.name ++ 58 ∷ []) ≡ length l.name + 1 = simp length-append in rw l.is (omega (arith, size))

-- names behind a sign

signed_tests : (b : ℕ) (xs : List ℕ) (none : Bool) → (name_len xs == 0) ≡ none → (cond none 0 (name_len xs + 1) ≡ 0 → ⊥)
    → IsSigned b (take (cond none 0 (name_len xs + 1)) (b ∷ xs)) × (cond none 0 (name_len xs + 1) ≤ length (b ∷ xs))
signed_tests b xs true named some = absurd (some refl)
signed_tests b xs false named some =
    let e : name_len xs + 1 ≡ suc (name_len xs) = omega arith in
    let n = name_take xs (eqb-false (name_len xs) 0 named) in
    rw e (record { name = take (name_len xs) xs; is = refl; spells = n.0 }, omega (arith, n.1))

pub signed_take : (b : ℕ) (xs : List ℕ) → (signed_len (b ∷ xs) ≡ 0 → ⊥) → IsSigned b (take (signed_len (b ∷ xs)) (b ∷ xs)) × (signed_len (b ∷ xs) ≤ length (b ∷ xs))
unfolding signed_len
signed_take b xs some = signed_tests b xs (name_len xs == 0) refl some

signed_named : (b : ℕ) (xs : List ℕ) → (name_len xs ≡ 0 → ⊥) → signed_len (b ∷ xs) ≡ name_len xs + 1
unfolding signed_len
signed_named b xs some = rw (ne_eqb (name_len xs) 0 some) refl

pub signed_most : (sign : ℕ) (t after : List ℕ) → IsSigned sign t → length t ≤ signed_len (t ++ after)
signed_most sign t after s =
    let most = name_most s.name after s.spells in
    let pos = name_some s.name s.spells in
    let some : name_len (s.name ++ after) ≡ 0 → ⊥ = λ z. omega arith in
    rw s.is (omega (arith, signed_named sign (s.name ++ after) some, most))

-- integers

no_digit_0 : is_digit 0 ≡ true → ⊥
unfolding is_digit
no_digit_0 is = cc

digit_cond : (x k : ℕ) (t : Bool) → is_digit x ≡ t → (cond t (1 + k) 0 ≡ 0 → ⊥) → is_digit x ≡ true
digit_cond x k true is some = is
digit_cond x k false is some = absurd (some refl)

digit_front : (xs : List ℕ) → (prefix_len is_digit xs ≡ 0 → ⊥) → is_digit (get_or xs 0 0) ≡ true
digit_front [] some = absurd (some refl)
digit_front (x ∷ xs) some = digit_cond x (prefix_len is_digit xs) (is_digit x) refl some

digit_run_take : (xs : List ℕ) → is_digit (get_or xs 0 0) ≡ true → IsRun is_digit is_digit (take (prefix_len is_digit xs) xs)
digit_run_take [] is = absurd (no_digit_0 is)
digit_run_take (x ∷ xs) is = run_take is_digit is_digit x xs is is

integer_tests : (b : ℕ) (xs : List ℕ) (minus none : Bool) → (b == 45) ≡ minus → (prefix_len is_digit xs == 0) ≡ none → (minus ≡ false → is_digit b ≡ true)
    → (cond minus (cond none 0 (prefix_len is_digit xs + 1)) (prefix_len is_digit (b ∷ xs)) ≡ 0 → ⊥)
    → IsInteger (take (cond minus (cond none 0 (prefix_len is_digit xs + 1)) (prefix_len is_digit (b ∷ xs))) (b ∷ xs)) × (cond minus (cond none 0 (prefix_len is_digit xs + 1)) (prefix_len is_digit (b ∷ xs)) ≤ length (b ∷ xs))
integer_tests b xs false none sign digits first some = (Positive (run_take is_digit is_digit b xs (first refl) (first refl)), prefix_len-le-length is_digit (b ∷ xs))
integer_tests b xs true true sign digits first some = absurd (some refl)
integer_tests b xs true false sign digits first some =
    let k = prefix_len is_digit xs in
    let e : k + 1 ≡ suc k = omega arith in
    let b45 : b ≡ 45 = eqb-true b 45 sign in
    let front = digit_front xs (eqb-false k 0 digits) in
    rw e (Negative (take k xs) (ap (λ (x : ℕ). x ∷ take k xs) b45) (digit_run_take xs front), omega (arith, prefix_len-le-length is_digit xs))

pub integer_take : (b : ℕ) (xs : List ℕ) → ((b == 45) ≡ false → is_digit b ≡ true) → (integer_len (b ∷ xs) ≡ 0 → ⊥) → IsInteger (take (integer_len (b ∷ xs)) (b ∷ xs)) × (integer_len (b ∷ xs) ≤ length (b ∷ xs))
unfolding integer_len
integer_take b xs first some = integer_tests b xs (b == 45) (prefix_len is_digit xs == 0) refl refl first some

digit_no_minus : (b : ℕ) → is_digit b ≡ true → (b == 45) ≡ false
unfolding is_digit
digit_no_minus b is = grind (arith, nat_tests)

positive_len : (text : List ℕ) → is_digit (get_or text 0 0) ≡ true → integer_len text ≡ prefix_len is_digit text
unfolding integer_len
positive_len text is = rw (digit_no_minus (get_or text 0 0) is) refl

negative_len : (xs : List ℕ) → (prefix_len is_digit xs ≡ 0 → ⊥) → integer_len (45 ∷ xs) ≡ prefix_len is_digit xs + 1
unfolding integer_len
negative_len xs some = rw (ne_eqb (prefix_len is_digit xs) 0 some) refl

pub integer_most : (t after : List ℕ) → IsInteger t → length t ≤ integer_len (t ++ after)
integer_most t after (Positive run) = rw (positive_len (t ++ after) (run_first is_digit is_digit t after run)) (run_most is_digit is_digit same_byte t after run)
integer_most t after (Negative digits is run) =
    let most = run_most is_digit is_digit same_byte digits after run in
    let pos = run_some is_digit is_digit digits run in
    let some : prefix_len is_digit (digits ++ after) ≡ 0 → ⊥ = λ z. omega arith in
    rw is (omega (arith, negative_len (digits ++ after) some, most))

pub integer_some : (t : List ℕ) → IsInteger t → 0 < length t
integer_some t (Positive run) = run_some is_digit is_digit t run
integer_some t (Negative digits is run) = rw is (omega arith)

-- punctuation

abbrev mark_or_points : Bool → Bool → Bool → ℕ
mark_or_points mark two three = cond mark 1 (cond (two && three) 3 0)

punct_tests : (b : ℕ) (xs : List ℕ) (mark two three : Bool) → is_mark b ≡ mark → (get_or xs 0 0 == 46) ≡ two → (get_or xs 1 0 == 46) ≡ three → (mark ≡ false → b ≡ 46)
    → (mark_or_points mark two three ≡ 0 → ⊥) → IsPunct (take (mark_or_points mark two three) (b ∷ xs)) × (mark_or_points mark two three ≤ length (b ∷ xs))
punct_tests b xs true two three is second third points some = (Mark b refl is, omega arith)
punct_tests b xs false false three is second third points some = absurd (some refl)
punct_tests b xs false true false is second third points some = absurd (some refl)
punct_tests b [] false true true is second third points some = absurd (cc)
punct_tests b (x ∷ []) false true true is second third points some = absurd (cc)
punct_tests b (x ∷ y ∷ xs) false true true is second third points some =
    (Points (rw (points refl, eqb-true x 46 second, eqb-true y 46 third) refl), omega arith)

pub punct_take : (b : ℕ) (xs : List ℕ) → (is_mark b ≡ false → b ≡ 46) → (punct_len (b ∷ xs) ≡ 0 → ⊥) → IsPunct (take (punct_len (b ∷ xs)) (b ∷ xs)) × (punct_len (b ∷ xs) ≤ length (b ∷ xs))
unfolding punct_len
punct_take b xs points some = punct_tests b xs (is_mark b) (get_or xs 0 0 == 46) (get_or xs 1 0 == 46) refl refl refl points some

mark_len : (b : ℕ) (after : List ℕ) → is_mark b ≡ true → 1 ≤ punct_len (b ∷ after)
unfolding punct_len
mark_len b after is = rw is (omega arith)

pub punct_most : (t after : List ℕ) → IsPunct t → length t ≤ punct_len (t ++ after)
unfolding punct_len is_mark
punct_most t after (Mark b is mark) = rw is (mark_len b after mark)
punct_most t after (Points is) = rw is (omega arith)

-- gaps

gap_tests : (b : ℕ) (xs : List ℕ) (comment : Bool) → (b == 59) ≡ comment → (comment ≡ false → is_blank b ≡ true)
    → IsGap (take (cond comment (1 + prefix_len in_line xs) 1) (b ∷ xs)) × (cond comment (1 + prefix_len in_line xs) 1 ≤ length (b ∷ xs))
gap_tests b xs false is blank = (Blank b refl (blank refl), omega arith)
gap_tests b xs true is blank =
    let e : 1 + prefix_len in_line xs ≡ suc (prefix_len in_line xs) = omega arith in
    let b59 : b ≡ 59 = eqb-true b 59 is in
    rw e (Comment (take (prefix_len in_line xs) xs) (ap (λ (x : ℕ). x ∷ take (prefix_len in_line xs) xs) b59) (each_take in_line xs), omega (arith, prefix_len-le-length in_line xs))

pub gap_take : (b : ℕ) (xs : List ℕ) → ((b == 59) ≡ false → is_blank b ≡ true) → IsGap (take (gap_len (b ∷ xs)) (b ∷ xs)) × (gap_len (b ∷ xs) ≤ length (b ∷ xs))
unfolding gap_len
gap_take b xs blank = gap_tests b xs (b == 59) refl blank

one_gap : (b : ℕ) (xs : List ℕ) → 1 ≤ gap_len (b ∷ xs)
unfolding gap_len
one_gap b xs = grind arith

comment_most : (line after : List ℕ) → Each in_line line → length (59 ∷ line) ≤ gap_len (59 ∷ (line ++ after))
unfolding gap_len
comment_most line after all = omega (arith, each_most in_line line after all)

pub gap_most : (t after : List ℕ) → IsGap t → length t ≤ gap_len (t ++ after)
gap_most t after (Blank b is blank) = rw is (one_gap b after)
gap_most t after (Comment line is all) = rw is (comment_most line after all)

pub gap_some : (t : List ℕ) → IsGap t → 0 < length t
gap_some t (Blank b is blank) = rw is (omega arith)
gap_some t (Comment line is all) = rw is (omega arith)

-- the class of the first byte

peel : (P : ℕ → Type 0) (b k : ℕ) (front : Bool) → (front ≡ true → P b) → P k → (front || b == k) ≡ true → P b
peel P b k front before at is = elim (or_cases front (b == k) is) [ inl f ↦ before f | inr e ↦ subst P (sym (eqb-true b k e)) at ]

pub mark_form : (b : ℕ) → is_mark b ≡ true → form_of b ≡ Some (form.Token kind.Punct)
unfolding is_mark form_of is_blank is_digit is_word_start is_letter
mark_form b is =
    let P : ℕ → Type 0 = λ x. form_of x ≡ Some (form.Token kind.Punct) in
    peel P b 124 _ (peel P b 42 _ (peel P b 36 _ (peel P b 35 _ (peel P b 33 _ (peel P b 62 _ (peel P b 60 _ (peel P b 125 _ (peel P b 123 _ (peel P b 93 _ (peel P b 91 _ (peel P b 41 _ (peel P b 40 _ (peel P b 44 _ (λ e. subst P (sym (eqb-true b 61 e)) refl) refl) refl) refl) refl) refl) refl) refl) refl) refl) refl) refl) refl) refl) refl is

digit_no_gap : (b : ℕ) → is_digit b ≡ true → (is_blank b || b == 59) ≡ false
unfolding is_digit is_blank
digit_no_gap b is = grind (arith, nat_tests)

digit_no_at : (b : ℕ) → is_digit b ≡ true → (b == 64) ≡ false
unfolding is_digit
digit_no_at b is = grind (arith, nat_tests)

digit_no_percent : (b : ℕ) → is_digit b ≡ true → (b == 37) ≡ false
unfolding is_digit
digit_no_percent b is = grind (arith, nat_tests)

word_no_gap : (b : ℕ) → is_word_start b ≡ true → (is_blank b || b == 59) ≡ false
unfolding is_word_start is_letter is_blank
word_no_gap b is = grind (arith, nat_tests)

word_no_at : (b : ℕ) → is_word_start b ≡ true → (b == 64) ≡ false
unfolding is_word_start is_letter
word_no_at b is = grind (arith, nat_tests)

word_no_percent : (b : ℕ) → is_word_start b ≡ true → (b == 37) ≡ false
unfolding is_word_start is_letter
word_no_percent b is = grind (arith, nat_tests)

word_no_integer : (b : ℕ) → is_word_start b ≡ true → (is_digit b || b == 45) ≡ false
unfolding is_word_start is_letter is_digit
word_no_integer b is = grind (arith, nat_tests)

pub blank_form : (b : ℕ) → is_blank b ≡ true → form_of b ≡ Some form.Gap
unfolding form_of
blank_form b is = rw is refl

pub digit_form : (b : ℕ) → is_digit b ≡ true → form_of b ≡ Some (form.Token kind.Integer)
unfolding form_of
digit_form b is = rw (digit_no_gap b is, digit_no_at b is, digit_no_percent b is, is) refl

pub word_form : (b : ℕ) → is_word_start b ≡ true → form_of b ≡ Some (form.Token kind.Word)
unfolding form_of
word_form b is = rw (word_no_gap b is, word_no_at b is, word_no_percent b is, word_no_integer b is, is) refl

pub other_forms : (form_of 59 ≡ Some form.Gap) × (form_of 64 ≡ Some (form.Token kind.GlobalName)) × (form_of 37 ≡ Some (form.Token kind.LocalName)) × (form_of 45 ≡ Some (form.Token kind.Integer)) × (form_of 34 ≡ Some (form.Token kind.Text)) × (form_of 46 ≡ Some (form.Token kind.Punct))
unfolding is_mark form_of is_blank is_digit is_word_start is_letter
other_forms = (refl, refl, refl, refl, refl, refl)
