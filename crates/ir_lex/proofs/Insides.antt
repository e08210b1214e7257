-- Where a text is the front of a piece and no piece stands at its front, `ends_inside` says so; and where it says so, a piece is begun.
use Rattle.std.proofs.Common.{◌≡◌, ℕ, ◌⊎◌, inl, inr, Bool, true, false, cond, List, [], ◌∷◌, ◌++◌, length, drop, get_or, refl, sym, ap, ◌∙◌, arith, append_assoc}
use Rattle.std.specs.Prelude.{◌&&◌, ◌||◌, ◌==◌}
use Rattle.std.proofs.lemmas.Bool.{or_cases, eqb-true}
use Rattle.std.proofs.lemmas.List.{append-nil}
use Rattle.ir_lex.specs.declared.token.TokenKind.TheVariants as kind
use Rattle.ir_lex.specs.declared.token.Form.{Form}
use Rattle.ir_lex.specs.declared.token.Form.TheVariants as form
use Rattle.ir_lex.specs.Classes.{is_digit, is_letter, is_name_start, is_name_byte, is_word_start, is_word_byte, is_mark, in_string}
use Rattle.ir_lex.specs.Lexing.{all_pass, ends_inside}
use Rattle.ir_lex.specs.Cut.{Each, IsRun, IsQuoted, IsName, Plain, Digits, Quoted, IsSigned, IsLabel, IsInteger, Positive, Negative, IsPunct, Mark, Points, IsGap, Blank, Comment, IsForm}
use Rattle.ir_lex.specs.Faults.{BeginsNone, IsBegun}
use Rattle.ir_lex.proofs.Begun.{split, each_pass, pass_each, run_front, one_run, IsOpened, quoted_front}

-- what `ends_inside` says, by the first byte

inside_string : (body : List ℕ) → Each in_string body → ends_inside (34 ∷ body) ≡ true
unfolding ends_inside
inside_string body all = each_pass in_string body all

inside_sign : ends_inside (64 ∷ []) ≡ true
unfolding ends_inside
inside_sign = refl

inside_percent : ends_inside (37 ∷ []) ≡ true
unfolding ends_inside
inside_percent = refl

second : (a b : Bool) → b ≡ true → (a || b) ≡ true
second true b e = refl
second false b e = e

inside_global : (body : List ℕ) → Each in_string body → ends_inside (64 ∷ 34 ∷ body) ≡ true
unfolding ends_inside
inside_global body all = second (length (64 ∷ 34 ∷ body) == 1) (all_pass in_string body) (each_pass in_string body all)

inside_local : (body : List ℕ) → Each in_string body → ends_inside (37 ∷ 34 ∷ body) ≡ true
unfolding ends_inside
inside_local body all = second (length (37 ∷ 34 ∷ body) == 1) (all_pass in_string body) (each_pass in_string body all)

inside_minus : (xs : List ℕ) → Each is_name_byte (45 ∷ xs) → ends_inside (45 ∷ xs) ≡ true
unfolding ends_inside
inside_minus xs all = each_pass is_name_byte (45 ∷ xs) all

inside_point : (xs : List ℕ) → Each is_name_byte (46 ∷ xs) → ends_inside (46 ∷ xs) ≡ true
unfolding ends_inside
inside_point xs all = each_pass is_name_byte (46 ∷ xs) all

name_marks : (is_name_byte 45 ≡ true) × (is_name_byte 46 ≡ true)
unfolding is_name_byte is_name_start is_letter
name_marks = (refl, refl)

-- a byte that begins a name begins a piece by itself, but for `-` and `.`
data Start (x : ℕ) : Type 0 where
  OfWord : is_word_start x ≡ true → Start x
  Dollar : x ≡ 36 → Start x
  Point : x ≡ 46 → Start x
  Minus : x ≡ 45 → Start x

start_of : (x : ℕ) → is_name_start x ≡ true → Start x
unfolding is_name_start is_word_start
start_of x is =
    elim (or_cases (is_letter x || x == 36 || x == 46 || x == 95) (x == 45) is) [
      | inr e ↦ Minus (eqb-true x 45 e)
      | inl a ↦
          elim (or_cases (is_letter x || x == 36 || x == 46) (x == 95) a) [
            | inr e ↦ OfWord (let f : x ≡ 95 = eqb-true x 95 e in right_of (is_letter x) (x == 95) e)
            | inl b ↦
                elim (or_cases (is_letter x || x == 36) (x == 46) b) [
                  | inr e ↦ Point (eqb-true x 46 e)
                  | inl c ↦
                      elim (or_cases (is_letter x) (x == 36) c) [
                        | inr e ↦ Dollar (eqb-true x 36 e)
                        | inl l ↦ OfWord (left_of (is_letter x) (x == 95) l)
                      ]
                ]
          ]
    ]
  where
    left_of : (a b : Bool) → a ≡ true → (a || b) ≡ true
    left_of a b e = rw e refl

    right_of : (a b : Bool) → b ≡ true → (a || b) ≡ true
    right_of true b e = refl
    right_of false b e = e

dollar_mark : is_mark 36 ≡ true
unfolding is_mark
dollar_mark = refl

run_of_one : (first p : ℕ → Bool) (x : ℕ) → first x ≡ true → IsRun first p (x ∷ [])
run_of_one first p x is = record { head = x; tail = []; is = refl; begins = is; goes_on = tt }

-- the front of a name that begins a label
plain_inside : (x : ℕ) (xs : List ℕ) → is_name_start x ≡ true → Each is_name_byte xs → BeginsNone (x ∷ xs) → ends_inside (x ∷ xs) ≡ true
plain_inside x xs start all none = go (start_of x start)
  where
    go : Start x → ends_inside (x ∷ xs) ≡ true
    go (OfWord is) = absurd (none (form.Token kind.Word) (x ∷ []) xs (run_of_one is_word_start is_word_byte x is) refl)
    go (Dollar is) = absurd (none (form.Token kind.Punct) (x ∷ []) xs (Mark x refl (rw is dollar_mark)) refl)
    go (Point is) = rw is (inside_point xs (name_marks.1, all))
    go (Minus is) = rw is (inside_minus xs (name_marks.0, all))

-- the front of a string
string_inside : (x : ℕ) (xs r : List ℕ) → IsQuoted ((x ∷ xs) ++ r) → BeginsNone (x ∷ xs) → ends_inside (x ∷ xs) ≡ true
string_inside x xs r q none =
    elim (quoted_front x xs r q) [
      | inl whole ↦ absurd (none (form.Token kind.Text) (x ∷ xs) [] whole (append-nil (x ∷ xs)))
      | inr o ↦ rw o.is (inside_string o.body o.within)
    ]

name_inside : (x : ℕ) (xs r : List ℕ) → IsName ((x ∷ xs) ++ r) → BeginsNone (x ∷ xs) → ends_inside (x ∷ xs) ≡ true
name_inside x xs r (Plain run) none =
    let front = run_front is_name_start is_name_byte x xs r run in
    let same : x ≡ front.head = (let e = front.is in cc) in
    let rest : xs ≡ front.tail = (let e = front.is in cc) in
    plain_inside x xs (rw same front.begins) (rw rest front.goes_on) none
name_inside x xs r (Digits run) none = absurd (none (form.Token kind.Integer) (x ∷ []) xs (Positive (one_run is_digit is_digit x xs r run)) refl)
name_inside x xs r (Quoted q) none = string_inside x xs r q none

-- the front of a name behind its sign
signed_inside : (sign : ℕ) (f : Form) → ((t : List ℕ) → IsSigned sign t → IsForm f t) → ends_inside (sign ∷ []) ≡ true → ((body : List ℕ) → Each in_string body → ends_inside (sign ∷ 34 ∷ body) ≡ true)
    → (x : ℕ) (xs r : List ℕ) → IsSigned sign ((x ∷ xs) ++ r) → BeginsNone (x ∷ xs) → ends_inside (x ∷ xs) ≡ true
signed_inside sign f shaped one unended x [] r s none = let same : x ≡ sign = (let e = s.is in cc) in rw same one
signed_inside sign f shaped one unended x (y ∷ ys) r s none =
    let same : x ≡ sign = (let e = s.is in cc) in
    let rest : (y ∷ ys) ++ r ≡ s.name = (let e = s.is in cc) in
    let behind : IsName ((y ∷ ys) ++ r) = rw rest s.spells in
    rw same (go behind (rw same at none))
  where
    whole : IsName (y ∷ ys) → BeginsNone (sign ∷ y ∷ ys) → ⊥
    whole name none = none f (sign ∷ y ∷ ys) [] (shaped (sign ∷ y ∷ ys) (record { name = y ∷ ys; is = refl; spells = name })) (append-nil (sign ∷ y ∷ ys))

    go : IsName ((y ∷ ys) ++ r) → BeginsNone (sign ∷ y ∷ ys) → ends_inside (sign ∷ y ∷ ys) ≡ true
    go (Plain run) none = absurd (whole (Plain (run_front is_name_start is_name_byte y ys r run)) none)
    go (Digits run) none = absurd (whole (Digits (run_front is_digit is_digit y ys r run)) none)
    go (Quoted q) none =
        elim (quoted_front y ys r q) [
          | inl q ↦ absurd (whole (Quoted q) none)
          | inr o ↦ rw o.is (unended o.body o.within)
        ]

same_end : (xs ys zs : List ℕ) → xs ++ ys ≡ xs ++ zs → ys ≡ zs
same_end [] ys zs e = e
same_end (x ∷ xs) ys zs e = same_end xs ys zs (let f : xs ++ ys ≡ xs ++ zs = cc in f)

colon_last : (s r : List ℕ) → s ++ r ≡ 58 ∷ [] → (s ≡ []) ⊎ (s ≡ 58 ∷ [])
colon_last [] r e = inl refl
colon_last (x ∷ []) r e = let f : x ≡ 58 = cc in inr (rw f refl)
colon_last (x ∷ y ∷ s) r e = absurd (cc)

-- the front of a label
label_inside : (x : ℕ) (xs r : List ℕ) → IsLabel ((x ∷ xs) ++ r) → BeginsNone (x ∷ xs) → ends_inside (x ∷ xs) ≡ true
label_inside x xs r l none =
    elim (split (x ∷ xs) r l.name (58 ∷ []) l.is) [
      | inl p ↦ name_inside x xs p.0 (rw p.1 l.spells) none
      | inr p ↦
          (let tail : p.0 ++ r ≡ 58 ∷ [] = same_end l.name (p.0 ++ r) (58 ∷ []) (sym (append_assoc l.name p.0 r) ∙ ap (λ (z : List ℕ). z ++ r) p.1 ∙ l.is) in
          elim (colon_last p.0 r tail) [
            | inl nothing ↦ (let e : (x ∷ xs) ++ [] ≡ l.name = append-nil (x ∷ xs) ∙ sym p.1 ∙ ap (λ (z : List ℕ). l.name ++ z) nothing ∙ append-nil l.name in name_inside x xs [] (rw e l.spells) none)
            | inr whole ↦ absurd (none (form.Token kind.Label) (x ∷ xs) [] (record { name = l.name; is = sym p.1 ∙ ap (λ (z : List ℕ). l.name ++ z) whole; spells = l.spells }) (append-nil (x ∷ xs)))
          ])
    ]

integer_inside : (x : ℕ) (xs r : List ℕ) → IsInteger ((x ∷ xs) ++ r) → BeginsNone (x ∷ xs) → ends_inside (x ∷ xs) ≡ true
integer_inside x xs r (Positive run) none = absurd (none (form.Token kind.Integer) (x ∷ []) xs (Positive (one_run is_digit is_digit x xs r run)) refl)
integer_inside x [] r (Negative digits is run) none = let same : x ≡ 45 = cc in rw same (inside_minus [] (name_marks.0, tt))
integer_inside x (y ∷ ys) r (Negative digits is run) none =
    let same : x ≡ 45 = cc in
    let rest : (y ∷ ys) ++ r ≡ digits = cc in
    absurd (none (form.Token kind.Integer) (x ∷ y ∷ []) ys (Negative (y ∷ []) (rw same refl) (one_run is_digit is_digit y ys r (rw rest run))) refl)

punct_inside : (x : ℕ) (xs r : List ℕ) → IsPunct ((x ∷ xs) ++ r) → BeginsNone (x ∷ xs) → ends_inside (x ∷ xs) ≡ true
punct_inside x xs r (Mark b is mark) none = let same : x ≡ b = cc in absurd (none (form.Token kind.Punct) (x ∷ []) xs (Mark x refl (rw same mark)) refl)
punct_inside x [] r (Points is) none = let same : x ≡ 46 = cc in rw same (inside_point [] (name_marks.1, tt))
punct_inside x (y ∷ []) r (Points is) none = let same : x ≡ 46 = cc in let next : y ≡ 46 = cc in rw (same, next) (inside_point (46 ∷ []) (name_marks.1, (name_marks.1, tt)))
punct_inside x (y ∷ z ∷ zs) r (Points is) none =
    let a : x ≡ 46 = cc in
    let b : y ≡ 46 = cc in
    let c : z ≡ 46 = cc in
    absurd (none (form.Token kind.Punct) (x ∷ y ∷ z ∷ []) zs (Points (rw (a, b, c) refl)) refl)

gap_inside : (x : ℕ) (xs r : List ℕ) → IsGap ((x ∷ xs) ++ r) → BeginsNone (x ∷ xs) → ends_inside (x ∷ xs) ≡ true
gap_inside x xs r (Blank b is blank) none = let same : x ≡ b = cc in absurd (none form.Gap (x ∷ []) xs (Blank x refl (rw same blank)) refl)
gap_inside x xs r (Comment line is all) none = let same : x ≡ 59 = cc in absurd (none form.Gap (x ∷ []) xs (Comment [] (rw same refl) tt) refl)

pub inside_form : (f : Form) (x : ℕ) (xs r : List ℕ) → IsForm f ((x ∷ xs) ++ r) → BeginsNone (x ∷ xs) → ends_inside (x ∷ xs) ≡ true
inside_form form.Gap x xs r is none = gap_inside x xs r is none
inside_form (form.Token kind.GlobalName) x xs r is none = signed_inside 64 (form.Token kind.GlobalName) (λ t s. s) inside_sign inside_global x xs r is none
inside_form (form.Token kind.LocalName) x xs r is none = signed_inside 37 (form.Token kind.LocalName) (λ t s. s) inside_percent inside_local x xs r is none
inside_form (form.Token kind.Label) x xs r is none = label_inside x xs r is none
inside_form (form.Token kind.Integer) x xs r is none = integer_inside x xs r is none
inside_form (form.Token kind.Word) x xs r is none = absurd (none (form.Token kind.Word) (x ∷ []) xs (one_run is_word_start is_word_byte x xs r is) refl)
inside_form (form.Token kind.Text) x xs r is none = string_inside x xs r is none
inside_form (form.Token kind.Punct) x xs r is none = punct_inside x xs r is none

-- where a text ends inside a token, a piece is begun

begun_string : (xs : List ℕ) → Each in_string xs → IsBegun (34 ∷ xs)
begun_string xs all = record { form = form.Token kind.Text; more = 34 ∷ []; is = record { body = xs; is = refl; within = all } }

a_name : IsName (97 ∷ [])
unfolding is_name_start is_letter
a_name = Plain (run_of_one is_name_start is_name_byte 97 refl)

begun_signed : (sign : ℕ) (f : Form) → ((t : List ℕ) → IsSigned sign t → IsForm f t) → (xs : List ℕ) → (xs ≡ []) ⊎ IsOpened xs → IsBegun (sign ∷ xs)
begun_signed sign f shaped xs (inl nothing) = record { form = f; more = 97 ∷ []; is = shaped (sign ∷ (xs ++ 97 ∷ [])) (record { name = xs ++ 97 ∷ []; is = refl; spells = rw nothing a_name }) }
begun_signed sign f shaped xs (inr o) = record {
  form = f;
  more = 34 ∷ [];
  is = shaped (sign ∷ (xs ++ 34 ∷ [])) (record { name = xs ++ 34 ∷ []; is = refl; spells = Quoted (record { body = o.body; is = rw o.is refl; within = o.within }) });
}

begun_named : (x : ℕ) (xs : List ℕ) → is_name_start x ≡ true → Each is_name_byte xs → IsBegun (x ∷ xs)
begun_named x xs start all = record {
  form = form.Token kind.Label;
  more = 58 ∷ [];
  is = record { name = x ∷ xs; is = refl; spells = Plain (record { head = x; tail = xs; is = refl; begins = start; goes_on = all }) };
}

starts_name : (is_name_start 45 ≡ true) × (is_name_start 46 ≡ true)
unfolding is_name_start is_letter
starts_name = (refl, refl)

both_true : (a b : Bool) → (a && b) ≡ true → (a ≡ true) × (b ≡ true)
both_true true b e = (refl, e)
both_true false b e = absurd (cc)

sign_rest : (xs : List ℕ) → (length (0 ∷ xs) == 1 || (get_or (0 ∷ xs) 1 0 == 34 && all_pass in_string (drop 2 (0 ∷ xs)))) ≡ true → (xs ≡ []) ⊎ IsOpened xs
sign_rest [] e = inl refl
sign_rest (y ∷ ys) e =
    elim (or_cases (length (0 ∷ y ∷ ys) == 1) (y == 34 && all_pass in_string ys) e) [
      | inl one ↦ absurd (let f : length (0 ∷ y ∷ ys) ≡ 1 = eqb-true _ 1 one in omega arith)
      | inr p ↦ (let h = both_true (y == 34) (all_pass in_string ys) p in let q : y ≡ 34 = eqb-true y 34 h.0 in inr (record { body = ys; is = rw q refl; within = pass_each in_string ys h.1 }))
    ]

begun_by : (x : ℕ) (xs : List ℕ) (quote sign : Bool) → (x == 34) ≡ quote → (x == 64 || x == 37) ≡ sign
    → cond quote (all_pass in_string xs) (cond sign (length (0 ∷ xs) == 1 || (get_or (0 ∷ xs) 1 0 == 34 && all_pass in_string (drop 2 (0 ∷ xs)))) ((x == 45 || x == 46) && all_pass is_name_byte (x ∷ xs))) ≡ true → IsBegun (x ∷ xs)
begun_by x xs true sign q s e = let same : x ≡ 34 = eqb-true x 34 q in rw same (begun_string xs (pass_each in_string xs e))
begun_by x xs false true q s e =
    elim (or_cases (x == 64) (x == 37) s) [
      | inl at ↦ (let same : x ≡ 64 = eqb-true x 64 at in rw same (begun_signed 64 (form.Token kind.GlobalName) (λ t s. s) xs (sign_rest xs e)))
      | inr percent ↦ (let same : x ≡ 37 = eqb-true x 37 percent in rw same (begun_signed 37 (form.Token kind.LocalName) (λ t s. s) xs (sign_rest xs e)))
    ]
begun_by x xs false false q s e =
    let h = both_true (x == 45 || x == 46) (all_pass is_name_byte (x ∷ xs)) e in
    let all = pass_each is_name_byte (x ∷ xs) h.1 in
    elim (or_cases (x == 45) (x == 46) h.0) [
      | inl minus ↦ (let same : x ≡ 45 = eqb-true x 45 minus in begun_named x xs (rw same starts_name.0) all.1)
      | inr point ↦ (let same : x ≡ 46 = eqb-true x 46 point in begun_named x xs (rw same starts_name.1) all.1)
    ]

pub begun_inside : (x : ℕ) (xs : List ℕ) → ends_inside (x ∷ xs) ≡ true → IsBegun (x ∷ xs)
unfolding ends_inside
begun_inside x xs e = begun_by x xs (x == 34) (x == 64 || x == 37) refl refl e
