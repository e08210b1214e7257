-- A text is cut into longest pieces in one way.
use Rattle.std.proofs.Common.{◌≡◌, ℕ, ◌+◌, ◌<◌, ◌≤◌, ◌⊎◌, inl, inr, Bool, true, false, cond, List, [], ◌∷◌, ◌++◌, length, take, drop, get_or, Option, Some, None, refl, sym, ap, subst, ◌∙◌, arith, length-append, take-append-drop}
use Rattle.std.specs.Prelude.{◌||◌, ◌==◌}
use Rattle.std.proofs.lemmas.Bool.{eqb-true, eqb-false, ne_eqb}
use Rattle.std.proofs.lemmas.List.Sums.{prefix_len-le-length}
use Rattle.std.proofs.lemmas.List.{take_at, length-take-le}
use Rattle.ir_lex.specs.declared.token.TokenKind.TheVariants as kind
use Rattle.ir_lex.specs.declared.token.Form.{Form}
use Rattle.ir_lex.specs.declared.token.Form.TheVariants as form
use Rattle.ir_lex.specs.declared.token.Piece.TheVariants as piece
use Rattle.ir_lex.specs.Classes.{is_blank, is_digit, is_letter, is_name_start, is_name_byte, is_word_start, is_word_byte, is_mark}
use Rattle.ir_lex.specs.Forms.{quoted_len, name_len, label_len, signed_len, form_of, form_len}
use Rattle.ir_lex.specs.Spelling.{limit_of}
use Rattle.ir_lex.specs.Lexing.{piece_as, piece_of}
use Rattle.ir_lex.specs.Cut.{IsRun, IsQuoted, IsSigned, IsLabel, IsInteger, Positive, Negative, IsPunct, Mark, Points, IsGap, Blank, Comment, IsForm, Part, IsLongest}
use Rattle.ir_lex.proofs.Runs.{each_most, each_more, run_take, run_most, run_each, run_first, run_some}
use Rattle.ir_lex.proofs.Pieces.{FoundAt, found_as}
use Rattle.ir_lex.proofs.Shapes.{Shape, digit_name, start_name, word_start_byte, word_start_name, word_byte_name, quoted_exact, quoted_take, plain_len, digits_len, quote_len, label_take, label_exact, label_some, signed_take, signed_most, integer_take, integer_most, integer_some, punct_take, punct_most, gap_take, gap_most, gap_some, mark_form, blank_form, digit_form, word_form, other_forms}

or_left : (x y : Bool) → (x || y) ≡ true → y ≡ false → x ≡ true
or_left true y is off = refl
or_left false y is off = absurd (cc)

or_right : (x y : Bool) → (x || y) ≡ true → x ≡ false → y ≡ true
or_right true y is off = absurd (cc)
or_right false y is off = is

-- what the class of a byte says of it
abbrev Says : Form → Bool → Bool → Bool → Bool → Bool → Bool → Bool → Type 0
Says form.Gap gap global local integer word text punct = gap ≡ true
Says (form.Token kind.GlobalName) gap global local integer word text punct = global ≡ true
Says (form.Token kind.LocalName) gap global local integer word text punct = local ≡ true
Says (form.Token kind.Label) gap global local integer word text punct = ⊥
Says (form.Token kind.Integer) gap global local integer word text punct = integer ≡ true
Says (form.Token kind.Word) gap global local integer word text punct = word ≡ true
Says (form.Token kind.Text) gap global local integer word text punct = text ≡ true
Says (form.Token kind.Punct) gap global local integer word text punct = punct ≡ true

abbrev chain : Bool → Bool → Bool → Bool → Bool → Bool → Bool → Option Form
chain gap global local integer word text punct =
    cond gap (Some form.Gap) (cond global (Some (form.Token kind.GlobalName)) (cond local (Some (form.Token kind.LocalName)) (cond integer (Some (form.Token kind.Integer)) (cond word (Some (form.Token kind.Word)) (cond text (Some (form.Token kind.Text)) (cond punct (Some (form.Token kind.Punct)) None))))))

said : (f : Form) (a b c d e g h : Bool) → chain a b c d e g h ≡ Some f → Says f a b c d e g h
said f true b c d e g h is = let s : form.Gap ≡ f = cc in subst (λ (x : Form). Says x true b c d e g h) s refl
said f false true c d e g h is = let s : form.Token kind.GlobalName ≡ f = cc in subst (λ (x : Form). Says x false true c d e g h) s refl
said f false false true d e g h is = let s : form.Token kind.LocalName ≡ f = cc in subst (λ (x : Form). Says x false false true d e g h) s refl
said f false false false true e g h is = let s : form.Token kind.Integer ≡ f = cc in subst (λ (x : Form). Says x false false false true e g h) s refl
said f false false false false true g h is = let s : form.Token kind.Word ≡ f = cc in subst (λ (x : Form). Says x false false false false true g h) s refl
said f false false false false false true h is = let s : form.Token kind.Text ≡ f = cc in subst (λ (x : Form). Says x false false false false false true h) s refl
said f false false false false false false true is = let s : form.Token kind.Punct ≡ f = cc in subst (λ (x : Form). Says x false false false false false false true) s refl
said f false false false false false false false is = absurd (cc)

class_says : (f : Form) (b : ℕ) → form_of b ≡ Some f → Says f (is_blank b || b == 59) (b == 64) (b == 37) (is_digit b || b == 45) (is_word_start b) (b == 34) (is_mark b || b == 46)
unfolding form_of
class_says f b is = said f (is_blank b || b == 59) (b == 64) (b == 37) (is_digit b || b == 45) (is_word_start b) (b == 34) (is_mark b || b == 46) is

-- the longest piece of a form is of that form
shape_take : (f : Form) (b : ℕ) (xs : List ℕ) → form_of b ≡ Some f → (form_len f (b ∷ xs) ≡ 0 → ⊥) → Shape f (b ∷ xs) (form_len f (b ∷ xs))
unfolding form_len
shape_take form.Gap b xs class some =
    let says = class_says form.Gap b class in
    let r = gap_take b xs (or_left (is_blank b) (b == 59) says) in record { is = r.0; fits = r.1 }
shape_take (form.Token kind.GlobalName) b xs class some =
    let says = class_says (form.Token kind.GlobalName) b class in
    let r = signed_take b xs some in record { is = subst (λ (x : ℕ). IsSigned x (take (signed_len (b ∷ xs)) (b ∷ xs))) (eqb-true b 64 says) r.0; fits = r.1 }
shape_take (form.Token kind.LocalName) b xs class some =
    let says = class_says (form.Token kind.LocalName) b class in
    let r = signed_take b xs some in record { is = subst (λ (x : ℕ). IsSigned x (take (signed_len (b ∷ xs)) (b ∷ xs))) (eqb-true b 37 says) r.0; fits = r.1 }
shape_take (form.Token kind.Label) b xs class some = absurd (class_says (form.Token kind.Label) b class)
shape_take (form.Token kind.Integer) b xs class some =
    let says = class_says (form.Token kind.Integer) b class in
    let r = integer_take b xs (or_left (is_digit b) (b == 45) says) some in record { is = r.0; fits = r.1 }
shape_take (form.Token kind.Word) b xs class some =
    let says = class_says (form.Token kind.Word) b class in
    record { is = run_take is_word_start is_word_byte b xs says (word_start_byte b says); fits = prefix_len-le-length is_word_byte (b ∷ xs) }
shape_take (form.Token kind.Text) b xs class some = let r = quoted_take (b ∷ xs) some in record { is = r.0; fits = r.1 }
shape_take (form.Token kind.Punct) b xs class some =
    let says = class_says (form.Token kind.Punct) b class in
    let r = punct_take b xs (λ off. eqb-true b 46 (or_right (is_mark b) (b == 46) says off)) some in record { is = r.0; fits = r.1 }

pub shape_most : (f : Form) (t after : List ℕ) → IsForm f t → length t ≤ form_len f (t ++ after)
unfolding form_len
shape_most form.Gap t after is = gap_most t after is
shape_most (form.Token kind.GlobalName) t after is = signed_most 64 t after is
shape_most (form.Token kind.LocalName) t after is = signed_most 37 t after is
shape_most (form.Token kind.Label) t after is = omega (arith, label_exact t after is)
shape_most (form.Token kind.Integer) t after is = integer_most t after is
shape_most (form.Token kind.Word) t after is = run_most is_word_start is_word_byte word_start_byte t after is
shape_most (form.Token kind.Text) t after is = omega (arith, (quoted_exact t after is).0)
shape_most (form.Token kind.Punct) t after is = punct_most t after is

signed_some : (sign : ℕ) (t : List ℕ) → IsSigned sign t → 0 < length t
signed_some sign t s = rw s.is (omega arith)

quoted_some : (t : List ℕ) → IsQuoted t → 0 < length t
quoted_some t q = rw q.is (omega arith)

punct_some : (t : List ℕ) → IsPunct t → 0 < length t
punct_some t (Mark b is mark) = rw is (omega arith)
punct_some t (Points is) = rw is (omega arith)

pub shape_some : (f : Form) (t : List ℕ) → IsForm f t → 0 < length t
shape_some form.Gap t is = gap_some t is
shape_some (form.Token kind.GlobalName) t is = signed_some 64 t is
shape_some (form.Token kind.LocalName) t is = signed_some 37 t is
shape_some (form.Token kind.Label) t is = label_some t is
shape_some (form.Token kind.Integer) t is = integer_some t is
shape_some (form.Token kind.Word) t is = run_some is_word_start is_word_byte t is
shape_some (form.Token kind.Text) t is = quoted_some t is
shape_some (form.Token kind.Punct) t is = punct_some t is

-- a piece that is no label: its first byte tells its form, and a label that begins with it is longer
pub record Other (f : Form) (text : List ℕ) (n : ℕ) : Type 0 where
  pub class : form_of (get_or text 0 0) ≡ Some f
  pub under : (name_len text ≡ 0 → ⊥) → n ≤ name_len text

no_name : (b : ℕ) (xs : List ℕ) → is_name_start b ≡ false → is_digit b ≡ false → (b == 34) ≡ false → name_len (b ∷ xs) ≡ 0
unfolding name_len quoted_len
no_name b xs start digit quote = rw (start, digit, quote) refl

others_no_name : (xs : List ℕ) → (name_len (59 ∷ xs) ≡ 0) × (name_len (64 ∷ xs) ≡ 0) × (name_len (37 ∷ xs) ≡ 0)
unfolding is_name_start is_letter is_digit
others_no_name xs = (no_name 59 xs refl refl refl, no_name 64 xs refl refl refl, no_name 37 xs refl refl refl)

minus_starts : (is_name_start 45 ≡ true) × (is_name_start 46 ≡ true) × (is_name_byte 46 ≡ true)
unfolding is_name_start is_letter is_name_byte
minus_starts = (refl, refl, refl)

other_gap : (t after : List ℕ) → IsGap t → Other form.Gap (t ++ after) (length t)
other_gap t after (Blank b is blank) = rw is (record { class = blank_form b blank; under = λ some. omega arith })
other_gap t after (Comment line is all) = rw is (record { class = other_forms.0; under = λ some. absurd (some (others_no_name (line ++ after)).0) })

other_global : (t after : List ℕ) → IsSigned 64 t → Other (form.Token kind.GlobalName) (t ++ after) (length t)
other_global t after s = rw s.is (record { class = other_forms.1; under = λ some. absurd (some (others_no_name (s.name ++ after)).1) })

other_local : (t after : List ℕ) → IsSigned 37 t → Other (form.Token kind.LocalName) (t ++ after) (length t)
other_local t after s = rw s.is (record { class = other_forms.2; under = λ some. absurd (some (others_no_name (s.name ++ after)).2) })

same_digit : (b : ℕ) → is_digit b ≡ true → is_digit b ≡ true
same_digit b is = is

other_integer : (t after : List ℕ) → IsInteger t → Other (form.Token kind.Integer) (t ++ after) (length t)
other_integer t after (Positive run) =
    let front = run_first is_digit is_digit t after run in
    record { class = digit_form (get_or (t ++ after) 0 0) front; under = λ some. rw (digits_len (t ++ after) front) (run_most is_digit is_digit same_digit t after run) }
other_integer t after (Negative digits is run) =
    let all = each_more is_digit is_name_byte digit_name digits (run_each is_digit is_digit same_digit digits run) in
    rw is (record { class = other_forms.3; under = λ some. rw (plain_len (45 ∷ (digits ++ after)) minus_starts.0) (each_most is_name_byte (45 ∷ digits) after (start_name 45 minus_starts.0, all)) })

other_word : (t after : List ℕ) → IsRun is_word_start is_word_byte t → Other (form.Token kind.Word) (t ++ after) (length t)
other_word t after run =
    let front = run_first is_word_start is_word_byte t after run in
    let all = each_more is_word_byte is_name_byte word_byte_name t (run_each is_word_start is_word_byte word_start_byte t run) in
    record { class = word_form (get_or (t ++ after) 0 0) front; under = λ some. rw (plain_len (t ++ after) (word_start_name (get_or (t ++ after) 0 0) front)) (each_most is_name_byte t after all) }

other_text : (t after : List ℕ) → IsQuoted t → Other (form.Token kind.Text) (t ++ after) (length t)
other_text t after q =
    let e = quoted_exact t after q in
    record { class = ap form_of e.1 ∙ other_forms.4; under = λ some. omega (arith, quote_len (t ++ after) e.1, e.0) }

other_punct : (t after : List ℕ) → IsPunct t → Other (form.Token kind.Punct) (t ++ after) (length t)
other_punct t after (Mark b is mark) = rw is (record { class = mark_form b mark; under = λ some. omega arith })
other_punct t after (Points is) = rw is (record { class = other_forms.5; under = λ some. rw (plain_len (46 ∷ 46 ∷ 46 ∷ after) minus_starts.1) (each_most is_name_byte (46 ∷ 46 ∷ 46 ∷ []) after (minus_starts.2, (minus_starts.2, (minus_starts.2, tt)))) })

pub kinds : (f : Form) (t after : List ℕ) → IsForm f t → (f ≡ form.Token kind.Label) ⊎ Other f (t ++ after) (length t)
kinds form.Gap t after is = inr (other_gap t after is)
kinds (form.Token kind.GlobalName) t after is = inr (other_global t after is)
kinds (form.Token kind.LocalName) t after is = inr (other_local t after is)
kinds (form.Token kind.Label) t after is = inl refl
kinds (form.Token kind.Integer) t after is = inr (other_integer t after is)
kinds (form.Token kind.Word) t after is = inr (other_word t after is)
kinds (form.Token kind.Text) t after is = inr (other_text t after is)
kinds (form.Token kind.Punct) t after is = inr (other_punct t after is)

-- both ways between the longest piece and the piece that is found

pub shape_at : (f : Form) (text : List ℕ) → 0 < length text → form_of (get_or text 0 0) ≡ Some f → (form_len f text ≡ 0 → ⊥) → Shape f text (form_len f text)
shape_at f [] pos class some = absurd (omega arith)
shape_at f (b ∷ xs) pos class some = shape_take f b xs class some

label_has_name : (text : List ℕ) → (label_len text ≡ 0 → ⊥) → name_len text ≡ 0 → ⊥
unfolding label_len
label_has_name text some none = some (rw none refl)

pub label_form_len : (text : List ℕ) → form_len (form.Token kind.Label) text ≡ label_len text
unfolding form_len
label_form_len text = refl

found_by : (o : Option Form) (f : Form) (text : List ℕ) (n : ℕ) → o ≡ Some f → form_len f text ≡ n → 0 < n → limit_of f (take n text) ≡ None → piece_as o text ≡ piece.Found f n
found_by o f text n o_is len pos limits =
    let some : (n == 0) ≡ false = ne_eqb n 0 (λ z. omega arith) in
    rw (o_is, len, some, limits) refl

abbrev pub tried : Bool → List ℕ → Option Form
tried none text = cond none (form_of (get_or text 0 0)) (Some (form.Token kind.Label))

longest_tried : (p : Part) (rest : List ℕ) → IsLongest p rest → (t : Bool) → (label_len (p.bytes ++ rest) == 0) ≡ t → (tried t (p.bytes ++ rest) ≡ Some p.form) × (form_len p.form (p.bytes ++ rest) ≡ length p.bytes)
longest_tried p rest g true none =
    let text = p.bytes ++ rest in
    let pos : 0 < length p.bytes = shape_some p.form p.bytes g.is in
    let zero_label : label_len text ≡ 0 = eqb-true (label_len text) 0 none in
    elim (kinds p.form p.bytes rest g.is) [
      | inl lab ↦ absurd (let is : IsForm (form.Token kind.Label) p.bytes = subst (λ (f : Form). IsForm f p.bytes) lab g.is in let e = label_exact p.bytes rest is in omega arith)
      | inr o ↦
          (let most = shape_most p.form p.bytes rest g.is in
          let all : length text ≡ length p.bytes + length rest = length-append p.bytes rest in
          let shape = shape_at p.form text (omega arith) o.class (λ z. omega arith) in
          let m = form_len p.form text in
          let size : length (take m text) ≡ m = length-take-le m text shape.fits in
          let back = g.longest p.form (take m text) (drop m text) shape.is (take-append-drop m text) in
          (o.class, omega arith))
    ]
longest_tried p rest g false named =
    let text = p.bytes ++ rest in
    let some : label_len text ≡ 0 → ⊥ = eqb-false (label_len text) 0 named in
    let l = label_take text some in
    let size : length (take (label_len text) text) ≡ label_len text = length-take-le (label_len text) text l.1 in
    let back = g.longest (form.Token kind.Label) (take (label_len text) text) (drop (label_len text) text) l.0 (take-append-drop (label_len text) text) in
    elim (kinds p.form p.bytes rest g.is) [
      | inl lab ↦
          (let is : IsForm (form.Token kind.Label) p.bytes = subst (λ (f : Form). IsForm f p.bytes) lab g.is in
          (ap Some (sym lab), ap (λ (f : Form). form_len f text) lab ∙ label_form_len text ∙ label_exact p.bytes rest is))
      | inr o ↦ absurd (let under = o.under (label_has_name text some) in omega (arith, l.2))
    ]

pub longest_found : (p : Part) (rest : List ℕ) → IsLongest p rest → piece_of (p.bytes ++ rest) ≡ piece.Found p.form (length p.bytes)
unfolding piece_of
longest_found p rest g =
    let text = p.bytes ++ rest in
    let h = longest_tried p rest g (label_len text == 0) refl in
    found_by (tried (label_len text == 0) text) p.form text (length p.bytes) h.0 h.1 (shape_some p.form p.bytes g.is) (rw (take_at p.bytes rest (length p.bytes) refl) g.limits)

-- the piece that is found, as a part
pub record Found (text : List ℕ) (f : Form) (n : ℕ) : Type 0 where
  pub some : 0 < n
  pub fits : n ≤ length text
  pub longest : IsLongest (record { form = f; bytes = take n text }) (drop n text)

label_is : (f : Form) → Some (form.Token kind.Label) ≡ Some f → form.Token kind.Label ≡ f
label_is f is = cc

same_form : (x : Option Form) (f g : Form) → x ≡ Some f → x ≡ Some g → g ≡ f
same_form x f g a b = cc

pub most_of : (text : List ℕ) (f : Form) (n : ℕ) → label_len text ≡ 0 → form_of (get_or text 0 0) ≡ Some f → form_len f text ≡ n → length (take n text) ≡ n
    → (g : Form) (t after : List ℕ) → IsForm g t → t ++ after ≡ text → length t ≤ length (take n text)
most_of text f n none class len size g t after g_is whole =
    let pos = shape_some g t g_is in
    let most : length t ≤ form_len g text = rw whole at (shape_most g t after g_is) in
    elim (kinds g t after g_is) [
      | inl lab ↦ absurd (let is : IsForm (form.Token kind.Label) t = subst (λ (x : Form). IsForm x t) lab g_is in let e : label_len text ≡ length t = rw whole at (label_exact t after is) in omega arith)
      | inr o ↦
          (let g_class : form_of (get_or text 0 0) ≡ Some g = rw whole at o.class in
          let same : g ≡ f = same_form (form_of (get_or text 0 0)) f g class g_class in
          let e : form_len g text ≡ n = ap (λ (x : Form). form_len x text) same ∙ len in
          omega arith)
    ]

pub label_most : (text : List ℕ) (n : ℕ) → (label_len text ≡ 0 → ⊥) → label_len text ≡ n → label_len text ≡ name_len text + 1 → length (take n text) ≡ n
    → (g : Form) (t after : List ℕ) → IsForm g t → t ++ after ≡ text → length t ≤ length (take n text)
label_most text n some len named size g t after g_is whole =
    elim (kinds g t after g_is) [
      | inl lab ↦ (let is : IsForm (form.Token kind.Label) t = subst (λ (x : Form). IsForm x t) lab g_is in let e : label_len text ≡ length t = rw whole at (label_exact t after is) in omega arith)
      | inr o ↦ (let u : length t ≤ name_len (t ++ after) = o.under (rw whole (label_has_name text some)) in let v : length t ≤ name_len text = rw whole at u in omega arith)
    ]

label_found : (text : List ℕ) (n : ℕ) → (label_len text ≡ 0 → ⊥) → FoundAt text (form.Token kind.Label) n → Found text (form.Token kind.Label) n
label_found text n some h =
    let len : label_len text ≡ n = sym (label_form_len text) ∙ h.len in
    let l = label_take text some in
    let fits : n ≤ length text = omega (arith, l.1) in
    let is : IsLabel (take n text) = rw len at l.0 in
    let size : length (take n text) ≡ n = length-take-le n text fits in
    record {
      some = rw size at (label_some (take n text) is);
      fits = fits;
      longest = record {
        is = is;
        limits = h.limits;
        longest = λ g t after g_is e. label_most text n some len l.2 size g t after g_is (e ∙ take-append-drop n text);
      };
    }

found_tried : (text : List ℕ) (f : Form) (n : ℕ) (t : Bool) → 0 < length text → (label_len text == 0) ≡ t → tried t text ≡ Some f → FoundAt text f n → Found text f n
found_tried text f n true pos none is h =
    let zero_label : label_len text ≡ 0 = eqb-true (label_len text) 0 none in
    let shape = rw h.len at (shape_at f text pos is h.some) in
    let size : length (take n text) ≡ n = length-take-le n text shape.fits in
    record {
      some = rw size at (shape_some f (take n text) shape.is);
      fits = shape.fits;
      longest = record {
        is = shape.is;
        limits = h.limits;
        longest = λ g t after g_is e. most_of text f n zero_label is h.len size g t after g_is (e ∙ take-append-drop n text);
      };
    }
found_tried text f n false pos named is h = subst (λ (x : Form). Found text x n) (label_is f is) (label_found text n (eqb-false (label_len text) 0 named) (subst (λ (x : Form). FoundAt text x n) (sym (label_is f is)) h))

pub found_longest : (text : List ℕ) (f : Form) (n : ℕ) → 0 < length text → piece_of text ≡ piece.Found f n → Found text f n
unfolding piece_of
found_longest text f n pos is =
    let h = found_as (tried (label_len text == 0) text) text f n is in
    found_tried text f n (label_len text == 0) pos refl h.0 h.1
