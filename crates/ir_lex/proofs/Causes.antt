-- Why no piece is found, by the forms of pieces alone.
use Rattle.std.proofs.Common.{◌≡◌, ℕ, ◌<◌, ◌≤◌, ◌⊎◌, inl, inr, Bool, true, false, cond, List, ◌∷◌, length, take, drop, get_or, Option, Some, None, refl, sym, ap, subst, ◌∙◌, arith, take-append-drop, nat_lt}
use Rattle.std.specs.Prelude.{◌==◌, nat_le, ◌^◌}
use Rattle.std.proofs.lemmas.Bool.{eqb-true, eqb-false}
use Rattle.std.proofs.lemmas.List.{length-take-le}
use Rattle.ir_lex.specs.declared.token.TokenKind.TheVariants as kind
use Rattle.ir_lex.specs.declared.token.Cause.{Cause}
use Rattle.ir_lex.specs.declared.token.Cause.TheVariants as cause
use Rattle.ir_lex.specs.declared.token.Form.{Form}
use Rattle.ir_lex.specs.declared.token.Form.TheVariants as form
use Rattle.ir_lex.specs.declared.token.Piece.TheVariants as piece
use Rattle.ir_lex.specs.Classes.{is_digit}
use Rattle.ir_lex.specs.Forms.{label_len, form_of, form_len}
use Rattle.ir_lex.specs.Spelling.{number, digits_of, decoded, unquoted, name_part, name_limit, integer_limit, limit_of}
use Rattle.ir_lex.specs.Lexing.{ends_inside, fault_of, limited, piece_as, piece_of}
use Rattle.ir_lex.specs.Cut.{IsForm}
use Rattle.ir_lex.specs.Faults.{BeginsNone, BeginsNever, PassesLimit, IsCause}
use Rattle.ir_lex.proofs.Shapes.{label_take, label_exact}
use Rattle.ir_lex.proofs.Cuts.{kinds, shape_some, shape_most, shape_at, label_form_len, most_of, label_most, tried}
use Rattle.ir_lex.proofs.Begun.{split}
use Rattle.ir_lex.proofs.Insides.{inside_form, begun_inside}

-- the limits that a piece may pass

data Limit (o : Option Cause) : Type 0 where
  Within : o ≡ None → Limit o
  Great : o ≡ Some cause.Number → Limit o
  Long : o ≡ Some cause.TooLong → Limit o

longer_by : (t : Bool) → Limit (cond t (Some cause.TooLong) None)
longer_by true = Long refl
longer_by false = Within refl

number_by : (t : Bool) (o : Option Cause) → Limit o → Limit (cond t (Some cause.Number) o)
number_by true o l = Great refl
number_by false o l = l

either_by : (t : Bool) (o p : Option Cause) → Limit o → Limit p → Limit (cond t o p)
either_by true o p l m = l
either_by false o p l m = m

limit_name : (text : List ℕ) → Limit (name_limit text)
unfolding name_limit
limit_name text =
    either_by (is_digit (get_or text 0 0)) _ _
    (number_by (nat_le (2 ^ 63) (number text)) _ (longer_by (nat_lt 4096 (length text))))
    (either_by (get_or text 0 0 == 34) _ _ (longer_by (nat_lt 4096 (length (decoded (unquoted text))))) (longer_by (nat_lt 4096 (length text))))

limit_integer : (text : List ℕ) → Limit (integer_limit text)
limit_integer text = number_by (nat_le (2 ^ 128) (number (digits_of text))) None (Within refl)

limit_form : (f : Form) (text : List ℕ) → Limit (limit_of f text)
unfolding limit_of
limit_form form.Gap text = Within refl
limit_form (form.Token kind.GlobalName) text = limit_name (name_part kind.GlobalName text)
limit_form (form.Token kind.LocalName) text = limit_name (name_part kind.LocalName text)
limit_form (form.Token kind.Label) text = limit_name (name_part kind.Label text)
limit_form (form.Token kind.Integer) text = limit_integer text
limit_form (form.Token kind.Word) text = Within refl
limit_form (form.Token kind.Text) text = Within refl
limit_form (form.Token kind.Punct) text = Within refl

limit_cause : (why : Cause) (text : List ℕ) (o : Option Cause) → o ≡ Some why → Limit o → PassesLimit why text → IsCause why text
limit_cause why text o is (Within none) p = absurd (cc)
limit_cause why text o is (Great number) p = let e : cause.Number ≡ why = cc in subst (λ (c : Cause). IsCause c text) e (subst (λ (c : Cause). PassesLimit c text) (sym e) p)
limit_cause why text o is (Long long) p = let e : cause.TooLong ≡ why = cc in subst (λ (c : Cause). IsCause c text) e (subst (λ (c : Cause). PassesLimit c text) (sym e) p)

-- no piece at the front

front_none : (text : List ℕ) → label_len text ≡ 0 → ((g : Form) → form_of (get_or text 0 0) ≡ Some g → form_len g text ≡ 0) → BeginsNone text
front_none text none zero g t after is whole =
    let some = shape_some g t is in
    elim (kinds g t after is) [
      | inl lab ↦
          (let label : IsForm (form.Token kind.Label) t = subst (λ (x : Form). IsForm x t) lab is in
          let e : label_len text ≡ length t = rw whole at (label_exact t after label) in
          omega arith)
      | inr o ↦
          (let class : form_of (get_or text 0 0) ≡ Some g = rw whole at o.class in
          let most : length t ≤ form_len g text = rw whole at (shape_most g t after is) in
          let none = zero g class in
          omega arith)
    ]

never : (x : ℕ) (xs : List ℕ) → BeginsNone (x ∷ xs) → ends_inside (x ∷ xs) ≡ false → BeginsNever (x ∷ xs)
never x xs none outside more f t after is whole =
    elim (split t after (x ∷ xs) more whole) [
      | inl p ↦ none f t p.0 is p.1
      | inr p ↦ (let e = inside_form f x xs p.0 (rw p.1 is) none in clash (ends_inside (x ∷ xs)) e outside)
    ]
  where
    clash : (b : Bool) → b ≡ true → b ≡ false → ⊥
    clash b is isnt = cc

fault_by : (x : ℕ) (xs : List ℕ) (t : Bool) → ends_inside (x ∷ xs) ≡ t → BeginsNone (x ∷ xs) → IsCause (cond t cause.End cause.Token) (x ∷ xs)
fault_by x xs true is none = (none, begun_inside x xs is)
fault_by x xs false is none = never x xs none is

fault_cause : (x : ℕ) (xs : List ℕ) → BeginsNone (x ∷ xs) → IsCause (fault_of (x ∷ xs)) (x ∷ xs)
unfolding fault_of
fault_cause x xs none = fault_by x xs (ends_inside (x ∷ xs)) refl none

-- what a refusal says

record PastLimit (o : Option Form) (text : List ℕ) (why : Cause) : Type 0 where
  form : Form
  is : o ≡ Some form
  some : form_len form text ≡ 0 → ⊥
  passes : limit_of form (take (form_len form text) text) ≡ Some why

record Unfound (o : Option Form) (text : List ℕ) (why : Cause) : Type 0 where
  fault : fault_of text ≡ why
  zero : (g : Form) → o ≡ Some g → form_len g text ≡ 0

by_limit : (o : Option Cause) (f : Form) (n : ℕ) (why : Cause) → limited o f n ≡ piece.Bad why → o ≡ Some why
by_limit None f n why is = absurd (cc)
by_limit (Some other) f n why is = let e : other ≡ why = cc in ap Some e

by_length : (f : Form) (text : List ℕ) (why : Cause) (t : Bool) → (form_len f text == 0) ≡ t
    → cond t (piece.Bad (fault_of text)) (limited (limit_of f (take (form_len f text) text)) f (form_len f text)) ≡ piece.Bad why → Unfound (Some f) text why ⊎ PastLimit (Some f) text why
by_length f text why true none is = inl (record {
  fault = cc;
  zero = λ g e. let same : f ≡ g = cc in subst (λ (x : Form). form_len x text ≡ 0) same (eqb-true (form_len f text) 0 none);
})
by_length f text why false some is = inr (record { form = f; is = refl; some = eqb-false (form_len f text) 0 some; passes = by_limit (limit_of f (take (form_len f text) text)) f (form_len f text) why is })

bad_as : (o : Option Form) (text : List ℕ) (why : Cause) → piece_as o text ≡ piece.Bad why → Unfound o text why ⊎ PastLimit o text why
bad_as None text why is = inl (record { fault = cc; zero = λ g e. absurd (cc) })
bad_as (Some f) text why is = by_length f text why (form_len f text == 0) refl is

label_of : (f : Form) → Some (form.Token kind.Label) ≡ Some f → form.Token kind.Label ≡ f
label_of f is = cc

limited_cause : (text : List ℕ) (why : Cause) (t : Bool) → 0 < length text → (label_len text == 0) ≡ t → PastLimit (tried t text) text why → PassesLimit why text
limited_cause text why true pos none l =
    let n = form_len l.form text in
    let zero_label : label_len text ≡ 0 = eqb-true (label_len text) 0 none in
    let shape = shape_at l.form text pos l.is l.some in
    let size : length (take n text) ≡ n = length-take-le n text shape.fits in
    record {
      form = l.form;
      piece = take n text;
      after = drop n text;
      whole = take-append-drop n text;
      is = shape.is;
      longest = λ g t rest is whole. most_of text l.form n zero_label l.is refl size g t rest is whole;
      passes = l.passes;
    }
limited_cause text why false pos named l =
    let some : label_len text ≡ 0 → ⊥ = eqb-false (label_len text) 0 named in
    let same : form.Token kind.Label ≡ l.form = label_of l.form l.is in
    let len : form_len l.form text ≡ label_len text = ap (λ (x : Form). form_len x text) (sym same) ∙ label_form_len text in
    let taken = label_take text some in
    let n = label_len text in
    let size : length (take n text) ≡ n = length-take-le n text taken.1 in
    record {
      form = form.Token kind.Label;
      piece = take n text;
      after = drop n text;
      whole = take-append-drop n text;
      is = taken.0;
      longest = λ g t rest is whole. label_most text n some refl taken.2 size g t rest is whole;
      passes = subst (λ (x : Form). limit_of x (take n text) ≡ Some why) (sym same) (subst (λ (k : ℕ). limit_of l.form (take k text) ≡ Some why) len l.passes);
    }

unfound_cause : (x : ℕ) (xs : List ℕ) (why : Cause) (t : Bool) → (label_len (x ∷ xs) == 0) ≡ t → Unfound (tried t (x ∷ xs)) (x ∷ xs) why → IsCause why (x ∷ xs)
unfound_cause x xs why true none u =
    subst (λ (c : Cause). IsCause c (x ∷ xs)) u.fault (fault_cause x xs (front_none (x ∷ xs) (eqb-true (label_len (x ∷ xs)) 0 none) u.zero))
unfound_cause x xs why false named u =
    let zero : label_len (x ∷ xs) ≡ 0 = sym (label_form_len (x ∷ xs)) ∙ u.zero (form.Token kind.Label) refl in
    absurd (eqb-false (label_len (x ∷ xs)) 0 named zero)

pub bad_cause : (x : ℕ) (xs : List ℕ) (why : Cause) → piece_of (x ∷ xs) ≡ piece.Bad why → IsCause why (x ∷ xs)
unfolding piece_of
bad_cause x xs why is =
    let t = label_len (x ∷ xs) == 0 in
    elim (bad_as (tried t (x ∷ xs)) (x ∷ xs) why is) [
      | inl u ↦ unfound_cause x xs why t refl u
      | inr l ↦ limit_cause why (x ∷ xs) _ l.passes (limit_form l.form _) (limited_cause (x ∷ xs) why t (omega arith) refl l)
    ]
