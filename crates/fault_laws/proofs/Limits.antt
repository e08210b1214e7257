-- A piece that passes a limit passes it before whatever does not go on with it.
use Rattle.std.proofs.Common.{◌≡◌, ℕ, ◌<◌, ◌≤◌, inl, inr, List, [], ◌∷◌, ◌++◌, length, take, drop, Option, Some, None, refl, sym, ap, subst, ◌∙◌, arith, take-append-drop}
use Rattle.std.proofs.lemmas.List.{append-nil, length-take-le, take_at}
use Rattle.ir_lex.specs.declared.token.TokenKind.TheVariants as kind
use Rattle.ir_lex.specs.declared.token.Cause.{Cause}
use Rattle.ir_lex.specs.declared.token.Cause.TheVariants as cause
use Rattle.ir_lex.specs.declared.token.Form.{Form}
use Rattle.ir_lex.specs.declared.token.Form.TheVariants as form
use Rattle.ir_lex.specs.declared.token.Piece.{Piece}
use Rattle.ir_lex.specs.declared.token.Piece.TheVariants as piece
use Rattle.ir_lex.specs.Forms.{label_len, name_len}
use Rattle.ir_lex.specs.Spelling.{limit_of}
use Rattle.ir_lex.specs.Lexing.{piece_of}
use Rattle.ir_lex.specs.Cut.{IsForm}
use Rattle.ir_lex.specs.Faults.{PassesLimit, IsCause}
use Rattle.ir_lex.proofs.Shapes.{label_exact, label_take}
use Rattle.ir_lex.proofs.Cuts.{kinds, shape_some, found_longest}
use Rattle.ir_lex.proofs.Causes.{bad_cause}
use Rattle.fault_laws.proofs.Deciding.{Ends}

-- ---- bytes are of one form

same_class : (x : Option Form) (f g : Form) → x ≡ Some f → x ≡ Some g → f ≡ g
same_class x f g a b = cc

label_has_name : (text : List ℕ) → (label_len text ≡ 0 → ⊥) → name_len text ≡ 0 → ⊥
unfolding label_len
label_has_name text some none = some (rw none refl)

-- a label is of no other form
label_alone : (f : Form) (t : List ℕ) → IsForm (form.Token kind.Label) t → IsForm f t → form.Token kind.Label ≡ f
label_alone f t label is =
    elim (kinds f t [] is) [
      | inl e ↦ sym e
      | inr o ↦ absurd (
          let whole = append-nil t in
          let len : label_len t ≡ length t = subst (λ (x : List ℕ). label_len x ≡ length t) whole (label_exact t [] label) in
          let pos = shape_some (form.Token kind.Label) t label in
          let some : label_len t ≡ 0 → ⊥ = λ z. omega arith in
          let named : length t ≤ name_len (t ++ []) = o.under (subst (λ (x : List ℕ). name_len x ≡ 0 → ⊥) (sym whole) (label_has_name t some)) in
          let under : length t ≤ name_len t = subst (λ (x : List ℕ). length t ≤ name_len x) whole named in
          let l = label_take t some in
          omega (arith, l.2)
          )
    ]

pub one_form : (f g : Form) (t : List ℕ) → IsForm f t → IsForm g t → f ≡ g
one_form f g t a b =
    elim (kinds f t [] a) [
      | inl e ↦ e ∙ label_alone g t (subst (λ (x : Form). IsForm x t) e a) b
      | inr o ↦ elim (kinds g t [] b) [
        | inl e ↦ sym (e ∙ label_alone f t (subst (λ (x : Form). IsForm x t) e b) a)
        | inr p ↦ same_class _ f g o.class p.class
      ]
    ]

-- ---- the limit

-- two pieces at one place, each as long as the other
pub same_length : (t u x y : List ℕ) → t ++ x ≡ u ++ y → length t ≡ length u → t ≡ u
same_length t u x y e l = sym (take_at t x (length u) l) ∙ ap (take (length u)) e ∙ take_at u y (length u) refl

module _ (f : Form) (through more : List ℕ) (why : Cause) (is : IsForm f through) (passes : limit_of f through ≡ Some why) (ends : Ends through more) where
  no_find : (g : Form) (n : ℕ) → 0 < length (through ++ more) → piece_of (through ++ more) ≡ piece.Found g n → ⊥
  no_find g n some found_is =
      let found = found_longest (through ++ more) g n some found_is in
      let size = length-take-le n (through ++ more) found.fits in
      let whole = take-append-drop n (through ++ more) in
      let short = ends g (take n (through ++ more)) (drop n (through ++ more)) found.longest.is whole in
      let long = found.longest.longest f through more is (sym whole) in
      let same : take n (through ++ more) ≡ through = same_length _ through _ more whole (omega arith) in
      let form_is : g ≡ f = one_form g f through (subst (IsForm g) same found.longest.is) is in
      let within : limit_of f through ≡ None = subst (λ (h : Form). limit_of h through ≡ None) form_is (subst (λ (x : List ℕ). limit_of g x ≡ None) same found.longest.limits) in
      let clash : None ≡ Some why = sym within ∙ passes in
      absurd cc

  same_why : (a b : Cause) → Some a ≡ Some b → a ≡ b
  same_why a b e = cc

  passed : (other : Cause) → PassesLimit other (through ++ more) → other ≡ why
  passed other p =
      let short = ends p.form p.piece p.after p.is p.whole in
      let long = p.longest f through more is refl in
      let same : p.piece ≡ through = same_length p.piece through p.after more p.whole (omega arith) in
      let form_is : p.form ≡ f = one_form p.form f through (subst (IsForm p.form) same p.is) is in
      same_why other why (sym (subst (λ (h : Form). limit_of h through ≡ Some other) form_is (subst (λ (x : List ℕ). limit_of p.form x ≡ Some other) same p.passes)) ∙ passes)

  cause_is : (other : Cause) → IsCause other (through ++ more) → other ≡ why
  cause_is cause.Token h = absurd (h [] f through (more ++ []) is (let e = append-nil more in rw e (sym (append-nil (through ++ more)))))
  cause_is cause.End h = absurd (h.0 f through more is refl)
  cause_is cause.Number h = passed cause.Number h
  cause_is cause.TooLong h = passed cause.TooLong h
  cause_is _ h = absurd h

  by_piece : (b : ℕ) (bs : List ℕ) → through ++ more ≡ b ∷ bs → (p : Piece) → piece_of (b ∷ bs) ≡ p → p ≡ piece.Bad why
  by_piece b bs e (piece.Found g n) found_is = absurd (no_find g n (let l = ap length e in omega arith) (ap piece_of e ∙ found_is))
  by_piece b bs e (piece.Bad other) bad_is = ap piece.Bad (cause_is other (subst (IsCause other) (sym e) (bad_cause b bs other bad_is)))

-- where no piece goes on behind it, it passes its limit
pub limit_bad : (f : Form) (through more : List ℕ) (why : Cause) → IsForm f through → limit_of f through ≡ Some why → Ends through more → piece_of (through ++ more) ≡ piece.Bad why
limit_bad f [] more why is passes ends = absurd (let s = shape_some f [] is in omega arith)
limit_bad f (b ∷ bs) more why is passes ends = by_piece f (b ∷ bs) more why is passes ends b (bs ++ more) refl (piece_of (b ∷ (bs ++ more))) refl
