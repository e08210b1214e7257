-- Two texts with the same bytes up to a token of both have the same tokens before it.
use Rattle.std.proofs.Common.{◌≡◌, ℕ, ◌+◌, ◌-◌, ◌<◌, ◌≤◌, inl, inr, List, [], ◌∷◌, ◌++◌, length, take, drop, refl, sym, ap, subst, ◌∙◌, arith}
use Rattle.ir_lex.specs.declared.token.Token.{Token}
use Rattle.ir_lex.specs.declared.token.Form.{Form}
use Rattle.ir_lex.specs.Cut.{IsForm, Part, IsLongest, joined, AreLongest, newlines, tokens_at}
use Rattle.ir_lex.proofs.Cuts.{shape_some}
use Rattle.fault_laws.specs.Alike.{IsAmong}
use Rattle.fault_laws.proofs.Limits.{one_form, same_length}
use Rattle.fault_laws.proofs.Alike.{among_none, among_from, piece_or_later, from_on, InCommon, piece_in_common, first_in_common, shared, shared_behind}

-- pieces of the same form and bytes
same_part : (p q : Part) → p.form ≡ q.form → p.bytes ≡ q.bytes → q ≡ p
same_part p q f b = sym (ap (λ (x : Form). record { form = x; bytes = p.bytes }) f ∙ ap (λ (x : List ℕ). record { form = q.form; bytes = x }) b)

-- two pieces within bytes that both texts share are the same
same_piece : (n : ℕ) (p q : Part) (x y : List ℕ) → IsLongest p x → IsLongest q y → length p.bytes ≤ n → length q.bytes ≤ n → take n (p.bytes ++ x) ≡ take n (q.bytes ++ y) → q ≡ p
same_piece n p q x y mine theirs le ge same =
    let k = length p.bytes in
    let m = length q.bytes in
    let p_there : p.bytes ++ drop k (q.bytes ++ y) ≡ q.bytes ++ y = shared n k (p.bytes ++ x) (q.bytes ++ y) p.bytes x refl refl le same in
    let q_here : q.bytes ++ drop m (p.bytes ++ x) ≡ p.bytes ++ x = shared n m (q.bytes ++ y) (p.bytes ++ x) q.bytes y refl refl ge (sym same) in
    let short = theirs.longest p.form p.bytes (drop k (q.bytes ++ y)) mine.is p_there in
    let long = mine.longest q.form q.bytes (drop m (p.bytes ++ x)) theirs.is q_here in
    let bytes : p.bytes ≡ q.bytes = same_length p.bytes q.bytes (drop k (q.bytes ++ y)) y p_there (omega arith) in
    same_part p q (one_form p.form q.form q.bytes (subst (IsForm p.form) bytes mine.is) theirs.is) bytes

-- behind two pieces before the token, which are the same
module _ (p q : Part) (ps qs : List Part) (r s : List ℕ) (at line n : ℕ) (t : Token) (here : AreLongest (p ∷ ps) r) (there : AreLongest (q ∷ qs) s) (some : t.from < t.to) (e : at + n ≡ t.to)
    (same : take n (joined (p ∷ ps) r) ≡ take n (joined (q ∷ qs) s)) where
  both : (later : IsAmong t (tokens_at (at + length p.bytes) (line + newlines p.bytes) ps)) (too : IsAmong t (tokens_at (at + length q.bytes) (line + newlines q.bytes) qs))
      → ((m : ℕ) → at + length p.bytes + m ≡ t.to → take m (joined ps r) ≡ take m (joined qs s) → IsAmong t (tokens_at (at + length p.bytes) (line + newlines p.bytes) qs)
      → InCommon t (tokens_at (at + length p.bytes) (line + newlines p.bytes) ps) (tokens_at (at + length p.bytes) (line + newlines p.bytes) qs))
      → InCommon t (tokens_at at line (p ∷ ps)) (tokens_at at line (q ∷ qs))
  both later too go =
      let past = among_from (at + length p.bytes) t _ (from_on ps (at + length p.bytes) (line + newlines p.bytes)) later in
      let too_past = among_from (at + length q.bytes) t _ (from_on qs (at + length q.bytes) (line + newlines q.bytes)) too in
      let pos = shape_some p.form p.bytes here.0.is in
      let is : q ≡ p = same_piece n p q (joined ps r) (joined qs s) here.0 there.0 (omega arith) (omega arith) same in
      let b_there : IsAmong t (tokens_at (at + length p.bytes) (line + newlines p.bytes) qs) = subst (λ (x : Part). IsAmong t (tokens_at (at + length x.bytes) (line + newlines x.bytes) qs)) is too in
      let same_there : take n (p.bytes ++ joined ps r) ≡ take n (p.bytes ++ joined qs s) = subst (λ (x : Part). take n (p.bytes ++ joined ps r) ≡ take n (x.bytes ++ joined qs s)) is same in
      let rest = shared_behind n (length p.bytes) p.bytes (joined ps r) (joined qs s) refl (omega arith) same_there in
      let found = piece_in_common p.form at (at + length p.bytes) line t _ _ (omega arith) past (go (n - length p.bytes) (omega arith) rest b_there) in
      subst (λ (x : Part). InCommon t (tokens_at at line (p ∷ ps)) (tokens_at at line (x ∷ qs))) (sym is) found

-- the tokens of two cuts from one place on, up to one that both have
pub in_common : (ps qs : List Part) (r s : List ℕ) (at line n : ℕ) (t : Token) → AreLongest ps r → AreLongest qs s → t.from < t.to → at + n ≡ t.to → take n (joined ps r) ≡ take n (joined qs s)
    → IsAmong t (tokens_at at line ps) → IsAmong t (tokens_at at line qs) → InCommon t (tokens_at at line ps) (tokens_at at line qs)
in_common [] qs r s at line n t here there some e same a b = absurd (among_none t a)
in_common (p ∷ ps) [] r s at line n t here there some e same a b = absurd (among_none t b)
in_common (p ∷ ps) (q ∷ qs) r s at line n t here there some e same a b =
    elim (piece_or_later p.form at (at + length p.bytes) line t _ a) [
      | inl first ↦ elim (piece_or_later q.form at (at + length q.bytes) line t _ b) [
        | inl second ↦ first_in_common p.form q.form at (at + length p.bytes) (at + length q.bytes) line t _ _ first.0 second.0 first.1 second.1 (from_on ps _ _) (from_on qs _ _)
        | inr later ↦ absurd (
            let from_is : t.from ≡ at = ap (λ (x : Token). x.from) first.1 in
            let past = among_from (at + length q.bytes) t _ (from_on qs (at + length q.bytes) (line + newlines q.bytes)) later in
            let pos = shape_some q.form q.bytes there.0.is in
            omega arith
            )
      ]
      | inr later ↦ elim (piece_or_later q.form at (at + length q.bytes) line t _ b) [
        | inl second ↦ absurd (
            let from_is : t.from ≡ at = ap (λ (x : Token). x.from) second.1 in
            let past = among_from (at + length p.bytes) t _ (from_on ps (at + length p.bytes) (line + newlines p.bytes)) later in
            let pos = shape_some p.form p.bytes here.0.is in
            omega arith
            )
        | inr too ↦ both p q ps qs r s at line n t here there some e same later too
            (λ m ends rest there_too. in_common ps qs r s (at + length p.bytes) (line + newlines p.bytes) m t here.1 there.1 some ends rest later there_too)
      ]
    ]
