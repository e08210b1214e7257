-- The first place of a byte is where a text is cut.
use Rattle.std.proofs.Common.{◌≡◌, ℕ, zero, suc, ◌<◌, Bool, true, false, eqb, List, [], ◌∷◌, Some, None, length, get_or, take, drop, refl, arith}
use Rattle.profile_lines.specs.Cuts.{cut}

pub not_true : (t : Bool) → (t ≡ true → ⊥) → t ≡ false
not_true true h = absurd (h refl)
not_true false h = refl

pub cut_none : (b : ℕ) (text : List ℕ) → ((k : ℕ) → k < length text → eqb (get_or text k 0) b ≡ true → ⊥) → cut b text ≡ None
cut_none b [] h = refl
cut_none b (x ∷ xs) h =
    let first : eqb x b ≡ false = not_true _ (h 0 (omega arith)) in
    let rest : cut b xs ≡ None = cut_none b xs (λ k l. h (suc k) (omega arith)) in
    rw (first, rest) refl

pub cut_some : (b : ℕ) (text : List ℕ) (k : ℕ) → k < length text
    → ((j : ℕ) → j < k → eqb (get_or text j 0) b ≡ true → ⊥) → eqb (get_or text k 0) b ≡ true
    → cut b text ≡ Some (take k text, drop (suc k) text)
cut_some b [] k l h is = absurd (omega arith)
cut_some b (x ∷ xs) zero l h is = rw is refl
cut_some b (x ∷ xs) (suc k) l h is =
    let first : eqb x b ≡ false = not_true _ (h 0 (omega arith)) in
    let rest : cut b xs ≡ Some (take k xs, drop (suc k) xs) =
    cut_some b xs k (omega arith) (λ j m. h (suc j) (omega arith)) is
    in rw (first, rest) refl
