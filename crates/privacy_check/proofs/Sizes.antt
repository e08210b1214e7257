-- Objects that are made one after another.
use Rattle.std.proofs.Common.{◌≡◌, ℕ, zero, suc, ◌<◌, ◌==◌, List, [], ◌∷◌, length, take, get_or, map, replicate, Option, Some, None, option_map, Bool, true, false, cond, refl, sym, ap, ◌∙◌, arith, eqb}
use Rattle.std.proofs.lemmas.List.{get_or-map, length-map}
use Rattle.std.proofs.lemmas.Map.Keys.{apart_from_distinct, IsDistinct-tail}
use Rattle.std.specs.List.{IsDistinct}
use Rattle.privacy_check.specs.Shadows.{untouched}

names_differ : (s : ℕ × ℕ) (ss : List (ℕ × ℕ)) (j : ℕ) (d : ℕ × ℕ) → j < length ss → IsDistinct eqb (map (λ s. s.0) (s ∷ ss)) → eqb s.0 (get_or ss j d).0 ≡ false
names_differ s ss j d h differ =
    let within : suc j < length (map (λ (p : ℕ × ℕ). p.0) (s ∷ ss)) = simp length-map (omega arith) in
    let before : 0 < suc j = omega arith in
    ap (eqb s.0) (sym (get_or-map (λ (p : ℕ × ℕ). p.0) ss j d 0 h)) ∙ apart_from_distinct eqb (map (λ (p : ℕ × ℕ). p.0) (s ∷ ss)) 0 (suc j) 0 differ before within

abbrev zeros : ℕ → List ℕ
zeros n = replicate n 0

of_one : (b : Bool) (size : ℕ) → option_map zeros (cond b (Some size) None) ≡ cond b (Some (zeros size)) None
of_one true size = refl
of_one false size = refl

of_more : (b : Bool) (size : ℕ) (x name : ℕ) (codes : List ℕ) (here there : Option ℕ) → (b ≡ true → (x == name) ≡ false) → option_map zeros here ≡ cond (x == name) (Some codes) (option_map zeros there)
    → option_map zeros (cond b (Some size) here) ≡ cond (x == name) (Some codes) (option_map zeros (cond b (Some size) there))
of_more true size x name codes here there apart is = rw (apart refl) refl
of_more false size x name codes here there apart is = is

apart_names : (a b name : ℕ) → eqb a b ≡ false → (a == name) ≡ true → (b == name) ≡ false
apart_names a b name h k = grind arith

-- one object more, of a new name
pub untouched_more : (sizes : List (ℕ × ℕ)) (i : ℕ) (d : ℕ × ℕ) (name : ℕ) → i < length sizes → IsDistinct eqb (map (λ s. s.0) sizes)
    → untouched (take (suc i) sizes) name ≡ cond ((get_or sizes i d).0 == name) (Some (replicate (get_or sizes i d).1 0)) (untouched (take i sizes) name)
untouched_more [] i d name h differ = absurd (omega arith)
untouched_more (s ∷ ss) zero d name h differ = of_one (s.0 == name) s.1
untouched_more (s ∷ ss) (suc j) d name h differ =
    let below : j < length ss = omega arith in
    of_more (s.0 == name) s.1 (get_or ss j d).0 name _ _ _ (apart_names s.0 (get_or ss j d).0 name (names_differ s ss j d below differ))
    (untouched_more ss j d name below (IsDistinct-tail eqb s.0 (map (λ s. s.0) ss) differ))
