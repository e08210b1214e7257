-- An access to the codes of one object, by the turns of its bytes.
use Rattle.std.proofs.Common.{◌≡◌, ℕ, zero, suc, ◌+◌, ◌<◌, ◌≤◌, List, [], ◌∷◌, length, get_or, Option, Some, None, option_map, is_none, Bool, true, false, cond, not, nat_lt, refl, sym, ap, ◌∙◌, arith, unwrap_or, ◌⊎◌, inl, inr}
use Rattle.std.proofs.lemmas.Bool.{cases_eq}
use Rattle.std.specs.List.{position, prefix_len}
use Rattle.privacy_check.specs.declared.access.Access.{Access}
use Rattle.privacy_check.specs.declared.access.BadCode.{BadCode}
use Rattle.privacy_check.specs.Shadows.{after, next_code, first_bad, pass_or_refuse, told}
use Rattle.privacy_check.specs.History.{Turns, code_of, may, refused, answer_by, touched_by}
use Rattle.privacy_check.proofs.ByteCodes.{Small, access_by}

-- the first that passes a test, with the first of a list apart
first_step : (b : Bool) (n len : ℕ) → cond (nat_lt (cond (not b) (1 + n) 0) (suc len)) (Some (cond (not b) (1 + n) 0)) None ≡ cond b (Some 0) (option_map suc (cond (nat_lt n len) (Some n) None))
first_step true n len = grind arith
first_step false n len = grind arith

pub position_cons : (p : ℕ → Bool) (x : ℕ) (xs : List ℕ) → position p (x ∷ xs) ≡ cond (p x) (Some 0) (option_map suc (position p xs))
position_cons p x xs = first_step (p x) (prefix_len (λ y. not (p y)) xs) (length xs)

-- the codes of a range are those of the turns of its bytes
abbrev pub CodesOf : (ℕ → Turns) → ℕ → ℕ → List ℕ → Type 0
CodesOf turns stamp k ys = (i j : ℕ) → j ≡ k + i → i < length ys → (get_or ys i 0 ≡ code_of (turns j)) × Small stamp (turns j).wrote

abbrev pub bad_at : ℕ → List ℕ → ℕ → BadCode
bad_at k ys i = record { offset = k + i; code = get_or ys i 0 }

refused_step : (b : Bool) (k y : ℕ) (ys : List ℕ) (code : ℕ) (later : Option ℕ) (rest : Option BadCode) → y ≡ code → rest ≡ option_map (bad_at (suc k) ys) later
    → cond b rest (Some (record { offset = k; code = code })) ≡ option_map (bad_at k (y ∷ ys)) (cond (not b) (Some 0) (option_map suc later))
refused_step true k y ys code None rest is more = more
refused_step true k y ys code (Some i) rest is more = let e : suc k + i ≡ k + suc i = omega arith in more ∙ ap (λ (o : ℕ). Some (make o (get_or ys i 0))) e
  where
    make : ℕ → ℕ → BadCode
    make o c = record { offset = o; code = c }
refused_step false k y ys code later rest is more = let e : k ≡ k + 0 = omega arith in cc

none_of : (b : Bool) (code : ℕ) (o : Option ℕ) → o ≡ cond b (Some code) None → is_none o ≡ not b
none_of true code o e = ap is_none e
none_of false code o e = ap is_none e

-- the first code that refuses is that of the first byte whose turns do
pub refused_is : (access : Access) (stamp : ℕ) (turns : ℕ → Turns) (k : ℕ) (ys : List ℕ) → 3 ≤ stamp → CodesOf turns stamp k ys
    → refused access stamp turns k (length ys) ≡ option_map (bad_at k ys) (first_bad access stamp ys)
refused_is access stamp turns k [] h of = refl
refused_is access stamp turns k (y ∷ ys) h of =
    let here = of 0 k (omega arith) (omega arith) in
    let t : Turns = turns k in
    let step : after access stamp y ≡ cond (may access stamp t) (Some (code_of (touched_by access stamp t))) None =
    ap (after access stamp) here.0 ∙ access_by access stamp t.wrote t.wrote_before t.read h here.1 in
    rw (position_cons (λ c. is_none (after access stamp c)) y ys, none_of (may access stamp t) _ _ step)
    (refused_step (may access stamp t) k y ys (code_of t) (first_bad access stamp ys) (refused access stamp turns (suc k) (length ys)) here.0
    (refused_is access stamp turns (suc k) ys h (λ i j e below. of (suc i) j (omega arith) (omega arith))))

-- what the caller is told
pub told_is : (k : ℕ) (ys new : List ℕ) (first : Option ℕ) → told (pass_or_refuse first k ys new) ≡ answer_by (option_map (bad_at k ys) first)
told_is k ys new None = refl
told_is k ys new (Some i) = refl

refused_none_step : (b : Bool) (rest : Option BadCode) (bad : BadCode) → cond b rest (Some bad) ≡ None → (b ≡ true) × (rest ≡ None)
refused_none_step true rest bad e = (refl, e)
refused_none_step false rest bad e = absurd (cc)

first_or_later : (k o : ℕ) → k ≤ o → (o ≡ k) ⊎ (suc k ≤ o)
first_or_later k o h = elim (cases_eq k o) [ inl e ↦ inl (sym e) | inr ne ↦ inr (omega arith) ]

-- where none is refused, each byte of the range allows it
pub all_may : (access : Access) (stamp : ℕ) (turns : ℕ → Turns) (k n : ℕ) → refused access stamp turns k n ≡ None → (o : ℕ) → k ≤ o → o < k + n → may access stamp (turns o) ≡ true
all_may access stamp turns k zero e o h l = absurd (omega arith)
all_may access stamp turns k (suc n) e o h l =
    let both = refused_none_step (may access stamp (turns k)) _ _ e in
    elim (first_or_later k o h) [
      | inl is ↦ ap (λ (j : ℕ). may access stamp (turns j)) is ∙ both.0
      | inr above ↦ all_may access stamp turns (suc k) n both.1 o above (omega arith)
    ]

-- a code after an access that its turns allow
pub next_is : (access : Access) (stamp c : ℕ) (t : Turns) → 3 ≤ stamp → Small stamp t.wrote → c ≡ code_of t → may access stamp t ≡ true → next_code access stamp c ≡ code_of (touched_by access stamp t)
next_is access stamp c t h small is allowed =
    let step : after access stamp c ≡ cond (may access stamp t) (Some (code_of (touched_by access stamp t))) None =
    ap (after access stamp) is ∙ access_by access stamp t.wrote t.wrote_before t.read h small in
    let passes : after access stamp c ≡ Some (code_of (touched_by access stamp t)) = step ∙ ap (λ (b : Bool). cond b (Some (code_of (touched_by access stamp t))) None) allowed in
    ap (λ (o : Option ℕ). unwrap_or o c) passes
