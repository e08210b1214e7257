-- The cases of a switch: the edge of a value is that of its first case.
use Rattle.std.proofs.Common.{◌≡◌, ℕ, true, false, Bool, List, [], ◌∷◌, ◌++◌, Option, Some, None, refl, ap, ◌∙◌, nat_eq, if◌then◌else◌, eqb-true}
use Rattle.std.specs.Prelude.{is_some, fold, cond}
use Rattle.std.specs.Option.{option_or}
use Rattle.ir_code.specs.Cases.{with_case, edge_of}

-- the edge of a case at its own value
abbrev one : ℕ → ℕ → ℕ → Option ℕ
one value edge x = cond (nat_eq x value) (Some edge) None

put_if : (b : Bool) (e : ℕ) (o p q : Option ℕ) → o ≡ option_or p q → cond b (Some e) o ≡ option_or (cond b (Some e) p) q
put_if true e o p q h = refl
put_if false e o p q h = h

put_last : (all : List (ℕ × ℕ)) (value edge x : ℕ) → edge_of (all ++ (value, edge) ∷ []) x ≡ option_or (edge_of all x) (one value edge x)
put_last [] value edge x = refl
put_last (c ∷ all) value edge x = put_if (nat_eq x c.0) c.1 (edge_of (all ++ (value, edge) ∷ []) x) (edge_of all x) (one value edge x) (put_last all value edge x)

-- a value that is there keeps its edge
there_if : (done : List (ℕ × ℕ)) (value edge x : ℕ) (b : Bool) → nat_eq x value ≡ b → is_some (edge_of done value) ≡ true → edge_of done x ≡ option_or (edge_of done x) (cond b (Some edge) None)
there_if done value edge x true e some = let same : x ≡ value = eqb-true x value e in rw same (kept (edge_of done value) some)
  where
    kept : (o : Option ℕ) → is_some o ≡ true → o ≡ option_or o (Some edge)
    kept None h = absurd cc
    kept (Some a) h = refl
there_if done value edge x false e some = plain (edge_of done x)
  where
    plain : (o : Option ℕ) → o ≡ option_or o None
    plain None = refl
    plain (Some a) = refl

with_one : (done : List (ℕ × ℕ)) (value edge x : ℕ) (b : Bool) → is_some (edge_of done value) ≡ b → edge_of (if b then done else done ++ (value, edge) ∷ []) x ≡ option_or (edge_of done x) (one value edge x)
with_one done value edge x true e = there_if done value edge x (nat_eq x value) refl e
with_one done value edge x false e = put_last done value edge x

one_more : (a : Option ℕ) (b : Bool) (e : ℕ) (c : Option ℕ) → option_or (option_or a (cond b (Some e) None)) c ≡ option_or a (cond b (Some e) c)
one_more (Some x) b e c = refl
one_more None true e c = refl
one_more None false e c = refl

plain : (o : Option ℕ) → o ≡ option_or o None
plain None = refl
plain (Some a) = refl

pub first_cases : (done pairs : List (ℕ × ℕ)) (x : ℕ) → edge_of (fold (λ d c. with_case d c.0 c.1) done pairs) x ≡ option_or (edge_of done x) (edge_of pairs x)
first_cases done [] x = plain (edge_of done x)
first_cases done (c ∷ pairs) x =
    first_cases (with_case done c.0 c.1) pairs x
    ∙ ap (λ o. option_or o (edge_of pairs x)) (with_one done c.0 c.1 x (is_some (edge_of done c.0)) refl)
    ∙ one_more (edge_of done x) (nat_eq x c.0) c.1 (edge_of pairs x)
