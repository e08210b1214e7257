-- Where a number stands first, number by number.
use Rattle.std.proofs.Common.{◌≡◌, ℕ, suc, ◌<◌, ◌+◌, Bool, true, false, cond, List, [], ◌∷◌, ◌++◌, length, take, get_or, Option, Some, None, refl, ap, arith}
use Rattle.std.specs.Prelude.{nat_eq, option_map}
use Rattle.std.proofs.Math.Seq.{take-suc}
use Rattle.std.proofs.lemmas.Grind.{common_steps}
use Rattle.std.specs.Map.{lookup}
use Rattle.std.specs.Ordering.{nat_cmp}
use Rattle.std.specs.BTreeMap.{get, BTreeMap, is_at}
use Rattle.ir_checker.specs.Firsts.{first_place}
use Rattle.ir_checker.specs.Finding.{either}

-- the first place in a list with one more
first_push : (q x : ℕ) (xs : List ℕ) → first_place q (xs ++ x ∷ []) ≡ either (first_place q xs) (cond (nat_eq q x) (Some (length xs)) None)
unfolding first_place
first_push q x [] = refl
first_push q x (y ∷ xs) = step (nat_eq q y) (first_push q x xs)
  where
    more : (b : Bool) (o : Option ℕ) (n : ℕ) → option_map (λ k. k + 1) (either o (cond b (Some n) None)) ≡ either (option_map (λ k. k + 1) o) (cond b (Some (suc n)) None)
    more true None n = let s : n + 1 ≡ suc n = omega arith in ap Some s
    more false None n = refl
    more b (Some k) n = refl

    step : (b : Bool) → first_place q (xs ++ x ∷ []) ≡ either (first_place q xs) (cond (nat_eq q x) (Some (length xs)) None)
        → cond b (Some 0) (option_map (λ k. k + 1) (first_place q (xs ++ x ∷ []))) ≡ either (cond b (Some 0) (option_map (λ k. k + 1) (first_place q xs))) (cond (nat_eq q x) (Some (suc (length xs))) None)
    step true e = refl
    step false e = rw e (more (nat_eq q x) (first_place q xs) (length xs))

pub first_none : (q : ℕ) → None ≡ first_place q []
unfolding first_place
first_none q = refl

-- one more number of a list
pub first_more : (q : ℕ) (xs : List ℕ) (i d : ℕ) → i < length xs → either (first_place q (take i xs)) (cond (nat_eq q (get_or xs i d)) (Some i) None) ≡ first_place q (take (i + 1) xs)
first_more q xs i d lt =
    let s : i + 1 ≡ suc i = omega arith in
    let len : length (take i xs) ≡ i = grind (arith, common_steps) in
    rw (s, take-suc xs i d lt, first_push q (get_or xs i d) (take i xs), len) refl

-- an empty map has nothing
pub empty_map : {X : Type 0} (q : ℕ) (m : BTreeMap ℕ X) → m.entries ≡ [] → get nat_cmp m q ≡ None
empty_map q m e = ap (lookup (is_at (nat_cmp q))) e
