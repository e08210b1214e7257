-- Numbers that differ, one after another.
use Rattle.std.proofs.Common.{◌≡◌, ℕ, ◌<◌, ◌≤◌, ◌+◌, suc, Bool, true, false, List, [], ◌∷◌, ◌++◌, length, take, drop, get_or, refl, sym, ap, ◌∙◌, arith}
use Rattle.std.specs.Prelude.{not, ◌&&◌, ◌||◌, nat_eq}
use Rattle.std.specs.List.{list_any}
use Rattle.std.specs.Ordering.{nat_cmp}
use Rattle.std.specs.BTreeMap.{is_at}
use Rattle.std.specs.BTreeSet.{BTreeSet, contains}
use Rattle.std.proofs.Math.Seq.{take-suc}
use Rattle.std.proofs.lemmas.List.{take_all, take-append-drop}
use Rattle.ir_rules.specs.Reading.{all_differ}
use Rattle.ir_rules.proofs.ClassLemmas.{eq_swap}

any_push : (q x : ℕ) (xs : List ℕ) → list_any (nat_eq q) (xs ++ x ∷ []) ≡ (list_any (nat_eq q) xs || nat_eq q x)
any_push q x [] = or_false (nat_eq q x)
  where
    or_false : (b : Bool) → (b || false) ≡ b
    or_false true = refl
    or_false false = refl
any_push q x (y ∷ xs) = rw (any_push q x xs) (assoc (nat_eq q y) (list_any (nat_eq q) xs) (nat_eq q x))
  where
    assoc : (a b c : Bool) → (a || (b || c)) ≡ ((a || b) || c)
    assoc true b c = refl
    assoc false b c = refl

differ_push : (x : ℕ) (xs : List ℕ) → all_differ nat_eq (xs ++ x ∷ []) ≡ (all_differ nat_eq xs && not (list_any (nat_eq x) xs))
unfolding all_differ
differ_push x [] = refl
differ_push x (y ∷ xs) = rw (any_push y x xs, differ_push x xs, eq_swap x y) (turned (list_any (nat_eq y) xs) (nat_eq y x) (all_differ nat_eq xs) (list_any (nat_eq x) xs))
  where
    turned : (a b c d : Bool) → (not (a || b) && (c && not d)) ≡ ((not a && c) && not (b || d))
    turned true b c d = refl
    turned false true true d = refl
    turned false true false d = refl
    turned false false c d = refl

any_append : (q : ℕ) (xs ys : List ℕ) → list_any (nat_eq q) xs ≡ true → list_any (nat_eq q) (xs ++ ys) ≡ true
any_append q [] ys e = absurd cc
any_append q (x ∷ xs) ys e = step (nat_eq q x) (λ h. any_append q xs ys h) e
  where
    step : (b : Bool) → (list_any (nat_eq q) xs ≡ true → list_any (nat_eq q) (xs ++ ys) ≡ true) → (b || list_any (nat_eq q) xs) ≡ true → (b || list_any (nat_eq q) (xs ++ ys)) ≡ true
    step true more e = refl
    step false more e = more e

-- items that do not differ do not with more behind them
differ_append : (xs ys : List ℕ) → all_differ nat_eq xs ≡ false → all_differ nat_eq (xs ++ ys) ≡ false
unfolding all_differ
differ_append [] ys e = absurd cc
differ_append (x ∷ xs) ys e = step (list_any (nat_eq x) xs) (λ h. any_append x xs ys h) (λ h. differ_append xs ys h) e
  where
    and_no : (b : Bool) → (b && false) ≡ false
    and_no true = refl
    and_no false = refl

    step : (b : Bool) → (b ≡ true → list_any (nat_eq x) (xs ++ ys) ≡ true) → (all_differ nat_eq xs ≡ false → all_differ nat_eq (xs ++ ys) ≡ false) → (not b && all_differ nat_eq xs) ≡ false
        → (not (list_any (nat_eq x) (xs ++ ys)) && all_differ nat_eq (xs ++ ys)) ≡ false
    step true more rest e = let h : list_any (nat_eq x) (xs ++ ys) ≡ true = more refl in rw h refl
    step false more rest e = let h : all_differ nat_eq (xs ++ ys) ≡ false = rest e in rw h (and_no (not (list_any (nat_eq x) (xs ++ ys))))

module _ (xs : List ℕ) (i d : ℕ) (lt : i < length xs) where
  next : take (i + 1) xs ≡ take i xs ++ get_or xs i d ∷ []
  next = let s : i + 1 ≡ suc i = omega arith in rw s (take-suc xs i d lt)

  pub any_more : (q : ℕ) → list_any (nat_eq q) (take (i + 1) xs) ≡ (list_any (nat_eq q) (take i xs) || nat_eq q (get_or xs i d))
  any_more q = rw next (any_push q (get_or xs i d) (take i xs))

  pub differ_more : all_differ nat_eq (take i xs) ≡ true → list_any (nat_eq (get_or xs i d)) (take i xs) ≡ false → all_differ nat_eq (take (i + 1) xs) ≡ true
  differ_more so new = rw next (differ_push (get_or xs i d) (take i xs) ∙ rw (so, new) refl)

  and_right : (b : Bool) → (b && false) ≡ false
  and_right true = refl
  and_right false = refl

  pub differ_twice : list_any (nat_eq (get_or xs i d)) (take i xs) ≡ true → false ≡ all_differ nat_eq xs
  differ_twice old =
      let front : all_differ nat_eq (take (i + 1) xs) ≡ false = rw next (differ_push (get_or xs i d) (take i xs) ∙ rw old (and_right (all_differ nat_eq (take i xs)))) in
      let whole : all_differ nat_eq (take (i + 1) xs ++ drop (i + 1) xs) ≡ false = differ_append (take (i + 1) xs) (drop (i + 1) xs) front in
      sym (rw (take-append-drop (i + 1) xs) at whole)

pub differ_none : all_differ nat_eq [] ≡ true
unfolding all_differ
differ_none = refl

pub differ_whole : (xs : List ℕ) (i : ℕ) → length xs ≤ i → all_differ nat_eq (take i xs) ≡ true → true ≡ all_differ nat_eq xs
differ_whole xs i le e = sym (rw (take_all i xs le) at e)

-- an empty set has nothing
pub empty_set : (q : ℕ) (s : BTreeSet ℕ) → s.keys ≡ [] → contains nat_cmp s q ≡ false
empty_set q s e = ap (list_any (is_at (nat_cmp q))) e

pub is_old : (has new : Bool) → new ≡ not has → new ≡ false → has ≡ true
is_old true new is e = refl
is_old false new is e = let h : true ≡ false = sym is ∙ e in absurd cc

pub is_new : (has new : Bool) → new ≡ not has → new ≡ true → has ≡ false
is_new true new is e = let h : false ≡ true = sym is ∙ e in absurd cc
is_new false new is e = refl
