-- Parts of distinct turns have one order.
use Rattle.std.proofs.Common.{◌≡◌, ◌≢◌, ℕ, suc, ◌+◌, ◌<◌, ◌≤◌, ◌==◌, ◌⊎◌, inl, inr, false, List, [], ◌∷◌, refl, sym, subst, ap, ◌∙◌, arith}
use Rattle.std.specs.List.{IsDistinct, AllByRecursion}
use Rattle.std.specs.List.Sorted.{IsPermutation, IsNonDecreasing}
use Rattle.std.proofs.lemmas.Bool.Decides.{nat_tests}
use Rattle.std.proofs.lemmas.List.Elements.{All-from_recursion, recursion_from_All}
use Rattle.std.proofs.lemmas.List.Sorted.{IsPermutation-map, IsPermutation-sym, IsPermutation-trans, All-permutation}
use Rattle.std.proofs.lemmas.Map.Keys.{IsDistinct-IsPermutation}
use Rattle.deferred_output.specs.declared.output.TurnOutput.{TurnOutput}
use Rattle.deferred_output.specs.Order.{joined, turns, HaveDistinctTurns, OneAnswer}

-- the turns rise from low on, and no two are the same
Above : ℕ → List TurnOutput → Type 0
Above low [] = Unit {0}
Above low (p ∷ ps) = (low ≤ p.turn) × Above (p.turn + 1) ps

Among : List TurnOutput → TurnOutput → Type 0
Among [] z = ⊥
Among (p ∷ ps) z = (p ≡ z) ⊎ Among ps z

Each : List TurnOutput → List TurnOutput → Type 0
Each zs ps = AllByRecursion (Among ps) zs

apart : (m n : ℕ) → (m == n) ≡ false → m ≢ n
apart m n e = λ h. grind (arith, nat_tests)

above_own : (p : TurnOutput) (ps : List TurnOutput) → IsNonDecreasing (turns (p ∷ ps)) → HaveDistinctTurns (p ∷ ps) → Above p.turn (p ∷ ps)
unfolding Above IsDistinct
above_own p [] rises distinct = (omega arith, tt)
above_own p (q ∷ qs) rises distinct =
    let more = above_own q qs (λ i j d le lt. rises (suc i) (suc j) d (omega arith) (omega arith)) distinct.1 in
    let le : p.turn ≤ q.turn = rises 0 1 0 (omega arith) (omega arith) in
    let ne = apart p.turn q.turn distinct.0.0 in
    (omega arith, (omega arith, more.1))

above_zero : (ps : List TurnOutput) → IsNonDecreasing (turns ps) → HaveDistinctTurns ps → Above 0 ps
unfolding Above
above_zero [] rises distinct = tt
above_zero (p ∷ ps) rises distinct = (omega arith, (above_own p ps rises distinct).1)

-- who is among them is no lower
not_lower : (low : ℕ) (ps : List TurnOutput) (z : TurnOutput) → Above low ps → Among ps z → low ≤ z.turn
unfolding Above Among
not_lower low [] z above among = absurd among
not_lower low (p ∷ ps) z above (inl e) = subst (λ (y : TurnOutput). low ≤ y.turn) e above.0
not_lower low (p ∷ ps) z above (inr h) = let l = not_lower (p.turn + 1) ps z above.1 h in let m = above.0 in omega arith

-- later parts are not the first
narrowed : (p : TurnOutput) (ps zs : List TurnOutput) (low : ℕ) → Above low zs → p.turn < low → Each zs (p ∷ ps) → Each zs ps
unfolding Above Among Each
narrowed p ps [] low above below each = tt
narrowed p ps (z ∷ zs) low above below each = (
  elim each.0 [
    | inl e ↦ absurd (later e)
    | inr h ↦ h
  ],
  narrowed p ps zs (z.turn + 1) above.1 (let m = above.0 in omega arith) each.1,
)
  where
    later : p ≡ z → ⊥
    later e = let m = above.0 in let t : p.turn ≡ z.turn = ap (λ (y : TurnOutput). y.turn) e in omega arith

first_same : (p q : TurnOutput) (ps qs : List TurnOutput) → Above (p.turn + 1) ps → Above (q.turn + 1) qs → Among (p ∷ ps) q → Among (q ∷ qs) p → p ≡ q
unfolding Among
first_same p q ps qs a b (inl e) k = e
first_same p q ps qs a b (inr h) (inl e) = sym e
first_same p q ps qs a b (inr h) (inr k) = let l = not_lower (p.turn + 1) ps q a h in let m = not_lower (q.turn + 1) qs p b k in absurd (omega arith)

same_order : (ps qs : List TurnOutput) (a b : ℕ) → Above a ps → Above b qs → Each qs ps → Each ps qs → ps ≡ qs
unfolding Above Among Each
same_order [] [] a b above higher each all = refl
same_order [] (q ∷ qs) a b above higher each all = absurd each.0
same_order (p ∷ ps) [] a b above higher each all = absurd all.0
same_order (p ∷ ps) (q ∷ qs) a b above higher each all =
    let e = first_same p q ps qs above.1 higher.1 each.0 all.0 in
    let t : p.turn ≡ q.turn = ap (λ (y : TurnOutput). y.turn) e in
    let rest = same_order ps qs (p.turn + 1) (q.turn + 1) above.1 higher.1
    (narrowed p ps qs (q.turn + 1) higher.1 (omega arith) each.1)
    (narrowed q qs ps (p.turn + 1) above.1 (omega arith) all.1) in
    ap (λ z. z ∷ ps) e ∙ ap (λ zs. q ∷ zs) rest

each_more : (p : TurnOutput) (ps zs : List TurnOutput) → Each zs ps → Each zs (p ∷ ps)
unfolding Among Each
each_more p ps [] each = tt
each_more p ps (z ∷ zs) each = (inr each.0, each_more p ps zs each.1)

each_own : (ps : List TurnOutput) → Each ps ps
unfolding Among Each
each_own [] = tt
each_own (p ∷ ps) = (inl refl, each_more p ps ps (each_own ps))

each_permuted : (ps qs : List TurnOutput) → IsPermutation ps qs → Each qs ps
unfolding Each
each_permuted ps qs moved = recursion_from_All (Among ps) qs (All-permutation (Among ps) ps qs moved (All-from_recursion (Among ps) ps (each_own ps)))

flips : (m n : ℕ) → (m == n) ≡ (n == m)
flips m n = grind (arith, nat_tests)

distinct_permuted : (ps qs : List TurnOutput) → IsPermutation ps qs → HaveDistinctTurns ps → HaveDistinctTurns qs
distinct_permuted ps qs moved = IsDistinct-IsPermutation (λ m n. m == n) flips (turns ps) (turns qs) (IsPermutation-map (λ p. p.turn) ps qs moved)

pub one_answer : OneAnswer
one_answer parts others bytes more distinct moved of also =
    let to : IsPermutation parts also.order = IsPermutation-trans parts others also.order moved also.same in
    let between : IsPermutation of.order also.order = IsPermutation-trans of.order parts also.order (IsPermutation-sym parts of.order of.same) to in
    let above = above_zero of.order of.rises (distinct_permuted parts of.order of.same distinct) in
    let higher = above_zero also.order also.rises (distinct_permuted parts also.order to distinct) in
    let same = same_order of.order also.order 0 0 above higher (each_permuted of.order also.order between) (each_permuted also.order of.order (IsPermutation-sym of.order also.order between)) in
    of.is ∙ ap joined same ∙ sym also.is
