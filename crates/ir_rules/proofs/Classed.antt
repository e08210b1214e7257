-- Classes of things by number, found one after another: two have one class exactly where they are the same.
use Rattle.std.proofs.Common.{◌≡◌, ℕ, ◌<◌, ◌≤◌, ◌+◌, Bool, true, false, List, [], ◌∷◌, ◌++◌, length, refl, sym, ◌∙◌, arith, ◌⊎◌, eqb-true, eq-eqb, inl, inr}
use Rattle.std.specs.Prelude.{nat_eq, nat_lt, if◌then◌else◌}
use Rattle.std.proofs.lemmas.Bool.{cases_Bool, lt-ltb, le-ltb, ne_eqb, eqb-false, cases_lt}
use Rattle.std.proofs.Math.ListN.{get_or-eq_default, get_or-append}
use Rattle.std.proofs.Math.Seq.{get_or-append_seam}
use Rattle.std.proofs.lemmas.List.{length_push}
use Rattle.ir_rules.specs.Classes.{class_at}

pub eq_swap : (a b : ℕ) → nat_eq a b ≡ nat_eq b a
eq_swap a b =
    elim (cases_Bool (nat_eq b a)) [
      | inl h ↦ let e : b ≡ a = eqb-true b a h in rw (e) refl
      | inr h ↦ ne_eqb a b (λ (e : a ≡ b). eqb-false b a h (sym e)) ∙ sym h
    ]

pub class_past : (classes : List ℕ) (i : ℕ) → length classes ≤ i → class_at classes i ≡ 0
class_past classes i le = get_or-eq_default classes 0 le

-- what a number stands for among the first ones
abbrev pub below : {A : Type 0} → (ℕ → A) → A → ℕ → ℕ → A
below at none k i = if nat_lt i k then at i else none

pub below_is : {A : Type 0} (at : ℕ → A) (none : A) (k i : ℕ) → i < k → below at none k i ≡ at i
below_is at none k i lt = let h : nat_lt i k ≡ true = lt-ltb i k lt in rw h refl

pub below_past : {A : Type 0} (at : ℕ → A) (none : A) (k i : ℕ) → k ≤ i → below at none k i ≡ none
below_past at none k i le = let h : nat_lt i k ≡ false = le-ltb i k le in rw h refl

-- what a number has among the classes with one more
record Kept (A : Type 0) (at : ℕ → A) (none : A) (classes : List ℕ) (more i : ℕ) : Type 0 where
  class : class_at (classes ++ more ∷ []) i ≡ class_at classes i
  value : below at none (length classes + 1) i ≡ below at none (length classes) i

record Added (A : Type 0) (at : ℕ → A) (none : A) (classes : List ℕ) (more i : ℕ) : Type 0 where
  class : class_at (classes ++ more ∷ []) i ≡ more
  value : below at none (length classes + 1) i ≡ at (length classes)

kept_or_added : {A : Type 0} (at : ℕ → A) (none : A) (classes : List ℕ) (class i : ℕ) → Kept A at none classes class i ⊎ Added A at none classes class i
kept_or_added at none classes class i =
    let len : length (classes ++ class ∷ []) ≡ length classes + 1 = length_push classes class in
    elim (cases_lt i (length classes)) [
      | inl lt ↦ inl (record { class = get_or-append classes (class ∷ []) 0 i lt; value = below_is at none (length classes + 1) i (omega arith) ∙ sym (below_is at none (length classes) i lt) })
      | inr ge ↦
          elim (cases_lt (length classes) i) [
            | inl gt ↦ inl (record {
              class = class_past (classes ++ class ∷ []) i (omega arith) ∙ sym (class_past classes i ge);
              value = below_past at none (length classes + 1) i (omega arith) ∙ sym (below_past at none (length classes) i ge);
            })
            | inr le ↦
                let e : i ≡ length classes = omega arith in
                inr (record { class = rw e (get_or-append_seam classes class [] 0); value = rw e (below_is at none (length classes + 1) (length classes) (omega arith)) })
          ]
    ]

-- no class is past the number of those that have one
pub most_more : (classes : List ℕ) (class : ℕ) → ((i : ℕ) → class_at classes i ≤ length classes) → class ≤ length classes + 1 → (i : ℕ) → class_at (classes ++ class ∷ []) i ≤ length (classes ++ class ∷ [])
most_more classes class before most i = rw (length_push classes class) (
    elim (kept_or_added (λ k. k) 0 classes class i) [
      | inl x ↦ rw x.class (omega (arith, before i))
      | inr x ↦ rw x.class most
    ])

module _ {A : Type 0} (same : A → A → Bool) (is_same : (a b : A) → same a b ≡ true → a ≡ b) (self : (a : A) → same a a ≡ true) where
  same_swap : (a b : A) → same a b ≡ same b a
  same_swap a b =
      elim (cases_Bool (same b a)) [
        | inl h ↦ let e : b ≡ a = is_same b a h in rw (e) refl
        | inr h ↦
            elim (cases_Bool (same a b)) [
              | inl g ↦ let e : a ≡ b = is_same a b g in rw (e) refl
              | inr g ↦ g ∙ sym h
            ]
      ]

  module _ (at : ℕ → A) (none : A) where
    -- one more class
    pub same_more : (classes : List ℕ) (class : ℕ)
        → ((i j : ℕ) → nat_eq (class_at classes i) (class_at classes j) ≡ same (below at none (length classes) i) (below at none (length classes) j))
        → ((i : ℕ) → nat_eq (class_at classes i) class ≡ same (below at none (length classes) i) (at (length classes)))
        → (i j : ℕ) → nat_eq (class_at (classes ++ class ∷ []) i) (class_at (classes ++ class ∷ []) j) ≡ same (below at none (length (classes ++ class ∷ [])) i) (below at none (length (classes ++ class ∷ [])) j)
    same_more classes class before next i j = rw (length_push classes class) (
        elim (kept_or_added at none classes class i) [
          | inl x ↦
              elim (kept_or_added at none classes class j) [
                | inl y ↦ rw (x.class, y.class, x.value, y.value) (before i j)
                | inr y ↦ rw (x.class, y.class, x.value, y.value) (next i)
              ]
          | inr x ↦
              elim (kept_or_added at none classes class j) [
                | inl y ↦ rw (x.class, y.class, x.value, y.value) (eq_swap class (class_at classes j) ∙ next j ∙ same_swap (below at none (length classes) j) (at (length classes)))
                | inr y ↦ rw (x.class, y.class, x.value, y.value) (eq-eqb class class refl ∙ sym (self (at (length classes))))
              ]
        ])

    pub same_none : (i j : ℕ) → nat_eq (class_at [] i) (class_at [] j) ≡ same (below at none 0 i) (below at none 0 j)
    same_none i j = rw (below_past at none 0 i (omega arith), below_past at none 0 j (omega arith)) (sym (self none))

    whole_at : (k i : ℕ) → ((j : ℕ) → k ≤ j → at j ≡ none) → below at none k i ≡ at i
    whole_at k i past =
        elim (cases_lt i k) [
          | inl lt ↦ below_is at none k i lt
          | inr ge ↦ below_past at none k i ge ∙ sym (past i ge)
        ]

    -- the classes of all
    pub same_whole : (classes : List ℕ) → ((j : ℕ) → length classes ≤ j → at j ≡ none)
        → ((i j : ℕ) → nat_eq (class_at classes i) (class_at classes j) ≡ same (below at none (length classes) i) (below at none (length classes) j))
        → (i j : ℕ) → nat_eq (class_at classes i) (class_at classes j) ≡ same (at i) (at j)
    same_whole classes past before i j = rw (← whole_at (length classes) i past, ← whole_at (length classes) j past) (before i j)
