-- Names that differ have keys that differ.
use Rattle.std.proofs.Common.{◌≡◌, ℕ, ◌<◌, ◌≤◌, ◌+◌, Bool, true, false, List, [], ◌∷◌, map, length, Some, slice_get, eq-eqb, refl, sym, ap, ◌∙◌, arith, inl, inr}
use Rattle.std.specs.Prelude.{nat_eq}
use Rattle.std.specs.List.{list_any}
use Rattle.std.proofs.lemmas.Bool.{cases_Bool, cases_lt, ne_eqb}
use Rattle.std.proofs.lemmas.Option.{slice_get-get_or}
use Rattle.std.proofs.Math.ListN.{get_or-eq_default}
use Rattle.std.proofs.lemmas.Bool.Decides.{nat_tests}
use Rattle.pv_base.specs.declared.name.Name.{Name}
use Rattle.pv_base.specs.declared.name.Name.TheVariants.{Numbered}
use Rattle.ir_tree.specs.Table.{Table, IsTable, same_name}
use Rattle.ir_tree.specs.Naming.{name_at}
use Rattle.ir_tree.proofs.Places.{one_place}
use Rattle.ir_tree.proofs.Bodies.{same_self}
use Rattle.ir_rules.proofs.SameLemmas.{name_is}
use Rattle.ir_rules.specs.Reading.{all_differ}
use Rattle.rule_tests.specs.NameKeys.{name_key}

-- names of the table are the same only where their numbers are
two_names : (t : Table) → IsTable t → (i j : ℕ) → i < length t.names → j < length t.names → same_name (name_at t i) (name_at t j) ≡ nat_eq i j
two_names t is i j li lj =
    elim (cases_Bool (same_name (name_at t i) (name_at t j))) [
      | inl e ↦
          let same : name_at t i ≡ name_at t j = name_is (name_at t i) (name_at t j) e in
          let at : slice_get t.names i ≡ Some (name_at t j) = slice_get-get_or t.names i (Numbered 0) li ∙ ap Some same in
          let to : slice_get t.names j ≡ Some (name_at t j) = slice_get-get_or t.names j (Numbered 0) lj in
          let p : i ≡ j = one_place same_name (name_at t j) (same_self (name_at t j)) t.names i j is.distinct at to in
          e ∙ sym (eq-eqb i j p)
      | inr e ↦
          e ∙ sym (ne_eqb i j (λ (p : i ≡ j). let h : same_name (name_at t j) (name_at t j) ≡ false = rw p at e in let s = same_self (name_at t j) in absurd cc))
    ]

missing : (t : Table) (k : ℕ) → length t.names ≤ k → name_at t k ≡ Numbered 0
missing t k le = get_or-eq_default t.names (Numbered 0) le

swap : (a b : Name) → same_name a b ≡ same_name b a
swap a b =
    elim (cases_Bool (same_name a b)) [
      | inl e ↦ let same : a ≡ b = name_is a b e in rw same refl
      | inr e ↦
          elim (cases_Bool (same_name b a)) [
            | inl f ↦ let same : b ≡ a = name_is b a f in rw same refl
            | inr f ↦ e ∙ sym f
          ]
    ]

key_zero : (t : Table) (k : ℕ) → same_name (name_at t k) (Numbered 0) ≡ true → name_key t k ≡ 0
key_zero t k e = rw e refl

key_other : (t : Table) (k : ℕ) → same_name (name_at t k) (Numbered 0) ≡ false → name_key t k ≡ k + 1
key_other t k e = rw e refl

-- a name that is not the name 0 is one of the table
within : (t : Table) (k : ℕ) → same_name (name_at t k) (Numbered 0) ≡ false → k < length t.names
within t k e =
    elim (cases_lt k (length t.names)) [
      | inl lt ↦ lt
      | inr ge ↦ let zero : name_at t k ≡ Numbered 0 = missing t k ge in let h : same_name (Numbered 0) (Numbered 0) ≡ false = rw zero at e in absurd cc
    ]

next_same : (i j : ℕ) → nat_eq i j ≡ nat_eq (i + 1) (j + 1)
next_same i j = grind (arith, nat_tests)

zero_same : (t : Table) (i j : ℕ) → same_name (name_at t i) (Numbered 0) ≡ true → same_name (name_at t j) (Numbered 0) ≡ true → same_name (name_at t i) (name_at t j) ≡ true
zero_same t i j e f =
    let a : name_at t i ≡ Numbered 0 = name_is (name_at t i) (Numbered 0) e in
    let b : name_at t j ≡ Numbered 0 = name_is (name_at t j) (Numbered 0) f in
    ap (λ x. same_name x (name_at t j)) a ∙ ap (same_name (Numbered 0)) b

zero_apart : (t : Table) (i j : ℕ) → same_name (name_at t i) (Numbered 0) ≡ true → same_name (name_at t j) (Numbered 0) ≡ false → same_name (name_at t i) (name_at t j) ≡ false
zero_apart t i j e f =
    let a : name_at t i ≡ Numbered 0 = name_is (name_at t i) (Numbered 0) e in
    ap (λ x. same_name x (name_at t j)) a ∙ swap (Numbered 0) (name_at t j) ∙ f

keys_same : (t : Table) → IsTable t → (i j : ℕ) → same_name (name_at t i) (name_at t j) ≡ nat_eq (name_key t i) (name_key t j)
keys_same t is i j =
    elim (cases_Bool (same_name (name_at t i) (Numbered 0))) [
      | inl e ↦
          elim (cases_Bool (same_name (name_at t j) (Numbered 0))) [
            | inl f ↦ let k : nat_eq (name_key t i) (name_key t j) ≡ true = rw (key_zero t i e, key_zero t j f) refl in zero_same t i j e f ∙ sym k
            | inr f ↦ let k : nat_eq (name_key t i) (name_key t j) ≡ false = rw (key_zero t i e, key_other t j f) (ne_eqb 0 (j + 1) (λ (p : 0 ≡ j + 1). omega arith)) in zero_apart t i j e f ∙ sym k
          ]
      | inr e ↦
          elim (cases_Bool (same_name (name_at t j) (Numbered 0))) [
            | inl f ↦
                let k : nat_eq (name_key t i) (name_key t j) ≡ false = rw (key_other t i e, key_zero t j f) (ne_eqb (i + 1) 0 (λ (p : i + 1 ≡ 0). omega arith)) in
                swap (name_at t i) (name_at t j) ∙ zero_apart t j i f e ∙ sym k
            | inr f ↦
                let k : nat_eq (name_key t i) (name_key t j) ≡ nat_eq (i + 1) (j + 1) = rw (key_other t i e, key_other t j f) refl in
                two_names t is i j (within t i e) (within t j f) ∙ next_same i j ∙ sym k
          ]
    ]

-- lists that are the same item by item have items that differ alike
module _ {X Y Z : Type 0} (same : Y → Y → Bool) (f : X → Y) (like : Z → Z → Bool) (g : X → Z) (e : (x y : X) → same (f x) (f y) ≡ like (g x) (g y)) where
  any_through : (x : X) (xs : List X) → list_any (same (f x)) (map f xs) ≡ list_any (like (g x)) (map g xs)
  any_through x [] = refl
  any_through x (y ∷ xs) = rw (e x y, any_through x xs) refl

  differ_through : (xs : List X) → all_differ same (map f xs) ≡ all_differ like (map g xs)
  unfolding all_differ
  differ_through [] = refl
  differ_through (x ∷ xs) = rw (any_through x xs, differ_through xs) refl

pub names_by_key : (t : Table) → IsTable t → (ks : List ℕ) → all_differ same_name (map (name_at t) ks) ≡ all_differ nat_eq (map (name_key t) ks)
names_by_key t is ks = differ_through same_name (name_at t) nat_eq (name_key t) (keys_same t is) ks
