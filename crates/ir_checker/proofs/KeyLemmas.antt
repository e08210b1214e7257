-- Keys of names.
use Rattle.std.proofs.Common.{◌≡◌, ℕ, ◌<◌, ◌≤◌, Bool, true, false, length, Some, slice_get, refl, sym, ap, ◌∙◌, arith, inl, inr, eq-eqb}
use Rattle.std.specs.Prelude.{nat_eq}
use Rattle.std.proofs.lemmas.Bool.{cases_Bool, cases_lt, lt-ltb, le-ltb, ne_eqb, eqb-true}
use Rattle.std.proofs.lemmas.Option.{slice_get-get_or}
use Rattle.std.proofs.Math.ListN.{get_or-eq_default}
use Rattle.pv_base.specs.declared.name.Name.{Name}
use Rattle.pv_base.specs.declared.name.Name.TheVariants.{Numbered}
use Rattle.ir_tree.specs.Table.{Table, IsTable, same_name}
use Rattle.ir_tree.specs.Naming.{name_at}
use Rattle.ir_tree.proofs.Places.{one_place}
use Rattle.ir_tree.proofs.Bodies.{same_self}
use Rattle.ir_rules.proofs.SameLemmas.{name_is}
use Rattle.ir_checker.specs.Keys.{key_of, IsZero}

-- names of the table are the same only where their numbers are
two_names : (t : Table) → IsTable t → (i j : ℕ) → i < length t.names → j < length t.names → same_name (name_at t i) (name_at t j) ≡ nat_eq i j
two_names t is i j li lj =
    elim (cases_Bool (same_name (name_at t i) (name_at t j))) [
      | inl e ↦
          let same : name_at t i ≡ name_at t j = name_is (name_at t i) (name_at t j) e in
          let at : slice_get t.names i ≡ Some (name_at t j) = slice_get-get_or t.names i (Numbered 0) li ∙ ap Some same in
          let to : slice_get t.names j ≡ Some (name_at t j) = slice_get-get_or t.names j (Numbered 0) lj in
          let p : i ≡ j = one_place same_name (name_at t j) (same_self (name_at t j)) t.names i j is.distinct at to in
          e ∙ sym (eq-eqb i j p)
      | inr e ↦
          e ∙ sym (ne_eqb i j (λ (p : i ≡ j). let h : same_name (name_at t j) (name_at t j) ≡ false = rw p at e in let s = same_self (name_at t j) in absurd cc))
    ]

inside : (t : Table) (z k : ℕ) → k < length t.names → key_of t z k ≡ k
inside t z k lt = rw (lt-ltb k (length t.names) lt) refl

outside : (t : Table) (z k : ℕ) → length t.names ≤ k → key_of t z k ≡ z
outside t z k le = rw (le-ltb k (length t.names) le) refl

missing : (t : Table) (k : ℕ) → length t.names ≤ k → name_at t k ≡ Numbered 0
missing t k le = get_or-eq_default t.names (Numbered 0) le

swap : (a b : Name) → same_name a b ≡ same_name b a
swap a b =
    elim (cases_Bool (same_name a b)) [
      | inl e ↦ let same : a ≡ b = name_is a b e in rw same refl
      | inr e ↦
          elim (cases_Bool (same_name b a)) [
            | inl f ↦ let same : b ≡ a = name_is b a f in rw same refl
            | inr f ↦ e ∙ sym f
          ]
    ]

swap_eq : (a b : ℕ) → nat_eq a b ≡ nat_eq b a
swap_eq a b =
    elim (cases_Bool (nat_eq a b)) [
      | inl e ↦ let same : a ≡ b = eqb-true a b e in rw same refl
      | inr e ↦
          elim (cases_Bool (nat_eq b a)) [
            | inl f ↦ let same : b ≡ a = eqb-true b a f in rw same refl
            | inr f ↦ e ∙ sym f
          ]
    ]

-- with what is known of the name 0
module _ (t : Table) (is : IsTable t) (z : ℕ) (zero_is : (i : ℕ) → i < length t.names → same_name (name_at t i) (Numbered 0) ≡ nat_eq i z) where
  pub keys_same : IsZero t z
  keys_same = record {
    same = λ i j.
        elim (cases_lt i (length t.names)) [
          | inl li ↦
              elim (cases_lt j (length t.names)) [
                | inl lj ↦ rw (inside t z i li, inside t z j lj) (two_names t is i j li lj)
                | inr gj ↦ rw (inside t z i li, outside t z j gj, missing t j gj) (zero_is i li)
              ]
          | inr gi ↦
              elim (cases_lt j (length t.names)) [
                | inl lj ↦ rw (outside t z i gi, inside t z j lj, missing t i gi) (swap (Numbered 0) (name_at t j) ∙ zero_is j lj ∙ swap_eq j z)
                | inr gj ↦ rw (outside t z i gi, outside t z j gj, missing t i gi, missing t j gj) (same_self (Numbered 0) ∙ sym (eq-eqb z z refl))
              ]
        ];
  }

pub zero_found : (t : Table) (z : ℕ) (r : Bool) → IsTable t → z < length t.names → r ≡ same_name (name_at t z) (Numbered 0) → r ≡ true → IsZero t z
zero_found t z r is lt e f =
    let name : name_at t z ≡ Numbered 0 = name_is (name_at t z) (Numbered 0) (sym e ∙ f) in
    keys_same t is z (λ i li. ap (same_name (name_at t i)) (sym name) ∙ two_names t is i z li lt)

pub zero_none : (t : Table) → IsTable t → ((i : ℕ) → i < length t.names → same_name (name_at t i) (Numbered 0) ≡ false) → IsZero t (length t.names)
zero_none t is none = keys_same t is (length t.names) (λ i li. none i li ∙ sym (ne_eqb i (length t.names) (λ (p : i ≡ length t.names). omega arith)))
