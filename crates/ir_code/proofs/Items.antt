-- Items under the numbers of their names are those of their names.
use Rattle.std.proofs.Common.{◌≡◌, ℕ, zero, suc, ◌+◌, ◌<◌, ◌≤◌, Bool, true, false, List, [], ◌∷◌, length, Option, Some, None, slice_get, get_or, refl, ◌∙◌, arith, inl, inr, replicate, pos, eqb-true}
use Rattle.std.specs.Prelude.{nat_eq, nat_lt, if◌then◌else◌}
use Rattle.std.proofs.lemmas.Bool.{cases_Bool}
use Rattle.std.proofs.lemmas.Option.{slice_get-get_or}
use borrow.Author.Tests.{ltb-true, ltb-false}
use Rattle.pv_base.specs.declared.name.Name.TheVariants.{Numbered}
use Rattle.ir_tree.specs.Table.{Table, IsTable}
use Rattle.ir_tree.specs.Naming.{name_at}
use Rattle.ir_tree.specs.Modules.{Items}
use Rattle.ir_tree.proofs.Bodies.{each_same}
use Rattle.ir_code.specs.declared.op.Fixed.{Fixed}
use Rattle.ir_code.specs.declared.op.Fixed.TheVariants as fixed
use Rattle.ir_code.specs.Fixed.{goes_by, first_item}
use Rattle.ir_code.specs.Walking.{PutsItems, AreNamed}

no_item : {X : Type 0} (xs : List X) (k : ℕ) → length xs ≤ k → slice_get xs k ≡ None
no_item [] k le = refl
no_item (x ∷ xs) zero le = absurd (omega arith)
no_item (x ∷ xs) (suc k) le = no_item xs k (omega arith)

not_equal : (x k : ℕ) (b : Bool) → nat_eq x k ≡ b → x < k → b ≡ false
not_equal x k true e lt = let same : x ≡ k = eqb-true x k e in absurd (omega arith)
not_equal x k false e lt = refl

-- an item has the name of a number exactly where it has the number
goes_same : (t : Table) (x k : ℕ) → IsTable t → x < length t.names → nat_eq x k ≡ goes_by t (name_at t x) k
goes_same t x k is lt =
    elim (cases_Bool (nat_lt k (length t.names))) [
      | inl inside ↦
          let within : k < length t.names = ltb-true k (length t.names) inside in
          let at : slice_get t.names k ≡ Some (name_at t k) = slice_get-get_or t.names k (Numbered 0) within in
          rw at (each_same t x k is lt within)
      | inr outside ↦
          let le : length t.names ≤ k = ltb-false k (length t.names) outside in
          rw (no_item t.names k le) (not_equal x k (nat_eq x k) refl (omega arith))
    ]

first_if : (a b : Bool) (v : Fixed) (o p : Option Fixed) → a ≡ b → o ≡ p → (if a then Some v else o) ≡ (if b then Some v else p)
first_if a b v o p e f = rw (e, f) refl

first_same : {X : Type 0} (p q : X → Bool) (item : ℕ → Fixed) (i : ℕ) (xs : List X) (a b : Option Fixed) → ((x : X) → p x ≡ q x) → a ≡ b → first_item p item i xs a ≡ first_item q item i xs b
first_same p q item i [] a b same e = e
first_same p q item i (x ∷ xs) a b same e = first_if (p x) (q x) (item i) _ _ (same x) (first_same p q item (i + 1) xs a b same e)

nothing : (n k : ℕ) → get_or {A = Option Fixed} (replicate n None) k None ≡ None
nothing zero k = refl
nothing (suc n) zero = refl
nothing (suc n) (suc k) = nothing n k

none_at : (xs : List (Option Fixed)) (n k : ℕ) → xs ≡ replicate n None → get_or xs k None ≡ None
none_at xs n k e = rw e (nothing n k)

pub named_items : (m : Items) (start middle last : List (Option Fixed)) → IsTable m.names → start ≡ replicate (length m.names.names) None → length start ≡ length m.names.names
    → PutsItems (λ f. f.name) fixed.Function 0 m.functions start middle → PutsItems (λ g. g.name) (λ i. fixed.Global i (pos 0)) 0 m.globals middle last → AreNamed m last
named_items m start middle last is e len p q = record {
  len = q.len ∙ p.len ∙ len;
  each = λ x lt.
      let first = p.each x (let l = len in omega arith) in
      let second = q.each x (let l = len in let k = p.len in omega arith) in
      second ∙ first_same _ _ _ 0 m.globals _ _ (λ g. goes_same m.names x g.name is lt) (first ∙ first_same _ _ _ 0 m.functions _ _ (λ f. goes_same m.names x f.name is lt) (none_at start (length m.names.names) x e));
}
