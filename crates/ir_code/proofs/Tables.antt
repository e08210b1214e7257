-- Tables of cases.
use Rattle.std.proofs.Common.{◌≡◌, ℕ, Bool, true, false, List, ◌∷◌, [], ◌++◌, Option, Some, None, is_some, refl, sym, ◌∙◌, ap, nat_eq}
use Rattle.std.specs.Prelude.{cond}
use Rattle.std.specs.Cmp.{unsigned_tied, unsigned_Decides}
use Rattle.std.specs.Ordering.{nat_cmp}
use Rattle.std.specs.BTreeMap.{BTreeMap, get, is_at}
use Rattle.ir_code.specs.Cases.{edge_of, AreFound}

pub none_where : {A : Type 0} (o : Option A) → is_some o ≡ false → o ≡ None
none_where None _ = refl
none_where (Some x) e = absurd cc

not_here : (b : Bool) (k : ℕ) (o : Option ℕ) → cond b (Some k) o ≡ None → b ≡ false
not_here true k o e = absurd cc
not_here false k o e = refl

not_behind : (b : Bool) (k : ℕ) (o : Option ℕ) → cond b (Some k) o ≡ None → o ≡ None
not_behind true k o e = absurd cc
not_behind false k o e = e

turned : (b c : Bool) (x y : ℕ) → nat_eq x y ≡ b → nat_eq y x ≡ c → b ≡ c
turned true true x y e d = refl
turned false false x y e d = refl
turned true false x y e d = let same : x ≡ y = (unsigned_Decides x y).0 e in sym ((unsigned_Decides y x).1 (sym same)) ∙ d
turned false true x y e d = let same : y ≡ x = (unsigned_Decides y x).0 d in sym (sym ((unsigned_Decides x y).1 (sym same)) ∙ e)

tied : (value x : ℕ) → is_at (nat_cmp value) x ≡ nat_eq x value
tied value x = unsigned_tied value x ∙ turned (nat_eq value x) (nat_eq x value) value x refl refl

differ : (value x k : ℕ) → nat_eq value k ≡ false → nat_eq x k ≡ true → is_at (nat_cmp value) x ≡ false
differ value x k n e = let same : x ≡ k = (unsigned_Decides x k).0 e in unsigned_tied value x ∙ ap (nat_eq value) same ∙ n

step : (p q : Bool) (c edge : ℕ) (l r : Option ℕ) → r ≡ cond q (Some edge) l → (p ≡ true → q ≡ false) → cond p (Some c) r ≡ cond q (Some edge) (cond p (Some c) l)
step true true c edge l r e h = let no : true ≡ false = h refl in absurd cc
step true false c edge l r e h = refl
step false q c edge l r e h = e

-- a case of a new value behind others, as any value finds it
pub found_behind : (cases : List (ℕ × ℕ)) (value edge x : ℕ) → edge_of cases value ≡ None → edge_of (cases ++ (value, edge) ∷ []) x ≡ cond (is_at (nat_cmp value) x) (Some edge) (edge_of cases x)
found_behind [] value edge x none = ap (λ b. cond b (Some edge) None) (sym (tied value x))
found_behind (c ∷ cases) value edge x none =
    step (nat_eq x c.0) (is_at (nat_cmp value) x) c.1 edge (edge_of cases x) (edge_of (cases ++ (value, edge) ∷ []) x)
    (found_behind cases value edge x (not_behind (nat_eq value c.0) c.1 (edge_of cases value) none))
    (differ value x c.0 (not_here (nat_eq value c.0) c.1 (edge_of cases value) none))

pub case_added : (cases more : List (ℕ × ℕ)) (old new : BTreeMap ℕ ℕ) (value edge : ℕ) → AreFound cases old → edge_of cases value ≡ None
    → ((q : ℕ) → get nat_cmp new q ≡ cond (is_at (nat_cmp value) q) (Some edge) (get nat_cmp old q)) → more ≡ cases ++ (value, edge) ∷ [] → AreFound more new
case_added cases more old new value edge found none puts is = record {
  each = λ x. puts x ∙ ap (cond (is_at (nat_cmp value) x) (Some edge)) (found.each x) ∙ sym (found_behind cases value edge x none) ∙ ap (λ cs. edge_of cs x) (sym is);
}
