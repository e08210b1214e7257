-- Types that are the same are equal.
use Rattle.std.proofs.Common.{◌≡◌, ℕ, suc, ◌<◌, ◌≤◌, ◌+◌, Bool, true, false, List, [], ◌∷◌, length, drop, get_or, refl, sym, ap, ◌∙◌, add-one, eqb-true, eq-eqb}
use Rattle.std.specs.Prelude.{◌&&◌}
use Rattle.std.proofs.Math.Seq.{drop-cons}
use Rattle.std.proofs.lemmas.List.{drop_all}
use Rattle.pv_base.specs.declared.name.Name.{Name}
use Rattle.pv_base.specs.declared.name.Name.TheVariants.{Named, Numbered}
use Rattle.ir_tree.specs.Table.{same_name}
use Rattle.ir_tree.specs.Trees.{TypeV, IntV, PtrV, VoidV, ArrayV, StructV, NamedV, TypesV, NoneV, MoreV}
use Rattle.ir_tree.specs.Naming.{types_by}
use Rattle.ir_tree.proofs.Bodies.{same_self}
use lib.Pointwise.{bytes_decides}
use Rattle.ir_rules.specs.Same.{same_bool, same_type, same_types}

pub and_both : (a b : Bool) → (a && b) ≡ true → (a ≡ true) × (b ≡ true)
and_both true true e = (refl, refl)
and_both true false e = absurd cc
and_both false b e = absurd cc

pub name_is : (a b : Name) → same_name a b ≡ true → a ≡ b
name_is (Named a) (Named b) e = ap Named ((bytes_decides a b).0 e)
name_is (Numbered a) (Numbered b) e = ap Numbered (eqb-true a b e)
name_is (Named a) (Numbered b) e = absurd cc
name_is (Numbered a) (Named b) e = absurd cc

pub bool_is : (a b : Bool) → same_bool a b ≡ true → a ≡ b
bool_is true true e = refl
bool_is true false e = absurd cc
bool_is false true e = absurd cc
bool_is false false e = refl

pub bool_self : (a : Bool) → same_bool a a ≡ true
bool_self true = refl
bool_self false = refl

pub both : (a b : Bool) → a ≡ true → b ≡ true → (a && b) ≡ true
both a b e f = rw e f

mutual
  unfolding same_type same_types

  pub type_is_same : (a b : TypeV) → same_type a b ≡ true → a ≡ b
  type_is_same (IntV a) (IntV b) e = ap IntV (eqb-true a b e)
  type_is_same PtrV PtrV e = refl
  type_is_same VoidV VoidV e = refl
  type_is_same (ArrayV n a) (ArrayV m b) e =
      let p = and_both _ _ e in
      let s : n ≡ m = eqb-true n m p.0 in
      let q : a ≡ b = type_is_same a b p.1 in
      cc
  type_is_same (StructV p a) (StructV q b) e =
      let r = and_both _ _ e in
      let s : p ≡ q = bool_is p q r.0 in
      let u : a ≡ b = types_are_same a b r.1 in
      cc
  type_is_same (NamedV a) (NamedV b) e = ap NamedV (name_is a b e)
  type_is_same a b e = absurd cc

  pub types_are_same : (a b : TypesV) → same_types a b ≡ true → a ≡ b
  types_are_same NoneV NoneV e = refl
  types_are_same (MoreV a more) (MoreV b others) e =
      let p = and_both _ _ e in
      let s : a ≡ b = type_is_same a b p.0 in
      let u : more ≡ others = types_are_same more others p.1 in
      cc
  types_are_same a b e = absurd cc

mutual
  unfolding same_type same_types

  pub type_self : (a : TypeV) → same_type a a ≡ true
  type_self (IntV a) = eq-eqb a a refl
  type_self PtrV = refl
  type_self VoidV = refl
  type_self (ArrayV n a) = both _ _ (eq-eqb n n refl) (type_self a)
  type_self (StructV p a) = both _ _ (bool_self p) (types_self a)
  type_self (NamedV a) = same_self a

  pub types_self : (a : TypesV) → same_types a a ≡ true
  types_self NoneV = refl
  types_self (MoreV a more) = both _ _ (type_self a) (types_self more)

-- one more pair of fields
pub fields_step : (at : ℕ → TypeV) (a b : List ℕ) (i d e : ℕ) → i < length a → i < length b
    → same_types (types_by at (drop i a)) (types_by at (drop i b)) ≡ (same_type (at (get_or a i d)) (at (get_or b i e)) && same_types (types_by at (drop (suc i) a)) (types_by at (drop (suc i) b)))
unfolding same_types
fields_step at a b i d e la lb = rw (drop-cons a i d, drop-cons b i e) refl

fields_length : (at : ℕ → TypeV) (a b : List ℕ) → same_types (types_by at a) (types_by at b) ≡ true → length a ≡ length b
unfolding same_types
fields_length at [] [] e = refl
fields_length at [] (y ∷ b) e = absurd cc
fields_length at (x ∷ a) [] e = absurd cc
fields_length at (x ∷ a) (y ∷ b) e = ap suc (fields_length at a b (and_both _ _ e).1)

not_true : (b : Bool) → (b ≡ true → ⊥) → false ≡ b
not_true true h = absurd (h refl)
not_true false h = refl

-- lists of other lengths are not the same
pub fields_differ : (at : ℕ → TypeV) (a b : List ℕ) → (length a ≡ length b → ⊥) → false ≡ same_types (types_by at a) (types_by at b)
fields_differ at a b h = not_true _ (λ e. h (fields_length at a b e))

pub fields_end : (at : ℕ → TypeV) (a b : List ℕ) (i : ℕ) → length a ≤ i → length b ≤ i → same_types (types_by at (drop i a)) (types_by at (drop i b)) ≡ true
unfolding same_types
fields_end at a b i la lb = rw (drop_all i a la, drop_all i b lb) refl

-- a loop over two lists of fields stops at a pair that differs, and goes on behind one that does not
pub fields_stop : (at : ℕ → TypeV) (a b : List ℕ) (i : ℕ) (t : Bool) → i < length a → i < length b → same_types (types_by at a) (types_by at b) ≡ same_types (types_by at (drop i a)) (types_by at (drop i b))
    → t ≡ same_type (at (get_or a i 0)) (at (get_or b i 0)) → t ≡ false → false ≡ same_types (types_by at a) (types_by at b)
fields_stop at a b i t la lb so is e =
    let h : same_type (at (get_or a i 0)) (at (get_or b i 0)) ≡ false = sym is ∙ e in
    sym (so ∙ fields_step at a b i 0 0 la lb ∙ rw h refl)

pub fields_more : (at : ℕ → TypeV) (a b : List ℕ) (i : ℕ) (t : Bool) → i < length a → i < length b → same_types (types_by at a) (types_by at b) ≡ same_types (types_by at (drop i a)) (types_by at (drop i b))
    → t ≡ same_type (at (get_or a i 0)) (at (get_or b i 0)) → t ≡ true → same_types (types_by at a) (types_by at b) ≡ same_types (types_by at (drop (i + 1) a)) (types_by at (drop (i + 1) b))
fields_more at a b i t la lb so is e =
    let h : same_type (at (get_or a i 0)) (at (get_or b i 0)) ≡ true = sym is ∙ e in
    rw add-one (so ∙ fields_step at a b i 0 0 la lb ∙ rw h refl)
