-- Constants that are the same are equal.
use Rattle.std.proofs.Common.{◌≡◌, ℕ, true, List, refl, ap, ◌∙◌, eqb-true, eq-eqb}
use Rattle.int_num.specs.Integer.{Integer}
use Rattle.ir_tree.specs.Trees.{ConstantV, IntegerC, NullC, ZeroC, TextC, ArrayC, StructC, NameC, AddressC, ElementsV, NoneC, MoreC}
use Rattle.ir_tree.proofs.Bodies.{same_self}
use lib.Pointwise.{bytes_decides}
use Rattle.ir_rules.specs.Same.{same_integer, same_constant, same_elements}
use Rattle.ir_rules.proofs.SameLemmas.{and_both, name_is, bool_is, bool_self, both, type_is_same, type_self}

abbrev make : ℕ → ℕ → Integer
make w n = record { width = w; bits = n }

integer_is : (a b : Integer) → same_integer a b ≡ true → a ≡ b
integer_is a b e =
    let p = and_both _ _ e in
    let w : a.width ≡ b.width = eqb-true a.width b.width p.0 in
    let n : a.bits ≡ b.bits = eqb-true a.bits b.bits p.1 in
    ap (λ k. make k a.bits) w ∙ ap (make b.width) n

mutual
  unfolding same_constant same_elements

  pub constant_is_same : (a b : ConstantV) → same_constant a b ≡ true → a ≡ b
  constant_is_same (IntegerC a) (IntegerC b) e = ap IntegerC (integer_is a b e)
  constant_is_same NullC NullC e = refl
  constant_is_same ZeroC ZeroC e = refl
  constant_is_same (TextC a) (TextC b) e = ap TextC ((bytes_decides a b).0 e)
  constant_is_same (ArrayC a) (ArrayC b) e = ap ArrayC (elements_are_same a b e)
  constant_is_same (StructC p a) (StructC q b) e =
      let r = and_both _ _ e in
      let s : p ≡ q = bool_is p q r.0 in
      let u : a ≡ b = elements_are_same a b r.1 in
      cc
  constant_is_same (NameC a) (NameC b) e = ap NameC (name_is a b e)
  constant_is_same (AddressC t a i) (AddressC u b j) e =
      let p = and_both _ _ e in
      let q = and_both _ _ p.0 in
      let s : t ≡ u = type_is_same t u q.0 in
      let v : a ≡ b = constant_is_same a b q.1 in
      let w : i ≡ j = elements_are_same i j p.1 in
      cc
  constant_is_same a b e = absurd cc

  pub elements_are_same : (a b : ElementsV) → same_elements a b ≡ true → a ≡ b
  elements_are_same NoneC NoneC e = refl
  elements_are_same (MoreC t a more) (MoreC u b others) e =
      let p = and_both _ _ e in
      let q = and_both _ _ p.0 in
      let s : t ≡ u = type_is_same t u q.0 in
      let v : a ≡ b = constant_is_same a b q.1 in
      let w : more ≡ others = elements_are_same more others p.1 in
      cc
  elements_are_same a b e = absurd cc

bytes_self : (a : List ℕ) → same_constant (TextC a) (TextC a) ≡ true
unfolding same_constant
bytes_self a = (bytes_decides a a).1 refl

mutual
  unfolding same_constant same_elements

  pub constant_self : (a : ConstantV) → same_constant a a ≡ true
  constant_self (IntegerC a) = both _ _ (eq-eqb a.width a.width refl) (eq-eqb a.bits a.bits refl)
  constant_self NullC = refl
  constant_self ZeroC = refl
  constant_self (TextC a) = bytes_self a
  constant_self (ArrayC a) = elements_self a
  constant_self (StructC p a) = both _ _ (bool_self p) (elements_self a)
  constant_self (NameC a) = same_self a
  constant_self (AddressC t a i) = both _ _ (both _ _ (type_self t) (constant_self a)) (elements_self i)

  pub elements_self : (a : ElementsV) → same_elements a a ≡ true
  elements_self NoneC = refl
  elements_self (MoreC t a more) = both _ _ (both _ _ (type_self t) (constant_self a)) (elements_self more)
