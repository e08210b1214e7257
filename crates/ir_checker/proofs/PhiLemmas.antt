-- The arms of a phi, by numbers and written out.
use Rattle.std.proofs.Common.{◌≡◌, ℕ, zero, suc, ◌<◌, ◌≤◌, ◌+◌, Bool, true, false, cond, List, [], ◌∷◌, map, length, get_or, Option, Some, None, refl, sym, ap, ◌∙◌, arith, inl, inr, eq-eqb}
use Rattle.std.specs.Prelude.{nat_eq, ◌&&◌, is_some, option_map}
use Rattle.std.specs.List.{list_all}
use Rattle.std.proofs.lemmas.Bool.{cases_Bool, eqb-true}
use Rattle.std.proofs.lemmas.List.Folds.{list_all-map}
use Rattle.pv_base.specs.declared.name.Name.{Name}
use Rattle.ir_tree.specs.declared.instruction.Operand.{Operand}
use Rattle.ir_tree.specs.declared.instruction.Operand.TheVariants as operand
use Rattle.ir_tree.specs.declared.instruction.Arm.{Arm}
use Rattle.ir_tree.specs.declared.items.Function.{Function}
use Rattle.ir_tree.specs.Table.{Table, same_name, name_among}
use Rattle.ir_tree.specs.Trees.{ConstantV}
use Rattle.ir_tree.specs.Naming.{name_at}
use Rattle.ir_tree.specs.Shown.{shown_operand, shown_arm, shown_function}
use Rattle.ir_tree.proofs.Bodies.{same_self}
use Rattle.ir_rules.specs.Same.{same_operand}
use Rattle.ir_rules.specs.Spots.{predecessors, same_names, arms_agree}
use Rattle.ir_rules.specs.Causes.{all_agree}
use Rattle.ir_rules.proofs.SameLemmas.{name_is}
use Rattle.ir_checker.specs.Firsts.{first_place}
use Rattle.ir_checker.specs.Keys.{key_of, IsZero}
use Rattle.ir_checker.specs.Entering.{Enter, IsFirstOperand}
use Rattle.ir_checker.proofs.ConstantSame.{constant_is_same, constant_self}

through : {X Y Z : Type 0} (f : Y → Z) (g : X → Y) (xs : List X) → map f (map g xs) ≡ map (λ x. f (g x)) xs
through f g [] = refl
through f g (x ∷ xs) = ap (λ l. f (g x) ∷ l) (through f g xs)

pub from_shown : (t : Table) (arms : List (Arm ℕ ℕ)) → map (λ a. a.from) (map (shown_arm t) arms) ≡ map (name_at t) (map (λ a. a.from) arms)
from_shown t [] = refl
from_shown t (a ∷ arms) = ap (λ l. name_at t a.from ∷ l) (from_shown t arms)

all_same : {X : Type 0} (p q : X → Bool) → ((x : X) → p x ≡ q x) → (xs : List X) → list_all p xs ≡ list_all q xs
all_same p q e [] = refl
all_same p q e (x ∷ xs) = rw (e x, all_same p q e xs) refl

-- the labels of the arms and the blocks with an edge to a block
pub labels_are : (t : Table) (z : ℕ) (f : Function ℕ ℕ ℕ) (label : ℕ) (enter from : List ℕ) (arms : List (Arm ℕ ℕ)) → Enter t z f label enter → from ≡ map (λ a. key_of t z a.from) arms
    → same_names (map (λ a. a.from) (map (shown_arm t) arms)) (predecessors (shown_function t f) (name_at t label)) ≡ (list_all (λ k. is_some (first_place k enter)) from && list_all (λ k. is_some (first_place k from)) enter)
labels_are t z f label enter from arms is e =
    let froms : List ℕ = map (λ (a : Arm ℕ ℕ). a.from) arms in
    let keys : from ≡ map (key_of t z) froms = e ∙ sym (through (key_of t z) (λ (a : Arm ℕ ℕ). a.from) arms) in
    let forth : list_all (λ x. name_among x (predecessors (shown_function t f) (name_at t label))) (map (name_at t) froms) ≡ list_all (λ k. is_some (first_place k enter)) (map (key_of t z) froms) =
    list_all-map (λ x. name_among x (predecessors (shown_function t f) (name_at t label))) (name_at t) froms
    ∙ all_same _ _ (λ k. sym (is.any k)) froms
    ∙ sym (list_all-map (λ k. is_some (first_place k enter)) (key_of t z) froms) in
    rw (from_shown t arms, forth, ← is.all froms, keys) refl

-- ---- one operand for each label

operand_same : (a b : Operand Name ConstantV) → same_operand a b ≡ true → a ≡ b
operand_same (operand.Register a) (operand.Register b) e = ap operand.Register (name_is a b e)
operand_same (operand.Constant a) (operand.Constant b) e = ap operand.Constant (constant_is_same a b e)
operand_same (operand.Register a) (operand.Constant b) e = absurd cc
operand_same (operand.Constant a) (operand.Register b) e = absurd cc

operand_self : (a : Operand Name ConstantV) → same_operand a a ≡ true
operand_self (operand.Register a) = same_self a
operand_self (operand.Constant a) = constant_self a

-- a number of the list has a first place
pub first_found : (q : ℕ) (xs : List ℕ) (j : ℕ) → j < length xs → get_or xs j 0 ≡ q → is_some (first_place q xs) ≡ true
unfolding first_place
first_found q [] j lt e = absurd (omega arith)
first_found q (x ∷ xs) zero lt e = let h : nat_eq q x ≡ true = eq-eqb q x (sym e) in rw h refl
first_found q (x ∷ xs) (suc j) lt e = later (nat_eq q x) (first_place q xs) (first_found q xs j (omega arith) e)
  where
    later : (b : Bool) (o : Option ℕ) → is_some o ≡ true → is_some (cond b (Some 0) (option_map (λ k. k + 1) o)) ≡ true
    later true o h = refl
    later false None h = h
    later false (Some k) h = refl

-- what stands at a first place
record Placed (q : ℕ) (xs : List ℕ) (p : ℕ) : Type 0 where
  lt : p < length xs
  is : get_or xs p 0 ≡ q

placed_step : (q x : ℕ) (xs : List ℕ) (p : ℕ) (b : Bool) (o : Option ℕ) → b ≡ nat_eq q x → ((k : ℕ) → o ≡ Some k → Placed q xs k) → cond b (Some 0) (option_map (λ k. k + 1) o) ≡ Some p → Placed q (x ∷ xs) p
placed_step q x xs p true o e h at = let z : p ≡ 0 = cc in rw z (record { lt = omega arith; is = sym (eqb-true q x (sym e)) })
placed_step q x xs p false None e h at = absurd cc
placed_step q x xs p false (Some k) e h at =
    let s : p ≡ k + 1 = cc in
    let s' : p ≡ suc k = omega arith in
    let more : Placed q xs k = h k refl in
    rw s' (record { lt = omega (arith, more.lt); is = more.is })

placed : (q : ℕ) (xs : List ℕ) (p : ℕ) → first_place q xs ≡ Some p → Placed q xs p
unfolding first_place
placed q [] p e = absurd cc
placed q (x ∷ xs) p e = placed_step q x xs p (nat_eq q x) (first_place q xs) refl (placed q xs) e

-- tests of each item by its number
all_items : {X : Type 0} (p : X → Bool) (d : X) (xs : List X) → ((j : ℕ) → j < length xs → p (get_or xs j d) ≡ true) → list_all p xs ≡ true
all_items p d [] h = refl
all_items p d (x ∷ xs) h = let first : p x ≡ true = h 0 (omega arith) in rw first (all_items p d xs (λ j lt. h (suc j) (omega arith)))

and_no : (b : Bool) → (b && false) ≡ false
and_no true = refl
and_no false = refl

not_items : {X : Type 0} (p : X → Bool) (d : X) (xs : List X) (j : ℕ) → j < length xs → p (get_or xs j d) ≡ false → list_all p xs ≡ false
not_items p d [] j lt e = absurd (omega arith)
not_items p d (x ∷ xs) zero lt e = rw e refl
not_items p d (x ∷ xs) (suc j) lt e = rw (not_items p d xs j (omega arith) e) (and_no (p x))

some_is : (o : Option ℕ) → is_some o ≡ true → (p : ℕ) × (o ≡ Some p)
some_is None e = absurd cc
some_is (Some p) e = (p, refl)

map_at : {X : Type 0} (h : X → ℕ) (xs : List X) (j : ℕ) (d : X) → j < length xs → get_or (map h xs) j 0 ≡ h (get_or xs j d)
map_at h [] j d lt = absurd (omega arith)
map_at h (x ∷ xs) zero d lt = refl
map_at h (x ∷ xs) (suc j) d lt = map_at h xs j d (omega arith)

map_length : {X : Type 0} (h : X → ℕ) (xs : List X) → length (map h xs) ≡ length xs
map_length h [] = refl
map_length h (x ∷ xs) = ap suc (map_length h xs)

module _ (t : Table) (z : ℕ) (is : IsZero t z) (arms : List (Arm ℕ ℕ)) (d : Arm ℕ ℕ) where
  abbrev keys : List ℕ
  keys = map (λ a. key_of t z a.from) arms

  abbrev key : ℕ → ℕ
  key j = key_of t z (get_or arms j d).from

  abbrev value : ℕ → Operand Name ConstantV
  value j = shown_operand t (get_or arms j d).value

  abbrev pair_agrees : Arm ℕ ℕ → Arm ℕ ℕ → Bool
  pair_agrees a b = arms_agree (shown_arm t a) (shown_arm t b)

  -- two arms of one label have the operand of the first arm of that label
  module _ (firsts : (j p : ℕ) → j < length arms → first_place (key j) keys ≡ Some p → same_operand (value p) (value j) ≡ true) where
    of_first : (j : ℕ) → j < length arms → (p : ℕ) × (first_place (key j) keys ≡ Some p)
    of_first j lt = some_is (first_place (key j) keys) (first_found (key j) keys j (let n : length keys ≡ length arms = map_length (λ a. key_of t z a.from) arms in omega arith) (map_at (λ a. key_of t z a.from) arms j d lt))

    pair_true : (i j : ℕ) → i < length arms → j < length arms → pair_agrees (get_or arms i d) (get_or arms j d) ≡ true
    pair_true i j li lj =
        elim (cases_Bool (same_name (name_at t (get_or arms i d).from) (name_at t (get_or arms j d).from))) [
          | inl e ↦
              let k : key i ≡ key j = eqb-true (key i) (key j) (sym (is.same (get_or arms i d).from (get_or arms j d).from) ∙ e) in
              let found = of_first i li in
              let one : value found.0 ≡ value i = operand_same (value found.0) (value i) (firsts i found.0 li found.1) in
              let two : value found.0 ≡ value j = operand_same (value found.0) (value j) (firsts j found.0 lj (ap (λ q. first_place q keys) (sym k) ∙ found.1)) in
              let same : value i ≡ value j = sym one ∙ two in
              let agree : same_operand (value i) (value j) ≡ true = rw same (operand_self (value j)) in
              rw (e, agree) refl
          | inr e ↦ rw e refl
        ]

    agree_true : all_agree (map (shown_arm t) arms) ≡ true
    agree_true =
        list_all-map (λ a. list_all (arms_agree a) (map (shown_arm t) arms)) (shown_arm t) arms
        ∙ all_items (λ a. list_all (arms_agree (shown_arm t a)) (map (shown_arm t) arms)) d arms (λ i li.
        list_all-map (arms_agree (shown_arm t (get_or arms i d))) (shown_arm t) arms
        ∙ all_items (pair_agrees (get_or arms i d)) d arms (λ j lj. pair_true i j li lj))

  agree_false : (j p : ℕ) → j < length arms → first_place (key j) keys ≡ Some p → same_operand (value p) (value j) ≡ false → all_agree (map (shown_arm t) arms) ≡ false
  agree_false j p lj at differ =
      let n : length keys ≡ length arms = map_length (λ a. key_of t z a.from) arms in
      let there = placed (key j) keys p at in
      let lp : p < length arms = omega (arith, there.lt) in
      let same_key : key p ≡ key j = sym (map_at (λ a. key_of t z a.from) arms p d lp) ∙ there.is in
      let names : same_name (name_at t (get_or arms p d).from) (name_at t (get_or arms j d).from) ≡ true = is.same (get_or arms p d).from (get_or arms j d).from ∙ eq-eqb (key p) (key j) same_key in
      let pair : pair_agrees (get_or arms p d) (get_or arms j d) ≡ false = rw (names, differ) refl in
      list_all-map (λ a. list_all (arms_agree a) (map (shown_arm t) arms)) (shown_arm t) arms
      ∙ not_items (λ a. list_all (arms_agree (shown_arm t a)) (map (shown_arm t) arms)) d arms p lp
      (list_all-map (arms_agree (shown_arm t (get_or arms p d))) (shown_arm t) arms ∙ not_items (pair_agrees (get_or arms p d)) d arms j lj pair)

  first_within : (j p : ℕ) → first_place (key j) keys ≡ Some p → p < length arms
  first_within j p at = let n : length keys ≡ length arms = map_length (λ a. key_of t z a.from) arms in let there = placed (key j) keys p at in omega (arith, there.lt)

any_default : {X : Type 0} (xs : List X) (j : ℕ) (d e : X) → j < length xs → get_or xs j d ≡ get_or xs j e
any_default [] j d e lt = absurd (omega arith)
any_default (x ∷ xs) zero d e lt = refl
any_default (x ∷ xs) (suc j) d e lt = any_default xs j d e (omega arith)

some_arm : Arm ℕ ℕ
some_arm = record { value = operand.Register 0; from = 0 }

module _ (t : Table) (z : ℕ) (is : IsZero t z) (arms : List (Arm ℕ ℕ)) (from : List ℕ) (keys_are : from ≡ map (λ a. key_of t z a.from) arms) where
  pub first_bound : (i first : ℕ) (arm d : Arm ℕ ℕ) → i < length arms → arm ≡ get_or arms i d → Some first ≡ first_place (key_of t z arm.from) from → first < length arms
  first_bound i first arm d lt at e = first_within t z is arms d i first (rw (← keys_are, ← at) (sym e))

  pub first_operand : (i first : ℕ) (arm other d e : Arm ℕ ℕ) (r : Bool) → i < length arms → first < length arms → arm ≡ get_or arms i d → other ≡ get_or arms first e
      → Some first ≡ first_place (key_of t z arm.from) from → r ≡ same_operand (shown_operand t other.value) (shown_operand t arm.value) → IsFirstOperand t z from arms i r
  first_operand i first arm other d e r li lf at to found so = λ p d' h.
      let own : get_or arms i d' ≡ arm = any_default arms i d' d li ∙ sym at in
      let one : first_place (key_of t z arm.from) from ≡ Some p = rw own at h in
      let same : first ≡ p = cc in
      let far : get_or arms p d' ≡ other = ap (λ j. get_or arms j d') (sym same) ∙ any_default arms first d' e lf ∙ sym to in
      rw (own, far) (sym so)

  pub first_lost : (i first : ℕ) (arm d : Arm ℕ ℕ) (r : Bool) → i < length arms → arm ≡ get_or arms i d → length arms ≤ first → Some first ≡ first_place (key_of t z arm.from) from → IsFirstOperand t z from arms i r
  first_lost i first arm d r li at le found = let lf : first < length arms = first_bound i first arm d li at found in absurd (omega arith)

  pub no_first : (i : ℕ) (arm d : Arm ℕ ℕ) → i < length arms → arm ≡ get_or arms i d → None ≡ first_place (key_of t z arm.from) from → IsFirstOperand t z from arms i true
  no_first i arm d li at none = λ p d' h.
      let own : get_or arms i d' ≡ arm = any_default arms i d' d li ∙ sym at in
      let one : first_place (key_of t z arm.from) from ≡ Some p = rw own at h in
      absurd cc

  pub agree_stop : (i : ℕ) (r : Bool) → i < length arms → IsFirstOperand t z from arms i r → r ≡ false → false ≡ all_agree (map (shown_arm t) arms)
  agree_stop i r li first stop =
      let found = of_one i li in
      sym (agree_false t z is arms some_arm i found.0 li found.1 (first found.0 some_arm (rw keys_are found.1) ∙ stop))
    where
      of_one : (j : ℕ) → j < length arms → (p : ℕ) × (first_place (key_of t z (get_or arms j some_arm).from) (map (λ a. key_of t z a.from) arms) ≡ Some p)
      of_one j lt = some_is _ (first_found _ (map (λ a. key_of t z a.from) arms) j (let n : length (map (λ a. key_of t z a.from) arms) ≡ length arms = map_length (λ a. key_of t z a.from) arms in omega arith) (map_at (λ a. key_of t z a.from) arms j some_arm lt))

  pub agree_end : ((j : ℕ) → j < length arms → IsFirstOperand t z from arms j true) → true ≡ all_agree (map (shown_arm t) arms)
  agree_end first = sym (agree_true t z is arms some_arm (λ j p lt at. first j lt p some_arm (rw keys_are at)))
