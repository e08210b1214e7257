-- The edges of a function, edge by edge.
use Rattle.std.proofs.Common.{◌≡◌, ℕ, zero, suc, ◌<◌, ◌≤◌, ◌+◌, Bool, true, false, cond, List, [], ◌∷◌, ◌++◌, map, length, take, get_or, Option, Some, None, slice_get, refl, sym, ap, ◌∙◌, arith, inl, inr}
use Rattle.std.specs.Prelude.{nat_eq, not, ◌&&◌, ◌||◌, is_some, filter, option_map, unwrap_or}
use Rattle.std.specs.List.{list_all, list_any}
use Rattle.std.specs.Ordering.{nat_cmp}
use Rattle.std.specs.BTreeMap.{get, BTreeMap, is_at}
use Rattle.std.proofs.Math.Seq.{take-suc}
use Rattle.std.proofs.lemmas.List.{take_all}
use Rattle.std.proofs.lemmas.Bool.{cases_Bool, eqb-true}
use Rattle.pv_base.specs.declared.name.Name.{Name}
use Rattle.ir_tree.specs.declared.instruction.Instruction.{Instruction}
use Rattle.ir_tree.specs.declared.items.Block.{Block}
use Rattle.ir_tree.specs.declared.items.Function.{Function}
use Rattle.ir_tree.specs.Table.{Table, same_name, name_among}
use Rattle.ir_tree.specs.Naming.{name_at}
use Rattle.ir_tree.specs.Shown.{shown, shown_block}
use Rattle.ir_rules.specs.Forms.{targets}
use Rattle.ir_rules.specs.Spots.{has_edge_to}
use Rattle.ir_rules.proofs.ShownLemmas.{targets_shown}
use Rattle.ir_rules.proofs.FlagLemmas.{any_of}
use Rattle.ir_checker.specs.declared.edges.Edges.{Edges}
use Rattle.ir_checker.specs.Firsts.{first_place}
use Rattle.ir_checker.specs.Keys.{key_of, IsZero}
use Rattle.ir_checker.specs.Entering.{list_at, AreEdges, Enter}
use Rattle.ir_checker.proofs.IndexLemmas.{any_at}

-- ---- tests of lists

and_true : (b : Bool) → (b && true) ≡ b
and_true true = refl
and_true false = refl

and_assoc : (a b c : Bool) → ((a && b) && c) ≡ (a && (b && c))
and_assoc true b c = refl
and_assoc false b c = refl

and_again : (a b : Bool) → ((a && b) && a) ≡ (a && b)
and_again true true = refl
and_again true false = refl
and_again false b = refl

pub all_push : {X : Type 0} (p : X → Bool) (xs : List X) (x : X) → list_all p (xs ++ x ∷ []) ≡ (list_all p xs && p x)
all_push p [] x = and_true (p x)
all_push p (y ∷ xs) x = ap (λ b. p y && b) (all_push p xs x) ∙ sym (and_assoc (p y) (list_all p xs) (p x))

-- a number of the list adds nothing
pub all_again : (p : ℕ → Bool) (xs : List ℕ) (i x : ℕ) → slice_get xs i ≡ Some x → (list_all p xs && p x) ≡ list_all p xs
all_again p [] i x e = absurd cc
all_again p (y ∷ xs) zero x e = let h : y ≡ x = cc in rw h (and_again (p x) (list_all p xs))
all_again p (y ∷ xs) (suc i) x e = and_assoc (p y) (list_all p xs) (p x) ∙ ap (λ b. p y && b) (all_again p xs i x e)

all_same : {X : Type 0} (p q : X → Bool) → ((x : X) → p x ≡ q x) → (xs : List X) → list_all p xs ≡ list_all q xs
all_same p q e [] = refl
all_same p q e (x ∷ xs) = rw (e x, all_same p q e xs) refl

-- one more item of a loop
pub all_step : {X : Type 0} (r : X → Bool) (xs : List X) (i : ℕ) (x d : X) (a m n : Bool) → i < length xs → x ≡ get_or xs i d → n ≡ (m && r x) → m ≡ (a && list_all r (take i xs)) → n ≡ (a && list_all r (take (i + 1) xs))
all_step r xs i x d a m n lt is e f =
    let s : i + 1 ≡ suc i = omega arith in
    rw (s, take-suc xs i d lt, ← is, all_push r (take i xs) x) (e ∙ ap (λ b. b && r x) f ∙ and_assoc a (list_all r (take i xs)) (r x))

pub all_start : {X : Type 0} (r : X → Bool) (xs : List X) (a : Bool) → a ≡ (a && list_all r (take 0 xs))
all_start r xs a = sym (and_true a)

pub all_done : {X : Type 0} (r : X → Bool) (xs : List X) (i : ℕ) (a n : Bool) → length xs ≤ i → n ≡ (a && list_all r (take i xs)) → n ≡ (a && list_all r xs)
all_done r xs i a n le e = rw (take_all i xs le) at e

-- ---- one more edge

same_test : (k n : ℕ) → is_at (nat_cmp k) n ≡ nat_eq n k
same_test k n = grind arith

pub edge_is : (to mid new : BTreeMap ℕ (List ℕ)) (key from : ℕ) (old list : List ℕ)
    → ((q : ℕ) → get nat_cmp mid q ≡ cond (is_at (nat_cmp key) q) None (get nat_cmp to q)) → ((q : ℕ) → get nat_cmp new q ≡ cond (is_at (nat_cmp key) q) (Some list) (get nat_cmp mid q))
    → old ≡ unwrap_or (get nat_cmp to key) [] → ((p : ℕ → Bool) → list_all p list ≡ (list_all p old && p from))
    → (q : ℕ) (p : ℕ → Bool) → list_all p (list_at new q) ≡ (list_all p (list_at to q) && (not (nat_eq q key) || p from))
edge_is to mid new key from old list removed inserted was more q p =
    elim (cases_Bool (nat_eq q key)) [
      | inl e ↦
          let same : q ≡ key = eqb-true q key e in
          rw (inserted q, same_test key q, e, same, ← was) (more p)
      | inr e ↦ rw (inserted q, removed q, same_test key q, e) (sym (and_true (list_all p (list_at to q))))
    ]

-- ---- the edges of a block

not_either : (a b c : Bool) → ((not a || c) && (not b || c)) ≡ (not (a || b) || c)
not_either true true true = refl
not_either true true false = refl
not_either true false true = refl
not_either true false false = refl
not_either false b c = refl

module _ (t : Table) (z k : ℕ) (is : IsZero t z) (c : Bool) where
  targets_are : (ts : List ℕ) → list_all (λ x. not (nat_eq (key_of t z k) (key_of t z x)) || c) ts ≡ (not (list_any (λ x. same_name (name_at t k) (name_at t x)) ts) || c)
  targets_are [] = refl
  targets_are (x ∷ ts) = rw (← is.same k x, targets_are ts) (not_either (same_name (name_at t k) (name_at t x)) (list_any (λ x. same_name (name_at t k) (name_at t x)) ts) c)

  among : (i : Instruction ℕ ℕ ℕ) → name_among (name_at t k) (targets (shown t i)) ≡ list_any (λ x. same_name (name_at t k) (name_at t x)) (targets i)
  among i = ap (list_any (same_name (name_at t k))) (targets_shown t i) ∙ any_of (same_name (name_at t k)) (name_at t) (targets i)

  instructions_are : (js : List (Instruction ℕ ℕ ℕ)) → list_all (λ i. list_all (λ x. not (nat_eq (key_of t z k) (key_of t z x)) || c) (targets i)) js ≡ (not (list_any (λ i. name_among (name_at t k) (targets i)) (map (shown t) js)) || c)
  instructions_are [] = refl
  instructions_are (i ∷ js) =
      rw (targets_are (targets i), ← among i, instructions_are js) (not_either (name_among (name_at t k) (targets (shown t i))) (list_any (λ i. name_among (name_at t k) (targets i)) (map (shown t) js)) c)

pub edges_are : (t : Table) (f : Function ℕ ℕ ℕ) (z : ℕ) (to : BTreeMap ℕ (List ℕ)) → IsZero t z
    → ((q : ℕ) (p : ℕ → Bool) → list_all p (list_at to q) ≡ list_all (λ b. list_all (λ i. list_all (λ k. not (nat_eq q (key_of t z k)) || p (key_of t z b.label)) (targets i)) b.instructions) f.blocks)
    → AreEdges t f (record { zero = z; to = to })
edges_are t f z to is all = record {
  zero = is;
  each = λ k p. all (key_of t z k) p ∙ all_same _ _ (λ b. instructions_are t z k is (p (key_of t z b.label)) b.instructions) f.blocks;
}

-- ---- the keys of the blocks with an edge to one

some_of : (b : Bool) (o : Option ℕ) → is_some (cond b (Some 0) (option_map (λ k. k + 1) o)) ≡ (b || is_some o)
some_of true o = refl
some_of false None = refl
some_of false (Some k) = refl

pub has_any : (q : ℕ) (xs : List ℕ) → is_some (first_place q xs) ≡ list_any (nat_eq q) xs
unfolding first_place
has_any q [] = refl
has_any q (x ∷ xs) = some_of (nat_eq q x) (first_place q xs) ∙ ap (λ b. nat_eq q x || b) (has_any q xs)

not_and : (a b : Bool) → (a || not b) ≡ not (not a && b)
not_and true b = refl
not_and false b = refl

any_not : (p : ℕ → Bool) (xs : List ℕ) → list_any p xs ≡ not (list_all (λ x. not (p x)) xs)
any_not p [] = refl
any_not p (x ∷ xs) = ap (λ b. p x || b) (any_not p xs) ∙ not_and (p x) (list_all (λ x. not (p x)) xs)

module _ (t : Table) (z label : ℕ) (is : IsZero t z) where
  entry_any : (k : ℕ) (e : Bool) (b : Block ℕ ℕ ℕ) (rest : List (Block Name _ _)) (others : Bool) → not others ≡ list_any (same_name (name_at t k)) (map (λ b. b.label) rest)
      → not ((not e || not (nat_eq (key_of t z k) (key_of t z b.label))) && others) ≡ list_any (same_name (name_at t k)) (map (λ b. b.label) (cond e (shown_block t b ∷ rest) rest))
  entry_any k true b rest others h = rw (is.same k b.label, ← h) (sym (not_and (nat_eq (key_of t z k) (key_of t z b.label)) others))
  entry_any k false b rest others h = h

  preds_any : (k : ℕ) (bs : List (Block ℕ ℕ ℕ)) → not (list_all (λ b. not (has_edge_to (name_at t label) (shown_block t b)) || not (nat_eq (key_of t z k) (key_of t z b.label))) bs)
      ≡ list_any (same_name (name_at t k)) (map (λ b. b.label) (filter (has_edge_to (name_at t label)) (map (shown_block t) bs)))
  preds_any k [] = refl
  preds_any k (b ∷ bs) = entry_any k (has_edge_to (name_at t label) (shown_block t b)) b (filter (has_edge_to (name_at t label)) (map (shown_block t) bs)) _ (preds_any k bs)

  among_keys : (l : ℕ) (ks : List ℕ) → is_some (first_place (key_of t z l) (map (key_of t z) ks)) ≡ name_among (name_at t l) (map (name_at t) ks)
  among_keys l ks = sym (any_at (λ k. same_name (name_at t l) (name_at t k)) (key_of t z) (key_of t z l) (λ k. is.same l k) ks) ∙ sym (any_of (same_name (name_at t l)) (name_at t) ks)

  entry_all : (ks : List ℕ) (e : Bool) (b : Block ℕ ℕ ℕ) (rest : List (Block Name _ _)) (others : Bool) → others ≡ list_all (λ y. name_among y (map (name_at t) ks)) (map (λ b. b.label) rest)
      → ((not e || is_some (first_place (key_of t z b.label) (map (key_of t z) ks))) && others) ≡ list_all (λ y. name_among y (map (name_at t) ks)) (map (λ b. b.label) (cond e (shown_block t b ∷ rest) rest))
  entry_all ks true b rest others h = rw (among_keys b.label ks, h) refl
  entry_all ks false b rest others h = h

  preds_all : (ks : List ℕ) (bs : List (Block ℕ ℕ ℕ)) → list_all (λ b. not (has_edge_to (name_at t label) (shown_block t b)) || is_some (first_place (key_of t z b.label) (map (key_of t z) ks))) bs
      ≡ list_all (λ y. name_among y (map (name_at t) ks)) (map (λ b. b.label) (filter (has_edge_to (name_at t label)) (map (shown_block t) bs)))
  preds_all ks [] = refl
  preds_all ks (b ∷ bs) = entry_all ks (has_edge_to (name_at t label) (shown_block t b)) b (filter (has_edge_to (name_at t label)) (map (shown_block t) bs)) _ (preds_all ks bs)

pub enter_is : (t : Table) (f : Function ℕ ℕ ℕ) (e : Edges) (label : ℕ) (keys : List ℕ) → AreEdges t f e → keys ≡ list_at e.to (key_of t e.zero label) → Enter t e.zero f label keys
enter_is t f e label keys are is = record {
  any = λ k. has_any (key_of t e.zero k) keys ∙ any_not (nat_eq (key_of t e.zero k)) keys
      ∙ ap not (ap (list_all (λ x. not (nat_eq (key_of t e.zero k) x))) is ∙ are.each label (λ x. not (nat_eq (key_of t e.zero k) x))) ∙ preds_any t e.zero label are.zero k f.blocks;
  all = λ ks. ap (list_all (λ y. is_some (first_place y (map (key_of t e.zero) ks)))) is ∙ are.each label (λ y. is_some (first_place y (map (key_of t e.zero) ks))) ∙ preds_all t e.zero label are.zero ks f.blocks;
}
