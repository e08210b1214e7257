-- Where fields stand, as they are laid out one after another.
use Rattle.std.proofs.Common.{◌≡◌, ℕ, zero, suc, ◌+◌, ◌<◌, Bool, List, [], ◌∷◌, ◌++◌, map, take, length, Option, Some, None, slice_get, get_or, refl, subst, arith, length-append}
use Rattle.std.specs.Prelude.{option_map, option_and_then, fold}
use Rattle.std.proofs.lemmas.List.{take-map}
use borrow.Author.Count.{below_more}
use Rattle.ir_tree.specs.declared.layout.Layout.{Layout}
use Rattle.ir_tree.specs.declared.nodes.TypeNode.{TypeNode}
use Rattle.ir_tree.specs.declared.nodes.TypeNode.TheVariants as node
use Rattle.std.proofs.lemmas.Option.{slice_get-get_or}
use Rattle.ir_tree.specs.Table.{Table}
use Rattle.ir_tree.specs.Layouts.{joined, no_fields, field_place, place_in}
use Rattle.ir_tree.specs.Filling.{NodePlaces, AllPlaces}

map_at : (at : ℕ → Option Layout) (ks : List ℕ) (i : ℕ) → i < length ks → get_or (map at ks) i None ≡ at (get_or ks i 0)
map_at at [] i lt = absurd (omega arith)
map_at at (k ∷ ks) zero lt = refl
map_at at (k ∷ ks) (suc i) lt = map_at at ks i (omega arith)

-- the place of the field that comes next
pub next_place : (packed : Bool) (at : ℕ → Option Layout) (ks : List ℕ) (i : ℕ) (so : Option Layout) → i < length ks → so ≡ fold (joined packed) no_fields (map at (take i ks))
    → option_and_then (λ s. option_map (field_place packed s) (at (get_or ks i 0))) so ≡ place_in packed (map at ks) i
next_place packed at ks i so lt is = rw (take-map at i ks, ← is, map_at at ks i lt) refl

at_last : {X : Type 0} (xs : List X) (x d : X) → get_or (xs ++ x ∷ []) (length xs) d ≡ x
at_last [] x d = refl
at_last (y ∷ ys) x d = at_last ys x d

at_front : {X : Type 0} (xs : List X) (x d : X) (i : ℕ) → i < length xs → get_or (xs ++ x ∷ []) i d ≡ get_or xs i d
at_front [] x d i lt = absurd (omega arith)
at_front (y ∷ ys) x d zero lt = refl
at_front (y ∷ ys) x d (suc i) lt = at_front ys x d i (omega arith)

-- each is right, and so is one more
pub each_more : {X : Type 0} (d : X) (P : ℕ → X → Type 0) (xs : List X) (x : X) (n : ℕ) → length xs ≡ n → ((i : ℕ) → i < n → P i (get_or xs i d)) → P n x → (i : ℕ) → i < n + 1 → P i (get_or (xs ++ x ∷ []) i d)
each_more {X = X} d P xs x n len all last = below_more (λ i. P i (get_or (xs ++ x ∷ []) i d)) n
    (λ i lt. let within : i < length xs = omega arith in rw (at_front xs x d i within) (all i lt))
    (let e : get_or (xs ++ x ∷ []) n d ≡ x = subst (λ (m : ℕ). get_or (xs ++ x ∷ []) m d ≡ x) len (at_last xs x d) in rw e last)

pub more_places : (t : Table) (answers : List (Option Layout)) (n : ℕ) (all new : List (List (Option ℕ))) (places : List (Option ℕ)) → AllPlaces t answers n all → new ≡ all ++ places ∷ []
    → ((m : TypeNode) → slice_get t.types n ≡ Some m → NodePlaces answers places m) → AllPlaces t answers (n + 1) new
more_places t answers n all new places before e here = record {
  len = let len = before.len in rw e (omega (arith, length-append all (places ∷ [])));
  each = λ k m lt known. rw e (each_more [] (λ (j : ℕ) (ps : List (Option ℕ)). (m : TypeNode) → slice_get t.types j ≡ Some m → NodePlaces answers ps m) all places n before.len (λ j less m is. before.each j m less is) here k lt m known);
}

pub same_node : (answers : List (Option Layout)) (places : List (Option ℕ)) (a b : TypeNode) (o : Option TypeNode) → Some a ≡ o → o ≡ Some b → NodePlaces answers places a → NodePlaces answers places b
same_node answers places a b o e f h = let same : a ≡ b = cc in subst (NodePlaces answers places) same h

pub no_node : (answers : List (Option Layout)) (places : List (Option ℕ)) (b : TypeNode) (o : Option TypeNode) → None ≡ o → o ≡ Some b → NodePlaces answers places b
no_node answers places b o e f = absurd cc

pub must_have : (types : List TypeNode) (k : ℕ) → k < length types → None ≡ slice_get types k → ⊥
must_have types k lt e = let known = slice_get-get_or types k node.Ptr lt in absurd cc
