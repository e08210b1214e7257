-- The globals of a checked module are no more than a memory holds.
use Rattle.std.proofs.Common.{◌≡◌, ℕ, suc, ◌+◌, ◌≤◌, ◌^◌, true, List, [], ◌∷◌, map, length, Option, Some, None, slice_get, refl, arith}
use Rattle.std.specs.Prelude.{fold, sum_by, is_some}
use Rattle.std.specs.List.{list_all}
use Rattle.ir_tree.specs.declared.layout.Layout.{Layout}
use Rattle.ir_tree.specs.declared.items.Global.{Global as Variable}
use Rattle.ir_tree.specs.Layouts.{layout_of}
use Rattle.ir_tree.specs.Shown.{shown_global}
use Rattle.ir_tree.specs.Modules.{Items, types_of}
use Rattle.mem_image.specs.Picture.{live}
use Rattle.ir_rules.specs.Seen.{GlobalV, seen}
use Rattle.ir_rules.specs.Causes.{initialiser_fits}
use Rattle.ir_rules.specs.Reading.{has_layout, size_of}
use Rattle.ir_rules.specs.Checked.{IsChecked}
use Rattle.ir_rules.proofs.SameLemmas.{and_both}
use Rattle.ir_bytes.specs.Initial.{bytes_at, global_objects, GlobalsFit}
use Rattle.checked_code.proofs.Faults.{global_fits}
use Rattle.checked_code.proofs.Sizes.{initialisers_fit}

pub sum_from : {X : Type 0} (f : X → ℕ) (xs : List X) (a : ℕ) → fold (λ s x. s + f x) a xs ≡ a + sum_by f xs
sum_from f [] a = omega arith
sum_from f (x ∷ xs) a = let one = sum_from f xs (a + f x) in let other = sum_from f xs (0 + f x) in omega (arith, one, other)

sum_more : {X : Type 0} (f : X → ℕ) (x : X) (xs : List X) → sum_by f (x ∷ xs) ≡ f x + sum_by f xs
sum_more f x xs = let e = sum_from f xs (0 + f x) in omega (arith, e)

-- a global has no more bytes than its type says
one_fits : (m : Items) (g : Variable ℕ ℕ ℕ) (o : Option Layout) → layout_of (types_of m) (shown_global m.names g).of ≡ o → is_some o ≡ true → initialiser_fits (seen m) (shown_global m.names g) ≡ true → length (bytes_at m g.of g.init) ≤ size_of o
one_fits m g None e some fits = absurd cc
one_fits m g (Some l) e some fits = initialisers_fit m (shown_global m.names g).of (shown_global m.names g).init l fits e

all_fit : (m : Items) (i : ℕ) (gs : List (Variable ℕ ℕ ℕ)) → list_all (λ g. has_layout (types_of m) g.of) (map (shown_global m.names) gs) ≡ true
    → ((k : ℕ) (g : GlobalV) → slice_get (map (shown_global m.names) gs) k ≡ Some g → initialiser_fits (seen m) g ≡ true)
    → live (global_objects m i gs) ≤ sum_by (λ g. size_of (layout_of (types_of m) g.of)) (map (shown_global m.names) gs)
all_fit m i [] laid fit = omega arith
all_fit m i (g ∷ gs) laid fit =
    let v = shown_global m.names g in
    let l = and_both (has_layout (types_of m) v.of) (list_all (λ x. has_layout (types_of m) x.of) (map (shown_global m.names) gs)) laid in
    let one = one_fits m g (layout_of (types_of m) v.of) refl l.0 (fit 0 v refl) in
    let rest = all_fit m (i + 1) gs l.1 (λ k x e. fit (suc k) x e) in
    let more = sum_more (λ (x : GlobalV). size_of (layout_of (types_of m) x.of)) v (map (shown_global m.names) gs) in
    omega (arith, one, rest, more)

-- what is true of every checked module
pub globals_fit : (m : Items) → length m.globals ≤ 2 ^ 31 → IsChecked m → GlobalsFit m
globals_fit m few is = record {
  live = let all = all_fit m 0 m.globals is.well_formed.stands.layouts (global_fits (seen m) is.faultless) in let sizes = is.well_formed.stands.sizes in omega (arith, all, sizes);
  names = few;
}
