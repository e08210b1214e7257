-- The edges of a block, as they are added.
use Rattle.std.proofs.Common.{◌≡◌, ℕ, ◌+◌, ◌<◌, List, [], ◌∷◌, ◌++◌, map, length, take, get_or, Option, Some, None, true, false, is_some, refl, sym, ◌∙◌, ap, append_assoc}
use Rattle.std.specs.Prelude.{fold}
use Rattle.std.specs.List.{flat_map}
use Rattle.std.proofs.lemmas.List.{take_more, append-nil}
use Rattle.ir_code.specs.declared.code.Edge.{Edge}
use Rattle.ir_code.specs.Tables.{Tables}
use Rattle.ir_code.specs.Places.{place_of}
use Rattle.ir_code.specs.Blocks.{Scope, targets_of, with_exit, edge_to}
use Rattle.ir_code.specs.Adding.{AddsTarget, Adds}

map-append : {A B : Type 0} (f : A → B) (xs ys : List A) → map f (xs ++ ys) ≡ map f xs ++ map f ys
map-append f [] ys = refl
map-append f (x ∷ xs) ys = ap (λ l. f x ∷ l) (map-append f xs ys)

fold-append : {A B : Type 0} (f : B → A → B) (b : B) (xs ys : List A) → fold f b (xs ++ ys) ≡ fold f (fold f b xs) ys
fold-append f b [] ys = refl
fold-append f b (x ∷ xs) ys = fold-append f (f b x) xs ys

flat_map-append : {A B : Type 0} (f : A → List B) (xs ys : List A) → flat_map f (xs ++ ys) ≡ flat_map f xs ++ flat_map f ys
flat_map-append f [] ys = refl
flat_map-append f (x ∷ xs) ys = ap (λ l. f x ++ l) (flat_map-append f xs ys) ∙ sym (append_assoc (f x) (flat_map f xs) (flat_map f ys))

module _ (t : Tables) (s : Scope) (label : ℕ) where
  -- an edge leads there already
  pub target_known : (to : ℕ) (edges : List Edge) (targets : List (Option ℕ)) → is_some (place_of targets to) ≡ true → AddsTarget t s label to edges targets edges targets
  target_known to edges targets known before own are = let e : is_some (place_of (targets_of own) to) ≡ true = ap (λ l. is_some (place_of l to)) (sym are.targets_is) ∙ known in rw e are

  -- there is no edge to it
  pub target_broken : (to : ℕ) (edges : List Edge) (targets : List (Option ℕ)) → is_some (place_of targets to) ≡ false → None ≡ edge_to t s label to → AddsTarget t s label to edges targets edges targets
  target_broken to edges targets new none before own are = let e : is_some (place_of (targets_of own) to) ≡ false = ap (λ l. is_some (place_of l to)) (sym are.targets_is) ∙ new in rw (e, ← none) are

  -- an edge was added behind the others
  pub target_added : (to : ℕ) (edge : Edge) (edges edges' : List Edge) (targets targets' : List (Option ℕ)) → is_some (place_of targets to) ≡ false → Some edge ≡ edge_to t s label to → edge.to ≡ to
      → edges' ≡ edges ++ edge ∷ [] → targets' ≡ targets ++ Some to ∷ [] → AddsTarget t s label to edges targets edges' targets'
  target_added to edge edges edges' targets targets' new some leads edges_is targets_is before own are =
      let e : is_some (place_of (targets_of own) to) ≡ false = ap (λ l. is_some (place_of l to)) (sym are.targets_is) ∙ new in
      rw (e, ← some) (record {
        all_is = edges_is ∙ ap (λ l. l ++ edge ∷ []) are.all_is ∙ append_assoc before own (edge ∷ []);
        targets_is = targets_is ∙ ap (λ l. l ++ Some to ∷ []) are.targets_is ∙ ap (λ k. targets_of own ++ Some k ∷ []) (sym leads) ∙ sym (map-append (λ (x : Edge). Some x.to) own (edge ∷ []));
      })

  -- nothing was added
  pub adds_none : (edges : List Edge) (targets : List (Option ℕ)) → Adds t s label [] edges targets edges targets
  adds_none edges targets before own are = are

  pub adds_unknown : (exit : ℕ) (edges : List Edge) (targets : List (Option ℕ)) → None ≡ place_of s.labels exit → Adds t s label (exit ∷ []) edges targets edges targets
  adds_unknown exit edges targets none before own are = rw (← none) are

  pub adds_one : (exit to : ℕ) (edges edges' : List Edge) (targets targets' : List (Option ℕ)) → Some to ≡ place_of s.labels exit → AddsTarget t s label to edges targets edges' targets' → Adds t s label (exit ∷ []) edges targets edges' targets'
  adds_one exit to edges edges' targets targets' some adds before own are = rw (← some) (adds before own are)

  -- one after another
  pub adds_both : (xs ys : List ℕ) (a b c : List Edge) (at bt ct : List (Option ℕ)) → Adds t s label xs a at b bt → Adds t s label ys b bt c ct → Adds t s label (xs ++ ys) a at c ct
  adds_both xs ys a b c at bt ct first second before own are = rw (fold-append (with_exit t s label) own xs ys) (second before _ (first before own are))

  -- one more of those that the items of a list name
  pub adds_more : {A : Type 0} (f : A → List ℕ) (xs : List A) (i : ℕ) (e : A) (a b c : List Edge) (at bt ct : List (Option ℕ)) → i < length xs → Adds t s label (flat_map f (take i xs)) a at b bt → Adds t s label (f (get_or xs i e)) b bt c ct
      → Adds t s label (flat_map f (take (i + 1) xs)) a at c ct
  adds_more f xs i e a b c at bt ct lt first second =
      let one : flat_map f (get_or xs i e ∷ []) ≡ f (get_or xs i e) = append-nil (f (get_or xs i e)) in
      let more : flat_map f (take (i + 1) xs) ≡ flat_map f (take i xs) ++ f (get_or xs i e) = ap (flat_map f) (take_more xs i e lt) ∙ flat_map-append f (take i xs) (get_or xs i e ∷ []) ∙ ap (λ l. flat_map f (take i xs) ++ l) one in
      rw more (adds_both (flat_map f (take i xs)) (f (get_or xs i e)) a b c at bt ct first second)
