-- The laws of guesses.
use Rattle.std.proofs.Common.{◌≡◌, ◌+◌, Bool, true, false, List, [], ◌∷◌, length, Option, Some, None, refl, sym, subst, ap, ◌∙◌, ◌⊎◌, inl, inr}
use Rattle.std.specs.Prelude.{◌&&◌, ◌||◌, not, nat_eq, nat_lt, nat_le, if◌then◌else◌}
use Rattle.std.specs.List.{list_any, list_all}
use Rattle.std.specs.Option.{option_map_or}
use Rattle.std.proofs.lemmas.Bool.{leb-true}
use Rattle.pv_base.specs.declared.place.AllocSite.TheVariants.{Global}
use Rattle.pv_base.specs.declared.place.Heap.TheVariants.{Private}
use Rattle.ir_tree.specs.declared.plans.MemGuess.{MemGuess}
use Rattle.ir_rules.specs.Seen.{ModuleV}
use Rattle.profile_lines.specs.declared.profile.ProfileLoop.{ProfileLoop}
use Rattle.loop_plan.specs.Heaps.{heap_of, is_private, size_of, fits, overlap, are_apart, guesses, is_before, insert, sort, same_heap}
use Rattle.plan_laws.specs.Laws.{Has, GuessesAreInside, GuessesAreApart}
use Rattle.plan_laws.proofs.Lists.{and_both, not_true, all_hold}
use Rattle.plan_laws.proofs.Same.{numbers, number_same, heaps}
use Rattle.plan_laws.proofs.Facts.{facts}

or_both : (a b : Bool) → (a || b) ≡ false → (a ≡ false) × (b ≡ false)
or_both true b e = absurd cc
or_both false b e = (refl, e)

neither : (a b : Bool) → a ≡ false → b ≡ false → (a || b) ≡ false
neither true b e f = absurd cc
neither false b e f = f

both : (a b : Bool) → a ≡ true → b ≡ true → (a && b) ≡ true
both true b e f = f
both false b e f = absurd cc

opposite : (a : Bool) → a ≡ false → not a ≡ true
opposite true e = absurd cc
opposite false e = refl

-- a test of what is there passes
given : {A : Type 0} (f : A → Bool) (o : Option A) → option_map_or f o false ≡ true → (x : A) × (o ≡ Some x) × (f x ≡ true)
given f None e = absurd cc
given f (Some x) e = (x, refl, e)

module _ (v : ModuleV) (l : ProfileLoop) where
  insert_or : (g h x : MemGuess) (xs : List MemGuess) → (Has (insert v l g xs) h → (g ≡ h) ⊎ Has xs h) → (b : Bool) → Has (if b then g ∷ x ∷ xs else x ∷ insert v l g xs) h → (g ≡ h) ⊎ Has (x ∷ xs) h
  insert_or g h x xs rest true (inl e) = inl e
  insert_or g h x xs rest true (inr e) = inr e
  insert_or g h x xs rest false (inl e) = inr (inl e)
  insert_or g h x xs rest false (inr e) = elim (rest e) [ inl a ↦ inl a | inr b ↦ inr (inr b) ]

  in_insert : (g h : MemGuess) (hs : List MemGuess) → Has (insert v l g hs) h → (g ≡ h) ⊎ Has hs h
  in_insert g h [] (inl e) = inl e
  in_insert g h [] (inr e) = absurd e
  in_insert g h (x ∷ xs) e = insert_or g h x xs (in_insert g h xs) (is_before v l g x) e

  in_sort : (gs : List MemGuess) (h : MemGuess) → Has (sort v l gs) h → Has gs h
  in_sort [] h e = e
  in_sort (g ∷ gs) h e = elim (in_insert g h (sort v l gs) e) [ inl a ↦ inl a | inr b ↦ inr (in_sort gs h b) ]

  -- ---- apart

  overlap_other : (a b : MemGuess) → overlap v l a b ≡ true → overlap v l b a ≡ true
  overlap_other a b e =
      let s = and_both (nat_eq a.global b.global && nat_lt a.offset (b.offset + length b.bytes)) (nat_lt b.offset (a.offset + length a.bytes)) e in
      let t = and_both (nat_eq a.global b.global) (nat_lt a.offset (b.offset + length b.bytes)) s.0 in
      let g : nat_eq b.global a.global ≡ true = subst (λ k. nat_eq k a.global ≡ true) (numbers a.global b.global t.0) (number_same a.global) in
      both (nat_eq b.global a.global && nat_lt b.offset (a.offset + length a.bytes)) (nat_lt a.offset (b.offset + length b.bytes)) (both (nat_eq b.global a.global) (nat_lt b.offset (a.offset + length a.bytes)) g s.1) t.1

  apart_by : (a b : MemGuess) → overlap v l a b ≡ false → (c : Bool) → overlap v l b a ≡ c → c ≡ false
  apart_by a b e true is = let no = overlap_other b a is in absurd cc
  apart_by a b e false is = refl

  apart_other : (a b : MemGuess) → overlap v l a b ≡ false → overlap v l b a ≡ false
  apart_other a b e = apart_by a b e (overlap v l b a) refl

  any_or : (p : MemGuess → Bool) (g x : MemGuess) (xs : List MemGuess) → (list_any p xs ≡ false → list_any p (insert v l g xs) ≡ false) → p g ≡ false → p x ≡ false → list_any p xs ≡ false
      → (b : Bool) → list_any p (if b then g ∷ x ∷ xs else x ∷ insert v l g xs) ≡ false
  any_or p g x xs rest own one none true = neither (p g) (p x || list_any p xs) own (neither (p x) (list_any p xs) one none)
  any_or p g x xs rest own one none false = neither (p x) (list_any p (insert v l g xs)) one (rest none)

  any_insert : (p : MemGuess → Bool) (g : MemGuess) (hs : List MemGuess) → p g ≡ false → list_any p hs ≡ false → list_any p (insert v l g hs) ≡ false
  any_insert p g [] own none = neither (p g) false own refl
  any_insert p g (x ∷ xs) own none =
      let two = or_both (p x) (list_any p xs) none in
      any_or p g x xs (any_insert p g xs own) own two.0 two.1 (is_before v l g x)

  any_sort : (p : MemGuess → Bool) (gs : List MemGuess) → list_any p gs ≡ false → list_any p (sort v l gs) ≡ false
  any_sort p [] none = refl
  any_sort p (g ∷ gs) none =
      let two = or_both (p g) (list_any p gs) none in
      any_insert p g (sort v l gs) two.0 (any_sort p gs two.1)

  apart_or : (g x : MemGuess) (xs : List MemGuess) → (list_any (overlap v l g) xs ≡ false → are_apart v l xs ≡ true → are_apart v l (insert v l g xs) ≡ true)
      → list_any (overlap v l g) (x ∷ xs) ≡ false → are_apart v l (x ∷ xs) ≡ true → (b : Bool) → are_apart v l (if b then g ∷ x ∷ xs else x ∷ insert v l g xs) ≡ true
  apart_or g x xs rest none apart true = both (not (list_any (overlap v l g) (x ∷ xs))) (are_apart v l (x ∷ xs)) (opposite _ none) apart
  apart_or g x xs rest none apart false =
      let two = or_both (overlap v l g x) (list_any (overlap v l g) xs) none in
      let own = and_both (not (list_any (overlap v l x) xs)) (are_apart v l xs) apart in
      let others = any_insert (overlap v l x) g xs (apart_other g x two.0) (not_true _ own.0) in
      both (not (list_any (overlap v l x) (insert v l g xs))) (are_apart v l (insert v l g xs)) (opposite _ others) (rest two.1 own.1)

  apart_insert : (g : MemGuess) (hs : List MemGuess) → list_any (overlap v l g) hs ≡ false → are_apart v l hs ≡ true → are_apart v l (insert v l g hs) ≡ true
  apart_insert g [] none apart = refl
  apart_insert g (x ∷ xs) none apart = apart_or g x xs (apart_insert g xs) none apart (is_before v l g x)

  apart_sort : (gs : List MemGuess) → are_apart v l gs ≡ true → are_apart v l (sort v l gs) ≡ true
  apart_sort [] apart = refl
  apart_sort (g ∷ gs) apart =
      let two = and_both (not (list_any (overlap v l g) gs)) (are_apart v l gs) apart in
      apart_insert g (sort v l gs) (any_sort (overlap v l g) gs (not_true _ two.0)) (apart_sort gs two.1)

pub guesses_are_apart : GuessesAreApart
guesses_are_apart v q l p is =
    let f = facts v is.earlier p.number l p is.planned in
    let two = and_both (list_all (fits v l) (guesses v l)) (are_apart v l (guesses v l)) f.fit in
    subst (λ gs. are_apart v l gs ≡ true) (sym f.guesses_are) (apart_sort v l (guesses v l) two.1)

pub guesses_are_inside : GuessesAreInside
guesses_are_inside v q l p g is h =
    let f = facts v is.earlier p.number l p is.planned in
    let two = and_both (list_all (fits v l) (guesses v l)) (are_apart v l (guesses v l)) f.fit in
    let own = in_sort v l (guesses v l) g (subst (λ gs. Has gs g) f.guesses_are h) in
    let fit = and_both (is_private v l g.global) (option_map_or (nat_le (g.offset + length g.bytes)) (size_of v l g.global) false) (all_hold (fits v l) (guesses v l) g two.0 own) in
    let size = given (nat_le (g.offset + length g.bytes)) (size_of v l g.global) fit.1 in
    let heap = given (same_heap Private) (heap_of v l (Global g.global)) fit.0 in
    (size.0, size.1, leb-true (g.offset + length g.bytes) size.0 size.2, heap.1 ∙ ap Some (sym (heaps Private heap.0 heap.2)))
