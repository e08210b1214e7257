-- First places, as names are added.
use Rattle.std.proofs.Common.{◌≡◌, ℕ, suc, ◌<◌, Bool, true, false, List, ◌∷◌, [], ◌++◌, length, Option, Some, None, refl, sym, ◌∙◌, ap, arith}
use Rattle.std.specs.Prelude.{if◌then◌else◌, option_map, IfSome}
use Rattle.std.specs.Option.{option_or}
use Rattle.indexmap.specs.IndexMap.{IndexMap}
use Rattle.ir_code.specs.Places.{is_name, place_of}
use Rattle.ir_code.specs.Noting.{AreFirst, Notes}

one_later : (b : Bool) (o : Option ℕ) (c : Bool) (n : ℕ) → (if b then Some 0 else option_map suc (option_or o (if c then Some n else None))) ≡ option_or (if b then Some 0 else option_map suc o) (if c then Some (suc n) else None)
one_later true o c n = refl
one_later false (Some k) c n = refl
one_later false None true n = refl
one_later false None false n = refl

-- a name behind others
pub place_of_push : (names : List (Option ℕ)) (name : Option ℕ) (x : ℕ) → place_of (names ++ name ∷ []) x ≡ option_or (place_of names x) (if is_name x name then Some (length names) else None)
place_of_push [] name x = refl
place_of_push (n ∷ names) name x = ap (λ o. if is_name x n then Some 0 else option_map suc o) (place_of_push names name x) ∙ one_later (is_name x n) (place_of names x) (is_name x name) (length names)

within_later : (b : Bool) (o : Option ℕ) (n : ℕ) → IfSome o (λ k. k < n) → IfSome (if b then Some 0 else option_map suc o) (λ k. k < suc n)
within_later true o n h = omega arith
within_later false None n h = tt
within_later false (Some k) n h = let lt : k < n = h in omega arith

-- a place is one of the list
pub place_of_within : (names : List (Option ℕ)) (x : ℕ) → IfSome (place_of names x) (λ k. k < length names)
place_of_within [] x = tt
place_of_within (n ∷ names) x = within_later (is_name x n) (place_of names x) (length names) (place_of_within names x)

pub noted : {S : Type 0} (names more : List (Option ℕ)) (old new : IndexMap ℕ ℕ S) (name : Option ℕ) → AreFirst names old → Notes old new name (length names) → more ≡ names ++ name ∷ [] → AreFirst more new
noted names more old new name first notes is = record {
  each = λ x. notes.each x ∙ ap (λ o. option_or o (if is_name x name then Some (length names) else None)) (first.each x) ∙ sym (place_of_push names name x) ∙ ap (λ ns. place_of ns x) (sym is);
}

below_if : (o : Option ℕ) (n k : ℕ) → IfSome o (λ j. j < n) → Some k ≡ o → k < n
below_if None n k h e = absurd cc
below_if (Some j) n k h e = let same : k ≡ j = cc in rw same h

pub place_below : (names : List (Option ℕ)) (x k : ℕ) → Some k ≡ place_of names x → k < length names
place_below names x k e = below_if (place_of names x) (length names) k (place_of_within names x) e
