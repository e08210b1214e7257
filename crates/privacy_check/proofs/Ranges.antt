-- A loop over codes that leaves what it has not reached.
use Rattle.std.proofs.Common.{◌≡◌, ℕ, zero, suc, ◌<◌, ◌≤◌, List, [], ◌∷◌, ◌++◌, length, take, drop, get_or, map, refl, All, None}
use Rattle.std.specs.Result.{result_unwrap_or}
use borrow.Rule.Slice.PartMut.{put_mid}
use Rattle.privacy_check.specs.declared.access.Access.{Access}
use Rattle.privacy_check.specs.Shadows.{first_bad, passed, in_range, object_after}
use Rattle.std.proofs.lemmas.List.Elements.{All-get_or}

pub get_or-left : (f : ℕ → ℕ) (xs : List ℕ) (i d : ℕ) → get_or (map f (take i xs) ++ drop i xs) i d ≡ get_or xs i d
get_or-left f [] zero d = refl
get_or-left f [] (suc i) d = refl
get_or-left f (x ∷ xs) zero d = refl
get_or-left f (x ∷ xs) (suc i) d = get_or-left f xs i d

-- what is left has the bound that all had
pub left_below : (f : ℕ → ℕ) (xs ys : List ℕ) (i most : ℕ) → ys ≡ map f (take i xs) ++ drop i xs → i < length xs → All (λ x. x ≤ most) xs → get_or ys i 0 ≤ most
left_below f xs ys i most is h below = rw (is, get_or-left) (All-get_or (λ x. x ≤ most) xs i 0 h below)

-- an access that passes, as the code writes it
pub object_passed : (access : Access) (stamp offset len width : ℕ) (codes new : List ℕ) → width ≡ len → first_bad access stamp (in_range offset width codes) ≡ None → new ≡ passed access stamp (in_range offset width codes)
    → put_mid offset width codes new ≡ result_unwrap_or (object_after access stamp offset len codes) codes
object_passed access stamp offset len width codes new same passes is =
    let passes' = rw same at passes in
    rw (is, same, passes') refl
