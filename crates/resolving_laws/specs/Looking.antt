-- Looking up in lists.
use Rattle.std.specs.Prelude.{ℕ, ◌≡◌, ◌<◌, List, [], ◌∷◌, Some, slice_get}

-- the item at this place is the first of the list that is so
pub record IsFirst {A : Type 0} (P : A → Type 0) (xs : List A) (k : ℕ) : Type 0 where
  pub item : A
  pub at : slice_get xs k ≡ Some item
  pub is : P item
  pub before : (j : ℕ) (x : A) → j < k → slice_get xs j ≡ Some x → P x → ⊥

-- the lists are as long as each other, and their items go together one by one
abbrev pub Each : {A B : Type 0} → (A → B → Type 0) → List A → List B → Type 0
Each P [] [] = Unit {0}
Each P (x ∷ xs) (y ∷ ys) = P x y × Each P xs ys
Each P xs ys = ⊥
