-- Loops over a list in which each item must give something.
use Rattle.std.proofs.Common.{◌≡◌, ℕ, ◌+◌, ◌<◌, ◌≤◌, List, ◌∷◌, [], ◌++◌, length, get_or, drop, Option, Some, None, refl, sym, ◌∙◌, ap, append_assoc}
use Rattle.std.specs.Prelude.{option_map}
use Rattle.std.proofs.lemmas.List.{drop_more, drop_all, append-nil}
use Rattle.ir_code.specs.Options.{◌>>=◌, every}

-- what an end makes of what was done so far and of what the rest gives
module _ {A B D C : Type 0} (f : A → Option B) (h : D → List B → C) (next : D → B → D) (law : (d : D) (y : B) (ys : List B) → h d (y ∷ ys) ≡ h (next d y) ys) where
  later : (d : D) (y : B) (o : Option (List B)) → option_map (h d) (do ys ← o; Some (y ∷ ys)) ≡ option_map (h (next d y)) o
  later d y None = refl
  later d y (Some ys) = ap Some (law d y ys)

  given : (d : D) (x : A) (y : B) (o : Option B) (rest : List A) → o ≡ Some y → option_map (h d) (do z ← o; ys ← every f rest; Some (z ∷ ys)) ≡ option_map (h (next d y)) (every f rest)
  given d x y o rest e = rw e (later d y (every f rest))

  -- one more item that gives something
  pub every_step : (xs : List A) (i : ℕ) (e : A) (d : D) (y : B) (r : Option C) → i < length xs → f (get_or xs i e) ≡ Some y → option_map (h d) (every f (drop i xs)) ≡ r → option_map (h (next d y)) (every f (drop (i + 1) xs)) ≡ r
  every_step xs i e d y r lt is so = sym (given d (get_or xs i e) y (f (get_or xs i e)) (drop (i + 1) xs) is) ∙ ap (λ l. option_map (h d) (every f l)) (sym (drop_more xs i e lt)) ∙ so

  none_given : (d : D) (o : Option B) (rest : List A) → o ≡ None → option_map (h d) (do z ← o; ys ← every f rest; Some (z ∷ ys)) ≡ None
  none_given d o rest e = rw e refl

  -- an item that gives nothing
  pub every_stops : (xs : List A) (i : ℕ) (e : A) (d : D) (r : Option C) → i < length xs → f (get_or xs i e) ≡ None → option_map (h d) (every f (drop i xs)) ≡ r → None ≡ r
  every_stops xs i e d r lt is so = sym (none_given d (f (get_or xs i e)) (drop (i + 1) xs) is) ∙ ap (λ l. option_map (h d) (every f l)) (sym (drop_more xs i e lt)) ∙ so

  -- no item is left
  pub every_ends : (xs : List A) (i : ℕ) (d : D) (r : Option C) → length xs ≤ i → option_map (h d) (every f (drop i xs)) ≡ r → Some (h d []) ≡ r
  every_ends xs i d r le so = ap (λ l. option_map (h d) (every f l)) (sym (drop_all i xs le)) ∙ so

-- the same where the items are kept in a list
abbrev pub behind : {B : Type 0} → List B → List B → List B
behind done ys = done ++ ys

abbrev pub more : {B : Type 0} → List B → B → List B
more done y = done ++ y ∷ []

kept_law : {B : Type 0} (done : List B) (y : B) (ys : List B) → behind done (y ∷ ys) ≡ behind (more done y) ys
kept_law done y ys = sym (append_assoc done (y ∷ []) ys)

nothing_kept : {B : Type 0} (o : Option (List B)) → option_map (behind []) o ≡ o
nothing_kept None = refl
nothing_kept (Some ys) = refl

module _ {A B : Type 0} (f : A → Option B) where
  -- what was kept so far, and what the items from a place on give, are what all give
  pub record KeptTo (xs : List A) (i : ℕ) (done : List B) : Type 0 where
    pub so : option_map (behind done) (every f (drop i xs)) ≡ every f xs

  pub kept_start : (xs : List A) → KeptTo xs 0 []
  kept_start xs = record { so = nothing_kept (every f xs) }

  pub kept_step : (xs : List A) (i : ℕ) (e : A) (done done' : List B) (y : B) → i < length xs → Some y ≡ f (get_or xs i e) → done' ≡ done ++ y ∷ [] → KeptTo xs i done → KeptTo xs (i + 1) done'
  kept_step xs i e done done' y lt is new to = record { so = rw new (every_step f behind more kept_law xs i e done y (every f xs) lt (sym is) to.so) }

  pub kept_stops : (xs : List A) (i : ℕ) (e : A) (done : List B) → i < length xs → None ≡ f (get_or xs i e) → KeptTo xs i done → None ≡ every f xs
  kept_stops xs i e done lt is to = every_stops f behind more kept_law xs i e done (every f xs) lt (sym is) to.so

  pub kept_ends : (xs : List A) (i : ℕ) (done : List B) → length xs ≤ i → KeptTo xs i done → Some done ≡ every f xs
  kept_ends xs i done le to = ap Some (sym (append-nil done)) ∙ every_ends f behind more kept_law xs i done (every f xs) le to.so
