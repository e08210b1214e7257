-- The loop over the cases of a switch.
use Rattle.std.proofs.Common.{◌≡◌, ℕ, ◌+◌, ◌<◌, ◌≤◌, List, [], ◌∷◌, length, get_or, drop, Option, Some, None, refl, sym}
use Rattle.std.specs.Prelude.{option_map, fold}
use Rattle.ir_code.specs.Options.{every}
use Rattle.ir_code.specs.Cases.{with_case}
use Rattle.ir_code.proofs.Every.{every_step, every_stops, every_ends}

abbrev pub with_pair : List (ℕ × ℕ) → ℕ × ℕ → List (ℕ × ℕ)
with_pair done c = with_case done c.0 c.1

law : (done : List (ℕ × ℕ)) (y : ℕ × ℕ) (ys : List (ℕ × ℕ)) → fold with_pair done (y ∷ ys) ≡ fold with_pair (with_pair done y) ys
law done y ys = refl

module _ {A : Type 0} (f : A → Option (ℕ × ℕ)) where
  -- the cases so far and those from a place on
  pub record CasesTo (xs : List A) (i : ℕ) (done : List (ℕ × ℕ)) : Type 0 where
    pub so : option_map (fold with_pair done) (every f (drop i xs)) ≡ option_map (fold with_pair []) (every f xs)

  pub cases_step : (xs : List A) (i : ℕ) (e : A) (done done' : List (ℕ × ℕ)) (bits edge : ℕ) → i < length xs → Some (bits, edge) ≡ f (get_or xs i e) → done' ≡ with_case done bits edge → CasesTo xs i done → CasesTo xs (i + 1) done'
  cases_step xs i e done done' bits edge lt is new to = record { so = rw new (every_step f (fold with_pair) with_pair law xs i e done (bits, edge) _ lt (sym is) to.so) }

  pub cases_stop : (xs : List A) (i : ℕ) (e : A) (done : List (ℕ × ℕ)) → i < length xs → None ≡ f (get_or xs i e) → CasesTo xs i done → None ≡ option_map (fold with_pair []) (every f xs)
  cases_stop xs i e done lt is to = every_stops f (fold with_pair) with_pair law xs i e done _ lt (sym is) to.so

  pub cases_end : (xs : List A) (i : ℕ) (done : List (ℕ × ℕ)) → length xs ≤ i → CasesTo xs i done → Some done ≡ option_map (fold with_pair []) (every f xs)
  cases_end xs i done le to = every_ends f (fold with_pair) with_pair law xs i done _ le to.so
