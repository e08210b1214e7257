-- Headers, as their places are noted.
use Rattle.std.proofs.Common.{◌≡◌, ℕ, zero, suc, ◌+◌, Bool, true, false, List, [], ◌∷◌, ◌++◌, length, Option, Some, None, slice_get, refl, sym, ◌∙◌, ap, arith, add-zero}
use Rattle.std.specs.Prelude.{option_map, if◌then◌else◌, position, replicate, cond}
use Rattle.std.specs.Option.{option_or}
use Rattle.std.specs.List.{position_from}
use Rattle.std.proofs.lemmas.Iterator.Adapters.{position_from-zero}
use Rattle.seq_machine.specs.declared.state.Header.{Header}
use Rattle.seq_run.specs.Places.{is_at, place_of, noted_at, ArePlaced, or_place, Notes}

-- ---- a header behind others

push_one : {X : Type 0} (p : X → Bool) (i : ℕ) (b : Bool) (xs : List X) (y : X) (rest : Option ℕ) → rest ≡ option_or (position_from p (i + 1) xs) (if p y then Some (i + 1 + length xs) else None)
    → cond b (Some i) rest ≡ option_or (cond b (Some i) (position_from p (i + 1) xs)) (if p y then Some (i + suc (length xs)) else None)
push_one p i true xs y rest e = refl
push_one p i false xs y rest e = let q : i + 1 + length xs ≡ i + suc (length xs) = omega arith in e ∙ ap (λ n. option_or (position_from p (i + 1) xs) (if p y then Some n else None)) q

from_push : {X : Type 0} (p : X → Bool) (i : ℕ) (xs : List X) (y : X) → position_from p i (xs ++ y ∷ []) ≡ option_or (position_from p i xs) (if p y then Some (i + length xs) else None)
from_push p i [] y = rw add-zero refl
from_push p i (x ∷ xs) y = push_one p i (p x) xs y (position_from p (i + 1) (xs ++ y ∷ [])) (from_push p (i + 1) xs y)

from_zero : {X : Type 0} (p : X → Bool) (xs : List X) → position p xs ≡ position_from p 0 xs
from_zero p xs = position_from-zero p xs

pub position_push : {X : Type 0} (p : X → Bool) (xs : List X) (y : X) → position p (xs ++ y ∷ []) ≡ option_or (position p xs) (if p y then Some (length xs) else None)
position_push p xs y =
    let e : 0 + length xs ≡ length xs = omega arith in
    from_zero p (xs ++ y ∷ []) ∙ from_push p 0 xs y ∙ ap (λ n. option_or (position_from p 0 xs) (if p y then Some n else None)) e ∙ ap (λ o. option_or o (if p y then Some (length xs) else None)) (sym (from_zero p xs))

same_some : {A : Type 0} (x y : A) → Some x ≡ Some y → x ≡ y
same_some x y e = cc

more_is : (f b place : ℕ) (h : Header) (before after o : Option ℕ) (old : Option (Option ℕ)) → ((o' : Option ℕ) → old ≡ Some o' → o' ≡ before) → after ≡ option_or before (if is_at f b h then Some place else None)
    → option_map (or_place (is_at f b h) place) old ≡ Some o → o ≡ after
more_is f b place h before after o None was next e = absurd cc
more_is f b place h before after o (Some o') was next e = sym (same_some _ _ e) ∙ ap (or_place (is_at f b h) place) (was o' refl) ∙ sym next

pub placed_more : (headers more : List Header) (old new : List (List (Option ℕ))) (h : Header) (place : ℕ) → ArePlaced headers old → Notes old new h place → place ≡ length headers → more ≡ headers ++ h ∷ [] → ArePlaced more new
placed_more headers more old new h place placed notes last is = record {
  each = λ f b o e. more_is f b place h (place_of headers f b) (place_of more f b) o (noted_at old f b) (placed.each f b)
      (ap (λ hs. place_of hs f b) is ∙ position_push (is_at f b) headers h ∙ ap (λ n. option_or (place_of headers f b) (if is_at f b h then Some n else None)) (sym last))
      (sym (notes.each f b) ∙ e);
}

-- ---- room for the blocks of a function

none_of : (n b : ℕ) (o : Option ℕ) → slice_get (replicate n None) b ≡ Some o → o ≡ None
none_of zero b o e = absurd cc
none_of (suc n) zero o e = sym (same_some _ _ e)
none_of (suc n) (suc b) o e = none_of n b o e

room : (places : List (List (Option ℕ))) (n f b : ℕ) (o : Option ℕ) → ((f b : ℕ) (o : Option ℕ) → noted_at places f b ≡ Some o → o ≡ None) → noted_at (places ++ replicate n None ∷ []) f b ≡ Some o → o ≡ None
room [] n zero b o h e = none_of n b o e
room [] n (suc f) b o h e = absurd cc
room (row ∷ places) n zero b o h e = h zero b o e
room (row ∷ places) n (suc f) b o h e = room places n f b o (λ f b o e. h (suc f) b o e) e

pub no_place_more : (places more : List (List (Option ℕ))) (row : List (Option ℕ)) (n : ℕ) → ArePlaced [] places → row ≡ replicate n None → more ≡ places ++ row ∷ [] → ArePlaced [] more
no_place_more places more row n placed blank is = record {
  each = λ f b o e. room places n f b o placed.each (rw (is, blank) at e);
}
