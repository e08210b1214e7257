-- Names that are given one after another, each for the first time.
use Rattle.std.proofs.Common.{◌≡◌, Bool, true, false, cond, List, [], ◌∷◌, ◌++◌, refl, sym, subst, ◌∙◌, inl, inr, eq-eqb}
use Rattle.std.specs.Prelude.{fold}
use Rattle.std.proofs.lemmas.Bool.{cases_Bool, or_parts, or_from, or_left, or_right, or_cases}
use lib.Pointwise.{bytes_decides}
use Rattle.pv_base.specs.declared.name.Name.{Name}
use Rattle.pv_base.specs.declared.name.Name.TheVariants.{Named, Numbered}
use Rattle.ir_tree.specs.Table.{same_name, name_among, with_name}
use Rattle.ir_grammar.proofs.NamedLemmas.{same_is}

same_self : (n : Name) → same_name n n ≡ true
same_self (Named a) = (bytes_decides a a).1 refl
same_self (Numbered n) = eq-eqb n n refl

-- ---- one more name

among_more : (x : Name) (xs : List Name) (n : Name) → name_among x xs ≡ false → same_name x n ≡ false → name_among x (xs ++ n ∷ []) ≡ false
among_more x [] n a b = or_from (same_name x n) false b refl
among_more x (y ∷ xs) n a b =
    let p = or_parts (same_name x y) (name_among x xs) a in
    or_from (same_name x y) (name_among x (xs ++ n ∷ [])) p.0 (among_more x xs n p.1 b)

among_front : (x : Name) (xs : List Name) (n : Name) → name_among x xs ≡ true → name_among x (xs ++ n ∷ []) ≡ true
among_front x [] n a = absurd cc
among_front x (y ∷ xs) n a =
    elim (or_cases (same_name x y) (name_among x xs) a) [
      | inl here ↦ or_left (same_name x y) (name_among x (xs ++ n ∷ [])) here
      | inr there ↦ or_right (same_name x y) (name_among x (xs ++ n ∷ [])) (among_front x xs n there)
    ]

among_last : (x : Name) (xs : List Name) (n : Name) → same_name x n ≡ true → name_among x (xs ++ n ∷ []) ≡ true
among_last x [] n e = or_left (same_name x n) false e
among_last x (y ∷ xs) n e = or_right (same_name x y) (name_among x (xs ++ n ∷ [])) (among_last x xs n e)

pub not_with : (x : Name) (xs : List Name) (n : Name) → name_among x xs ≡ false → same_name x n ≡ false → name_among x (with_name xs n) ≡ false
not_with x xs n a b = by_test (name_among n xs)
  where
    by_test : (t : Bool) → name_among x (cond t xs (xs ++ n ∷ [])) ≡ false
    by_test true = a
    by_test false = among_more x xs n a b

pub still_among : (x : Name) (xs : List Name) (n : Name) → name_among x xs ≡ true → name_among x (with_name xs n) ≡ true
still_among x xs n a = by_test (name_among n xs)
  where
    by_test : (t : Bool) → name_among x (cond t xs (xs ++ n ∷ [])) ≡ true
    by_test true = a
    by_test false = among_front x xs n a

pub now_among : (xs : List Name) (n : Name) → name_among n (with_name xs n) ≡ true
now_among xs n = by_test (name_among n xs) refl
  where
    by_test : (t : Bool) → name_among n xs ≡ t → name_among n (cond t xs (xs ++ n ∷ [])) ≡ true
    by_test true e = e
    by_test false e = among_last n xs n (same_self n)

pub not_before : (x : Name) (xs : List Name) (n : Name) → name_among x (with_name xs n) ≡ false → (name_among x xs ≡ false) × (same_name x n ≡ false)
not_before x xs n e = (
  elim (cases_Bool (name_among x xs)) [
    | inl there ↦ let clash : true ≡ false = sym (still_among x xs n there) ∙ e in absurd cc
    | inr not_there ↦ not_there
  ],
  elim (cases_Bool (same_name x n)) [
    | inl is ↦ let there : name_among x (with_name xs n) ≡ true = subst (λ (y : Name). name_among y (with_name xs n) ≡ true) (sym (same_is x n is)) (now_among xs n) in let clash : true ≡ false = sym there ∙ e in absurd cc
    | inr other ↦ other
  ],
)

-- ---- each is new behind these and those before it

abbrev pub New : List Name → List Name → Type 0
New seen [] = Unit {0}
New seen (n ∷ ns) = (name_among n seen ≡ false) × New (with_name seen n) ns

-- a name that was seen is none of them
pub new_apart : (seen ns : List Name) (x : Name) → New seen ns → name_among x seen ≡ true → name_among x ns ≡ false
new_apart seen [] x h e = refl
new_apart seen (n ∷ ns) x h e = or_from (same_name x n) (name_among x ns) (other (same_name x n) refl) (new_apart (with_name seen n) ns x h.1 (still_among x seen n e))
  where
    other : (t : Bool) → same_name x n ≡ t → same_name x n ≡ false
    other false is = is
    other true is =
        let there : name_among n seen ≡ true = subst (λ (y : Name). name_among y seen ≡ true) (same_is x n is) e in
        let first = h.0 in
        let clash : true ≡ false = sym there ∙ first in
        absurd cc

pub new_more : (seen ns : List Name) (n : Name) → New seen ns → name_among n seen ≡ false → name_among n ns ≡ false → New seen (ns ++ n ∷ [])
new_more seen [] n h a b = (a, tt)
new_more seen (m ∷ ns) n h a b =
    let p = or_parts (same_name n m) (name_among n ns) b in
    (h.0, new_more (with_name seen m) ns n h.1 (not_with n seen m a p.0) p.1)

-- a name that is none of these and none of those is not among both
pub fold_not : (seen ns : List Name) (x : Name) → name_among x seen ≡ false → name_among x ns ≡ false → name_among x (fold with_name seen ns) ≡ false
fold_not seen [] x a b = a
fold_not seen (n ∷ ns) x a b =
    let p = or_parts (same_name x n) (name_among x ns) b in
    fold_not (with_name seen n) ns x (not_with x seen n a p.0) p.1
