-- A fold of a list is one of every permutation of it.
use Rattle.std.proofs.Common.{◌≡◌, ℕ, zero, suc, ◌<◌, inl, inr, List, [], ◌∷◌, length, get_or, set, refl, sym, ap, ◌∙◌, arith, All, pos, neg_ℤ}
use Rattle.std.specs.List.{swap}
use Rattle.std.specs.List.Sorted.{IsPermutation}
use Rattle.std.proofs.lemmas.Bool.{cases_lt, cases_eq}
use Rattle.std.proofs.lemmas.List.{set-set, set-get_or, set_comm}
use Rattle.std.proofs.lemmas.List.Edits.{swap_is}
use Rattle.std.proofs.lemmas.List.Elements.{All-nil, All-cons, All-head, All-tail, All-get_or}
use Rattle.std.proofs.lemmas.List.Sorted.{IsPermutation-keeps, IsPermutation-swap, All-permutation, length_permutation, sum_by-IsPermutation}
use Rattle.int_num.specs.Integer.{Integer, IsWidth, HasWidth, signed}
use Rattle.int_num.specs.Reductions.{reduce, identity}
use Rattle.int_num.specs.declared.ops.RedOp.{RedOp}
use Rattle.int_num.proofs.Widths.{reduce_keeps_width, identity_has_width}
use Rattle.reduction_merge.proofs.Folding.{fold_first}
use Rattle.reduction_merge.specs.Operands.{fold_from, up, down}
use Rattle.reduction_laws.specs.Laws.{AnyOrderHasThePartial}
use Rattle.reduction_laws.proofs.Commuting.{reduce_commutes}

pub reduced_width : (op : RedOp) (w : ℕ) (a b : Integer) → HasWidth w a → HasWidth w b → HasWidth w (reduce op a b)
reduced_width op w a b ha hb = rw (← ha.width) (reduce_keeps_width op a b ha.integer hb.integer (ha.width ∙ sym hb.width))

module _ (op : RedOp) (w : ℕ) where
  -- of two operands either may be the first
  two : (v x y : Integer) → HasWidth w v → HasWidth w x → HasWidth w y → fold_from op v (x ∷ y ∷ []) ≡ fold_from op v (y ∷ x ∷ [])
  two v x y hv hx hy = sym (first x y hx hy) ∙ ap (reduce op v) (from_identity x y hx hy ∙ reduce_commutes op w x y hx hy ∙ sym (from_identity y x hy hx)) ∙ first y x hy hx
    where
      e : Integer
      e = identity op w

      he : HasWidth w e
      he = identity_has_width op w (rw (← hv.width) hv.integer.width)

      first : (a b : Integer) → HasWidth w a → HasWidth w b → reduce op v (fold_from op e (a ∷ b ∷ [])) ≡ fold_from op v (a ∷ b ∷ [])
      first a b ha hb = fold_first op w v (a ∷ b ∷ []) hv (All-cons (HasWidth w) a (b ∷ []) ha (All-cons (HasWidth w) b [] hb (All-nil (HasWidth w))))

      from_identity : (a b : Integer) → HasWidth w a → HasWidth w b → fold_from op e (a ∷ b ∷ []) ≡ reduce op a b
      from_identity a b ha hb = ap (λ n. reduce op n b) (reduce_commutes op w e a he ha ∙ fold_first op w a [] ha (All-nil (HasWidth w)))

  -- the first operand and another one exchanged
  to_front : (v x : Integer) (xs : List Integer) (k : ℕ) (d : Integer) → HasWidth w v → HasWidth w x → All (HasWidth w) xs → k < length xs → fold_from op v (x ∷ xs) ≡ fold_from op v (get_or xs k d ∷ set xs k x)
  to_front v x [] k d hv hx all lt = absurd (omega arith)
  to_front v x (y ∷ ys) zero d hv hx all lt = ap (λ n. fold_from op n ys) (two v x y hv hx (All-head (HasWidth w) y ys all))
  to_front v x (y ∷ ys) (suc k) d hv hx all lt =
      let hy = All-head (HasWidth w) y ys all in
      let rest = All-tail (HasWidth w) y ys all in
      let z = get_or ys k d in
      ap (λ n. fold_from op n ys) (two v x y hv hx hy)
      ∙ to_front (reduce op v y) x ys k d (reduced_width op w v y hv hy) hx rest (omega arith)
      ∙ ap (λ n. fold_from op n (set ys k x)) (two v y z hv hy (All-get_or (HasWidth w) ys k d (omega arith) rest))

  -- two operands exchanged
  exchanged : (v : Integer) (xs : List Integer) (i j : ℕ) (d : Integer) → HasWidth w v → All (HasWidth w) xs → i < j → j < length xs → fold_from op v xs ≡ fold_from op v (set (set xs i (get_or xs j d)) j (get_or xs i d))
  exchanged v [] i j d hv all below lt = absurd (omega arith)
  exchanged v (x ∷ xs) i zero d hv all below lt = absurd (omega arith)
  exchanged v (x ∷ xs) zero (suc k) d hv all below lt = to_front v x xs k d hv (All-head (HasWidth w) x xs all) (All-tail (HasWidth w) x xs all) (omega arith)
  exchanged v (x ∷ xs) (suc i) (suc j) d hv all below lt = exchanged (reduce op v x) xs i j d (reduced_width op w v x hv (All-head (HasWidth w) x xs all)) (All-tail (HasWidth w) x xs all) (omega arith) (omega arith)

  exchanged_any : (v : Integer) (xs : List Integer) (i j : ℕ) (d : Integer) → HasWidth w v → All (HasWidth w) xs → i < length xs → j < length xs → fold_from op v xs ≡ fold_from op v (set (set xs i (get_or xs j d)) j (get_or xs i d))
  exchanged_any v xs i j d hv all li lj = elim (cases_lt i j) [
    | inl l ↦ exchanged v xs i j d hv all l lj
    | inr l ↦ elim (cases_eq i j) [
      | inl e ↦ ap (fold_from op v) (sym (ap (λ k. set (set xs i (get_or xs k d)) k (get_or xs i d)) (sym e) ∙ set-set xs i (get_or xs i d) (get_or xs i d) ∙ set-get_or xs i d))
      | inr n ↦ exchanged v xs j i d hv all (let a = l in omega arith) li ∙ ap (fold_from op v) (set_comm xs j i (get_or xs i d) (get_or xs j d) (λ e. n (sym e)))
    ]
  ]

  swapped : (v d : Integer) (xs : List Integer) (i j : ℕ) → HasWidth w v → All (HasWidth w) xs → i < length xs → j < length xs → fold_from op v xs ≡ fold_from op v (swap xs i j)
  swapped v d xs i j hv all li lj = exchanged_any v xs i j d hv all li lj ∙ ap (fold_from op v) (swap_is xs i j d li lj)

  -- any order of the operands has their fold
  pub fold_permuted : (v : Integer) (xs ys : List Integer) → HasWidth w v → All (HasWidth w) xs → IsPermutation xs ys → fold_from op v xs ≡ fold_from op v ys
  fold_permuted v xs ys hv all moved = (IsPermutation-keeps xs Same (all, refl) step ys moved).1
    where
      Same : List Integer → Type 0
      Same zs = All (HasWidth w) zs × (fold_from op v xs ≡ fold_from op v zs)

      step : (zs : List Integer) (i j : ℕ) → i < length zs → j < length zs → Same zs → Same (swap zs i j)
      step zs i j li lj same = (
        All-permutation (HasWidth w) zs (swap zs i j) (IsPermutation-swap zs (swap zs i j) i j li lj refl) same.0,
        same.1 ∙ swapped v v zs i j hv same.0 li lj,
      )

-- where there is no operand there is none in any order
same_where_empty : (ys : List Integer) → IsPermutation [] ys → ys ≡ []
same_where_empty [] moved = refl
same_where_empty (y ∷ ys) moved = let l = length_permutation [] (y ∷ ys) moved in absurd (omega arith)

identity_permuted : (op : RedOp) (w : ℕ) (xs ys : List Integer) → All (HasWidth w) xs → IsPermutation xs ys → fold_from op (identity op w) xs ≡ fold_from op (identity op w) ys
identity_permuted op w [] ys all moved = ap (fold_from op (identity op w)) (sym (same_where_empty ys moved))
identity_permuted op w (x ∷ xs) ys all moved =
    let hx : HasWidth w x = All-head (HasWidth w) x xs all in
    let wide : IsWidth w = rw (← hx.width) hx.integer.width in
    fold_permuted op w (identity op w) (x ∷ xs) ys (identity_has_width op w wide) all moved

pub any_order_has_the_partial : AnyOrderHasThePartial
any_order_has_the_partial p xs ys of all moved =
    let ups = sum_by-IsPermutation (λ x. up (signed x)) xs ys moved in
    let downs = sum_by-IsPermutation (λ x. down (signed x)) xs ys moved in
    let bits = sum_by-IsPermutation (λ x. x.bits) xs ys moved in
    record {
      count = of.count ∙ sym (length_permutation xs ys moved);
      positive = of.positive ∙ ap pos (sym ups);
      negative = of.negative ∙ ap (λ n. neg_ℤ (pos n)) (sym downs);
      unsigned = of.unsigned ∙ sym bits;
      folded = of.folded ∙ identity_permuted p.op p.width xs ys all moved;
    }
