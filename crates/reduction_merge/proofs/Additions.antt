-- Partials of lists of operands.
use Rattle.std.proofs.Common.{◌≡◌, ℕ, ◌+◌, ℤ, pos, negsuc, neg_ℤ, List, [], ◌∷◌, ◌++◌, length-append, sum_by, refl, sym, ap, cond, Some, None, ◌∙◌, arith}
use Rattle.std.proofs.lemmas.Int.{ints}
use Rattle.std.proofs.lemmas.List.Sums.{sum_by-append}
use Rattle.int_num.specs.Integer.{Integer, signed}
use Rattle.int_num.specs.Reductions.{reduce, identity}
use Rattle.int_num.specs.declared.ops.RedOp.{RedOp}
use Rattle.reduction_merge.specs.Partials.{stays_in_range, above, below}
use Rattle.reduction_merge.specs.Operands.{StartLaw, AddLaw, JoinLaw, FinishLaw, fold_from, up, down}
use Rattle.int_num.proofs.Widths.{identity_has_width}
use Rattle.reduction_merge.proofs.Folding.{fold_first, fold_width, fold_both}

above_is : (z : ℤ) → above z ≡ pos (up z)
above_is (pos n) = grind (arith, ints)
above_is (negsuc n) = grind (arith, ints)

below_is : (z : ℤ) → below z ≡ neg_ℤ (pos (down z))
below_is (pos n) = grind (arith, ints)
below_is (negsuc n) = grind (arith, ints)

pub fold_from-append : (op : RedOp) (v x : Integer) (xs : List Integer) → fold_from op v (xs ++ x ∷ []) ≡ reduce op (fold_from op v xs) x
fold_from-append op v x [] = refl
fold_from-append op v x (y ∷ ys) = fold_from-append op (reduce op v y) x ys

sum_more : (f : Integer → ℕ) (xs : List Integer) (x : Integer) → sum_by f (xs ++ x ∷ []) ≡ sum_by f xs + f x
sum_more f xs x = let e = sum_by-append f xs (x ∷ []) in omega arith

pub start_law : StartLaw
start_law op flags width = record { count = refl; positive = refl; negative = omega (arith, ints); unsigned = refl; folded = refl }

pub add_law : AddLaw
add_law p xs x of =
    let ups = sum_more (λ n. up (signed n)) xs x in
    let downs = sum_more (λ n. down (signed n)) xs x in
    let bits = sum_more (λ n. n.bits) xs x in
    let a = above_is (signed x) in
    let b = below_is (signed x) in
    let pp = of.positive in
    let pn = of.negative in
    let pu = of.unsigned in
    let pc = of.count in
    record {
      count = omega (arith, length-append {A = Integer});
      positive = omega (arith, ints);
      negative = omega (arith, ints);
      unsigned = omega arith;
      folded = ap (λ (n : Integer). reduce p.op n x) of.folded ∙ sym (fold_from-append p.op (identity p.op p.width) x xs);
    }

pub finish_law : FinishLaw
finish_law p xs first of hf all =
    ap (λ (n : Integer). cond (stays_in_range p first) (Some n) None)
    (ap (λ (n : Integer). reduce p.op first n) of.folded ∙ fold_first p.op p.width first xs hf all)

sum_both : (f : Integer → ℕ) (xs ys : List Integer) → sum_by f (xs ++ ys) ≡ sum_by f xs + sum_by f ys
sum_both f xs ys = sum_by-append f xs ys

pub join_law : JoinLaw
join_law p q xs ys of more same wide all all' =
    let ups = sum_both (λ n. up (signed n)) xs ys in
    let downs = sum_both (λ n. down (signed n)) xs ys in
    let bits = sum_both (λ n. n.bits) xs ys in
    let pp = of.positive in
    let pn = of.negative in
    let pu = of.unsigned in
    let pc = of.count in
    let qp = more.positive in
    let qn = more.negative in
    let qu = more.unsigned in
    let qc = more.count in
    let e : Integer = identity p.op p.width in
    let theirs : q.folded ≡ fold_from p.op (identity p.op p.width) ys = more.folded ∙ (ap (λ (o : RedOp). fold_from o (identity o q.width) ys) same.op ∙ ap (λ (k : ℕ). fold_from p.op (identity p.op k) ys) same.width) in
    record {
      count = omega (arith, length-append {A = Integer});
      positive = omega (arith, ints);
      negative = omega (arith, ints);
      unsigned = omega arith;
      folded =
          ap (λ (n : Integer). reduce p.op n q.folded) of.folded
          ∙ (ap (λ (n : Integer). reduce p.op (fold_from p.op (identity p.op p.width) xs) n) theirs
          ∙ (fold_first p.op p.width (fold_from p.op (identity p.op p.width) xs) ys (fold_width p.op p.width (identity p.op p.width) xs (identity_has_width p.op p.width wide) all) all'
          ∙ sym (fold_both p.op (identity p.op p.width) xs ys)));
    }
