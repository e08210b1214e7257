-- Where the range test passes, the instruction done one by one is the fold.
use Rattle.std.proofs.Common.{◌≡◌, ℕ, ◌*◌, ◌⊎◌, inl, inr, Bool, true, false, cond, List, [], ◌∷◌, map, refl, sym, ap, subst, ◌∙◌, All, Some, None, Ok, Err, Result}
use Rattle.std.specs.Prelude.{not, ◌&&◌, nat_eq, bit_and}
use Rattle.std.proofs.lemmas.List.Elements.{All-head, All-tail}
use Rattle.std.proofs.lemmas.List.Sorted.{All-permutation}
use Rattle.int_num.specs.Integer.{Integer, HasWidth}
use Rattle.int_num.specs.Operations.{of_bits, binary, compare, keeps, disjunction}
use Rattle.int_num.specs.Reductions.{reduce}
use Rattle.int_num.specs.declared.ops.RedOp.{RedOp}
use Rattle.int_num.specs.declared.ops.RedOp.TheVariants.{Add, Mul, And, Or, Xor, Smax, Smin, Umax, Umin}
use Rattle.int_num.specs.declared.ops.Flags.{Flags}
use Rattle.int_num.specs.declared.ops.Poison.{Poison}
use Rattle.int_num.specs.declared.ops.Poison.TheVariants.{Overflow, Flag}
use Rattle.int_num.proofs.Residues.{residue_pos}
use Rattle.reduction_merge.specs.Operands.{AddsUp, fold_from}
use Rattle.reduction_merge.proofs.Additions.{finish_law}
use Rattle.reduction_merge.proofs.RangeSteps.{range_law}
use Rattle.reduction_laws.specs.OneByOne.{operation, MayHave, Given, applied, one_by_one, unless_poison}
use Rattle.reduction_laws.specs.Laws.{AnyOrderIsFinished}
use Rattle.reduction_laws.proofs.Commuting.{reduce_commutes, operation_commutes}
use Rattle.reduction_laws.proofs.Orders.{reduced_width, fold_permuted}

-- the instruction with its flags is the operation without them
abbrev NoPromise : RedOp → Type 0
NoPromise op = (flags : Flags) (w : ℕ) (a b : Integer) → HasWidth w a → HasWidth w b → MayHave op flags → operation op flags a b ≡ Ok (reduce op a b)

kept_without : (flags : Flags) (u s : Bool) (n : Integer) → flags.nuw ≡ false → flags.nsw ≡ false → keeps Overflow flags u s n ≡ Ok n
unfolding keeps
kept_without flags u s n h k = rw (h, k) refl

whole : (flags : Flags) (b : Bool) (n : Integer) → flags.disjoint ≡ false → cond (flags.disjoint && b) (Err Flag) (Ok n) ≡ Ok n
whole flags b n h = rw h refl

-- a sum is tested for its range, and of the others nothing is promised
sum_or_no_promise : (op : RedOp) → (op ≡ Add) ⊎ NoPromise op
unfolding operation binary compare reduce
sum_or_no_promise Add = inl refl
sum_or_no_promise Mul = inr (λ flags w a b ha hb may. kept_without flags _ _ _ may.0 may.1 ∙ ap (λ n. Ok (of_bits a.width n)) (residue_pos a.width (a.bits * b.bits)))
sum_or_no_promise And = inr (λ flags w a b ha hb may. refl)
sum_or_no_promise Or = inr (λ flags w a b ha hb may. whole flags (not (nat_eq (bit_and a.bits b.bits) 0)) (disjunction a b) may)
sum_or_no_promise Xor = inr (λ flags w a b ha hb may. refl)
sum_or_no_promise Smax = inr (λ flags w a b ha hb may. ap Ok (reduce_commutes Smax w b a hb ha))
sum_or_no_promise Smin = inr (λ flags w a b ha hb may. ap Ok (reduce_commutes Smin w b a hb ha))
sum_or_no_promise Umax = inr (λ flags w a b ha hb may. ap Ok (reduce_commutes Umax w b a hb ha))
sum_or_no_promise Umin = inr (λ flags w a b ha hb may. ap Ok (reduce_commutes Umin w b a hb ha))

-- no step is poison
Steps : RedOp → Flags → Integer → List Integer → Type 0
Steps op flags v [] = Unit {0}
Steps op flags v (x ∷ xs) = (operation op flags v x ≡ Ok (reduce op v x)) × Steps op flags (reduce op v x) xs

steps_of_sums : (flags : Flags) (v : Integer) (xs : List Integer) → AddsUp flags v xs → Steps Add flags v xs
unfolding operation binary Steps
steps_of_sums flags v [] h = tt
steps_of_sums flags v (x ∷ xs) h = (h.0, steps_of_sums flags (reduce Add v x) xs h.1)

module _ (op : RedOp) (flags : Flags) (w : ℕ) where
  steps_of_others : (v : Integer) (xs : List Integer) → NoPromise op → MayHave op flags → HasWidth w v → All (HasWidth w) xs → Steps op flags v xs
  unfolding Steps
  steps_of_others v [] plain may hv all = tt
  steps_of_others v (x ∷ xs) plain may hv all =
      let hx = All-head (HasWidth w) x xs all in
      (plain flags w v x hv hx may, steps_of_others (reduce op v x) xs plain may (reduced_width op w v x hv hx) (All-tail (HasWidth w) x xs all))

  -- on either side
  either_side : (behind : Bool) (v x : Integer) → HasWidth w v → HasWidth w x → applied op flags v (record { operand = x; behind = behind }) ≡ operation op flags v x
  either_side true v x hv hx = refl
  either_side false v x hv hx = operation_commutes op flags w x v hx hv

  walked : (v : Integer) (given : List Given) → HasWidth w v → All (HasWidth w) (map (λ g. g.operand) given) → Steps op flags v (map (λ g. g.operand) given) → one_by_one op flags v given ≡ Some (fold_from op v (map (λ g. g.operand) given))
  unfolding one_by_one unless_poison Steps
  walked v [] hv all steps = refl
  walked v (g ∷ gs) hv all steps =
      let hx = All-head (HasWidth w) g.operand (map (λ g. g.operand) gs) all in
      ap (λ (r : Result Integer Poison). unless_poison r (λ n. one_by_one op flags n gs)) (either_side g.behind v g.operand hv hx ∙ steps.0)
      ∙ walked (reduce op v g.operand) gs (reduced_width op w v g.operand hv hx) (All-tail (HasWidth w) g.operand (map (λ g. g.operand) gs) all) steps.1

pub any_order_is_finished : AnyOrderIsFinished
any_order_is_finished p xs given first of hf all may moved stays =
    let ys = map (λ g. g.operand) given in
    let widths = All-permutation (HasWidth p.width) xs ys moved all in
    let steps : Steps p.op p.flags first ys = (elim (sum_or_no_promise p.op) [
      | inl sum ↦ subst (λ o. Steps o p.flags first ys) (sym sum) (steps_of_sums p.flags first ys (range_law p xs ys first of hf all stays moved))
      | inr plain ↦ steps_of_others p.op p.flags p.width first ys plain may hf widths
    ]) in (
      fold_from p.op first xs,
      finish_law p xs first of hf all ∙ ap (λ b. cond b (Some (fold_from p.op first xs)) None) stays,
      walked p.op p.flags p.width first given hf widths steps ∙ ap Some (sym (fold_permuted p.op p.width first xs ys hf all moved)),
    )
