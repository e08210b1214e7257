-- The loops over operands and arguments.
use Rattle.std.proofs.Common.{◌≡◌, ℕ, zero, suc, ◌+◌, ◌-◌, ◌<◌, ◌≤◌, List, [], ◌∷◌, ◌++◌, ◌⊎◌, inl, inr, length, get_or, take, drop, slice_get, slice_set, map, replicate, Result, Ok, Err, Option, Some, None, refl, sym, ◌∙◌, ap, arith, append_assoc, drop-cons, add-one, length-append, Bool, true, false}
use Rattle.mem_image.specs.declared.fault.Trap.{Trap}
use Rattle.ir_code.specs.declared.op.Operand.{Operand}
use Rattle.seq_effects.specs.declared.state.Value.{Value}
use Rattle.seq_effects.specs.declared.state.Frame.{Frame}
use Rattle.std.specs.Prelude.{◌&&◌}
use Rattle.std.proofs.lemmas.List.{set-append_right, length-take-le, take_more, length-map, length-replicate, map-append}
use Rattle.ir_code.specs.declared.op.Scalar.{Scalar}
use Rattle.seq_effects.specs.Values.{then_, operand, operands, may_hold, IsOf, AreOf, HaveTypes}
use Rattle.seq_effects.specs.Values.{is_type, Holds}
use Rattle.seq_effects.specs.Flow.{fit, same_types}
use Rattle.std.proofs.lemmas.Option.{slice_get_within, slice_get-get_or}

-- the values so far, and those that are left
abbrev pub before : List Value → Result (List Value) Trap → Result (List Value) Trap
before so_far rest = then_ rest (λ vs. Ok (so_far ++ vs))

cons_before : (so_far : List Value) (v : Value) (rest : Result (List Value) Trap) → before so_far (then_ rest (λ vs. Ok (v ∷ vs))) ≡ before (so_far ++ v ∷ []) rest
cons_before so_far v (Ok vs) = rw append_assoc refl
cons_before so_far v (Err t) = refl

pub values_start : (r : Result (List Value) Trap) → before [] r ≡ r
values_start (Ok vs) = refl
values_start (Err t) = refl

pub values_on : (xs : List Operand) (f : Frame) (so_far : List Value) (i : ℕ) (x : Operand) (v : Value) → i < length xs → x ≡ get_or xs i x → Ok v ≡ operand f x → before so_far (operands f (drop i xs)) ≡ before (so_far ++ v ∷ []) (operands f (drop (i + 1) xs))
values_on xs f so_far i x v lt is e = rw (add-one, drop-cons xs i x, ← is, ← e) (cons_before so_far v (operands f (drop (suc i) xs)))

pub values_err : (xs : List Operand) (f : Frame) (so_far : List Value) (i : ℕ) (x : Operand) (t : Trap) → i < length xs → x ≡ get_or xs i x → Err t ≡ operand f x → before so_far (operands f (drop i xs)) ≡ Err t
values_err xs f so_far i x t lt is e = rw (drop-cons xs i x, ← is, ← e) refl

-- ---- the types of arguments

pub fit_step : (types : List Scalar) (values : List Value) (i : ℕ) (v : Value) → i < length values → v ≡ get_or values i v → fit (drop i types) (drop i values) ≡ (may_hold (slice_get types i) v && fit (drop (suc i) types) (drop (suc i) values))
fit_step types [] i v lt is = absurd (omega arith)
fit_step [] (w ∷ ws) zero v lt is = refl
fit_step [] (w ∷ ws) (suc i) v lt is = let there : i < length ws = omega arith in rw (drop-cons ws i v) refl
fit_step (t ∷ ts) (w ∷ ws) zero v lt is = rw is refl
fit_step (t ∷ ts) (w ∷ ws) (suc i) v lt is = fit_step ts ws i v (omega arith) is

some_same : (o : Option Value) (v w : Value) → o ≡ Some v → o ≡ Some w → v ≡ w
some_same o v w e q = cc

unset : (n i : ℕ) (v : Value) → slice_get (replicate n None) i ≡ Some (Some v) → ⊥
unset zero i v e = cc
unset (suc n) zero v e = cc
unset (suc n) (suc i) v e = unset n i v e

each_of : (vs : List Value) (types : List Scalar) (n : ℕ) → ((i : ℕ) (t : Scalar) (v : Value) → slice_get types i ≡ Some t → slice_get vs i ≡ Some v → IsOf t v) → (i : ℕ) (t : Scalar) (v : Value) → slice_get types i ≡ Some t → slice_get (map Some vs ++ replicate n None) i ≡ Some (Some v) → IsOf t v
each_of [] types n h i t v e q = absurd (unset n i v q)
each_of (w ∷ ws) [] n h i t v e q = absurd (cc)
each_of (w ∷ ws) (s ∷ ss) n h zero t v e q = h zero t v e (cc)
each_of (w ∷ ws) (s ∷ ss) n h (suc i) t v e q = each_of ws ss n (λ k. h (suc k)) i t v e q

pub entry_typed : (types : List Scalar) (vs : List Value) → HaveTypes types vs → AreOf types (map Some vs ++ replicate (length types - length vs) None)
entry_typed types vs h = record {
  count = simp (length-append, length-map, length-replicate) (omega (arith, h.0));
  each = each_of vs types (length types - length vs) h.1;
}

-- one more argument is laid into the registers
pub entry_more : (vs : List Value) (n i : ℕ) (v : Value) → i < length vs → length vs ≤ n → v ≡ get_or vs i v
    → slice_set (map Some (take i vs) ++ replicate (n - i) None) i (Some v) ≡ map Some (take (i + 1) vs) ++ replicate (n - (i + 1)) None
entry_more vs n i v lt le is =
    let gap : n - i ≡ suc (n - (i + 1)) = omega arith in
    let front : length (map Some (take i vs)) ≡ i = length-map _ _ ∙ length-take-le i vs (omega arith) in
    let more : take (i + 1) vs ≡ take i vs ++ v ∷ [] = take_more vs i v lt ∙ ap (λ x. take i vs ++ x ∷ []) (sym is) in
    let z : i - i ≡ zero = omega arith in
    rw (set-append_right (map Some (take i vs)) (replicate (n - i) None) i i (Some v) front (omega arith), gap, more, z, map-append) (sym (append_assoc (map Some (take i vs)) (Some v ∷ []) (replicate (n - (i + 1)) None)))

and_false : (b : Bool) → (b && false) ≡ false
and_false true = refl
and_false false = refl

-- lists of types of two lengths
pub types_differ : (ss ts : List Scalar) → (length ss ≡ length ts → ⊥) → same_types ss ts ≡ false
types_differ [] [] h = absurd (h refl)
types_differ [] (t ∷ ts) h = refl
types_differ (s ∷ ss) [] h = refl
types_differ (s ∷ ss) (t ∷ ts) h = rw (types_differ ss ts (λ e. h (ap suc e))) (and_false (is_type s t))

-- one more argument is of its type
pub fit_more : (types : List Scalar) (values : List Value) (i : ℕ) (v : Value) → i < length values → v ≡ get_or values i v → Holds types i v
    → ((j : ℕ) (t : Scalar) (w : Value) → j < i → slice_get types j ≡ Some t → slice_get values j ≡ Some w → IsOf t w)
    → (j : ℕ) (t : Scalar) (w : Value) → j < i + 1 → slice_get types j ≡ Some t → slice_get values j ≡ Some w → IsOf t w
fit_more types values i v lt is holds h j t w below e q = go (search arith)
  where
    here : slice_get values i ≡ Some v
    here = slice_get-get_or values i v lt ∙ ap Some (sym is)

    go : (j < i) ⊎ (j ≡ i) → IsOf t w
    go (inl less) = h j t w less e q
    go (inr same) =
        let x : w ≡ v = some_same (slice_get values i) w v (rw same at q) here in
        rw x (holds.typed t (rw same at e))

pub have_types : (types : List Scalar) (values : List Value) (i : ℕ) → i ≤ length types → length values ≤ i
    → ((j : ℕ) (t : Scalar) (w : Value) → j < i → slice_get types j ≡ Some t → slice_get values j ≡ Some w → IsOf t w) → HaveTypes types values
have_types types values i le all h = (omega arith, λ j t w e q. let lt : j < length values = slice_get_within values j w q in h j t w (omega arith) e q)
