-- The operands of a reduction may change sides.
use Rattle.std.proofs.Common.{◌≡◌, ℕ, ◌+◌, ◌-◌, ◌%◌, ◌^◌, ◌<◌, ◌≤◌, ◌⊎◌, inl, inr, ℤ, pos, Bool, true, false, cond, refl, sym, ap, subst, ◌∙◌, arith, Ok, Err, nat_lt, ◌+ℤ◌, bit_and, bit_or}
use Rattle.std.specs.Prelude.{int_lt, ◌*ℤ◌, not, ◌&&◌, nat_eq}
use Rattle.std.proofs.lemmas.Bool.{cases_lt}
use Rattle.std.proofs.lemmas.Bool.Decides.{nat_tests}
use Rattle.std.proofs.lemmas.Int.{ints}
use Rattle.std.proofs.lemmas.Nat.{and_comm, or_comm, xor_comm}
use Rattle.std.proofs.Math.Nat.{mul_comm}
use Rattle.int_num.specs.Integer.{Integer, IsWidth, HasWidth, signed}
use Rattle.int_num.specs.Operations.{of_bits, binary, within, compare}
use Rattle.int_num.specs.Reductions.{reduce}
use Rattle.int_num.specs.declared.ops.RedOp.{RedOp}
use Rattle.int_num.specs.declared.ops.RedOp.TheVariants.{Add, Mul, And, Or, Xor, Smax, Smin, Umax, Umin}
use Rattle.int_num.specs.declared.ops.Flags.{Flags}
use Rattle.int_num.specs.declared.ops.Poison.TheVariants.{Flag}
use Rattle.int_num.proofs.Signs.{signed_low, signed_high}
use Rattle.reduction_laws.specs.OneByOne.{operation}
use Rattle.reduction_laws.specs.Laws.{OperationsCommute}

-- integers of a width are their bits
pub on_bits : (Q : Integer → Integer → Type 0) (w : ℕ) (a b : Integer) → HasWidth w a → HasWidth w b → (IsWidth w → (x y : ℕ) → x < 2 ^ w → y < 2 ^ w → Q (of_bits w x) (of_bits w y)) → Q a b
on_bits Q w a b ha hb q =
    let wide : IsWidth w = rw (← ha.width) ha.integer.width in
    let la : a.bits < 2 ^ w = rw (← ha.width) ha.integer.bits in
    let lb : b.bits < 2 ^ w = rw (← hb.width) hb.integer.bits in
    let ea : of_bits w a.bits ≡ a = ap (λ (k : ℕ). of_bits k a.bits) (sym ha.width) in
    let eb : of_bits w b.bits ≡ b = ap (λ (k : ℕ). of_bits k b.bits) (sym hb.width) in
    subst (λ (n : Integer). Q n b) ea (subst (λ (n : Integer). Q (of_bits w a.bits) n) eb (q wide a.bits b.bits la lb))

-- the signed number tells the bits
signed_tells : (w x y : ℕ) → IsWidth w → x < 2 ^ w → y < 2 ^ w → signed (of_bits w x) ≡ signed (of_bits w y) → x ≡ y
signed_tells w x y wide h k e = go (cases_lt x (2 ^ (w - 1))) (cases_lt y (2 ^ (w - 1)))
  where
    go : (x < 2 ^ (w - 1)) ⊎ (2 ^ (w - 1) ≤ x) → (y < 2 ^ (w - 1)) ⊎ (2 ^ (w - 1) ≤ y) → x ≡ y
    go (inl l) (inl m) =
        let s = signed_low (of_bits w x) l wide in
        let t = signed_low (of_bits w y) m wide in
        omega (arith, ints)
    go (inl l) (inr m) =
        let s = signed_low (of_bits w x) l wide in
        let t = signed_high (of_bits w y) m (record { width = wide; bits = k }) in
        omega (arith, ints)
    go (inr l) (inl m) =
        let s = signed_high (of_bits w x) l (record { width = wide; bits = h }) in
        let t = signed_low (of_bits w y) m wide in
        omega (arith, ints)
    go (inr l) (inr m) =
        let s = signed_high (of_bits w x) l (record { width = wide; bits = h }) in
        let t = signed_high (of_bits w y) m (record { width = wide; bits = k }) in
        omega (arith, ints)

-- of two operands a test picks one, whichever stands first
picked : (lt : Integer → Integer → Bool) (a b : Integer) → (lt a b ≡ true → lt b a ≡ false) → (lt a b ≡ false → lt b a ≡ false → a ≡ b) → cond (lt a b) b a ≡ cond (lt b a) a b
picked lt a b one same = go (lt a b) (lt b a) refl refl
  where
    go : (p q : Bool) → lt a b ≡ p → lt b a ≡ q → cond p b a ≡ cond q a b
    go true true h k = absurd (false_true (sym (one h) ∙ k))
      where
        false_true : false ≡ true → ⊥
        false_true e = cc
    go true false h k = refl
    go false true h k = refl
    go false false h k = same h k

one_int : (x y : ℤ) → int_lt x y ≡ true → int_lt y x ≡ false
one_int x y h = grind (arith, ints)

same_int : (x y : ℤ) → int_lt x y ≡ false → int_lt y x ≡ false → x ≡ y
same_int x y h k = grind (arith, ints)

one_nat : (x y : ℕ) → nat_lt x y ≡ true → nat_lt y x ≡ false
one_nat x y h = grind (arith, nat_tests)

same_nat : (x y : ℕ) → nat_lt x y ≡ false → nat_lt y x ≡ false → x ≡ y
same_nat x y h k = grind (arith, nat_tests)

-- the operation without flags
reduce_bits : (op : RedOp) (w x y : ℕ) → IsWidth w → x < 2 ^ w → y < 2 ^ w → reduce op (of_bits w x) (of_bits w y) ≡ reduce op (of_bits w y) (of_bits w x)
unfolding reduce
reduce_bits Add w x y wide h k = let e : x + y ≡ y + x = omega arith in ap (λ n. of_bits w (n % 2 ^ w)) e
reduce_bits Mul w x y wide h k = ap (λ n. of_bits w (n % 2 ^ w)) (mul_comm x y)
reduce_bits And w x y wide h k = ap (of_bits w) (and_comm x y)
reduce_bits Or w x y wide h k = ap (of_bits w) (or_comm x y)
reduce_bits Xor w x y wide h k = ap (of_bits w) (xor_comm x y)
reduce_bits Smax w x y wide h k = picked (λ a b. int_lt (signed a) (signed b)) (of_bits w x) (of_bits w y) (one_int (signed (of_bits w x)) (signed (of_bits w y))) (λ p q. ap (of_bits w) (signed_tells w x y wide h k (same_int (signed (of_bits w x)) (signed (of_bits w y)) p q)))
reduce_bits Smin w x y wide h k = picked (λ a b. int_lt (signed b) (signed a)) (of_bits w x) (of_bits w y) (one_int (signed (of_bits w y)) (signed (of_bits w x))) (λ p q. ap (of_bits w) (signed_tells w x y wide h k (same_int (signed (of_bits w x)) (signed (of_bits w y)) q p)))
reduce_bits Umax w x y wide h k = picked (λ a b. nat_lt a.bits b.bits) (of_bits w x) (of_bits w y) (one_nat x y) (λ p q. ap (of_bits w) (same_nat x y p q))
reduce_bits Umin w x y wide h k = picked (λ a b. nat_lt b.bits a.bits) (of_bits w x) (of_bits w y) (one_nat y x) (λ p q. ap (of_bits w) (same_nat x y q p))

pub reduce_commutes : (op : RedOp) (w : ℕ) (a b : Integer) → HasWidth w a → HasWidth w b → reduce op a b ≡ reduce op b a
reduce_commutes op w a b ha hb = on_bits (λ c d. reduce op c d ≡ reduce op d c) w a b ha hb (λ wide x y h k. reduce_bits op w x y wide h k)

-- sums and products that are tested
within_commutes : (flags : Flags) (w : ℕ) (u u' s s' : ℤ) → u ≡ u' → s ≡ s' → within flags w u s ≡ within flags w u' s'
within_commutes flags w u u' s s' e f = ap (λ z. within flags w z s) e ∙ ap (λ z. within flags w u' z) f

sum_comm : (x y : ℤ) → x +ℤ y ≡ y +ℤ x
sum_comm x y = omega (arith, ints)

product_comm : (x y : ℤ) → x *ℤ y ≡ y *ℤ x
product_comm x y = grind (arith, ints)

-- the instruction's own
operation_bits : (op : RedOp) (flags : Flags) (w x y : ℕ) → IsWidth w → x < 2 ^ w → y < 2 ^ w → operation op flags (of_bits w x) (of_bits w y) ≡ operation op flags (of_bits w y) (of_bits w x)
unfolding operation binary compare reduce
operation_bits Add flags w x y wide h k = within_commutes flags w _ _ _ _ (sum_comm (pos x) (pos y)) (sum_comm (signed (of_bits w x)) (signed (of_bits w y)))
operation_bits Mul flags w x y wide h k = within_commutes flags w _ _ _ _ (product_comm (pos x) (pos y)) (product_comm (signed (of_bits w x)) (signed (of_bits w y)))
operation_bits And flags w x y wide h k = ap (λ n. Ok (of_bits w n)) (and_comm x y)
operation_bits Or flags w x y wide h k =
    ap (λ n. cond (flags.disjoint && not (nat_eq n 0)) (Err Flag) (Ok (of_bits w (bit_or x y)))) (and_comm x y)
    ∙ ap (λ n. cond (flags.disjoint && not (nat_eq (bit_and y x) 0)) (Err Flag) (Ok (of_bits w n))) (or_comm x y)
operation_bits Xor flags w x y wide h k = ap (λ n. Ok (of_bits w n)) (xor_comm x y)
operation_bits Smax flags w x y wide h k = ap Ok (reduce_bits Smax w y x wide k h)
operation_bits Smin flags w x y wide h k = ap Ok (reduce_bits Smin w y x wide k h)
operation_bits Umax flags w x y wide h k = ap Ok (reduce_bits Umax w y x wide k h)
operation_bits Umin flags w x y wide h k = ap Ok (reduce_bits Umin w y x wide k h)

pub operation_commutes : (op : RedOp) (flags : Flags) (w : ℕ) (a b : Integer) → HasWidth w a → HasWidth w b → operation op flags a b ≡ operation op flags b a
operation_commutes op flags w a b ha hb = on_bits (λ c d. operation op flags c d ≡ operation op flags d c) w a b ha hb (λ wide x y h k. operation_bits op flags w x y wide h k)

pub operations_commute : OperationsCommute
operations_commute op flags w a b ha hb = (reduce_commutes op w a b ha hb, operation_commutes op flags w a b ha hb)
