-- The operations of reductions may be grouped anyhow, and each has an integer that changes nothing.
use Rattle.std.proofs.Common.{◌≡◌, ℕ, ◌+◌, ◌-◌, ◌*◌, ◌%◌, ◌^◌, ◌<◌, ◌≤◌, ◌⊎◌, inl, inr, ℤ, ◌≤ℤ◌, Bool, true, false, cond, List, [], ◌∷◌, ◌++◌, refl, sym, ap, subst, ◌∙◌, arith, All, nat_lt, add_assoc}
use Rattle.std.specs.Prelude.{int_lt}
use Rattle.std.proofs.lemmas.Bool.{cases_lt}
use Rattle.std.proofs.lemmas.Bool.Decides.{nat_tests}
use Rattle.std.proofs.lemmas.Int.{ints}
use Rattle.std.proofs.Math.Nat.{mul_assoc, mod-eq_of_lt, mod-add-mod, add-mod-mod, mod-mod}
use Rattle.std.proofs.lemmas.Nat.{and_assoc, and_mask, or_comm, xor_comm, mul-mod}
use Rattle.std.proofs.lemmas.Nat.Bits.{same_from_bits, bit_at_or}
use Rattle.std.proofs.lemmas.List.Elements.{All-head, All-tail}
use Rattle.std.specs.Int.Bits.{bit_or, or_zero_l, xor_zero_l, xor_assoc}
use Rattle.int_num.specs.declared.ops.RedOp.TheVariants.{Add, Mul, And, Or, Xor, Smax, Smin, Umax, Umin}
use Rattle.int_num.proofs.Widths.{reduce_keeps_width, identity_has_width}
use Rattle.reduction_merge.specs.Operands.{fold_from}
use Rattle.int_num.specs.Integer.{Integer, IsWidth, HasWidth, signed}
use Rattle.int_num.specs.Operations.{of_bits}
use Rattle.int_num.specs.Reductions.{reduce, identity}
use Rattle.int_num.specs.declared.ops.RedOp.{RedOp}
use Rattle.int_num.proofs.Powers.{powers}
use Rattle.int_num.proofs.Signs.{signed_low, signed_high}

-- the first of the greatest by a test
module _ (lt : Integer → Integer → Bool) (a b c : Integer) (trans : lt a b ≡ true → lt b c ≡ true → lt a c ≡ true) (total : lt a b ≡ false → lt b c ≡ false → lt a c ≡ false) where
  by_tests : (p q : Bool) → lt a b ≡ p → lt b c ≡ q → cond (lt (cond p b a) c) c (cond p b a) ≡ cond (lt a (cond q c b)) (cond q c b) a
  by_tests true true p q = rw (q, trans p q) refl
  by_tests true false p q = rw (q, p) refl
  by_tests false true p q = refl
  by_tests false false p q = rw (total p q, p) refl

  pub picked : cond (lt (cond (lt a b) b a) c) c (cond (lt a b) b a) ≡ cond (lt a (cond (lt b c) c b)) (cond (lt b c) c b) a
  picked = by_tests (lt a b) (lt b c) refl refl

int_trans : (x y z : ℤ) → int_lt x y ≡ true → int_lt y z ≡ true → int_lt x z ≡ true
int_trans x y z h k = grind (arith, ints)

int_total : (x y z : ℤ) → int_lt x y ≡ false → int_lt y z ≡ false → int_lt x z ≡ false
int_total x y z h k = grind (arith, ints)

nat_trans : (x y z : ℕ) → nat_lt x y ≡ true → nat_lt y z ≡ true → nat_lt x z ≡ true
nat_trans x y z h k = grind (arith, nat_tests)

nat_total : (x y z : ℕ) → nat_lt x y ≡ false → nat_lt y z ≡ false → nat_lt x z ≡ false
nat_total x y z h k = grind (arith, nat_tests)

-- the least and the greatest signed number
pub least_le : (w x : ℕ) → IsWidth w → x < 2 ^ w → signed (of_bits w (2 ^ (w - 1))) ≤ℤ signed (of_bits w x)
least_le w x wide h = go (cases_lt x (2 ^ (w - 1)))
  where
    go : (x < 2 ^ (w - 1)) ⊎ (2 ^ (w - 1) ≤ x) → signed (of_bits w (2 ^ (w - 1))) ≤ℤ signed (of_bits w x)
    go (inl l) =
        let p = powers w wide in
        let t : 2 ^ (w - 1) < 2 ^ w = omega arith in
        let s = signed_high (of_bits w (2 ^ (w - 1))) (omega arith) (record { width = wide; bits = t }) in
        let e = signed_low (of_bits w x) l wide in
        omega (arith, ints)
    go (inr l) =
        let p = powers w wide in
        let t : 2 ^ (w - 1) < 2 ^ w = omega arith in
        let s = signed_high (of_bits w (2 ^ (w - 1))) (omega arith) (record { width = wide; bits = t }) in
        let e = signed_high (of_bits w x) l (record { width = wide; bits = h }) in
        omega (arith, ints)

le_greatest : (w x : ℕ) → IsWidth w → x < 2 ^ w → signed (of_bits w x) ≤ℤ signed (of_bits w (2 ^ (w - 1) - 1))
le_greatest w x wide h = go (cases_lt x (2 ^ (w - 1)))
  where
    go : (x < 2 ^ (w - 1)) ⊎ (2 ^ (w - 1) ≤ x) → signed (of_bits w x) ≤ℤ signed (of_bits w (2 ^ (w - 1) - 1))
    go (inl l) =
        let p = powers w wide in
        let s = signed_low (of_bits w (2 ^ (w - 1) - 1)) (omega arith) wide in
        let e = signed_low (of_bits w x) l wide in
        omega (arith, ints)
    go (inr l) =
        let p = powers w wide in
        let s = signed_low (of_bits w (2 ^ (w - 1) - 1)) (omega arith) wide in
        let e = signed_high (of_bits w x) l (record { width = wide; bits = h }) in
        omega (arith, ints)

not_lt : (x y : ℤ) → y ≤ℤ x → int_lt x y ≡ false
not_lt x y h = grind (arith, ints)

not_below : (x y : ℕ) → y ≤ x → nat_lt x y ≡ false
not_below x y h = grind (arith, nat_tests)

products : (x y z m : ℕ) → ((x * y) % m * z) % m ≡ (x * ((y * z) % m)) % m
products x y z m =
    let a = mul-mod ((x * y) % m) z m in
    let b = mul-mod (x * y) z m in
    let c = mul-mod x ((y * z) % m) m in
    let d = mul-mod x (y * z) m in
    let e = mod-mod (x * y) m in
    let f = mod-mod (y * z) m in
    let g : x * y * z ≡ x * (y * z) = mul_assoc x y z in
    (a ∙ ap (λ (n : ℕ). (n * (z % m)) % m) e) ∙ (sym b ∙ (ap (λ (n : ℕ). n % m) g ∙ (d ∙ sym (c ∙ ap (λ (n : ℕ). (x % m * n) % m) f))))

or_grouped : (a b c : ℕ) → bit_or (bit_or a b) c ≡ bit_or a (bit_or b c)
or_grouped a b c = same_from_bits _ _ (λ i. rw (bit_at_or (bit_or a b) c i, bit_at_or a b i, bit_at_or a (bit_or b c) i, bit_at_or b c i) (omega arith))

-- grouping, on bits of one width
grouped_bits : (op : RedOp) (w x y z : ℕ) → reduce op (reduce op (of_bits w x) (of_bits w y)) (of_bits w z) ≡ reduce op (of_bits w x) (reduce op (of_bits w y) (of_bits w z))
unfolding reduce
grouped_bits Add w x y z = ap (of_bits w) (mod-add-mod (x + y) (2 ^ w) z ∙ (ap (λ n. n % 2 ^ w) (add_assoc x y z) ∙ sym (add-mod-mod x (y + z) (2 ^ w))))
grouped_bits Mul w x y z = ap (of_bits w) (products x y z (2 ^ w))
grouped_bits And w x y z = ap (of_bits w) (and_assoc z x y)
grouped_bits Or w x y z = ap (of_bits w) (or_grouped x y z)
grouped_bits Xor w x y z = ap (of_bits w) (xor_assoc x y z)
grouped_bits Smax w x y z = picked (λ a b. int_lt (signed a) (signed b)) (of_bits w x) (of_bits w y) (of_bits w z) (int_trans (signed (of_bits w x)) (signed (of_bits w y)) (signed (of_bits w z))) (int_total (signed (of_bits w x)) (signed (of_bits w y)) (signed (of_bits w z)))
grouped_bits Smin w x y z = picked (λ a b. int_lt (signed b) (signed a)) (of_bits w x) (of_bits w y) (of_bits w z) (λ p q. int_trans (signed (of_bits w z)) (signed (of_bits w y)) (signed (of_bits w x)) q p) (λ p q. int_total (signed (of_bits w z)) (signed (of_bits w y)) (signed (of_bits w x)) q p)
grouped_bits Umax w x y z = picked (λ a b. nat_lt a.bits b.bits) (of_bits w x) (of_bits w y) (of_bits w z) (nat_trans x y z) (nat_total x y z)
grouped_bits Umin w x y z = picked (λ a b. nat_lt b.bits a.bits) (of_bits w x) (of_bits w y) (of_bits w z) (λ p q. nat_trans z y x q p) (λ p q. nat_total z y x q p)

at_width : (w : ℕ) (a : Integer) → HasWidth w a → of_bits w a.bits ≡ a
at_width w a h = ap (λ (k : ℕ). of_bits k a.bits) (sym h.width)

grouped : (op : RedOp) (w : ℕ) (a b c : Integer) → HasWidth w a → HasWidth w b → HasWidth w c → reduce op (reduce op a b) c ≡ reduce op a (reduce op b c)
grouped op w a b c ha hb hc =
    subst (λ (n : Integer). reduce op (reduce op n b) c ≡ reduce op n (reduce op b c)) (at_width w a ha)
    (subst (λ (n : Integer). reduce op (reduce op (of_bits w a.bits) n) c ≡ reduce op (of_bits w a.bits) (reduce op n c)) (at_width w b hb)
    (subst (λ (n : Integer). reduce op (reduce op (of_bits w a.bits) (of_bits w b.bits)) n ≡ reduce op (of_bits w a.bits) (reduce op (of_bits w b.bits) n)) (at_width w c hc)
    (grouped_bits op w a.bits b.bits c.bits)))

kept : (t : Bool) (a b : Integer) → t ≡ false → cond t b a ≡ a
kept t a b h = ap (λ (s : Bool). cond s b a) h

-- the identity changes nothing
unchanged_bits : (op : RedOp) (w x : ℕ) → IsWidth w → x < 2 ^ w → reduce op (of_bits w x) (identity op w) ≡ of_bits w x
unfolding reduce
unchanged_bits Add w x wide h = let e : x + 0 ≡ x = omega arith in ap (of_bits w) (ap (λ n. n % 2 ^ w) e ∙ mod-eq_of_lt h)
unchanged_bits Mul w x wide h = let e : x * 1 ≡ x = omega arith in ap (of_bits w) (ap (λ n. n % 2 ^ w) e ∙ mod-eq_of_lt h)
unchanged_bits And w x wide h = ap (of_bits w) (and_mask x w ∙ mod-eq_of_lt h)
unchanged_bits Or w x wide h = ap (of_bits w) (or_comm x 0 ∙ or_zero_l x)
unchanged_bits Xor w x wide h = ap (of_bits w) (xor_comm x 0 ∙ xor_zero_l x)
unchanged_bits Smax w x wide h = kept _ _ _ (not_lt _ _ (least_le w x wide h))
unchanged_bits Smin w x wide h = kept _ _ _ (not_lt _ _ (le_greatest w x wide h))
unchanged_bits Umax w x wide h = kept _ _ _ (not_below x 0 (omega arith))
unchanged_bits Umin w x wide h = kept _ _ _ (not_below (2 ^ w - 1) x (omega arith))

unchanged : (op : RedOp) (w : ℕ) (a : Integer) → HasWidth w a → reduce op a (identity op w) ≡ a
unchanged op w a h =
    let wide : IsWidth w = rw (← h.width) h.integer.width in
    let small : a.bits < 2 ^ w = rw (← h.width) h.integer.bits in
    subst (λ (n : Integer). reduce op n (identity op w) ≡ n) (at_width w a h) (unchanged_bits op w a.bits wide small)

reduced_width : (op : RedOp) (w : ℕ) (a b : Integer) → HasWidth w a → HasWidth w b → HasWidth w (reduce op a b)
reduced_width op w a b ha hb = rw (← ha.width) (reduce_keeps_width op a b ha.integer hb.integer (ha.width ∙ sym hb.width))

-- a value may be put in before a fold or after it
fold_after : (op : RedOp) (w : ℕ) (v u : Integer) (xs : List Integer) → HasWidth w v → HasWidth w u → All (HasWidth w) xs → reduce op v (fold_from op u xs) ≡ fold_from op (reduce op v u) xs
fold_after op w v u [] hv hu all = refl
fold_after op w v u (x ∷ xs) hv hu all =
    let hx : HasWidth w x = All-head (HasWidth w) x xs all in
    fold_after op w v (reduce op u x) xs hv (reduced_width op w u x hu hx) (All-tail (HasWidth w) x xs all)
    ∙ ap (λ (n : Integer). fold_from op n xs) (sym (grouped op w v u x hv hu hx))

pub fold_first : (op : RedOp) (w : ℕ) (v : Integer) (xs : List Integer) → HasWidth w v → All (HasWidth w) xs → reduce op v (fold_from op (identity op w) xs) ≡ fold_from op v xs
fold_first op w v xs hv all =
    let wide : IsWidth w = rw (← hv.width) hv.integer.width in
    fold_after op w v (identity op w) xs hv (identity_has_width op w wide) all ∙ ap (λ (n : Integer). fold_from op n xs) (unchanged op w v hv)

pub fold_width : (op : RedOp) (w : ℕ) (v : Integer) (xs : List Integer) → HasWidth w v → All (HasWidth w) xs → HasWidth w (fold_from op v xs)
fold_width op w v [] hv all = hv
fold_width op w v (x ∷ xs) hv all = fold_width op w (reduce op v x) xs (reduced_width op w v x hv (All-head (HasWidth w) x xs all)) (All-tail (HasWidth w) x xs all)

pub fold_both : (op : RedOp) (v : Integer) (xs ys : List Integer) → fold_from op v (xs ++ ys) ≡ fold_from op (fold_from op v xs) ys
fold_both op v [] ys = refl
fold_both op v (x ∷ xs) ys = fold_both op (reduce op v x) xs ys
