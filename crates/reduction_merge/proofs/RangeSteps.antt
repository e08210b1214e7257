-- Where the range test passes, no step of an addition leaves a promised range.
use Rattle.std.proofs.Common.{◌≡◌, ℕ, ◌+◌, ◌-◌, ◌%◌, ◌^◌, ◌<◌, ◌≤◌, ◌⊎◌, inl, inr, ℤ, pos, negsuc, neg_ℤ, ◌+ℤ◌, ◌≤ℤ◌, ◌<ℤ◌, Bool, true, false, not, ◌&&◌, ◌||◌, List, [], ◌∷◌, sum_by, Ok, refl, sym, ap, subst, ◌∙◌, arith, All, nat_lt}
use Rattle.std.specs.Prelude.{int_lt, int_le}
use Rattle.std.proofs.lemmas.Bool.{cases_lt}
use Rattle.std.proofs.lemmas.Bool.Decides.{nat_tests}
use Rattle.std.proofs.lemmas.Int.{ints}
use Rattle.std.proofs.lemmas.List.Elements.{All-head, All-tail}
use Rattle.std.proofs.lemmas.List.Sums.{sum_by-append}
use Rattle.std.proofs.lemmas.List.Sorted.{sum_by-IsPermutation, All-permutation}
use Rattle.std.proofs.Math.Nat.{mod-eq_of_lt, add-mod_right}
use Rattle.std.specs.List.Sorted.{IsPermutation}
use Rattle.int_num.specs.Integer.{Integer, IsWidth, IsInteger, HasWidth, signed}
use Rattle.int_num.specs.Operations.{of_bits, add, modulo, keeps, fits_unsigned, fits_signed}
use Rattle.int_num.specs.Reductions.{reduce}
use Rattle.int_num.specs.declared.ops.RedOp.TheVariants.{Add}
use Rattle.int_num.specs.declared.ops.Flags.{Flags}
use Rattle.int_num.specs.declared.ops.Poison.TheVariants.{Overflow}
use Rattle.int_num.proofs.Powers.{powers}
use Rattle.int_num.proofs.Residues.{residue_pos}
use Rattle.int_num.proofs.Signs.{signed_low, signed_high}
use Rattle.int_num.proofs.Widths.{reduce_keeps_width}
use Rattle.reduction_merge.specs.Partials.{PartialOf, stays_in_range}
use Rattle.reduction_merge.specs.Operands.{IsPartialOf, AddsUp, RangeLaw, up, down}

-- the range test, on a list of operands
pub record Stays (flags : Flags) (w : ℕ) (v : Integer) (xs : List Integer) : Type 0 where
  pub unsigned : flags.nuw ≡ true → v.bits + sum_by (λ x. x.bits) xs < 2 ^ w
  pub most : flags.nsw ≡ true → (signed v +ℤ pos (sum_by (λ x. up (signed x)) xs)) <ℤ pos (2 ^ (w - 1))
  pub least : flags.nsw ≡ true → neg_ℤ (pos (2 ^ (w - 1))) ≤ℤ (signed v +ℤ neg_ℤ (pos (sum_by (λ x. down (signed x)) xs)))

and_parts : (a b : Bool) → (a && b) ≡ true → (a ≡ true) × (b ≡ true)
and_parts true b e = (refl, e)
and_parts false b e = absurd (cc)

or_part : (p a : Bool) → (not p || a) ≡ true → p ≡ true → a ≡ true
or_part true a e h = e
or_part false a e h = absurd (cc)

lt_of : (a b : ℤ) → int_lt a b ≡ true → a <ℤ b
lt_of a b h = grind (arith, ints)

le_of : (a b : ℤ) → int_le a b ≡ true → a ≤ℤ b
le_of a b h = grind (arith, ints)

below_of : (a b : ℕ) → nat_lt a b ≡ true → a < b
below_of a b h = grind (arith, nat_tests)

stays_from : (p : PartialOf) (xs : List Integer) (first : Integer) → IsPartialOf p xs → stays_in_range p first ≡ true → Stays p.flags p.width first xs
stays_from p xs first of e =
    let both = and_parts _ _ e in
    record {
      unsigned = λ h. rw (← of.unsigned) (below_of _ _ (or_part p.flags.nuw _ both.0 h));
      most = λ h. rw (← of.positive) (lt_of _ _ (and_parts _ _ (or_part p.flags.nsw _ both.1 h)).0);
      least = λ h. rw (← of.negative) (le_of _ _ (and_parts _ _ (or_part p.flags.nsw _ both.1 h)).1);
    }

stays_permuted : (flags : Flags) (w : ℕ) (v : Integer) (xs ys : List Integer) → IsPermutation xs ys → Stays flags w v xs → Stays flags w v ys
stays_permuted flags w v xs ys moved s =
    let bits = sum_by-IsPermutation (λ x. x.bits) xs ys moved in
    let ups = sum_by-IsPermutation (λ x. up (signed x)) xs ys moved in
    let downs = sum_by-IsPermutation (λ x. down (signed x)) xs ys moved in
    record {
      unsigned = λ h. let a = s.unsigned h in omega arith;
      most = λ h. let a = s.most h in omega (arith, ints);
      least = λ h. let a = s.least h in omega (arith, ints);
    }

split : (z : ℤ) → z ≡ pos (up z) +ℤ neg_ℤ (pos (down z))
split (pos n) = omega (arith, ints)
split (negsuc n) = omega (arith, ints)

wrapped : (m x : ℕ) → m ≤ x → x < m + m → x % m ≡ x - m
wrapped m x h k = let e : x - m + m ≡ x = omega arith in ap (λ z. z % m) (sym e) ∙ (add-mod_right (x - m) m ∙ mod-eq_of_lt (omega arith))

-- the sum's signed value, where it fits
signed_sum : (w a b : ℕ) → IsWidth w → a < 2 ^ w → b < 2 ^ w → (signed (of_bits w a) +ℤ signed (of_bits w b)) <ℤ pos (2 ^ (w - 1)) → neg_ℤ (pos (2 ^ (w - 1))) ≤ℤ (signed (of_bits w a) +ℤ signed (of_bits w b))
    → signed (of_bits w ((a + b) % 2 ^ w)) ≡ signed (of_bits w a) +ℤ signed (of_bits w b)
signed_sum w a b wide k l p q = go (cases_lt a (2 ^ (w - 1))) (cases_lt b (2 ^ (w - 1))) (cases_lt (a + b) (2 ^ w))
  where
    at : (n : ℕ) → n < 2 ^ w → IsInteger (of_bits w n)
    at n h = record { width = wide; bits = h }

    go : (a < 2 ^ (w - 1)) ⊎ (2 ^ (w - 1) ≤ a) → (b < 2 ^ (w - 1)) ⊎ (2 ^ (w - 1) ≤ b) → (a + b < 2 ^ w) ⊎ (2 ^ w ≤ a + b) → signed (of_bits w ((a + b) % 2 ^ w)) ≡ signed (of_bits w a) +ℤ signed (of_bits w b)
    go (inl x) (inl y) z =
        let h = powers w wide in
        let e = signed_low (of_bits w a) x wide in
        let f = signed_low (of_bits w b) y wide in
        let g : (a + b) % 2 ^ w ≡ a + b = mod-eq_of_lt (omega arith) in
        let r : a + b < 2 ^ (w - 1) = omega (arith, ints) in
        ap (λ n. signed (of_bits w n)) g ∙ (signed_low (of_bits w (a + b)) r wide ∙ omega (arith, ints))
    go (inl x) (inr y) (inl z) =
        let h = powers w wide in
        let e = signed_low (of_bits w a) x wide in
        let f = signed_high (of_bits w b) y (at b l) in
        let g : (a + b) % 2 ^ w ≡ a + b = mod-eq_of_lt z in
        ap (λ n. signed (of_bits w n)) g ∙ (signed_high (of_bits w (a + b)) (omega arith) (at (a + b) z) ∙ omega (arith, ints))
    go (inl x) (inr y) (inr z) =
        let h = powers w wide in
        let e = signed_low (of_bits w a) x wide in
        let f = signed_high (of_bits w b) y (at b l) in
        let g = wrapped (2 ^ w) (a + b) z (omega arith) in
        ap (λ n. signed (of_bits w n)) g ∙ (signed_low (of_bits w (a + b - 2 ^ w)) (omega arith) wide ∙ omega (arith, ints))
    go (inr x) (inl y) (inl z) =
        let h = powers w wide in
        let e = signed_high (of_bits w a) x (at a k) in
        let f = signed_low (of_bits w b) y wide in
        let g : (a + b) % 2 ^ w ≡ a + b = mod-eq_of_lt z in
        ap (λ n. signed (of_bits w n)) g ∙ (signed_high (of_bits w (a + b)) (omega arith) (at (a + b) z) ∙ omega (arith, ints))
    go (inr x) (inl y) (inr z) =
        let h = powers w wide in
        let e = signed_high (of_bits w a) x (at a k) in
        let f = signed_low (of_bits w b) y wide in
        let g = wrapped (2 ^ w) (a + b) z (omega arith) in
        ap (λ n. signed (of_bits w n)) g ∙ (signed_low (of_bits w (a + b - 2 ^ w)) (omega arith) wide ∙ omega (arith, ints))
    go (inr x) (inr y) z =
        let h = powers w wide in
        let e = signed_high (of_bits w a) x (at a k) in
        let f = signed_high (of_bits w b) y (at b l) in
        let g = wrapped (2 ^ w) (a + b) (omega arith) (omega arith) in
        let n : a + b - 2 ^ w < 2 ^ w = omega arith in
        ap (λ n. signed (of_bits w n)) g ∙ (signed_high (of_bits w (a + b - 2 ^ w)) (omega (arith, ints)) (at (a + b - 2 ^ w) n) ∙ omega (arith, ints))

fits_u : (w n : ℕ) → n < 2 ^ w → fits_unsigned w (pos n) ≡ true
unfolding fits_unsigned
fits_u w n h = grind (arith, ints)

fits_s : (w : ℕ) (z : ℤ) → z <ℤ pos (2 ^ (w - 1)) → neg_ℤ (pos (2 ^ (w - 1))) ≤ℤ z → fits_signed w z ≡ true
unfolding fits_signed
fits_s w z h k = grind (arith, ints)

or_given : (p a : Bool) → (p ≡ true → a ≡ true) → (not p || a) ≡ true
or_given true a h = h refl
or_given false a h = refl

kept_ok : (flags : Flags) (u s : Bool) (n : Integer) → (flags.nuw ≡ true → u ≡ true) → (flags.nsw ≡ true → s ≡ true) → keeps Overflow flags u s n ≡ Ok n
unfolding keeps
kept_ok flags u s n h k = rw (or_given flags.nuw u h, or_given flags.nsw s k) refl

sum_of : (a x : Integer) → reduce Add a x ≡ of_bits a.width ((a.bits + x.bits) % 2 ^ a.width)
unfolding reduce
sum_of a x = refl

modulo_of : (w a b : ℕ) → modulo w (pos a +ℤ pos b) ≡ of_bits w ((a + b) % 2 ^ w)
modulo_of w a b = ap (of_bits w) (residue_pos w (a + b))

sum_cons : (f : Integer → ℕ) (x : Integer) (xs : List Integer) → sum_by f (x ∷ xs) ≡ f x + sum_by f xs
sum_cons f x xs = let e = sum_by-append f (x ∷ []) xs in omega arith

-- one operand: the addition keeps what is promised, and the rest of the operands may follow
module _ (flags : Flags) (w : ℕ) (v x : Integer) (xs : List Integer) (hv : HasWidth w v) (hx : HasWidth w x) (s : Stays flags w v (x ∷ xs)) where
  vw : v.width ≡ w
  vw = hv.width

  high : flags.nsw ≡ true → (signed v +ℤ signed x) <ℤ pos (2 ^ (w - 1))
  high h = let u = sum_cons (λ n. up (signed n)) x xs in let a = s.most h in let e = split (signed x) in omega (arith, ints)

  low : flags.nsw ≡ true → neg_ℤ (pos (2 ^ (w - 1))) ≤ℤ (signed v +ℤ signed x)
  low h = let u = sum_cons (λ n. down (signed n)) x xs in let a = s.least h in let e = split (signed x) in omega (arith, ints)

  in_bits : flags.nuw ≡ true → v.bits + x.bits < 2 ^ w
  in_bits h = let u = sum_cons (λ n. n.bits) x xs in let a = s.unsigned h in omega arith

  pub step_ok : add flags v x ≡ Ok (reduce Add v x)
  step_ok =
      let u : flags.nuw ≡ true → fits_unsigned v.width (pos v.bits +ℤ pos x.bits) ≡ true = λ h. rw vw (fits_u w (v.bits + x.bits) (in_bits h)) in
      let z : flags.nsw ≡ true → fits_signed v.width (signed v +ℤ signed x) ≡ true = λ h. subst (λ (k : ℕ). fits_signed k (signed v +ℤ signed x) ≡ true) (sym vw) (fits_s w (signed v +ℤ signed x) (high h) (low h)) in
      kept_ok flags _ _ _ u z ∙ ap Ok (modulo_of v.width v.bits x.bits ∙ sym (sum_of v x))

  signed_next : flags.nsw ≡ true → signed (reduce Add v x) ≡ signed v +ℤ signed x
  signed_next h =
      let wide : IsWidth v.width = hv.integer.width in
      let same : x.width ≡ v.width = hx.width ∙ sym hv.width in
      let bx : x.bits < 2 ^ v.width = rw (← same) hx.integer.bits in
      let of_x : signed (of_bits v.width x.bits) ≡ signed x = ap (λ (k : ℕ). signed (of_bits k x.bits)) (sym same) in
      let top : (signed (of_bits v.width v.bits) +ℤ signed (of_bits v.width x.bits)) <ℤ pos (2 ^ (v.width - 1)) = subst (λ (z : ℤ). (signed v +ℤ z) <ℤ pos (2 ^ (v.width - 1))) (sym of_x) (subst (λ (k : ℕ). (signed v +ℤ signed x) <ℤ pos (2 ^ (k - 1))) (sym vw) (high h)) in
      let bottom : neg_ℤ (pos (2 ^ (v.width - 1))) ≤ℤ (signed (of_bits v.width v.bits) +ℤ signed (of_bits v.width x.bits)) = subst (λ (z : ℤ). neg_ℤ (pos (2 ^ (v.width - 1))) ≤ℤ (signed v +ℤ z)) (sym of_x) (subst (λ (k : ℕ). neg_ℤ (pos (2 ^ (k - 1))) ≤ℤ (signed v +ℤ signed x)) (sym vw) (low h)) in
      ap signed (sum_of v x) ∙ (signed_sum v.width v.bits x.bits wide hv.integer.bits bx top bottom ∙ ap (λ (z : ℤ). signed v +ℤ z) of_x)

  pub stays_next : Stays flags w (reduce Add v x) xs
  stays_next = record {
    unsigned = λ h.
        let u = sum_cons (λ n. n.bits) x xs in
        let a = s.unsigned h in
        let m : (v.bits + x.bits) % 2 ^ w ≡ v.bits + x.bits = mod-eq_of_lt (in_bits h) in
        rw (sum_of v x, vw, m) (omega arith);
    most = λ h. let u = sum_cons (λ n. up (signed n)) x xs in let a = s.most h in let e = split (signed x) in rw (signed_next h) (omega (arith, ints));
    least = λ h. let u = sum_cons (λ n. down (signed n)) x xs in let a = s.least h in let e = split (signed x) in rw (signed_next h) (omega (arith, ints));
  }

next_width : (w : ℕ) (v x : Integer) → HasWidth w v → HasWidth w x → HasWidth w (reduce Add v x)
next_width w v x hv hx = rw (← hv.width) (reduce_keeps_width Add v x hv.integer hx.integer (hv.width ∙ sym hx.width))

adds_up : (flags : Flags) (w : ℕ) (v : Integer) (xs : List Integer) → HasWidth w v → All (HasWidth w) xs → Stays flags w v xs → AddsUp flags v xs
adds_up flags w v [] hv all s = tt
adds_up flags w v (x ∷ xs) hv all s =
    let hx : HasWidth w x = All-head (HasWidth w) x xs all in
    (step_ok flags w v x xs hv hx s, adds_up flags w (reduce Add v x) xs (next_width w v x hv hx) (All-tail (HasWidth w) x xs all) (stays_next flags w v x xs hv hx s))

pub range_law : RangeLaw
range_law p xs ys first of hf all e moved =
    adds_up p.flags p.width first ys hf (All-permutation (HasWidth p.width) xs ys moved all) (stays_permuted p.flags p.width first xs ys moved (stays_from p xs first of e))
