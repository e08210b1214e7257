-- Numbers modulo 2^64.
use Rattle.std.proofs.Common.{◌≡◌, ◌∙◌, ◌^◌, ◌<◌, ℕ, refl, sym, ap, arith, Ok, of_z, to_z}
use Rattle.std.specs.Prelude.{ℤ, pos, negsuc, ◌+ℤ◌, ◌*ℤ◌, unsigned_abs, FitsSigned}
use Rattle.std.specs.Int.{w64, w128, int_wrap, int_rem_euclid, cast_signed}
use Rattle.mem_image.specs.declared.object.Pointer.{Pointer as Address}
use Rattle.mem_image.specs.declared.object.Pointer.TheVariants.{Null, Obj, Fun}
use Rattle.std.proofs.lemmas.Int.{ints, int_wrap-mul_right, int_wrap-add_right, of_z-to_z, to_z-of_z}
use Rattle.std.proofs.lemmas.Bool.Decides.{nat_tests}
use Rattle.int_num.specs.Integer.{signed_of}
use Rattle.int_num.specs.Operations.{residue}
use Rattle.seq_effects.specs.Accesses.{wrapped, moved}

residue_is : (z : ℤ) → residue 64 z ≡ unsigned_abs (int_rem_euclid z (pos (2 ^ 64)))
unfolding residue
residue_is (pos n) = refl
residue_is (negsuc n) = refl

residue_fits : (z : ℤ) → residue 64 z < 2 ^ 64
unfolding residue
residue_fits (pos n) = omega arith
residue_fits (negsuc n) = omega arith

signed_is : (r : ℕ) → r < 2 ^ 64 → signed_of 64 r ≡ cast_signed w64 r
signed_is r h = grind (arith, ints, nat_tests)

-- what is left modulo 2^64, as a signed number
pub wrapped_is : (z : ℤ) → wrapped z ≡ int_wrap w64 z
unfolding int_wrap
wrapped_is z = signed_is (residue 64 z) (residue_fits z) ∙ ap (cast_signed w64) (residue_is z)

whole : int_wrap w64 (pos (2 ^ 128)) ≡ pos 0
unfolding int_wrap
whole = refl

nothing : int_wrap w64 (pos 0) ≡ pos 0
unfolding int_wrap
nothing = refl

times_zero : (t : ℤ) → t *ℤ pos 0 ≡ pos 0
times_zero t = omega (arith, ints)

turns_vanish : (t : ℤ) → int_wrap w64 (t *ℤ pos (2 ^ 128)) ≡ pos 0
turns_vanish t = sym (int_wrap-mul_right w64 t (pos (2 ^ 128))) ∙ ap (λ w. int_wrap w64 (t *ℤ w)) whole ∙ ap (int_wrap w64) (times_zero t) ∙ nothing

plus_zero : (z : ℤ) → z +ℤ pos 0 ≡ z
plus_zero z = omega (arith, ints)

-- turns of 2^128 leave nothing modulo 2^64
pub low_wraps : (low t : ℤ) → int_wrap w64 (low +ℤ t *ℤ pos (2 ^ 128)) ≡ int_wrap w64 low
low_wraps low t =
    sym (int_wrap-add_right w64 low (t *ℤ pos (2 ^ 128))) ∙ ap (λ w. int_wrap w64 (low +ℤ w)) (turns_vanish t) ∙ ap (int_wrap w64) (plus_zero low)

-- an address that is moved, from its offset
pub moved_offset : (offset z : ℤ) → wrapped (offset +ℤ z) ≡ int_wrap w64 (offset +ℤ wrapped z)
moved_offset offset z = wrapped_is (offset +ℤ z) ∙ sym (int_wrap-add_right w64 offset z) ∙ ap (λ w. int_wrap w64 (offset +ℤ w)) (sym (wrapped_is z))

wrapped_bits : (z : ℤ) → of_z w64 (wrapped z) ≡ residue 64 z
wrapped_bits z = ap (of_z w64) (signed_is (residue 64 z) (residue_fits z)) ∙ of_z-to_z w64 (residue 64 z) (residue_fits z)

no_residue : (z w : ℤ) → w ≡ wrapped z → of_z w64 w ≡ 0 → residue 64 z ≡ 0
no_residue z w e n = sym (wrapped_bits z) ∙ ap (of_z w64) (sym e) ∙ n

-- what has no bytes stays where it is
pub stays : (p : Address) (z w : ℤ) → ((n : ℕ) (o : ℤ) → p ≡ Obj n o → ⊥) → w ≡ wrapped z → of_z w64 w ≡ 0 → Ok p ≡ moved p z
stays Null z w other e n = rw (no_residue z w e n) refl
stays (Fun index) z w other e n = rw (no_residue z w e n) refl
stays (Obj name offset) z w other e n = absurd (other name offset refl)

wrap_cast : (low : ℤ) → cast_signed w64 (unsigned_abs (int_rem_euclid low (pos (2 ^ 64)))) ≡ int_wrap w64 low
unfolding int_wrap
wrap_cast low = refl

-- the sum's low part, cut to 64 bits
pub wrapped_of : (low t r z : ℤ) → FitsSigned w128 low → r ≡ int_rem_euclid (to_z w128 (of_z w128 low)) (pos (2 ^ 64)) → FitsSigned w128 r → z ≡ to_z w64 (unsigned_abs (to_z w128 (of_z w128 r))) → FitsSigned w64 z → to_z w64 (of_z w64 z) ≡ wrapped (low +ℤ t *ℤ pos (2 ^ 128))
wrapped_of low t r z fl er fr ez fz =
    to_z-of_z w64 z fz ∙ ez ∙ ap (λ x. cast_signed w64 (unsigned_abs x)) (to_z-of_z w128 r fr ∙ er) ∙ ap (λ x. cast_signed w64 (unsigned_abs (int_rem_euclid x (pos (2 ^ 64))))) (to_z-of_z w128 low fl) ∙ wrap_cast low
    ∙ sym (low_wraps low t) ∙ sym (wrapped_is (low +ℤ t *ℤ pos (2 ^ 128)))
