-- The predicate that leads in.
use Rattle.std.proofs.Common.{ℕ, ◌≡◌, Bool, true, false, refl, sym, ap, ◌∙◌, arith}
use Rattle.std.specs.Prelude.{ℤ, not, nat_eq, nat_lt, nat_le, int_lt, int_le, if◌then◌else◌}
use Rattle.std.proofs.lemmas.Int.{ints}
use Rattle.std.proofs.lemmas.Bool.Decides.{nat_tests}
use Rattle.int_num.specs.Integer.{Integer, signed}
use Rattle.int_num.specs.Operations.{compare}
use Rattle.int_num.specs.declared.ops.Pred.{Pred}
use Rattle.int_num.specs.declared.ops.Pred.TheVariants.{Eq, Ne, Ugt, Uge, Ult, Ule, Sgt, Sge, Slt, Sle}
use Rattle.turn_count.specs.Arcs.{swapped, negated, leading}
use Rattle.turn_count.specs.Turns.{leads_in}
use Rattle.turn_count.specs.declared.test.Test.{Test}

same : (a b : ℕ) → nat_eq a b ≡ nat_eq b a
same a b = grind (arith, nat_tests)

not_not : (b : Bool) → b ≡ not (not b)
not_not true = refl
not_not false = refl

not_lt : (a b : ℕ) → nat_le b a ≡ not (nat_lt a b)
not_lt a b = grind (arith, nat_tests)

not_le : (a b : ℕ) → nat_lt b a ≡ not (nat_le a b)
not_le a b = grind (arith, nat_tests)

int_not_lt : (a b : ℤ) → int_le b a ≡ not (int_lt a b)
int_not_lt a b = grind (arith, ints, nat_tests)

int_not_le : (a b : ℤ) → int_lt b a ≡ not (int_le a b)
int_not_le a b = grind (arith, ints, nat_tests)

swapped_law : (pred : Pred) (a b : Integer) → compare (swapped pred) a b ≡ compare pred b a
unfolding compare swapped
swapped_law Eq a b = same a.bits b.bits
swapped_law Ne a b = ap not (same a.bits b.bits)
swapped_law Ugt a b = refl
swapped_law Uge a b = refl
swapped_law Ult a b = refl
swapped_law Ule a b = refl
swapped_law Sgt a b = refl
swapped_law Sge a b = refl
swapped_law Slt a b = refl
swapped_law Sle a b = refl

negated_law : (pred : Pred) (a b : Integer) → compare (negated pred) a b ≡ not (compare pred a b)
unfolding compare negated
negated_law Eq a b = refl
negated_law Ne a b = not_not (nat_eq a.bits b.bits)
negated_law Ugt a b = not_lt b.bits a.bits
negated_law Uge a b = not_le b.bits a.bits
negated_law Ult a b = not_lt a.bits b.bits
negated_law Ule a b = not_le a.bits b.bits
negated_law Sgt a b = int_not_lt (signed b) (signed a)
negated_law Sge a b = int_not_le (signed b) (signed a)
negated_law Slt a b = int_not_lt (signed a) (signed b)
negated_law Sle a b = int_not_le (signed a) (signed b)

on_side : (left : Bool) (pred : Pred) (value bound : Integer) → (if left then compare pred value bound else compare pred bound value) ≡ compare (if left then pred else swapped pred) value bound
on_side true pred value bound = refl
on_side false pred value bound = sym (swapped_law pred value bound)

on_answer : (into : Bool) (pred : Pred) (value bound : Integer) → (if into then compare pred value bound else not (compare pred value bound)) ≡ compare (if into then pred else negated pred) value bound
on_answer true pred value bound = refl
on_answer false pred value bound = sym (negated_law pred value bound)

pub leading_law : (test : Test) (bound value : Integer) → leads_in test bound value ≡ compare (leading test) value bound
unfolding leading
leading_law test bound value =
    ap (λ h. if test.into_on then h else not h) (on_side test.tested_left test.pred value bound) ∙ on_answer test.into_on (if test.tested_left then test.pred else swapped test.pred) value bound
