-- The numbers of a switch that is spelled differ.
use Rattle.std.proofs.Common.{◌≡◌, ℕ, Bool, true, false, List, [], ◌∷◌, Option, Some, None, refl, sym, ap, ◌∙◌, eqb-true}
use Rattle.std.specs.Prelude.{map, nat_eq, filter_map}
use Rattle.std.specs.List.{list_any}
use Rattle.std.proofs.lemmas.Bool.{or_from, or_left, or_right, eq-eqb}
use Rattle.pv_base.specs.declared.name.Name.{Name}
use Rattle.ir_tree.specs.declared.instruction.Case.{Case}
use Rattle.ir_tree.specs.Trees.{TypeV, ConstantV, IntegerC, NullC, ZeroC, TextC, ArrayC, StructC, NameC, AddressC}
use Rattle.ir_text.specs.Tokens.{TokenV}
use Rattle.ir_text.specs.Repeated.{each_under}
use Rattle.ir_text.specs.Types.{Known}
use Rattle.ir_instr.specs.Control.{bits_of, met_before, with_bits, with_case}
use Rattle.ir_instr.specs.InstructionSpelled.{ACase}
use Rattle.ir_rules.specs.Constants.{constant_bits}
use Rattle.ir_rules.specs.Reading.{all_differ}

same_bits : (c : ConstantV) → bits_of c ≡ constant_bits c
same_bits (IntegerC n) = refl
same_bits NullC = refl
same_bits ZeroC = refl
same_bits (TextC bytes) = refl
same_bits (ArrayC es) = refl
same_bits (StructC packed es) = refl
same_bits (NameC name) = refl
same_bits (AddressC of base es) = refl

abbrev numbers_of : List (Case Name ConstantV) → List ℕ
numbers_of cases = filter_map constant_bits (map (λ c. c.value) cases)

-- the numbers differ, and none of them was met before
record Differ (earlier ns : List ℕ) : Type 0 where
  among : all_differ nat_eq ns ≡ true
  apart : (x : ℕ) → list_any (nat_eq x) earlier ≡ true → list_any (nat_eq x) ns ≡ false

differ_none : (earlier : List ℕ) → Differ earlier []
unfolding all_differ
differ_none earlier = record { among = refl; apart = λ x h. refl }

other : (x b : ℕ) (earlier : List ℕ) (t : Bool) → nat_eq x b ≡ t → list_any (nat_eq b) earlier ≡ false → list_any (nat_eq x) earlier ≡ true → nat_eq x b ≡ false
other x b earlier true e new old = let s : x ≡ b = eqb-true x b e in absurd (let h : true ≡ false = sym old ∙ ap (λ (y : ℕ). list_any (nat_eq y) earlier) s ∙ new in cc)
other x b earlier false e new old = e

differ_more : (b : ℕ) (earlier ns : List ℕ) → list_any (nat_eq b) earlier ≡ false → Differ (b ∷ earlier) ns → Differ earlier (b ∷ ns)
unfolding all_differ
differ_more b earlier ns new d = record {
  among = let none : list_any (nat_eq b) ns ≡ false = d.apart b (or_left (nat_eq b b) (list_any (nat_eq b) earlier) (eq-eqb b b refl)) in let h = d.among in rw (none, h) refl;
  apart = λ x h. or_from (nat_eq x b) (list_any (nat_eq x) ns) (other x b earlier (nat_eq x b) refl new h) (d.apart x (or_right (nat_eq x b) (list_any (nat_eq x) earlier) h));
}

differ_by : (o : Option ℕ) (c : ConstantV) (earlier : List ℕ) (cs : List ConstantV) → constant_bits c ≡ o → met_before earlier o ≡ false → Differ (with_bits earlier o) (filter_map constant_bits cs) → Differ earlier (filter_map constant_bits (c ∷ cs))
differ_by None c earlier cs is new d = rw is d
differ_by (Some b) c earlier cs is new d = rw is (differ_more b earlier (filter_map constant_bits cs) new d)

module _ (known : Known) (of : TypeV) where
  each_differs : (earlier : List ℕ) (cases : List (Case Name ConstantV)) (ws : List TokenV) → each_under (ACase known of) with_case earlier cases ws → Differ earlier (numbers_of cases)
  each_differs earlier [] ws s = differ_none earlier
  each_differs earlier (c ∷ cases) ws s =
      differ_by (bits_of c.value) c.value earlier (map (λ x. x.value) cases) (sym (same_bits c.value)) s.first_spells.fresh (each_differs (with_case earlier c) cases s.rest s.rest_spells)

  pub cases_differ : (cases : List (Case Name ConstantV)) (ws : List TokenV) → each_under (ACase known of) with_case [] cases ws → all_differ nat_eq (numbers_of cases) ≡ true
  cases_differ cases ws s = (each_differs [] cases ws s).among
