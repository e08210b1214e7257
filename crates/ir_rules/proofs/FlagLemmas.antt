-- Flags of constants, found one after another.
use Rattle.std.proofs.Common.{◌≡◌, ℕ, ◌<◌, ◌≤◌, ◌+◌, Bool, true, List, [], ◌∷◌, ◌++◌, map, length, refl, sym, ap, ◌∙◌, arith, inl, inr}
use Rattle.std.specs.Prelude.{◌||◌}
use Rattle.std.specs.List.{list_all, list_any}
use Rattle.std.proofs.lemmas.Bool.{cases_lt}
use Rattle.std.proofs.lemmas.List.{length_push}
use Rattle.std.proofs.lemmas.Option.{slice_get_past}
use Rattle.std.proofs.Math.ListN.{get_or-eq_default, get_or-append}
use Rattle.std.proofs.Math.Seq.{get_or-append_seam}
use Rattle.ir_tree.specs.declared.nodes.Element.{Element}
use Rattle.ir_tree.specs.Table.{Table}
use Rattle.ir_tree.specs.Trees.{TypeV, ConstantV, NullC}
use Rattle.ir_tree.specs.Naming.{constant_at, elements_by}
use Rattle.ir_rules.specs.Seen.{ModuleV}
use Rattle.ir_rules.specs.Constants.{names_known, all_known}
use Rattle.ir_rules.specs.Heads.{constant_below, flag_at, FlagsBelow, AreFlags}
use Rattle.ir_rules.proofs.ConstantLemmas.{below_is, below_past, constant_none}

pub any_of : {X Y : Type 0} (p : Y → Bool) (h : X → Y) (xs : List X) → list_any p (map h xs) ≡ list_any (λ x. p (h x)) xs
any_of p h [] = refl
any_of p h (x ∷ xs) = ap (λ b. p (h x) || b) (any_of p h xs)

pub all_known_is : (t : Table) (m : ModuleV) (flags : List Bool) (type : ℕ → TypeV) (es : List Element) → FlagsBelow t (names_known m) flags → all_known m (elements_by type (constant_below t (length flags)) es) ≡ list_all (λ e. flag_at flags e.value) es
unfolding all_known
all_known_is t m flags type [] b = refl
all_known_is t m flags type (e ∷ es) b = rw (← b.each e.value, all_known_is t m flags type es b) refl

kept : (t : Table) (flags : List Bool) (flag : Bool) (i : ℕ) → i < length flags → (flag_at (flags ++ flag ∷ []) i ≡ flag_at flags i) × (constant_below t (length flags + 1) i ≡ constant_below t (length flags) i)
kept t flags flag i lt = (get_or-append flags (flag ∷ []) true i lt, below_is t (length flags + 1) i (omega arith) ∙ sym (below_is t (length flags) i lt))

pub no_flags : (t : Table) (holds : ConstantV → Bool) → holds NullC ≡ true → FlagsBelow t holds []
no_flags t holds null = record { each = λ i. rw (below_past t 0 i (omega arith)) (sym null) }

-- one more flag
pub flags_more : (t : Table) (holds : ConstantV → Bool) (flags : List Bool) (flag : Bool) → holds NullC ≡ true → FlagsBelow t holds flags → flag ≡ holds (constant_at t (length flags)) → FlagsBelow t holds (flags ++ flag ∷ [])
flags_more t holds flags flag null b is = record {
  each = λ i. rw (length_push flags flag) (
      elim (cases_lt i (length flags)) [
        | inl lt ↦ let k = kept t flags flag i lt in rw (k.0, k.1) (b.each i)
        | inr ge ↦
            elim (cases_lt (length flags) i) [
              | inl gt ↦
                  let len : length (flags ++ flag ∷ []) ≡ length flags + 1 = length_push flags flag in
                  rw (get_or-eq_default (flags ++ flag ∷ []) true {n = i} (omega arith), below_past t (length flags + 1) i (omega arith)) (sym null)
              | inr le ↦
                  let e : i ≡ length flags = omega arith in
                  rw (e, get_or-append_seam flags flag [] true, below_is t (length flags + 1) (length flags) (omega arith)) is
            ]
      ]);
}

whole_at : (t : Table) (k i : ℕ) → length t.constants ≤ k → constant_below t k i ≡ constant_at t i
whole_at t k i len =
    elim (cases_lt i k) [
      | inl lt ↦ below_is t k i lt
      | inr ge ↦ below_past t k i ge ∙ sym (constant_none t i (slice_get_past t.constants i (omega arith)))
    ]

pub flags_whole : (t : Table) (holds : ConstantV → Bool) (flags : List Bool) → length t.constants ≤ length flags → FlagsBelow t holds flags → AreFlags t holds flags
flags_whole t holds flags len b = record { each = λ i. rw (← whole_at t (length flags) i len) (b.each i) }

pub known_null : (m : ModuleV) → names_known m NullC ≡ true
unfolding names_known
known_null m = refl
