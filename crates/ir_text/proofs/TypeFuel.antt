-- More depth than there are tokens changes nothing.
use Rattle.std.proofs.Common.{◌≡◌, ℕ, zero, suc, ◌≤◌, length, arith, true, false, List, [], ◌∷◌, Ok, Err, refl, ap, ◌∙◌}
use Rattle.ir_tree.specs.Trees.{TypeV, ArrayV, StructV}
use Rattle.ir_tree.specs.Naming.{listed}
use Rattle.ir_text.specs.declared.fault.Fault.TheVariants.{Ended}
use Rattle.ir_text.specs.Tokens.{TokenV}
use Rattle.ir_text.specs.Reading.{Outcome, Reader, ◌>>=◌}
use Rattle.ir_text.specs.Lawful.{anything, Lawful}
use Rattle.ir_text.specs.Leaves.{mark_at}
use Rattle.ir_text.specs.Types.{Known, header_at, array_rule, struct_rule, packed_rule, type_rule, type_to, type_at}
use Rattle.ir_text.specs.TypeSpelled.{a_type}
use Rattle.ir_text.proofs.Persisting.{counted, shortens}
use Rattle.ir_text.proofs.Agreeing.{bind_agree, keeps, Agree, Shortens, mark_keeps, list_agree}
use Rattle.ir_text.proofs.TypeLaws.{a_header, header_laws, type_opens, depth_laws}

module _ (known : Known) where
  pub to_less : (k : ℕ) → Shortens (type_to known k)
  to_less k ts x e = shortens 0 anything (type_to known k) (a_type known) (depth_laws known 0 k (omega arith)) (λ a ws s. let o = type_opens known a ws s in omega (arith, ap length o.parts)) ts x e

  header_keeps : (ts : List TokenV) (x : ℕ × List TokenV) → header_at ts ≡ Ok x → length x.1 ≤ length ts
  header_keeps ts x e = keeps 0 anything header_at a_header (header_laws 0) ts x e

  module _ (k : ℕ) (r q : Reader TypeV) (same : Agree k r q) (less : Shortens r) where
    array_agree : Agree k (array_rule known r) (array_rule known q)
    array_agree ts few =
        bind_agree (header_at ts) (header_at ts) _ _ refl (λ many e.
        let fewer : length many.1 ≤ length ts = header_keeps ts many e in
        ap (λ (o : Outcome TypeV). o >>= λ of. mark_at 93 of.1 >>= λ close. Ok (ArrayV many.0 of.0, close.1)) (same many.1 (omega arith)))

    struct_agree : Agree k (struct_rule known r) (struct_rule known q)
    struct_agree ts few = ap (λ (o : Outcome (List TypeV)). o >>= λ fields. Ok (StructV false (listed fields.0), fields.1)) (list_agree k r q same less 125 ts few)

    packed_agree : Agree k (packed_rule known r) (packed_rule known q)
    packed_agree ts few =
        bind_agree (mark_at 123 ts) (mark_at 123 ts) _ _ refl (λ brace e.
        let fewer : length brace.1 ≤ length ts = mark_keeps 123 ts brace e in
        ap (λ (o : Outcome (List TypeV)). o >>= λ fields. mark_at 62 fields.1 >>= λ close. Ok (StructV true (listed fields.0), close.1)) (list_agree k r q same less 125 brace.1 (omega arith)))

    pub rule_agree : (t : TokenV) (rest : List TokenV) → length rest ≤ k → type_rule known r (t ∷ rest) ≡ type_rule known q (t ∷ rest)
    unfolding type_rule
    rule_agree t rest few = rw (array_agree rest few, struct_agree rest few, packed_agree rest few) refl

  pub type_same : (k m : ℕ) (ts : List TokenV) → length ts ≤ k → length ts ≤ m → type_to known k ts ≡ type_to known m ts
  unfolding type_to type_rule
  type_same zero zero ts le lt = refl
  type_same zero (suc m) [] le lt = refl
  type_same zero (suc m) (t ∷ rest) le lt = absurd (omega arith)
  type_same (suc k) zero [] le lt = refl
  type_same (suc k) zero (t ∷ rest) le lt = absurd (omega arith)
  type_same (suc k) (suc m) [] le lt = refl
  type_same (suc k) (suc m) (t ∷ rest) le lt = rule_agree (length rest) (type_to known k) (type_to known m) (λ us few. type_same k m us (omega arith) (omega arith)) (to_less k) t rest (omega arith)

  -- the laws of types, however deep
  pub type_laws : (n : ℕ) → Lawful n anything (type_at known) (a_type known)
  unfolding type_at
  type_laws n = counted n anything (type_to known) (a_type known) type_same (λ k le. depth_laws known n k le)

  pub at_less : Shortens (type_at known)
  at_less ts x e = shortens 0 anything (type_at known) (a_type known) (type_laws 0) (λ a ws s. let o = type_opens known a ws s in omega (arith, ap length o.parts)) ts x e

  -- ---- with no depth

  pub type_none : type_at known [] ≡ Err Ended
  unfolding type_at type_to
  type_none = refl

  pub type_is : (t : TokenV) (rest : List TokenV) → type_at known (t ∷ rest) ≡ type_rule known (type_at known) (t ∷ rest)
  type_is t rest =
      let one : type_at known (t ∷ rest) ≡ type_rule known (type_to known (length rest)) (t ∷ rest) = unfold type_at in unfold type_to in refl in
      one ∙ rule_agree (length rest) (type_to known (length rest)) (type_at known) (λ us few. unfold type_at in type_same (length rest) (length us) us few (omega arith)) (to_less (length rest)) t rest (omega arith)
