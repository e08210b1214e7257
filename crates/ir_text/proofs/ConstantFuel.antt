-- More depth than there are tokens changes nothing of a constant.
use Rattle.std.proofs.Common.{◌≡◌, ℕ, zero, suc, ◌+◌, ◌≤◌, length, arith, List, [], ◌∷◌, ◌++◌, Option, Some, None, Ok, Err, refl, ap, ◌∙◌}
use Rattle.std.proofs.lemmas.List.{length-append}
use Rattle.ir_tree.specs.Trees.{TypeV, ConstantV, AddressC}
use Rattle.ir_text.specs.declared.fault.Fault.TheVariants.{Ended}
use Rattle.ir_text.specs.declared.nested_constants.Bracket.{Bracket}
use Rattle.ir_text.specs.declared.nested_constants.Bracket.TheVariants as bracket
use Rattle.ir_text.specs.Tokens.{TokenV, is_mark}
use Rattle.ir_text.specs.Reading.{Outcome, Reader, ◌>>=◌, token_by}
use Rattle.ir_text.specs.Lawful.{anything, Lawful}
use Rattle.ir_text.specs.Leaves.{mark_at}
use Rattle.ir_text.specs.Lists.{after_comma}
use Rattle.ir_text.specs.Indices.{integer_type, Entry, Counted, Field, Never, entry_of}
use Rattle.ir_text.specs.Types.{Known, type_at}
use Rattle.ir_text.specs.Constants.{width_of}
use Rattle.ir_text.specs.NestedConstants.{Typed, elements_of, closing_mark, bracket_end, element_at, bracket_rule, packed_rule, address_start, counted_at, index_by, index_at, next_into, indices_end, base_end, address_rule, constant_rule, constant_to, constant_at}
use Rattle.ir_text.specs.ConstantSpelled.{a_constant}
use Rattle.ir_text.proofs.Persisting.{counted, shortens}
use Rattle.ir_text.proofs.Choices.{token_laws}
use Rattle.ir_text.proofs.Agreeing.{bind_agree, keeps, Agree, Shortens, mark_keeps, comma_less, list_agree, under_agree}
use Rattle.ir_text.proofs.TypeFuel.{at_less as type_less}
use Rattle.ir_text.proofs.ConstantLaws.{an_element, index_spelled, start_laws, element_laws, index_laws, index_some, depth_laws, some_tokens}

module _ (known : Known) where
  element_takers : (a : Typed) (ws : List TokenV) → an_element known a ws → 1 ≤ length ws
  element_takers a ws s =
      let least = some_tokens known (width_of a.0) a.1 s.rest s.rest_spells in
      let size : length ws ≡ length s.front + length s.rest = ap length s.parts ∙ length-append s.front s.rest in
      omega arith

  module _ (r : ℕ → Reader ConstantV) (laws : (w : ℕ) → Lawful 0 anything (r w) (a_constant known w)) where
    pub element_less : Shortens (element_at known r)
    element_less ts x e = shortens 0 anything (element_at known r) (an_element known) (element_laws known 0 r laws) element_takers ts x e

    rule_less : (w : ℕ) → Shortens (r w)
    rule_less w ts x e = shortens 0 anything (r w) (a_constant known w) (laws w) (λ a ws s. some_tokens known w a ws s) ts x e

    index_less : (entry : Entry) → Shortens (index_by known r entry)
    index_less entry ts x e = shortens 0 anything (index_by known r entry) (index_spelled known entry) (index_laws known 0 r laws entry) (λ a ws s. index_some known entry a ws s) ts x e

    pub index_comma_less : (into : Option TypeV) → Shortens (after_comma (index_at known r into))
    index_comma_less into = comma_less 0 (index_at known r into) (index_at known r into) (λ us few. refl) (index_less (entry_of known into))

  rules_laws : (k w : ℕ) → Lawful 0 anything (constant_to known k w) (a_constant known w)
  rules_laws k w = depth_laws known 0 k w (omega arith)

  module _ (k : ℕ) (r q : ℕ → Reader ConstantV) (same : (w : ℕ) → Agree k (r w) (q w)) (laws : (w : ℕ) → Lawful 0 anything (r w) (a_constant known w)) where
    element_agree : Agree k (element_at known r) (element_at known q)
    element_agree ts few =
        bind_agree (type_at known ts) (type_at known ts) _ _ refl (λ of e.
        let fewer : 1 + length of.1 ≤ length ts = type_less known ts of e in
        ap (λ (o : Outcome ConstantV). o >>= λ value. Ok ((of.0, value.0), value.1)) (same (width_of of.0) of.1 (omega arith)))

    bracket_agree : (kind : Bracket) → Agree k (bracket_rule known r kind) (bracket_rule known q kind)
    bracket_agree kind ts few = ap (λ (o : Outcome (List Typed)). o >>= λ all. bracket_end kind (elements_of all.0) all.1) (list_agree k (element_at known r) (element_at known q) element_agree (element_less r laws) (closing_mark kind) ts few)

    packed_agree : Agree k (packed_rule known r) (packed_rule known q)
    packed_agree ts few =
        bind_agree (mark_at 123 ts) (mark_at 123 ts) _ _ refl (λ brace e.
        let fewer : length brace.1 ≤ length ts = mark_keeps 123 ts brace e in
        bracket_agree bracket.Packed brace.1 (omega arith))

    counted_agree : Agree k (counted_at known r) (counted_at known q)
    counted_agree ts few =
        bind_agree (token_by integer_type ts) (token_by integer_type ts) _ _ refl (λ of e.
        let fewer : length of.1 ≤ length ts = keeps 0 anything (token_by integer_type) _ (token_laws 0 integer_type) ts of e in
        ap (λ (o : Outcome ConstantV). o >>= λ value. Ok ((of.0, value.0), value.1)) (same (width_of of.0) of.1 (omega arith)))

    index_agree : (entry : Entry) → Agree k (index_by known r entry) (index_by known q entry)
    index_agree (Counted into) = counted_agree
    index_agree (Field fields) = λ ts few. refl
    index_agree Never = λ ts few. refl

    index_comma_agree : (into : Option TypeV) → Agree k (after_comma (index_at known r into)) (after_comma (index_at known q into))
    index_comma_agree into ts few = bind_agree (mark_at 44 ts) (mark_at 44 ts) _ _ refl (λ x e. let fewer : length x.1 ≤ length ts = mark_keeps 44 ts x e in index_agree (entry_of known into) x.1 (omega arith))

    end_agree : (of : TypeV) (base : ConstantV) (front : List Typed) (into : Option TypeV) → Agree k (indices_end known r of base front into) (indices_end known q of base front into)
    unfolding indices_end
    end_agree of base front into ts few =
        ap (λ (o : Outcome (List Typed)). o >>= λ others. mark_at 41 others.1 >>= λ close. Ok (AddressC of base (elements_of (front ++ others.0)), close.1))
        (under_agree k (is_mark 44) (λ i. after_comma (index_at known r i)) (λ i. after_comma (index_at known q i)) (next_into known r) index_comma_agree (index_comma_less r laws) into ts few)

    base_agree : (of : TypeV) (x : ConstantV × List TokenV) → length x.1 ≤ k → base_end known r of x ≡ base_end known q of x
    unfolding base_end
    base_agree of x few =
        bind_agree (mark_at 44 x.1) (mark_at 44 x.1) _ _ refl (λ comma e.
        let fewer : length comma.1 ≤ length x.1 = mark_keeps 44 x.1 comma e in
        bind_agree (counted_at known r comma.1) (counted_at known q comma.1) _ _ (counted_agree comma.1 (omega arith)) (λ first d.
        let less : 1 + length first.1 ≤ length comma.1 = index_less r laws (Counted None) comma.1 first d in
        end_agree of x.0 (first.0 ∷ []) (Some of) first.1 (omega arith)))

    address_agree : Agree k (address_rule known r) (address_rule known q)
    address_agree ts few =
        bind_agree (address_start known ts) (address_start known ts) _ _ refl (λ of e.
        let fewer : length of.1 ≤ length ts = keeps 0 anything (address_start known) _ (start_laws known 0) ts of e in
        bind_agree (r 64 of.1) (q 64 of.1) _ _ (same 64 of.1 (omega arith)) (λ base d.
        let less : 1 + length base.1 ≤ length of.1 = rule_less r laws 64 of.1 base d in
        base_agree of.0 base (omega arith)))

    pub rule_agree : (w : ℕ) (t : TokenV) (rest : List TokenV) → length rest ≤ k → constant_rule known r w (t ∷ rest) ≡ constant_rule known q w (t ∷ rest)
    unfolding constant_rule
    rule_agree w t rest few = rw (bracket_agree bracket.Array rest few, bracket_agree bracket.Struct rest few, packed_agree rest few, address_agree rest few) refl

  pub constant_same : (k m w : ℕ) (ts : List TokenV) → length ts ≤ k → length ts ≤ m → constant_to known k w ts ≡ constant_to known m w ts
  unfolding constant_to constant_rule
  constant_same zero zero w ts le lt = refl
  constant_same zero (suc m) w [] le lt = refl
  constant_same zero (suc m) w (t ∷ rest) le lt = absurd (omega arith)
  constant_same (suc k) zero w [] le lt = refl
  constant_same (suc k) zero w (t ∷ rest) le lt = absurd (omega arith)
  constant_same (suc k) (suc m) w [] le lt = refl
  constant_same (suc k) (suc m) w (t ∷ rest) le lt = rule_agree (length rest) (constant_to known k) (constant_to known m) (λ v us few. constant_same k m v us (omega arith) (omega arith)) (rules_laws k) w t rest (omega arith)

  -- the laws of constants, however deep
  pub constant_laws : (n w : ℕ) → Lawful n anything (constant_at known w) (a_constant known w)
  unfolding constant_at
  constant_laws n w = counted n anything (λ k. constant_to known k w) (a_constant known w) (λ k m. constant_same k m w) (λ k le. depth_laws known n k w le)

  pub at_less : (w : ℕ) → Shortens (constant_at known w)
  at_less w ts x e = shortens 0 anything (constant_at known w) (a_constant known w) (constant_laws 0 w) (λ a ws s. some_tokens known w a ws s) ts x e

  pub element_shortens : Shortens (element_at known (constant_at known))
  element_shortens = element_less (constant_at known) (λ w. constant_laws 0 w)

  pub index_shortens : (into : Option TypeV) → Shortens (after_comma (index_at known (constant_at known) into))
  index_shortens = index_comma_less (constant_at known) (λ w. constant_laws 0 w)

  -- what is left behind the start of an address is no longer
  pub start_keeps : (ts rest : List TokenV) (of : TypeV) → address_start known ts ≡ Ok (of, rest) → length rest ≤ length ts
  start_keeps ts rest of e = keeps 0 anything (address_start known) _ (start_laws known 0) ts (of, rest) e

  -- ---- with no depth

  pub constant_none : (w : ℕ) → constant_at known w [] ≡ Err Ended
  unfolding constant_at constant_to
  constant_none w = refl

  pub constant_is : (w : ℕ) (t : TokenV) (rest : List TokenV) → constant_at known w (t ∷ rest) ≡ constant_rule known (constant_at known) w (t ∷ rest)
  constant_is w t rest =
      let one : constant_at known w (t ∷ rest) ≡ constant_rule known (constant_to known (length rest)) w (t ∷ rest) = unfold constant_at in unfold constant_to in refl in
      one ∙ rule_agree (length rest) (constant_to known (length rest)) (constant_at known) (λ v us few. unfold constant_at in constant_same (length rest) (length us) v us few (omega arith)) (rules_laws (length rest)) w t rest (omega arith)
