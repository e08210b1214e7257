-- The laws of `getelementptr`.
use Rattle.std.proofs.Common.{◌≡◌, ℕ, ◌≤◌, length, arith, Bool, true, false, cond, List, [], ◌∷◌, ◌++◌, Option, Some, None, Result, Ok, Err, refl, sym, ap, subst, ◌∙◌, ◌⊎◌, inl, inr}
use Rattle.std.specs.Prelude.{codes, not, is_some, IsSome, option_and_then}
use Rattle.std.specs.List.{list_any}
use Rattle.pv_base.specs.declared.name.Name.{Name}
use Rattle.ir_lex.specs.Classes.{is_digit}
use Rattle.ir_lex.specs.declared.token.TokenKind.{TokenKind}
use Rattle.ir_lex.specs.declared.token.TokenKind.TheVariants as kind
use Rattle.ir_lex.specs.declared.token.Cause.{Cause}
use Rattle.ir_lex.specs.declared.token.Cause.TheVariants as causes
use Rattle.ir_tree.specs.declared.instruction.Argument.{Argument}
use Rattle.ir_tree.specs.declared.instruction.Instruction.TheVariants as instruction
use Rattle.ir_tree.specs.Layouts.{field_type}
use Rattle.ir_tree.specs.Trees.{TypeV, IntV, PtrV, VoidV, ArrayV, StructV, NamedV, TypesV, ConstantV}
use Rattle.ir_text.specs.Tokens.{TokenV, among, is_mark, punct_is}
use Rattle.ir_text.specs.Reading.{Outcome, ◌>>=◌, token_by, next_is, wrong}
use Rattle.ir_text.specs.Choice.{Opens}
use Rattle.ir_text.specs.Lawful.{Behind, anything, Lawful}
use Rattle.ir_text.specs.Leaves.{mark}
use Rattle.ir_text.specs.Lists.{with_comma}
use Rattle.ir_text.specs.Operands.{operand_at, an_operand, is_local, register}
use Rattle.ir_text.specs.Passed.{is_type_word, is_int_word}
use Rattle.ir_text.specs.Repeated.{Both, repeated_under, each, each_under}
use Rattle.ir_text.specs.Spelled.{Spelling, one_token, never}
use Rattle.ir_text.specs.Tails.{a_tail, some_tails}
use Rattle.ir_text.specs.Trailing.{passed_tail, kept}
use Rattle.ir_text.specs.Types.{Known, register_type, simple, simple_by}
use Rattle.ir_text.specs.TypeSpelled.{◌▸◌, a_mark, a_type}
use Rattle.ir_text.proofs.Choices.{token_laws, respell}
use Rattle.ir_text.proofs.ChoiceLaws.{choice, opens_more}
use Rattle.ir_text.proofs.ConstantLaws.{constant_opens}
use Rattle.ir_text.proofs.OperandLaws.{operand_laws}
use Rattle.ir_text.proofs.Persisting.{Takers}
use Rattle.ir_text.proofs.RepeatedLaws.{repeated_laws}
use Rattle.ir_text.proofs.TailLaws.{tail_laws}
use Rattle.ir_instr.specs.Words.{is_among, word_among_by}
use Rattle.ir_instr.specs.Parts.{fixed_type}
use Rattle.ir_instr.specs.Memory.{begins_tail}
use Rattle.ir_instr.specs.Addresses.{address_words, Into, Whole, Inside, Faulty, opened, field_number, field_checked, field_value_at, field_index_at, no_index, no_index_by, index_into, index_at, next_into, some_index_at, index_or_tail, behind_comma, still_into, indices_at, address_at}
use Rattle.ir_instr.specs.InstructionSpelled.{InMemory, AField, an_index_into, an_index, some_indices}
use Rattle.instr_laws.specs.Made.{Made}
use Rattle.instr_laws.specs.Forms.{Value, an_address}
use Rattle.instr_laws.proofs.Rows.{last, whole, itself, then, pass}
use Rattle.instr_laws.proofs.Opening.{unopened, none_among, one_opens, both_opens, fixed_word, type_word, the_mark}
use Rattle.instr_laws.proofs.Checked.{verdict, checked}
use Rattle.instr_laws.proofs.Said.{said}
use Rattle.instr_laws.proofs.Chains.{together, apart}
use Rattle.instr_laws.proofs.Trails.{tails_none, tails_more, tails_parts, tail_opens, type_no_tail}
use Rattle.instr_laws.proofs.FormLaws.{pointer_laws}
use Rattle.instr_laws.proofs.MemoryLaws.{Last, memory_type_laws, integer_argument_laws, integer_no_tail}

abbrev Index : Type 0
Index = Argument Name TypeV ConstantV

abbrev some : Index → Option Index
some a = Some a

-- ---- an operand takes a token

register_takes : (o : Value) (ws : List TokenV) → one_token register o ws → 1 ≤ length ws
register_takes o ws s = omega (arith, ap length s.parts)

pub operand_takes : (known : Known) (of : TypeV) → Takers (an_operand known of)
operand_takes known of o ws (inl s) = let f = opens_more (λ t. not (is_local t)) _ _ (constant_opens known _) o ws s in omega (arith, ap length f.parts)
operand_takes known of o ws (inr s) = register_takes o ws s

module _ (n : ℕ) (known : Known) where
  -- ---- the number of a field

  why_field : TypesV → Option ℕ → Option Cause
  why_field fields None = Some causes.Operand
  why_field fields (Some i) = cond (is_some (field_type fields i)) None (Some causes.Number)

  why : TypesV → Value → Option Cause
  why fields value = why_field fields (field_number value)

  field_verdict : (fields : TypesV) (t : TokenV) (x : Value × List TokenV) (i : Option ℕ) → field_checked fields t x i ≡ verdict (why_field fields i) t x
  unfolding why_field
  field_verdict fields t x None = refl
  field_verdict fields t x (Some i) = by_field (is_some (field_type fields i))
    where
      by_field : (b : Bool) → cond b (Ok x) (wrong t causes.Number) ≡ verdict (cond b None (Some causes.Number)) t x
      by_field true = refl
      by_field false = refl

  judged : (fields : TypesV) (o : Outcome Value) (t : TokenV) → (o >>= λ x. field_checked fields t x (field_number x.0)) ≡ (o >>= λ x. verdict (why fields x.0) t x)
  unfolding why
  judged fields (Ok x) t = field_verdict fields t x (field_number x.0)
  judged fields (Err e) t = refl

  value_laws : (fields : TypesV) → Lawful n anything (field_value_at known fields) (λ value ws. an_operand known (IntV 32) value ws × (why fields value ≡ None))
  unfolding field_value_at
  value_laws fields = checked n (operand_at known (IntV 32)) (an_operand known (IntV 32)) (why fields) (field_value_at known fields) (operand_laws n known (IntV 32)) (operand_takes known (IntV 32)) refl (λ t rest. judged fields (operand_at known (IntV 32) (t ∷ rest)) t)

  names_to : (fields : TypesV) (i : Option ℕ) → why_field fields i ≡ None → IsSome (option_and_then (field_type fields) i)
  unfolding why_field
  names_to fields None e = absurd cc
  names_to fields (Some i) e = by_field (field_type fields i) e
    where
      by_field : (o : Option TypeV) → cond (is_some o) None (Some causes.Number) ≡ None → IsSome o
      by_field (Some of) h = refl
      by_field None h = absurd cc

  names_from : (fields : TypesV) (i : Option ℕ) → IsSome (option_and_then (field_type fields) i) → why_field fields i ≡ None
  unfolding why_field
  names_from fields None h = absurd (let e : false ≡ true = h in cc)
  names_from fields (Some i) h = by_field (field_type fields i) h
    where
      by_field : (o : Option TypeV) → IsSome o → cond (is_some o) None (Some causes.Number) ≡ None
      by_field (Some of) h = refl
      by_field None h = absurd (let e : false ≡ true = h in cc)

  abbrev made_field : TypesV → Spelling Index
  made_field fields = Made (λ (value : Value). record { of = IntV 32; value = value }) (λ value. one_token (fixed_type (IntV 32)) tt ▸ (λ ws. an_operand known (IntV 32) value ws × (why fields value ≡ None)))

  field_to : (fields : TypesV) (a : Index) (ws : List TokenV) → made_field fields a ws → AField known fields a ws
  unfolding why
  field_to fields a ws t =
      let b = t.spelled in
      subst (λ (x : Index). AField known fields x ws) t.is (record {
        spelled = record { front = b.front; rest = b.rest; parts = b.parts; first_spells = b.first_spells; rest_spells = b.rest_spells.0 };
        of = refl;
        names = names_to fields (field_number t.parts) b.rest_spells.1;
      })

  field_from : (fields : TypesV) (a : Index) (ws : List TokenV) → AField known fields a ws → made_field fields a ws
  unfolding why
  field_from fields a ws t =
      let b = t.spelled in
      record {
        parts = a.value;
        is = ap (λ (of : TypeV). record { of = of; value = a.value }) (sym t.of);
        spelled = record { front = b.front; rest = b.rest; parts = b.parts; first_spells = b.first_spells; rest_spells = (b.rest_spells, names_from fields (field_number a.value) t.names) };
      }

  field_laws : (fields : TypesV) → Lawful n anything (field_index_at known fields) (AField known fields)
  field_laws fields = respell n anything (field_index_at known fields) (made_field fields) (AField known fields) (field_to fields) (field_from fields)
      (pass (token_laws n (fixed_type (IntV 32))) (last (λ (value : Value). record { of = IntV 32; value = value }) (value_laws fields)))

  -- ---- an index

  no_index_never : (r : Result TypeV Cause) (a : Index) → no_index_by r ≡ Ok a → ⊥
  no_index_never (Ok of) a e = absurd cc
  no_index_never (Err cause) a e = absurd cc

  none_laws : Lawful n anything (token_by no_index) never
  none_laws = respell n anything (token_by no_index) (one_token no_index) never (λ a ws s. no_index_never (register_type s.token) a s.is) (λ a ws s. absurd s) (token_laws n no_index)

  into_laws : (of : Option TypeV) → Lawful n anything (index_into known of) (an_index_into known of)
  into_laws None = integer_argument_laws n known
  into_laws (Some (ArrayV count of)) = integer_argument_laws n known
  into_laws (Some (StructV packed fields)) = field_laws fields
  into_laws (Some (IntV w)) = none_laws
  into_laws (Some PtrV) = none_laws
  into_laws (Some VoidV) = none_laws
  into_laws (Some (NamedV name)) = none_laws

  pub index_laws : (into : Into) → Lawful n anything (index_at known into) (an_index known into)
  index_laws (Whole of) = integer_argument_laws n known
  index_laws (Inside of) = into_laws (opened known of)
  index_laws Faulty = integer_argument_laws n known

  field_no_tail : (fields : TypesV) (a : Index) (ws : List TokenV) → AField known fields a ws → Opens (λ t. not (begins_tail t)) ws
  field_no_tail fields a ws s = both_opens (λ t. not (begins_tail t)) (one_token (fixed_type (IntV 32)) tt) (an_operand known (IntV 32) a.value) ws (λ us o. one_opens (λ t. not (begins_tail t)) (fixed_type (IntV 32)) tt us (λ t e. type_no_tail t (fixed_word (IntV 32) t e)) o) s.spelled

  into_no_tail : (of : Option TypeV) (a : Index) (ws : List TokenV) → an_index_into known of a ws → Opens (λ t. not (begins_tail t)) ws
  into_no_tail None a ws s = integer_no_tail n known a ws s
  into_no_tail (Some (ArrayV count of)) a ws s = integer_no_tail n known a ws s
  into_no_tail (Some (StructV packed fields)) a ws s = field_no_tail fields a ws s
  into_no_tail (Some (IntV w)) a ws s = absurd s
  into_no_tail (Some PtrV) a ws s = absurd s
  into_no_tail (Some VoidV) a ws s = absurd s
  into_no_tail (Some (NamedV name)) a ws s = absurd s

  index_no_tail : (into : Into) (a : Index) (ws : List TokenV) → an_index known into a ws → Opens (λ t. not (begins_tail t)) ws
  index_no_tail (Whole of) a ws s = integer_no_tail n known a ws s
  index_no_tail (Inside of) a ws s = into_no_tail (opened known of) a ws s
  index_no_tail Faulty a ws s = integer_no_tail n known a ws s

  -- ---- a further index, or what is passed over

  abbrev a_kept : Into → Spelling (Option Index)
  a_kept into = Made (λ (a : Index). Some a) (λ a. an_index known into a)

  abbrev a_passed : Spelling (Option Index)
  a_passed = Made (λ (u : Unit {0}). None) (λ u. a_tail u)

  abbrev an_item : Option Into → Spelling (Option Index)
  an_item (Some into) o ws = a_kept into o ws ⊎ a_passed o ws
  an_item None o ws = a_passed o ws

  kept_laws : (into : Into) → Lawful n anything (some_index_at known into) (a_kept into)
  kept_laws into = last (λ (a : Index). Some a) (index_laws into)

  passed_laws : Lawful n anything passed_tail a_passed
  passed_laws = last (λ (u : Unit {0}). None) (tail_laws n)

  passed_opens : (o : Option Index) (ws : List TokenV) → a_passed o ws → Opens begins_tail ws
  passed_opens o ws t = tail_opens t.parts ws t.spelled

  kept_not : (into : Into) (o : Option Index) (ws rest : List TokenV) → a_kept into o ws → anything rest → next_is begins_tail (ws ++ rest) ≡ false
  kept_not into o ws rest t h = unopened begins_tail ws rest (index_no_tail into t.parts ws t.spelled)

  item_laws : (into : Option Into) → Lawful n anything (index_or_tail known into) (an_item into)
  item_laws (Some into) = choice n begins_tail anything anything anything passed_tail (some_index_at known into) a_passed (a_kept into) passed_laws (kept_laws into) passed_opens (kept_not into) (λ rest h. h) (λ rest h. h)
  item_laws None = passed_laws

  abbrev a_comma_item : Option Into → Spelling (Option Index)
  a_comma_item into o = a_mark 44 ▸ an_item into o

  comma_laws : (into : Option Into) → Lawful n anything (behind_comma known into) (a_comma_item into)
  comma_laws into = itself (pass (token_laws n (mark 44)) (whole (item_laws into)))

  comma_opens : (into : Option Into) (o : Option Index) (ws : List TokenV) → a_comma_item into o ws → Opens (is_mark 44) ws
  comma_opens into o ws s = both_opens (is_mark 44) (a_mark 44) (an_item into o) ws (λ us m. one_opens (is_mark 44) (mark 44) tt us (λ t e. the_mark 44 t tt e) m) s

  abbrev all_items : Option Into → Spelling (List (Option Index))
  all_items into = each_under a_comma_item (still_into known) into

  all_laws : (into : Option Into) → Lawful n Last (repeated_under (is_mark 44) (behind_comma known) (still_into known) into) (all_items into)
  all_laws into = repeated_laws n (is_mark 44) (behind_comma known) (still_into known) a_comma_item anything comma_laws (λ st a ws s. comma_opens st a ws s) (λ st a ws rest s. tt) into

  -- ---- indices first, and then what is passed over

  abbrev some_others : Into → List Index → List TokenV → Type 0
  some_others into all = each_under (λ i a. a_mark 44 ▸ an_index known i a) (next_into known) into all

  abbrev with_tails : Into → Spelling (List Index)
  with_tails into all = some_others into all ▸ some_tails tt

  unit_tail : (u : Unit {0}) (ws : List TokenV) → a_tail u ws → a_tail tt ws
  unit_tail u ws s = s

  only_tails : (all : List (Option Index)) (ws : List TokenV) → all_items None all ws → (kept all ≡ []) × some_tails tt ws
  only_tails [] ws s = (refl, subst (some_tails tt) (sym s) tails_none)
  only_tails (Some a ∷ all) ws s = let e = s.first_spells.rest_spells.is in absurd cc
  only_tails (None ∷ all) ws s =
      let others = only_tails all s.rest s.rest_spells in
      let c = s.first_spells in (
        others.0,
        tails_more ws (apart (a_mark 44) (a_tail tt) (some_tails tt) ws (record {
          front = s.front;
          rest = s.rest;
          parts = s.parts;
          first_spells = record { front = c.front; rest = c.rest; parts = c.parts; first_spells = c.first_spells; rest_spells = unit_tail c.rest_spells.parts c.rest c.rest_spells.spelled };
          rest_spells = others.1;
        })),
      )

  index_of : (into : Into) (a : Index) (ws : List TokenV) → an_item (Some into) (Some a) ws → an_index known into a ws
  index_of into a ws (inl k) = let e : some k.parts ≡ some a = k.is in let v : k.parts ≡ a = cc in subst (λ (x : Index). an_index known into x ws) v k.spelled
  index_of into a ws (inr p) = let e = p.is in absurd cc

  tail_of : (into : Into) (ws : List TokenV) → an_item (Some into) None ws → an_item None None ws
  tail_of into ws (inl k) = let e = k.is in absurd cc
  tail_of into ws (inr p) = p

  to_indices : (all : List (Option Index)) (into : Into) (ws : List TokenV) → all_items (Some into) all ws → with_tails into (kept all) ws
  to_indices [] into ws s = record { front = []; rest = ws; parts = refl; first_spells = refl; rest_spells = subst (some_tails tt) (sym s) tails_none }
  to_indices (Some a ∷ all) into ws s =
      let c = s.first_spells in
      together (a_mark 44 ▸ an_index known into a) (some_others (next_into known into a) (kept all)) (some_tails tt) ws (record {
        front = s.front;
        rest = s.rest;
        parts = s.parts;
        first_spells = record { front = c.front; rest = c.rest; parts = c.parts; first_spells = c.first_spells; rest_spells = index_of into a c.rest c.rest_spells };
        rest_spells = to_indices all (next_into known into a) s.rest s.rest_spells;
      })
  to_indices (None ∷ all) into ws s =
      let c = s.first_spells in
      let none = only_tails (None ∷ all) ws (record {
        front = s.front;
        rest = s.rest;
        parts = s.parts;
        first_spells = record { front = c.front; rest = c.rest; parts = c.parts; first_spells = c.first_spells; rest_spells = tail_of into c.rest c.rest_spells };
        rest_spells = s.rest_spells;
      }) in
      subst (λ (xs : List Index). with_tails into xs ws) (sym none.0) (record { front = []; rest = ws; parts = refl; first_spells = refl; rest_spells = none.1 })

  -- items that are kept as these indices
  record Items (st : Option Into) (all : List Index) (ws : List TokenV) : Type 0 where
    items : List (Option Index)
    are : kept items ≡ all
    spelled : all_items st items ws

  passed_item : (st : Option Into) (u : Unit {0}) (ws : List TokenV) → a_tail u ws → an_item st None ws
  passed_item (Some into) u ws s = inr (record { parts = u; is = refl; spelled = s })
  passed_item None u ws s = record { parts = u; is = refl; spelled = s }

  nothing_more : (st : Option Into) → still_into known st None ≡ None
  nothing_more (Some into) = refl
  nothing_more None = refl

  from_tails : (units : List (Unit {0})) (st : Option Into) (ws : List TokenV) → each (with_comma a_tail) units ws → Items st [] ws
  from_tails [] st ws s = record { items = []; are = refl; spelled = s }
  from_tails (u ∷ units) st ws s =
      let others = from_tails units None s.rest s.rest_spells in
      let c = s.first_spells in
      record {
        items = None ∷ others.items;
        are = others.are;
        spelled = record {
          front = s.front;
          rest = s.rest;
          parts = s.parts;
          first_spells = record { front = c.front; rest = c.rest; parts = c.parts; first_spells = unit_mark c.value c.front c.first_spells; rest_spells = passed_item st u c.rest c.rest_spells };
          rest_spells = subst (λ (x : Option Into). all_items x others.items s.rest) (sym (nothing_more st)) others.spelled;
        };
      }
    where
      unit_mark : (v : Unit {0}) (us : List TokenV) → one_token (mark 44) v us → a_mark 44 us
      unit_mark v us h = h

  from_indices : (all : List Index) (into : Into) (ws : List TokenV) → with_tails into all ws → Items (Some into) all ws
  from_indices [] into ws s =
      let same : ws ≡ s.rest = s.parts ∙ ap (λ (u : List TokenV). u ++ s.rest) s.first_spells in
      let tails = tails_parts s.rest s.rest_spells in
      from_tails tails.0 (Some into) ws (subst (λ (u : List TokenV). each (with_comma a_tail) tails.0 u) (sym same) tails.1)
  from_indices (a ∷ all) into ws s =
      let b = apart (a_mark 44 ▸ an_index known into a) (some_others (next_into known into a) all) (some_tails tt) ws s in
      let c = b.first_spells in
      let others = from_indices all (next_into known into a) b.rest b.rest_spells in
      record {
        items = Some a ∷ others.items;
        are = ap (λ (xs : List Index). a ∷ xs) others.are;
        spelled = record {
          front = b.front;
          rest = b.rest;
          parts = b.parts;
          first_spells = record { front = c.front; rest = c.rest; parts = c.parts; first_spells = c.first_spells; rest_spells = inl (record { parts = a; is = refl; spelled = c.rest_spells }) };
          rest_spells = others.spelled;
        };
      }

  abbrev made_indices : TypeV → Spelling (List Index)
  made_indices of = Made (λ (p : Index × List (Option Index)). p.0 ∷ kept p.1) (λ p. a_mark 44 ▸ an_index known (Whole of) p.0 ▸ all_items (Some (Inside of)) p.1)

  abbrev tailed_indices : TypeV → Spelling (List Index)
  tailed_indices of all = some_indices known of all ▸ some_tails tt

  indices_to : (of : TypeV) (all : List Index) (ws : List TokenV) → made_indices of all ws → tailed_indices of all ws
  indices_to of all ws t =
      let b = t.spelled in
      let i = b.rest_spells in
      let first = t.parts.0 in
      let others = to_indices t.parts.1 (Inside of) i.rest i.rest_spells in
      let inner : (an_index known (Whole of) first ▸ some_others (Inside of) (kept t.parts.1) ▸ some_tails tt) b.rest = record { front = i.front; rest = i.rest; parts = i.parts; first_spells = i.first_spells; rest_spells = others } in
      subst (λ (xs : List Index). tailed_indices of xs ws) t.is
      (together (a_mark 44) (an_index known (Whole of) first ▸ some_others (Inside of) (kept t.parts.1)) (some_tails tt) ws
      (record { front = b.front; rest = b.rest; parts = b.parts; first_spells = b.first_spells; rest_spells = together (an_index known (Whole of) first) (some_others (Inside of) (kept t.parts.1)) (some_tails tt) b.rest inner }))

  indices_from : (of : TypeV) (all : List Index) (ws : List TokenV) → tailed_indices of all ws → made_indices of all ws
  indices_from of [] ws s = absurd s.first_spells
  indices_from of (first ∷ others) ws s =
      let b = apart (a_mark 44) (an_index known (Whole of) first ▸ some_others (Inside of) others) (some_tails tt) ws s in
      let i = apart (an_index known (Whole of) first) (some_others (Inside of) others) (some_tails tt) b.rest b.rest_spells in
      let all = from_indices others (Inside of) i.rest i.rest_spells in
      record {
        parts = (first, all.items);
        is = ap (λ (xs : List Index). first ∷ xs) all.are;
        spelled = record { front = b.front; rest = b.rest; parts = b.parts; first_spells = b.first_spells; rest_spells = record { front = i.front; rest = i.rest; parts = i.parts; first_spells = i.first_spells; rest_spells = all.spelled } };
      }

  indices_laws : (of : TypeV) → Lawful n Last (indices_at known of) (tailed_indices of)
  indices_laws of = respell n Last (indices_at known of) (made_indices of) (tailed_indices of) (indices_to of) (indices_from of)
      (pass (token_laws n (mark 44)) (then (index_laws (Whole of)) (λ (first : Index). last (λ (others : List (Option Index)). first ∷ kept others) (all_laws (Some (Inside of))))))

  -- ---- behind words

  no_type : list_any is_type_word address_words ≡ false
  unfolding is_int_word is_digit
  no_type = refl

  simple_not : (k : TokenKind) (t : TokenV) (of : TypeV) → simple_by known k t ≡ Ok of → word_among_by address_words k t.text ≡ false
  simple_not kind.Word t of e = none_among is_type_word address_words t.text no_type (type_word t.text of e)
  simple_not kind.LocalName t of e = refl
  simple_not kind.GlobalName t of e = refl
  simple_not kind.Label t of e = refl
  simple_not kind.Integer t of e = refl
  simple_not kind.Text t of e = refl
  simple_not kind.Punct t of e = refl

  one_not : (of : TypeV) (ws : List TokenV) → one_token (simple known) of ws → Opens (λ t. not (is_among address_words t)) ws
  one_not of ws s = one_opens (λ t. not (is_among address_words t)) (simple known) of ws (λ t e. let is : is_among address_words t ≡ false = simple_not t.kind t of e in rw is refl) s

  mark_not_by : (b : ℕ) (k : TokenKind) (text : List ℕ) → punct_is (b ∷ []) k text ≡ true → word_among_by address_words k text ≡ false
  mark_not_by b kind.Punct text e = refl
  mark_not_by b kind.Word text e = absurd cc
  mark_not_by b kind.LocalName text e = refl
  mark_not_by b kind.GlobalName text e = refl
  mark_not_by b kind.Label text e = refl
  mark_not_by b kind.Integer text e = refl
  mark_not_by b kind.Text text e = refl

  mark_not : (b : ℕ) (others : List TokenV → Type 0) (ws : List TokenV) → Both (a_mark b) others ws → Opens (λ t. not (is_among address_words t)) ws
  mark_not b others ws s = both_opens (λ t. not (is_among address_words t)) (a_mark b) others ws (λ us m. one_opens (λ t. not (is_among address_words t)) (mark b) tt us (λ t e. let is : is_among address_words t ≡ false = mark_not_by b t.kind t.text (the_mark b t tt e) in rw is refl) m) s

  type_not : (of : TypeV) (ws : List TokenV) → a_type known of ws → Opens (λ t. not (is_among address_words t)) ws
  type_not (IntV w) ws s = one_not (IntV w) ws s
  type_not PtrV ws s = one_not PtrV ws s
  type_not VoidV ws s = absurd s
  type_not (NamedV name) ws s = one_not (NamedV name) ws s
  type_not (ArrayV count of) ws s = mark_not 91 _ ws s
  type_not (StructV false fields) ws s = mark_not 123 _ ws s
  type_not (StructV true fields) ws s = mark_not 60 _ ws s

  behind_words : (of : TypeV) (others : List TokenV → Type 0) (ws rest : List TokenV) → Both (InMemory known of) others ws → Behind (is_among address_words) anything (ws ++ rest)
  behind_words of others ws rest s = record {
    none = unopened (is_among address_words) ws rest (both_opens (λ t. not (is_among address_words t)) (InMemory known of) others ws (λ us m. type_not of us m.spelled) s);
    fits = tt;
  }

  pub address_laws : (to : Name) → Lawful n Last (address_at known to) (an_address known to)
  address_laws to =
      said n address_words (λ written. among written (codes "inbounds")) Last _ _ _
      (λ (inbounds : Bool). then (memory_type_laws n known) (λ (of : TypeV). pass (token_laws n (mark 44)) (then (pointer_laws n known) (λ (base : Value). last (λ (indices : List Index). instruction.Address to inbounds of base indices) (indices_laws of)))))
      (λ inbounds p ws rest s h. behind_words p.0 _ ws rest s)
