-- The laws of `ret`, `br` and `switch`.
use Rattle.std.proofs.Common.{◌≡◌, ℕ, length, arith, Bool, true, false, cond, List, [], ◌∷◌, ◌++◌, Option, Some, None, Result, Ok, Err, refl, sym, ap, subst, ◌∙◌, ◌⊎◌, inl, inr}
use Rattle.std.specs.Prelude.{codes, not, drop}
use Rattle.ir_lex.specs.Spelling.{number}
use Rattle.std.proofs.lemmas.List.{append-nil}
use lib.Pointwise.{bytes_decides}
use Rattle.pv_base.specs.declared.name.Name.{Name}
use Rattle.ir_lex.specs.declared.token.TokenKind.{TokenKind}
use Rattle.ir_lex.specs.declared.token.TokenKind.TheVariants as kind
use Rattle.ir_lex.specs.declared.token.Cause.{Cause}
use Rattle.ir_lex.specs.declared.token.Cause.TheVariants as causes
use Rattle.ir_tree.specs.declared.instruction.Argument.{Argument}
use Rattle.ir_tree.specs.declared.instruction.Case.{Case}
use Rattle.ir_tree.specs.declared.instruction.Instruction.{Instruction}
use Rattle.ir_tree.specs.declared.instruction.Instruction.TheVariants as instruction
use Rattle.ir_tree.specs.Trees.{TypeV, IntV, PtrV, VoidV, ArrayV, StructV, NamedV, ConstantV}
use Rattle.ir_text.specs.Tokens.{TokenV, same, word_is, is_mark, is_word}
use Rattle.ir_text.specs.Reading.{Outcome, ◌>>=◌, token_by, next_is, wrong}
use Rattle.ir_text.specs.Choice.{Opens}
use Rattle.ir_text.specs.Lawful.{Behind, anything, Lawful}
use Rattle.ir_text.specs.Leaves.{local, mark, word}
use Rattle.ir_text.specs.Operands.{constant_at, a_constant, operand_at, an_operand}
use Rattle.ir_text.specs.Constants.{width_of}
use Rattle.ir_text.specs.Passed.{is_type_word, is_int_word}
use Rattle.ir_text.specs.Repeated.{repeated_under, each_under}
use Rattle.ir_text.specs.Spelled.{Spelling, one_token, nothing}
use Rattle.ir_text.specs.Types.{Known, register_by, result_type, result_by, word_type, int_type}
use Rattle.ir_text.specs.TypeSpelled.{◌▸◌, a_mark, a_word}
use Rattle.ir_text.proofs.Laws.{nothing_laws}
use Rattle.ir_text.proofs.Choices.{token_laws, respell}
use Rattle.ir_text.proofs.ChoiceLaws.{choice}
use Rattle.ir_text.proofs.ConstantFuel.{constant_laws}
use Rattle.ir_text.proofs.ConstantLaws.{constant_opens}
use Rattle.ir_text.proofs.OperandLaws.{operand_laws}
use Rattle.ir_text.proofs.Persisting.{Takers}
use Rattle.ir_text.proofs.RepeatedLaws.{repeated_laws}
use Rattle.ir_instr.specs.Parts.{fixed_type, integer_type}
use Rattle.ir_instr.specs.Control.{begins_type, begins_type_by, condition_type, jump_at, bits_of, met_before, with_case, returned_at, return_at, branch_at, jump_or_branch_at, case_value_at, case_at, switch_at}
use Rattle.ir_instr.specs.InstructionSpelled.{a_target, a_returned, ACase}
use Rattle.instr_laws.specs.Made.{Made}
use Rattle.instr_laws.specs.Forms.{Value, a_return, a_jump, a_branch, a_jump_or_branch, a_switch}
use Rattle.instr_laws.proofs.Rows.{last, ended, then, pass}
use Rattle.instr_laws.proofs.Opening.{unopened, word_by, one_opens, both_opens, not_word, the_word, the_mark, fixed_word, not_mark}
use Rattle.instr_laws.proofs.Checked.{verdict, checked}
use Rattle.instr_laws.proofs.FormLaws.{target_laws, jump_laws}

-- ---- returns

abbrev ok : TypeV → Result TypeV Cause
ok of = Ok of

not_void : TypeV → Bool
not_void VoidV = false
not_void _ = true

-- no word is a type of a register, and void
unvoided : Result TypeV Cause → Type 0
unvoided (Ok of) = not_void of ≡ true
unvoided (Err cause) = Unit {0}

module _ (known : Known) where
  abbrev behind_type : TypeV → Option (Argument Name TypeV ConstantV) → List TokenV → Type 0
  behind_type of None ws = (not_void of ≡ false) × (ws ≡ [])
  behind_type of (Some a) ws = (not_void of ≡ true) × ((of ≡ a.of) × an_operand known of a.value ws)

  module _ (n : ℕ) where
    valued : (of : TypeV) → not_void of ≡ true → Lawful n anything (λ ts. operand_at known of ts >>= λ value. Ok (Some (record { of = of; value = value.0 }), value.1)) (behind_type of)
    valued of is = respell n anything _ (Made (λ (value : Value). Some (record { of = of; value = value })) (an_operand known of)) (behind_type of) to from (last (λ (value : Value). Some (record { of = of; value = value })) (operand_laws n known of))
      where
        to : (o : Option (Argument Name TypeV ConstantV)) (ws : List TokenV) → Made (λ (value : Value). Some (record { of = of; value = value })) (an_operand known of) o ws → behind_type of o ws
        to o ws t = subst (λ (p : Option (Argument Name TypeV ConstantV)). behind_type of p ws) t.is (is, (refl, t.spelled))

        from : (o : Option (Argument Name TypeV ConstantV)) (ws : List TokenV) → behind_type of o ws → Made (λ (value : Value). Some (record { of = of; value = value })) (an_operand known of) o ws
        from None ws t = let clash = sym is ∙ t.0 in absurd cc
        from (Some a) ws t = record { parts = a.value; is = ap (λ (x : TypeV). Some (record { of = x; value = a.value })) t.1.0; spelled = t.1.1 }

    unvalued : Lawful n anything (λ ts. Ok (None, ts)) (behind_type VoidV)
    unfolding not_void
    unvalued = respell n anything (λ ts. Ok (None, ts)) (nothing None) (behind_type VoidV) to from (nothing_laws n anything None)
      where
        to : (o : Option (Argument Name TypeV ConstantV)) (ws : List TokenV) → nothing None o ws → behind_type VoidV o ws
        to None ws t = (refl, t.1)
        to (Some a) ws t = let clash = t.0 in absurd cc

        from : (o : Option (Argument Name TypeV ConstantV)) (ws : List TokenV) → behind_type VoidV o ws → nothing None o ws
        from None ws t = (refl, t.1)
        from (Some a) ws t = let clash : false ≡ true = t.0 in absurd cc

    returned_laws : (of : TypeV) → Lawful n anything (returned_at known of) (behind_type of)
    unfolding not_void
    returned_laws VoidV = unvalued
    returned_laws (IntV w) = valued (IntV w) refl
    returned_laws PtrV = valued PtrV refl
    returned_laws (ArrayV count of) = valued (ArrayV count of) refl
    returned_laws (StructV packed fields) = valued (StructV packed fields) refl
    returned_laws (NamedV name) = valued (NamedV name) refl

word_unvoid : (text : List ℕ) → unvoided (word_type text)
unfolding unvoided not_void word_type int_type
word_unvoid text = by_ptr (same text (codes "ptr"))
  where
    by_width : (b : Bool) (w : ℕ) → unvoided (cond b (Ok (IntV w)) (Err causes.Width))
    by_width true w = refl
    by_width false w = tt

    by_int : (b : Bool) (r : Result TypeV Cause) → unvoided r → unvoided (cond b r (Err causes.BadType))
    by_int true r u = u
    by_int false r u = tt

    by_ptr : (b : Bool) → unvoided (cond b (Ok PtrV) (cond (is_int_word text) (int_type (drop 1 text)) (Err causes.BadType)))
    by_ptr true = refl
    by_ptr false = by_int (is_int_word text) (int_type (drop 1 text)) (by_width _ (number (drop 1 text)))

word_not_void : (text : List ℕ) (of : TypeV) → word_type text ≡ Ok of → not_void of ≡ true
unfolding unvoided
word_not_void text of e = subst unvoided e (word_unvoid text)

void_type : word_type (codes "void") ≡ Err causes.BadType
unfolding word_type is_int_word
void_type = refl

-- the type of a result is void, or that of a register
result_parts : (k : TokenKind) (t : TokenV) (b : Bool) (of : TypeV) → same t.text (codes "void") ≡ b → result_by k t ≡ Ok of → ((not_void of ≡ true) × (register_by k t ≡ Ok of)) ⊎ ((of ≡ VoidV) × (word_is (codes "void") k t.text ≡ true))
unfolding not_void
result_parts kind.Word t true of is e =
    let one : ok VoidV ≡ ok of = rw is at e in
    let v : VoidV ≡ of = cc in inr (sym v, is)
result_parts kind.Word t false of is e = let one : word_type t.text ≡ Ok of = rw is at e in inl (word_not_void t.text of one, one)
result_parts kind.Punct t b of is e = absurd cc
result_parts kind.GlobalName t b of is e = absurd cc
result_parts kind.LocalName t b of is e = absurd cc
result_parts kind.Label t b of is e = absurd cc
result_parts kind.Integer t b of is e = absurd cc
result_parts kind.Text t b of is e = absurd cc

register_result : (k : TokenKind) (t : TokenV) (b : Bool) (of : TypeV) → same t.text (codes "void") ≡ b → register_by k t ≡ Ok of → (not_void of ≡ true) × (result_by k t ≡ Ok of)
unfolding not_void
register_result kind.Word t true of is e =
    let here : t.text ≡ codes "void" = (bytes_decides t.text (codes "void")).0 is in
    let clash : ok of ≡ Err causes.BadType = sym e ∙ ap word_type here ∙ void_type in absurd cc
register_result kind.Word t false of is e = (word_not_void t.text of e, rw is e)
register_result kind.Punct t b of is e = absurd cc
register_result kind.GlobalName t b of is e = absurd cc
register_result kind.LocalName t b of is e = absurd cc
register_result kind.Label t b of is e = absurd cc
register_result kind.Integer t b of is e = absurd cc
register_result kind.Text t b of is e = absurd cc

void_result : (k : TokenKind) (t : TokenV) → word_is (codes "void") k t.text ≡ true → result_by k t ≡ Ok VoidV
void_result kind.Word t e = rw e refl
void_result kind.Punct t e = absurd cc
void_result kind.GlobalName t e = absurd cc
void_result kind.LocalName t e = absurd cc
void_result kind.Label t e = absurd cc
void_result kind.Integer t e = absurd cc
void_result kind.Text t e = absurd cc

module _ (n : ℕ) (known : Known) where
  return_to : (i : Instruction Name TypeV ConstantV) (ws : List TokenV) → Made (λ (p : TypeV × Option (Argument Name TypeV ConstantV)). instruction.Return p.1) (λ p. one_token result_type p.0 ▸ behind_type known p.0 p.1) i ws → a_return known i ws
  unfolding not_void
  return_to i ws t = record { parts = t.parts.1; is = t.is; spelled = value_to t.parts.0 t.parts.1 t.spelled }
    where
      value_to : (of : TypeV) (o : Option (Argument Name TypeV ConstantV)) → (one_token result_type of ▸ behind_type known of o) ws → a_returned known o ws
      value_to of None b =
          let s = b.first_spells in
          elim (result_parts s.token.kind s.token (same s.token.text (codes "void")) of refl s.is) [
            | inl h ↦ let clash : true ≡ false = sym h.0 ∙ b.rest_spells.0 in absurd cc
            | inr h ↦ record { token = s.token; parts = b.parts ∙ ap (λ (us : List TokenV). b.front ++ us) b.rest_spells.1 ∙ ap (λ (us : List TokenV). us ++ []) s.parts; is = rw h.1 refl }
          ]
      value_to of (Some a) b =
          let s = b.first_spells in
          elim (result_parts s.token.kind s.token (same s.token.text (codes "void")) of refl s.is) [
            | inl h ↦ record {
              front = b.front;
              rest = b.rest;
              parts = b.parts;
              first_spells = record { token = s.token; parts = s.parts; is = h.1 ∙ ap ok b.rest_spells.1.0 };
              rest_spells = subst (λ (x : TypeV). an_operand known x a.value b.rest) b.rest_spells.1.0 b.rest_spells.1.1;
            }
            | inr h ↦ let clash : false ≡ true = sym (ap not_void h.0) ∙ b.rest_spells.0 in absurd cc
          ]

  return_from : (i : Instruction Name TypeV ConstantV) (ws : List TokenV) → a_return known i ws → Made (λ (p : TypeV × Option (Argument Name TypeV ConstantV)). instruction.Return p.1) (λ p. one_token result_type p.0 ▸ behind_type known p.0 p.1) i ws
  unfolding not_void
  return_from i ws t = value_from t.parts t.is t.spelled
    where
      value_from : (o : Option (Argument Name TypeV ConstantV)) → instruction.Return o ≡ i → a_returned known o ws → Made (λ (p : TypeV × Option (Argument Name TypeV ConstantV)). instruction.Return p.1) (λ p. one_token result_type p.0 ▸ behind_type known p.0 p.1) i ws
      value_from None is s = record {
        parts = (VoidV, None);
        is = is;
        spelled = record { front = ws; rest = []; parts = sym (append-nil ws); first_spells = record { token = s.token; parts = s.parts; is = void_result s.token.kind s.token (the_word (codes "void") s.token tt s.is) }; rest_spells = (refl, refl) };
      }
      value_from (Some a) is b =
          let s = b.first_spells in
          let r = register_result s.token.kind s.token (same s.token.text (codes "void")) a.of refl s.is in
          record {
            parts = (a.of, Some a);
            is = is;
            spelled = record { front = b.front; rest = b.rest; parts = b.parts; first_spells = record { token = s.token; parts = s.parts; is = r.1 }; rest_spells = (r.0, (refl, b.rest_spells)) };
          }

  pub return_laws : Lawful n anything (return_at known) (a_return known)
  return_laws = respell n anything (return_at known) (Made (λ (p : TypeV × Option (Argument Name TypeV ConstantV)). instruction.Return p.1) (λ p. one_token result_type p.0 ▸ behind_type known p.0 p.1)) (a_return known) return_to return_from
      (then (token_laws n result_type) (λ (of : TypeV). last (λ (o : Option (Argument Name TypeV ConstantV)). instruction.Return o) (returned_laws known n of)))

-- ---- branches

begins_by_word : (k : TokenKind) (t : TokenV) → word_by is_type_word k t.text ≡ true → begins_type_by k t ≡ true
begins_by_word kind.Word t e = e
begins_by_word kind.Punct t e = absurd cc
begins_by_word kind.GlobalName t e = absurd cc
begins_by_word kind.LocalName t e = absurd cc
begins_by_word kind.Label t e = absurd cc
begins_by_word kind.Integer t e = absurd cc
begins_by_word kind.Text t e = absurd cc

condition_fixed : (t : TokenV) (b : Bool) (u : Unit {0}) → cond b (fixed_type (IntV 1) t) (Err causes.Operand) ≡ Ok u → fixed_type (IntV 1) t ≡ Ok u
condition_fixed t true u e = e
condition_fixed t false u e = absurd cc

module _ (n : ℕ) (known : Known) where
  condition_laws : Lawful n anything (token_by condition_type) (one_token (fixed_type (IntV 1)))
  condition_laws = respell n anything (token_by condition_type) (one_token condition_type) (one_token (fixed_type (IntV 1)))
      (λ u ws s. record { token = s.token; parts = s.parts; is = condition_fixed s.token (begins_type s.token) u s.is })
      (λ u ws s. record { token = s.token; parts = s.parts; is = let b : begins_type s.token ≡ true = begins_by_word s.token.kind s.token (fixed_word (IntV 1) s.token s.is) in rw b s.is })
      (token_laws n condition_type)

  pub branch_laws : Lawful n anything (branch_at known) (a_branch known)
  branch_laws =
      pass condition_laws (then (operand_laws n known (IntV 1)) (λ (condition : Value). pass (token_laws n (mark 44)) (then (target_laws n known) (λ (on_true : Name).
      pass (token_laws n (mark 44)) (last (λ (on_false : Name). instruction.Branch condition on_true on_false) (target_laws n known))))))

  no_label : is_type_word (codes "label") ≡ false
  unfolding is_int_word
  no_label = refl

  jump_opens : (i : Instruction Name TypeV ConstantV) (ws : List TokenV) → a_jump known i ws → Opens (is_word (codes "label")) ws
  jump_opens i ws t = both_opens (is_word (codes "label")) (a_word (codes "label")) (one_token local t.parts) ws (λ us s. one_opens (is_word (codes "label")) (word (codes "label")) tt us (λ u e. the_word (codes "label") u tt e) s) t.spelled

  branch_not : (i : Instruction Name TypeV ConstantV) (ws rest : List TokenV) → a_branch known i ws → anything rest → next_is (is_word (codes "label")) (ws ++ rest) ≡ false
  branch_not i ws rest t h =
      unopened (is_word (codes "label")) ws rest (both_opens (λ u. not (is_word (codes "label") u)) (one_token (fixed_type (IntV 1)) tt) _ ws
      (λ us s. one_opens (λ u. not (is_word (codes "label") u)) (fixed_type (IntV 1)) tt us (λ u e. not_word is_type_word (codes "label") no_label u (fixed_word (IntV 1) u e)) s) t.spelled)

  pub jump_or_branch_laws : Lawful n anything (jump_or_branch_at known) (a_jump_or_branch known)
  jump_or_branch_laws = choice n (is_word (codes "label")) anything anything anything jump_at (branch_at known) (a_jump known) (a_branch known) (jump_laws n known) branch_laws jump_opens branch_not (λ rest h. h) (λ rest h. h)

  -- ---- switches

  module _ (of : TypeV) (earlier : List ℕ) where
    why : ConstantV → Option Cause
    why c = cond (met_before earlier (bits_of c)) (Some causes.Duplicate) None

    judged : (o : Outcome ConstantV) (t : TokenV) → (o >>= λ value. cond (met_before earlier (bits_of value.0)) (wrong t causes.Duplicate) (Ok value)) ≡ (o >>= λ value. verdict (why value.0) t value)
    unfolding why
    judged (Ok x) t = by_met (met_before earlier (bits_of x.0))
      where
        by_met : (b : Bool) → cond b (wrong t causes.Duplicate) (Ok x) ≡ verdict (cond b (Some causes.Duplicate) None) t x
        by_met true = refl
        by_met false = refl
    judged (Err e) t = refl

    constant_takes : Takers (a_constant known (width_of of))
    constant_takes c ws s = let o = constant_opens known (width_of of) c ws s in omega (arith, ap length o.parts)

    fresh_to : (c : ConstantV) → why c ≡ None → met_before earlier (bits_of c) ≡ false
    unfolding why
    fresh_to c e = by_met (met_before earlier (bits_of c)) e
      where
        by_met : (b : Bool) → cond b (Some causes.Duplicate) None ≡ None → b ≡ false
        by_met true h = absurd cc
        by_met false h = refl

    fresh_from : (c : ConstantV) → met_before earlier (bits_of c) ≡ false → why c ≡ None
    unfolding why
    fresh_from c e = rw e refl

    abbrev a_value : Spelling ConstantV
    a_value c ws = a_constant known (width_of of) c ws × (why c ≡ None)

    value_laws : Lawful n anything (case_value_at known of earlier) a_value
    unfolding case_value_at
    value_laws = checked n (constant_at known (width_of of)) (a_constant known (width_of of)) why (case_value_at known of earlier) (constant_laws known n (width_of of)) constant_takes refl (λ t rest. judged (constant_at known (width_of of) (t ∷ rest)) t)

    abbrev a_case : Spelling (Case Name ConstantV)
    a_case = Made (λ (p : ConstantV × Name). record { value = p.0; to = p.1 }) (λ p. one_token (fixed_type of) tt ▸ a_value p.0 ▸ a_mark 44 ▸ a_target p.1)

    case_to : (c : Case Name ConstantV) (ws : List TokenV) → a_case c ws → ACase known of earlier c ws
    case_to c ws t =
        let b = t.spelled in
        let v = b.rest_spells in
        let p : Case Name ConstantV = record { value = t.parts.0; to = t.parts.1 } in
        subst (λ (x : Case Name ConstantV). ACase known of earlier x ws) t.is (record {
          spelled = record { front = b.front; rest = b.rest; parts = b.parts; first_spells = b.first_spells; rest_spells = record { front = v.front; rest = v.rest; parts = v.parts; first_spells = v.first_spells.0; rest_spells = v.rest_spells } };
          fresh = fresh_to t.parts.0 v.first_spells.1;
        })

    case_from : (c : Case Name ConstantV) (ws : List TokenV) → ACase known of earlier c ws → a_case c ws
    case_from c ws t =
        let b = t.spelled in
        let v = b.rest_spells in
        record {
          parts = (c.value, c.to);
          is = refl;
          spelled = record { front = b.front; rest = b.rest; parts = b.parts; first_spells = b.first_spells; rest_spells = record { front = v.front; rest = v.rest; parts = v.parts; first_spells = (v.first_spells, fresh_from c.value t.fresh); rest_spells = v.rest_spells } };
        }

    case_laws : Lawful n anything (case_at known of earlier) (ACase known of earlier)
    case_laws = respell n anything (case_at known of earlier) a_case (ACase known of earlier) case_to case_from
        (pass (token_laws n (fixed_type of)) (then value_laws (λ (value : ConstantV). pass (token_laws n (mark 44)) (last (λ (to : Name). record { value = value; to = to }) (target_laws n known)))))

    case_opens : (c : Case Name ConstantV) (ws : List TokenV) → ACase known of earlier c ws → Opens (λ t. not (is_mark 93 t)) ws
    case_opens c ws t = both_opens (λ u. not (is_mark 93 u)) (one_token (fixed_type of) tt) _ ws (λ us s. one_opens (λ u. not (is_mark 93 u)) (fixed_type of) tt us (λ u e. not_mark is_type_word 93 u (fixed_word of u e)) s) t.spelled

  cases_laws : (of : TypeV) → Lawful n (Behind (λ t. not (is_mark 93 t)) anything) (repeated_under (λ t. not (is_mark 93 t)) (case_at known of) with_case []) (each_under (ACase known of) with_case [])
  cases_laws of = repeated_laws n (λ t. not (is_mark 93 t)) (case_at known of) with_case (ACase known of) anything (λ earlier. case_laws of earlier) (λ earlier c ws s. case_opens of earlier c ws s) (λ earlier c ws rest s. tt) []

  closes : (ws rest : List TokenV) → a_mark 93 ws → anything rest → Behind (λ t. not (is_mark 93 t)) anything (ws ++ rest)
  closes ws rest s h = record {
    none = unopened (λ t. not (is_mark 93 t)) ws rest (one_opens (λ t. not (not (is_mark 93 t))) (mark 93) tt ws (λ t e. let is : is_mark 93 t ≡ true = the_mark 93 t tt e in rw is refl) s);
    fits = tt;
  }

  pub switch_laws : Lawful n anything (switch_at known) (a_switch known)
  switch_laws =
      then (token_laws n integer_type) (λ (of : TypeV). then (operand_laws n known of) (λ (value : Value). pass (token_laws n (mark 44)) (then (target_laws n known) (λ (default : Name).
      pass (token_laws n (mark 91)) (ended (λ (cases : List (Case Name ConstantV)). instruction.Switch of value default cases) (cases_laws of) (token_laws n (mark 93)) closes)))))
