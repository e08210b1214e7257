-- The laws of types in memory, and of `alloca`.
use Rattle.std.proofs.Common.{◌≡◌, ℕ, length, arith, Bool, true, false, cond, List, [], ◌∷◌, ◌++◌, Option, Some, None, Ok, Err, refl, sym, ap, subst, ◌∙◌, ◌⊎◌, inl, inr}
use Rattle.std.specs.Prelude.{not}
use Rattle.pv_base.specs.declared.name.Name.{Name}
use Rattle.ir_lex.specs.declared.token.Cause.{Cause}
use Rattle.ir_lex.specs.declared.token.Cause.TheVariants as causes
use Rattle.ir_tree.specs.declared.instruction.Argument.{Argument}
use Rattle.ir_tree.specs.declared.instruction.Instruction.TheVariants as instruction
use Rattle.ir_tree.specs.Trees.{TypeV, ConstantV}
use Rattle.ir_text.specs.Tokens.{TokenV, is_mark}
use Rattle.ir_text.specs.Reading.{Outcome, ◌>>=◌, gives, next_is, wrong}
use Rattle.ir_text.specs.Choice.{Opens}
use Rattle.ir_text.specs.Lawful.{Follow, Behind, anything, Lawful}
use Rattle.ir_text.specs.Leaves.{mark}
use Rattle.ir_text.specs.Operands.{an_operand}
use Rattle.ir_text.specs.Spelled.{Spelling, one_token, nothing}
use Rattle.ir_text.specs.Tails.{a_tail, some_tails}
use Rattle.ir_text.specs.Types.{Known, type_at}
use Rattle.ir_text.specs.TypeSpelled.{◌▸◌, a_mark, a_type}
use Rattle.ir_text.proofs.Laws.{nothing_laws}
use Rattle.ir_text.proofs.Choices.{token_laws, respell}
use Rattle.ir_text.proofs.ChoiceLaws.{choice}
use Rattle.ir_text.proofs.OperandLaws.{operand_laws}
use Rattle.ir_text.proofs.Persisting.{Takers}
use Rattle.ir_text.proofs.TailLaws.{tail_laws, tails_laws}
use Rattle.ir_text.proofs.TypeFuel.{type_laws}
use Rattle.ir_text.proofs.TypeLaws.{type_opens}
use Rattle.ir_text.specs.MemoryTypes.{has_layout, memory_type_at}
use Rattle.ir_instr.specs.Parts.{integer_type, integer_argument_at}
use Rattle.ir_instr.specs.Memory.{begins_tail, uncounted, counted, behind_comma, count_at, alloca_at}
use Rattle.ir_instr.specs.InstructionSpelled.{InMemory, an_integer_argument, a_count}
use Rattle.instr_laws.specs.Made.{Made}
use Rattle.instr_laws.specs.Forms.{Value, an_alloca}
use Rattle.instr_laws.proofs.Rows.{last, whole, itself, ended, then, pass}
use Rattle.instr_laws.proofs.Opening.{unopened, one_opens, both_opens, integer_word, the_mark}
use Rattle.instr_laws.proofs.Checked.{verdict, checked}
use Rattle.instr_laws.proofs.Chains.{together, apart}
use Rattle.instr_laws.proofs.Trails.{tails_none, tails_more, tails_cases, tail_opens, type_no_tail}

-- what stands behind an instruction is not passed over
abbrev pub Last : Follow
Last = Behind (is_mark 44) anything

module _ (n : ℕ) (known : Known) where
  -- ---- types with a layout

  why : TypeV → Option Cause
  why of = cond (has_layout known of) None (Some causes.Layout)

  judged : (o : Outcome TypeV) (t : TokenV) → (o >>= λ x. cond (has_layout known x.0) (Ok x) (wrong t causes.Layout)) ≡ (o >>= λ x. verdict (why x.0) t x)
  unfolding why
  judged (Ok x) t = by_layout (has_layout known x.0)
    where
      by_layout : (b : Bool) → cond b (Ok x) (wrong t causes.Layout) ≡ verdict (cond b None (Some causes.Layout)) t x
      by_layout true = refl
      by_layout false = refl
  judged (Err e) t = refl

  pub type_takes : Takers (a_type known)
  type_takes of ws s = let o = type_opens known of ws s in omega (arith, ap length o.parts)

  laid_to : (of : TypeV) (ws : List TokenV) → (a_type known of ws × (why of ≡ None)) → InMemory known of ws
  unfolding why
  laid_to of ws s = record { spelled = s.0; laid_out = by_layout (has_layout known of) s.1 }
    where
      by_layout : (b : Bool) → cond b None (Some causes.Layout) ≡ None → b ≡ true
      by_layout true h = refl
      by_layout false h = absurd cc

  laid_from : (of : TypeV) (ws : List TokenV) → InMemory known of ws → a_type known of ws × (why of ≡ None)
  unfolding why
  laid_from of ws s = (s.spelled, let h = s.laid_out in rw h refl)

  pub memory_type_laws : Lawful n anything (memory_type_at known) (InMemory known)
  unfolding memory_type_at
  memory_type_laws = respell n anything (memory_type_at known) (λ of ws. a_type known of ws × (why of ≡ None)) (InMemory known) laid_to laid_from
      (checked n (type_at known) (a_type known) why (memory_type_at known) (type_laws known n) type_takes refl (λ t rest. judged (type_at known (t ∷ rest)) t))

  -- ---- a number with its type

  integer_to : (a : Argument Name TypeV ConstantV) (ws : List TokenV) → Made (λ (p : TypeV × Value). record { of = p.0; value = p.1 }) (λ p. one_token integer_type p.0 ▸ an_operand known p.0 p.1) a ws → an_integer_argument known a ws
  integer_to a ws t = subst (λ (x : Argument Name TypeV ConstantV). an_integer_argument known x ws) t.is t.spelled

  integer_from : (a : Argument Name TypeV ConstantV) (ws : List TokenV) → an_integer_argument known a ws → Made (λ (p : TypeV × Value). record { of = p.0; value = p.1 }) (λ p. one_token integer_type p.0 ▸ an_operand known p.0 p.1) a ws
  integer_from a ws t = record { parts = (a.of, a.value); is = refl; spelled = t }

  pub integer_argument_laws : Lawful n anything (integer_argument_at known) (an_integer_argument known)
  integer_argument_laws = respell n anything (integer_argument_at known) _ (an_integer_argument known) integer_to integer_from (then (token_laws n integer_type) (λ (of : TypeV). last (λ (value : Value). record { of = of; value = value }) (operand_laws n known of)))

  pub integer_no_tail : (a : Argument Name TypeV ConstantV) (ws : List TokenV) → an_integer_argument known a ws → Opens (λ t. not (begins_tail t)) ws
  integer_no_tail a ws s = both_opens (λ t. not (begins_tail t)) (one_token integer_type a.of) (an_operand known a.of a.value) ws (λ us o. one_opens (λ t. not (begins_tail t)) integer_type a.of us (λ t e. type_no_tail t (integer_word t a.of e)) o) s

  -- ---- a count

  abbrev a_tailed : Spelling (Option (Argument Name TypeV ConstantV))
  a_tailed = Made (λ (u : Unit {0}). None) (λ u. a_tail tt ▸ some_tails u)

  abbrev a_number : Spelling (Option (Argument Name TypeV ConstantV))
  a_number = Made (λ (a : Argument Name TypeV ConstantV). Some a) (λ a. an_integer_argument known a ▸ some_tails tt)

  tailed_laws : Lawful n Last (uncounted known) a_tailed
  tailed_laws = pass (tail_laws n) (last (λ (u : Unit {0}). None) (tails_laws n))

  number_laws : Lawful n Last (counted known) a_number
  number_laws = ended (λ (a : Argument Name TypeV ConstantV). Some a) integer_argument_laws (tails_laws n) (λ ws rest s h. tt)

  tailed_opens : (o : Option (Argument Name TypeV ConstantV)) (ws : List TokenV) → a_tailed o ws → Opens begins_tail ws
  tailed_opens o ws t = both_opens begins_tail (a_tail tt) (some_tails t.parts) ws (λ us s. tail_opens tt us s) t.spelled

  number_not : (o : Option (Argument Name TypeV ConstantV)) (ws rest : List TokenV) → a_number o ws → Last rest → next_is begins_tail (ws ++ rest) ≡ false
  number_not o ws rest t h = unopened begins_tail ws rest (both_opens (λ u. not (begins_tail u)) (an_integer_argument known t.parts) (some_tails tt) ws (λ us s. integer_no_tail t.parts us s) t.spelled)

  abbrev a_behind : Spelling (Option (Argument Name TypeV ConstantV))
  a_behind o ws = a_number o ws ⊎ a_tailed o ws

  behind_laws : Lawful n Last (behind_comma known) (λ o. a_mark 44 ▸ a_behind o)
  behind_laws = itself (pass (token_laws n (mark 44)) (whole (choice n begins_tail Last Last Last (uncounted known) (counted known) a_tailed a_number tailed_laws number_laws tailed_opens number_not (λ rest h. h) (λ rest h. h))))

  comma_opens : (o : Option (Argument Name TypeV ConstantV)) (ws : List TokenV) → (a_mark 44 ▸ a_behind o) ws → Opens (is_mark 44) ws
  comma_opens o ws s = both_opens (is_mark 44) (a_mark 44) (a_behind o) ws (λ us m. one_opens (is_mark 44) (mark 44) tt us (λ t e. the_mark 44 t tt e) m) s

  none_next : (o : Option (Argument Name TypeV ConstantV)) (ws rest : List TokenV) → nothing None o ws → Last rest → next_is (is_mark 44) (ws ++ rest) ≡ false
  none_next o ws rest s h = rw s.1 h.none

  abbrev a_counted : Spelling (Option (Argument Name TypeV ConstantV))
  a_counted o = a_count known o ▸ some_tails tt

  count_to : (o : Option (Argument Name TypeV ConstantV)) (ws : List TokenV) → nothing None o ws ⊎ (a_mark 44 ▸ a_behind o) ws → a_counted o ws
  count_to o ws (inl s) = subst (λ (x : Option (Argument Name TypeV ConstantV)). a_counted x ws) s.0 (record { front = []; rest = ws; parts = refl; first_spells = refl; rest_spells = subst (some_tails tt) (sym s.1) tails_none })
  count_to o ws (inr s) = by_kind s.rest_spells
    where
      by_kind : a_behind o s.rest → a_counted o ws
      by_kind (inl k) =
          subst (λ (x : Option (Argument Name TypeV ConstantV)). a_counted x ws) k.is
          (together (a_mark 44) (an_integer_argument known k.parts) (some_tails tt) ws (record { front = s.front; rest = s.rest; parts = s.parts; first_spells = s.first_spells; rest_spells = k.spelled }))
      by_kind (inr k) =
          subst (λ (x : Option (Argument Name TypeV ConstantV)). a_counted x ws) k.is
          (record { front = []; rest = ws; parts = refl; first_spells = refl; rest_spells = tails_more ws (record { front = s.front; rest = s.rest; parts = s.parts; first_spells = s.first_spells; rest_spells = k.spelled }) })

  count_from : (o : Option (Argument Name TypeV ConstantV)) (ws : List TokenV) → a_counted o ws → nothing None o ws ⊎ (a_mark 44 ▸ a_behind o) ws
  count_from None ws s =
      let same : ws ≡ s.rest = s.parts ∙ ap (λ (u : List TokenV). u ++ s.rest) s.first_spells in
      elim (tails_cases s.rest s.rest_spells) [
        | inl none ↦ inl (refl, same ∙ none)
        | inr t ↦ inr (record { front = t.front; rest = t.rest; parts = same ∙ t.parts; first_spells = t.first_spells; rest_spells = inr (record { parts = tt; is = refl; spelled = t.rest_spells }) })
      ]
  count_from (Some a) ws s =
      let b = apart (a_mark 44) (an_integer_argument known a) (some_tails tt) ws s in
      inr (record { front = b.front; rest = b.rest; parts = b.parts; first_spells = b.first_spells; rest_spells = inl (record { parts = a; is = refl; spelled = b.rest_spells }) })

  count_laws : Lawful n Last (count_at known) a_counted
  count_laws = respell n Last (count_at known) (λ o ws. nothing None o ws ⊎ (a_mark 44 ▸ a_behind o) ws) a_counted count_to count_from
      (choice n (is_mark 44) Last Last Last (behind_comma known) (gives None) (λ o. a_mark 44 ▸ a_behind o) (nothing None) behind_laws (nothing_laws n Last None) comma_opens none_next (λ rest h. h) (λ rest h. h))

  pub alloca_laws : (to : Name) → Lawful n Last (alloca_at known to) (an_alloca known to)
  alloca_laws to = then memory_type_laws (λ (of : TypeV). last (λ (count : Option (Argument Name TypeV ConstantV)). instruction.Alloca to of count) count_laws)
