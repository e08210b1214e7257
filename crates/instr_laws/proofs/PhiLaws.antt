-- The laws of `phi`.
use Rattle.std.proofs.Common.{◌≡◌, ℕ, false, List, [], ◌∷◌, ◌++◌, refl, sym, ap, subst, ◌∙◌}
use Rattle.std.proofs.lemmas.List.{append-nil}
use Rattle.pv_base.specs.declared.name.Name.{Name}
use Rattle.ir_tree.specs.declared.instruction.Arm.{Arm}
use Rattle.ir_tree.specs.declared.instruction.Instruction.{Instruction}
use Rattle.ir_tree.specs.declared.instruction.Instruction.TheVariants as instruction
use Rattle.ir_tree.specs.Trees.{TypeV, ConstantV}
use Rattle.ir_text.specs.Tokens.{TokenV, is_mark}
use Rattle.ir_text.specs.Reading.{next_is}
use Rattle.ir_text.specs.Choice.{Opens}
use Rattle.ir_text.specs.Lawful.{anything, Lawful}
use Rattle.ir_text.specs.Leaves.{mark, local}
use Rattle.ir_text.specs.Lists.{with_comma}
use Rattle.ir_text.specs.Operands.{an_operand}
use Rattle.ir_text.specs.Repeated.{each}
use Rattle.ir_text.specs.Spelled.{Spelling, one_token}
use Rattle.ir_text.specs.Tails.{a_tail, some_tails}
use Rattle.ir_text.specs.Trailing.{trailing_at, a_trailing}
use Rattle.ir_text.specs.Types.{Known, register_type}
use Rattle.ir_text.specs.TypeSpelled.{◌▸◌, a_mark}
use Rattle.ir_text.proofs.Choices.{token_laws, respell}
use Rattle.ir_text.proofs.OperandLaws.{operand_laws}
use Rattle.ir_text.proofs.TrailingLaws.{trailing_laws}
use Rattle.ir_instr.specs.Selecting.{arm_at, phi_at}
use Rattle.ir_instr.specs.InstructionSpelled.{an_arm, some_arms}
use Rattle.instr_laws.specs.Made.{Made}
use Rattle.instr_laws.specs.Forms.{Value, a_phi}
use Rattle.instr_laws.proofs.Rows.{last, ended, then, pass}
use Rattle.instr_laws.proofs.Opening.{one_opens, both_opens, the_mark}
use Rattle.instr_laws.proofs.Chains.{together, apart}
use Rattle.instr_laws.proofs.Trails.{tail_opens, tail_mark}
use Rattle.instr_laws.proofs.MemoryLaws.{Last}

-- ---- items behind commas

module _ {A : Type 0} (s : Spelling A) where
  unit_mark : (u : Unit {0}) (ws : List TokenV) → one_token (mark 44) u ws → a_mark 44 ws
  unit_mark u ws h = h

  commas_to : (all : List A) (ws : List TokenV) → each (with_comma s) all ws → each (λ a. a_mark 44 ▸ s a) all ws
  commas_to [] ws t = t
  commas_to (a ∷ all) ws t =
      let c = t.first_spells in
      record {
        front = t.front;
        rest = t.rest;
        parts = t.parts;
        first_spells = record { front = c.front; rest = c.rest; parts = c.parts; first_spells = unit_mark c.value c.front c.first_spells; rest_spells = c.rest_spells };
        rest_spells = commas_to all t.rest t.rest_spells;
      }

  commas_from : (all : List A) (ws : List TokenV) → each (λ a. a_mark 44 ▸ s a) all ws → each (with_comma s) all ws
  commas_from [] ws t = t
  commas_from (a ∷ all) ws t =
      let c = t.first_spells in
      record {
        front = t.front;
        rest = t.rest;
        parts = t.parts;
        first_spells = record { value = tt; front = c.front; rest = c.rest; parts = c.parts; first_spells = c.first_spells; rest_spells = c.rest_spells };
        rest_spells = commas_from all t.rest t.rest_spells;
      }

  abbrev some_trailing : Spelling (List A)
  some_trailing all = each (λ a. a_mark 44 ▸ s a) all ▸ some_tails tt

  unit_tails : (u : Unit {0}) (ws : List TokenV) → some_tails u ws → some_tails tt ws
  unit_tails u ws h = h

  trailing_to : (all : List A) (ws : List TokenV) → a_trailing s all ws → some_trailing all ws
  trailing_to all ws t =
      let r = t.rest_spells in
      let flat : t.rest ≡ r.front = r.parts ∙ ap (λ (u : List TokenV). r.front ++ u) r.rest_spells.1 ∙ append-nil r.front in
      record {
        front = t.front;
        rest = r.front;
        parts = t.parts ∙ ap (λ (u : List TokenV). t.front ++ u) flat;
        first_spells = subst (λ (xs : List A). each (λ a. a_mark 44 ▸ s a) xs t.front) r.rest_spells.0 (commas_to t.value t.front t.first_spells);
        rest_spells = unit_tails r.value r.front r.first_spells;
      }

  trailing_from : (all : List A) (ws : List TokenV) → some_trailing all ws → a_trailing s all ws
  trailing_from all ws t = record {
    value = all;
    front = t.front;
    rest = t.rest;
    parts = t.parts;
    first_spells = commas_from all t.front t.first_spells;
    rest_spells = record { value = tt; front = t.rest; rest = []; parts = sym (append-nil t.rest); first_spells = t.rest_spells; rest_spells = (refl, refl) };
  }

-- ---- arms

module _ (n : ℕ) (known : Known) (of : TypeV) where
  abbrev made_arm : Spelling (Arm Name ConstantV)
  made_arm = Made (λ (p : Value × Name). record { value = p.0; from = p.1 }) (λ p. a_mark 91 ▸ an_operand known of p.0 ▸ a_mark 44 ▸ one_token local p.1 ▸ a_mark 93)

  pub arm_laws : Lawful n anything (arm_at known of) (an_arm known of)
  arm_laws = respell n anything (arm_at known of) made_arm (an_arm known of)
      (λ a ws t. subst (λ (x : Arm Name ConstantV). an_arm known of x ws) t.is t.spelled)
      (λ a ws t. record { parts = (a.value, a.from); is = refl; spelled = t })
      (pass (token_laws n (mark 91)) (then (operand_laws n known of) (λ (value : Value). pass (token_laws n (mark 44)) (ended (λ (from : Name). record { value = value; from = from }) (token_laws n local) (token_laws n (mark 93)) (λ ws rest s h. tt)))))

  arm_opens : (a : Arm Name ConstantV) (ws : List TokenV) → an_arm known of a ws → Opens (is_mark 91) ws
  arm_opens a ws s = both_opens (is_mark 91) (a_mark 91) _ ws (λ us m. one_opens (is_mark 91) (mark 91) tt us (λ t e. the_mark 91 t tt e) m) s

  tail_not : (u : Unit {0}) (ws rest : List TokenV) → a_tail u ws → next_is (is_mark 91) (ws ++ rest) ≡ false
  unfolding next_is
  tail_not u ws rest s = let o = tail_opens u ws s in ap (λ (v : List TokenV). next_is (is_mark 91) (v ++ rest)) o.parts ∙ tail_mark 91 o.token refl o.is

  others_laws : Lawful n Last (trailing_at (is_mark 91) (arm_at known of)) (some_trailing (an_arm known of))
  others_laws = respell n Last (trailing_at (is_mark 91) (arm_at known of)) (a_trailing (an_arm known of)) (some_trailing (an_arm known of)) (trailing_to (an_arm known of)) (trailing_from (an_arm known of))
      (trailing_laws n (is_mark 91) (arm_at known of) (an_arm known of) anything arm_laws arm_opens tail_not (λ t rest e. tt))

abbrev Arms : Type 0
Arms = List (Arm Name ConstantV)

module _ (n : ℕ) (known : Known) (to : Name) where
  abbrev made_phi : Spelling (Instruction Name TypeV ConstantV)
  made_phi = Made (λ (p : TypeV × (Arm Name ConstantV × Arms)). instruction.Phi to p.0 (p.1.0 ∷ p.1.1)) (λ p. one_token register_type p.0 ▸ an_arm known p.0 p.1.0 ▸ some_trailing (an_arm known p.0) p.1.1)

  phi_to : (i : Instruction Name TypeV ConstantV) (ws : List TokenV) → made_phi i ws → a_phi known to i ws
  phi_to i ws t =
      let b = t.spelled in
      record {
        parts = (t.parts.0, t.parts.1.0 ∷ t.parts.1.1);
        is = t.is;
        spelled = record { front = b.front; rest = b.rest; parts = b.parts; first_spells = b.first_spells; rest_spells = together (an_arm known t.parts.0 t.parts.1.0) _ (some_tails tt) b.rest b.rest_spells };
      }

  phi_from : (i : Instruction Name TypeV ConstantV) (ws : List TokenV) → a_phi known to i ws → made_phi i ws
  phi_from i ws t = by_arms t.parts.0 t.parts.1 t.is t.spelled
    where
      by_arms : (of : TypeV) (arms : Arms) → instruction.Phi to of arms ≡ i → (one_token register_type of ▸ some_arms known of arms ▸ some_tails tt) ws → made_phi i ws
      by_arms of [] is b = absurd b.rest_spells.first_spells
      by_arms of (first ∷ others) is b = record {
        parts = (of, (first, others));
        is = is;
        spelled = record { front = b.front; rest = b.rest; parts = b.parts; first_spells = b.first_spells; rest_spells = apart (an_arm known of first) _ (some_tails tt) b.rest b.rest_spells };
      }

  pub phi_laws : Lawful n Last (phi_at known to) (a_phi known to)
  phi_laws = respell n Last (phi_at known to) made_phi (a_phi known to) phi_to phi_from
      (then (token_laws n register_type) (λ (of : TypeV). then (arm_laws n known of) (λ (first : Arm Name ConstantV). last (λ (others : Arms). instruction.Phi to of (first ∷ others)) (others_laws n known of))))
