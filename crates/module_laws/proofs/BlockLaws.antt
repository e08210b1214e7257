-- The laws of instructions one after the other: words before a call may belong to the call before it.
use Rattle.std.proofs.Common.{◌≡◌, ℕ, ◌+◌, ◌≤◌, length, arith, true, false, List, [], ◌∷◌, ◌++◌, Some, None, Ok, refl, sym, ap, subst, ◌∙◌, append_assoc, ◌⊎◌, inl, inr}
use Rattle.std.specs.Prelude.{codes}
use Rattle.std.proofs.lemmas.Bool.{or_cases}
use Rattle.pv_base.specs.declared.name.Name.{Name}
use Rattle.ir_lex.specs.declared.token.TokenKind.{TokenKind}
use Rattle.ir_lex.specs.declared.token.TokenKind.TheVariants as kind
use Rattle.ir_tree.specs.declared.instruction.Instruction.{Instruction}
use Rattle.ir_tree.specs.declared.instruction.Instruction.TheVariants as instruction
use Rattle.ir_tree.specs.Trees.{TypeV, ConstantV}
use Rattle.ir_text.specs.Tokens.{TokenV, among, is_mark, is_word}
use Rattle.ir_text.specs.Reading.{next_is}
use Rattle.ir_text.specs.Lawful.{Lawful}
use Rattle.ir_text.specs.Operands.{is_local}
use Rattle.ir_text.specs.Passed.{stops}
use Rattle.ir_text.specs.Repeated.{each_under}
use Rattle.ir_text.specs.Types.{Known}
use Rattle.ir_text.specs.TypeSpelled.{◌▸◌, a_word}
use Rattle.ir_text.proofs.Marks.{apart}
use Rattle.ir_text.proofs.Persisting.{shortens}
use Rattle.ir_text.proofs.RepeatedLaws.{repeated_is}
use Rattle.ir_instr.specs.InstructionSpelled.{a_result, an_instruction}
use Rattle.ir_instr.specs.Words.{opcodes}
use Rattle.instr_laws.specs.Behind.{BehindInstruction}
use Rattle.instr_laws.proofs.InstructionLaws.{instruction_laws}
use Rattle.instr_laws.proofs.MemoryLaws.{Last}
use Rattle.instr_laws.proofs.Opening.{opened, both_opens}
use Rattle.ir_grammar.specs.Scopes.{Scope, after_instruction}
use Rattle.ir_grammar.specs.Bodies.{is_label, in_block, step_at, instructions_at}
use Rattle.module_laws.specs.Behind.{ends_block, BehindBlock}
use Rattle.module_laws.specs.Blocks.{a_step, some_instructions}
use Rattle.module_laws.proofs.Between.{opens_follow, next_follow, mark_between, word_mark, that_word_between, name_between, name_mark, local_name, label_name}
use Rattle.module_laws.proofs.StepLaws.{Words, step_cases}
use Rattle.module_laws.proofs.Leading.{kind_begins, begins, that_opens, result_opens, instruction_begins, step_opens}
use Rattle.module_laws.proofs.WholeLaws.{loose_instructions}

abbrev Instr : Type 0
Instr = Instruction Name TypeV ConstantV

-- ---- what an instruction begins with

local_starts : (t : TokenV) (us : List TokenV) → is_local t ≡ true → BehindInstruction (t ∷ us)
unfolding next_is
local_starts t us e = let name = local_name t e in record { none = name_mark 44 t name; fits = record { none = name_mark 91 t name; fits = name_between (stops opcodes false) t us name } }

label_starts : (t : TokenV) (us : List TokenV) → is_label t ≡ true → BehindInstruction (t ∷ us)
unfolding next_is
label_starts t us e = let name = label_name t e in record { none = name_mark 44 t name; fits = record { none = name_mark 91 t name; fits = name_between (stops opcodes false) t us name } }

close_starts : (t : TokenV) (us : List TokenV) → is_mark 125 t ≡ true → BehindInstruction (t ∷ us)
unfolding next_is
close_starts t us e = record { none = apart 125 44 t refl e; fits = record { none = apart 125 91 t refl e; fits = mark_between 125 (stops opcodes false) refl refl refl t us e } }

end_starts : (t : TokenV) (us : List TokenV) → ends_block t ≡ true → BehindInstruction (t ∷ us)
end_starts t us e =
    elim (or_cases (is_label t) (is_mark 125 t) e) [
      | inl name ↦ label_starts t us name
      | inr close ↦ close_starts t us close
    ]

word_starts : (w : List ℕ) → among opcodes w ≡ true → (t : TokenV) (us : List TokenV) → is_word w t ≡ true → BehindInstruction (t ∷ us)
unfolding next_is
word_starts w is t us e = record { none = word_mark w 44 t e; fits = record { none = word_mark w 91 t e; fits = that_word_between opcodes w is t us e } }

begins_no_comma_by : (k : TokenKind) (t : TokenV) → t.kind ≡ k → kind_begins k ≡ true → is_mark 44 t ≡ false
begins_no_comma_by kind.LocalName t is e = rw is refl
begins_no_comma_by kind.Word t is e = rw is refl
begins_no_comma_by kind.GlobalName t is e = absurd cc
begins_no_comma_by kind.Label t is e = absurd cc
begins_no_comma_by kind.Integer t is e = absurd cc
begins_no_comma_by kind.Text t is e = absurd cc
begins_no_comma_by kind.Punct t is e = absurd cc

begins_last : (t : TokenV) (us : List TokenV) → begins t ≡ true → Last (t ∷ us)
unfolding next_is
begins_last t us e = record { none = begins_no_comma_by t.kind t refl e; fits = tt }

module _ (known : Known) (next : ℕ) (defined : List Name) where
  abbrev Spelled : Instr → List TokenV → Type 0
  Spelled i ws = an_instruction known next defined i ws

  -- it may stand behind every instruction
  abbrev Starts : List TokenV → Type 0
  Starts ws = (rest : List TokenV) → BehindInstruction (ws ++ rest)

  -- words, and the same instruction without them
  record Parted (i : Instr) (ws : List TokenV) : Type 0 where
    words : List TokenV
    rest : List TokenV
    parts : ws ≡ words ++ rest
    are : Words words
    spelled : Spelled i rest
    starts : Starts rest

  result_starts : (to : Name) (c : List TokenV → Type 0) (ws : List TokenV) → (a_result known next defined to ▸ c) ws → Starts ws
  result_starts to c ws s rest = opens_follow is_local BehindInstruction ws rest local_starts (result_opens known next defined to c ws s)

  effect_starts : (w : List ℕ) → among opcodes w ≡ true → (c : List TokenV → Type 0) (ws : List TokenV) → (a_word w ▸ c) ws → Starts ws
  effect_starts w is c ws s rest = opens_follow (is_word w) BehindInstruction ws rest (word_starts w is) (that_opens w c ws s)

  lead_cases : (i : Instr) (ws : List TokenV) → Spelled i ws → Starts ws ⊎ Parted i ws
  unfolding among
  lead_cases (instruction.Binary to operation flags of left right) ws s = inl (result_starts to _ ws s)
  lead_cases (instruction.Cast to operation flags of value target) ws s = inl (result_starts to _ ws s)
  lead_cases (instruction.Freeze to of value) ws s = inl (result_starts to _ ws s)
  lead_cases (instruction.Compare to pred of left right) ws s = inl (result_starts to _ ws s)
  lead_cases (instruction.Select to condition of on_true on_false) ws s = inl (result_starts to _ ws s)
  lead_cases (instruction.Phi to of arms) ws s = inl (result_starts to _ ws s)
  lead_cases (instruction.Alloca to of count) ws s = inl (result_starts to _ ws s)
  lead_cases (instruction.Load to of pointer) ws s = inl (result_starts to _ ws s)
  lead_cases (instruction.Store of value pointer) ws s = inl (effect_starts (codes "store") refl _ ws s)
  lead_cases (instruction.Address to inbounds of base indices) ws s = inl (result_starts to _ ws s)
  lead_cases (instruction.Call (Some to) of variadic what arguments) ws s = inl (result_starts to _ ws s)
  lead_cases (instruction.Call None of variadic what arguments) ws s =
      elim s.first_spells [
        | inl none ↦
            let is : ws ≡ s.rest = s.parts ∙ ap (λ (u : List TokenV). u ++ s.rest) none in
            inl (subst Starts (sym is) (effect_starts (codes "call") refl _ s.rest s.rest_spells))
        | inr m ↦ inr (record {
          words = s.front;
          rest = s.rest;
          parts = s.parts;
          are = m.1;
          spelled = record { front = []; rest = s.rest; parts = refl; first_spells = inl refl; rest_spells = s.rest_spells };
          starts = effect_starts (codes "call") refl _ s.rest s.rest_spells;
        })
      ]
  lead_cases (instruction.Return value) ws s = inl (effect_starts (codes "ret") refl _ ws s)
  lead_cases (instruction.Jump target) ws s = inl (effect_starts (codes "br") refl _ ws s)
  lead_cases (instruction.Branch condition on_true on_false) ws s = inl (effect_starts (codes "br") refl _ ws s)
  lead_cases (instruction.Switch of value default cases) ws s = inl (effect_starts (codes "switch") refl _ ws s)
  lead_cases instruction.Unreachable ws s = inl (effect_starts (codes "unreachable") refl _ ws s)

-- ---- one after the other

module _ (known : Known) where
  -- where the reading of an instruction ends, and that the others are spelled behind it
  record Advance (scope : Scope) (i : Instr) (others : List Instr) (ts rest : List TokenV) : Type 0 where
    left : List TokenV
    read : step_at known scope ts ≡ Ok (i, left ++ rest)
    spelled : each_under (a_step known) after_instruction (after_instruction scope i) others left

  end_last : (t : TokenV) (us : List TokenV) → ends_block t ≡ true → Last (t ∷ us)
  end_last t us e = record { none = (end_starts t us e).none; fits = tt }

  -- what stands behind an instruction is no `,`
  last_behind : (scope : Scope) (others : List Instr) (ws rest : List TokenV) → each_under (a_step known) after_instruction scope others ws → BehindBlock rest → Last (ws ++ rest)
  last_behind scope [] ws rest s h = subst (λ (u : List TokenV). Last (u ++ rest)) (sym s) (next_follow ends_block Last rest end_last h)
  last_behind scope (j ∷ others) ws rest s h =
      opens_follow begins Last ws rest begins_last (both_opens begins (a_step known scope j) _ ws (λ us o. instruction_begins known scope.next scope.defined j us o) s)

  whole_step : (scope : Scope) (i : Instr) (ws rest : List TokenV) → a_step known scope i ws → BehindInstruction rest → step_at known scope (ws ++ rest) ≡ Ok (i, rest)
  whole_step scope i ws rest s h = (instruction_laws (length ws) known scope.next scope.defined).complete i ws rest (omega arith) s h

  extended : (scope : Scope) (i : Instr) (f : List TokenV) → a_step known scope i f → ((m : List TokenV) → Words m → a_step known scope i (f ++ m)) → (others : List Instr) (ws rest : List TokenV)
      → each_under (a_step known) after_instruction (after_instruction scope i) others ws → BehindBlock rest → Advance scope i others (f ++ (ws ++ rest)) rest
  extended scope i f s more [] ws rest t h =
      let is : ws ++ rest ≡ rest = ap (λ (u : List TokenV). u ++ rest) t in
      record {
        left = [];
        read = ap (λ (u : List TokenV). step_at known scope (f ++ u)) is ∙ whole_step scope i f rest s (next_follow ends_block BehindInstruction rest end_starts h);
        spelled = refl;
      }
  extended scope i f s more (j ∷ others) ws rest t h =
      let next = after_instruction scope i in
      elim (lead_cases known next.next next.defined j t.front t.first_spells) [
        | inl starts ↦
            let is : ws ++ rest ≡ t.front ++ (t.rest ++ rest) = ap (λ (u : List TokenV). u ++ rest) t.parts ∙ append_assoc t.front t.rest rest in
            record { left = ws; read = whole_step scope i f (ws ++ rest) s (subst BehindInstruction (sym is) (starts (t.rest ++ rest))); spelled = t }
        | inr p ↦
            let back : (p.rest ++ t.rest) ++ rest ≡ p.rest ++ (t.rest ++ rest) = append_assoc p.rest t.rest rest in
            let is : ws ++ rest ≡ p.words ++ ((p.rest ++ t.rest) ++ rest) =
            ap (λ (u : List TokenV). u ++ rest) (t.parts ∙ ap (λ (u : List TokenV). u ++ t.rest) p.parts ∙ append_assoc p.words p.rest t.rest) ∙ append_assoc p.words (p.rest ++ t.rest) rest in
            record {
              left = p.rest ++ t.rest;
              read = ap (λ (u : List TokenV). step_at known scope (f ++ u)) is ∙ ap (step_at known scope) (sym (append_assoc f p.words ((p.rest ++ t.rest) ++ rest)))
                  ∙ whole_step scope i (f ++ p.words) ((p.rest ++ t.rest) ++ rest) (more p.words p.are) (subst BehindInstruction (sym back) (p.starts (t.rest ++ rest)));
              spelled = record { front = p.rest; rest = t.rest; parts = refl; first_spells = p.spelled; rest_spells = t.rest_spells };
            }
      ]

  advance : (scope : Scope) (i : Instr) (f : List TokenV) → a_step known scope i f → (others : List Instr) (ws rest : List TokenV)
      → each_under (a_step known) after_instruction (after_instruction scope i) others ws → BehindBlock rest → Advance scope i others (f ++ (ws ++ rest)) rest
  advance scope i f s others ws rest t h =
      elim (step_cases known scope.next scope.defined i f s) [
        | inl settled ↦ record { left = ws; read = settled (ws ++ rest) (last_behind (after_instruction scope i) others ws rest t h); spelled = t }
        | inr more ↦ extended scope i f s more others ws rest t h
      ]

  step_shorter : (scope : Scope) (ts : List TokenV) (x : Instr × List TokenV) → step_at known scope ts ≡ Ok x → 1 + length x.1 ≤ length ts
  step_shorter scope ts x e =
      shortens 0 BehindInstruction (step_at known scope) (a_step known scope) (instruction_laws 0 known scope.next scope.defined) (λ i ws s. let o = step_opens known scope i ws s in omega (arith, ap length o.parts)) ts x e

  block_over : (rest : List TokenV) → BehindBlock rest → next_is in_block rest ≡ false
  unfolding next_is
  block_over rest h = next_follow ends_block (λ us. next_is in_block us ≡ false) rest (λ t us e. over_here t e) h
    where
      over_here : (t : TokenV) → ends_block t ≡ true → in_block t ≡ false
      over_here t e = rw e refl

  all_read : (scope : Scope) (all : List Instr) (ws rest : List TokenV) → some_instructions known scope all ws → BehindBlock rest → instructions_at known scope (ws ++ rest) ≡ Ok (all, rest)
  all_read scope [] ws rest s h =
      let is : ws ++ rest ≡ rest = ap (λ (u : List TokenV). u ++ rest) s in
      let over = block_over rest h in
      ap (instructions_at known scope) is ∙ repeated_is in_block (step_at known) after_instruction step_shorter scope rest ∙ rw over refl
  all_read scope (i ∷ all) ws rest s h =
      let a = advance scope i s.front s.first_spells all s.rest rest s.rest_spells h in
      let is : ws ++ rest ≡ s.front ++ (s.rest ++ rest) = ap (λ (u : List TokenV). u ++ rest) s.parts ∙ append_assoc s.front s.rest rest in
      let here : next_is in_block (s.front ++ (s.rest ++ rest)) ≡ true = opened in_block s.front (s.rest ++ rest) (step_opens known scope i s.front s.first_spells) in
      let read = a.read in
      let others = all_read (after_instruction scope i) all a.left rest a.spelled h in
      ap (instructions_at known scope) is ∙ repeated_is in_block (step_at known) after_instruction step_shorter scope (s.front ++ (s.rest ++ rest)) ∙ rw here (rw read (rw others refl))

  pub instructions_laws : (n : ℕ) (scope : Scope) → Lawful n BehindBlock (instructions_at known scope) (some_instructions known scope)
  instructions_laws n scope =
      let loose = loose_instructions n known scope in
      record { sound = loose.sound; complete = λ all ws rest short s h. all_read scope all ws rest s h; faults = loose.faults; begins = loose.begins }
