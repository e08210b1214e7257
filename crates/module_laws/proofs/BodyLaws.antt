-- The laws of the bodies of functions.
use Rattle.std.proofs.Common.{◌≡◌, ℕ, ◌+◌, length, arith, Bool, true, false, cond, List, [], ◌∷◌, ◌++◌, Ok, Err, refl, sym, ap, subst, ◌∙◌, append_assoc, ◌⊎◌, inl, inr}
use Rattle.std.specs.Prelude.{not}
use Rattle.std.proofs.lemmas.List.{length-append}
use Rattle.pv_base.specs.declared.name.Name.{Name}
use Rattle.pv_base.specs.declared.name.Name.TheVariants.{Numbered}
use Rattle.ir_lex.specs.declared.token.TokenKind.{TokenKind}
use Rattle.ir_lex.specs.declared.token.TokenKind.TheVariants as kind
use Rattle.ir_tree.specs.declared.instruction.Instruction.{Instruction}
use Rattle.ir_tree.specs.declared.items.Block.{Block}
use Rattle.ir_tree.specs.Trees.{TypeV, ConstantV}
use Rattle.ir_text.specs.declared.fault.Fault.TheVariants.{Ended}
use Rattle.ir_text.specs.Tokens.{TokenV}
use Rattle.ir_text.specs.Reading.{Outcome, Reader, ◌>>=◌, next_is, token_by}
use Rattle.ir_text.specs.Choice.{choose, Opens}
use Rattle.ir_text.specs.Lawful.{Follow, anything, Lawful}
use Rattle.ir_text.specs.Leaves.{mark, mark_at}
use Rattle.ir_text.specs.Repeated.{repeated_to, repeated_under, each_under}
use Rattle.ir_text.specs.Spelled.{Spelling, one_token}
use Rattle.ir_text.specs.Types.{Known}
use Rattle.ir_text.specs.TypeSpelled.{◌▸◌, a_mark}
use Rattle.ir_text.proofs.Choices.{respell, token_laws, weaken}
use Rattle.ir_text.proofs.ChoiceLaws.{choice}
use Rattle.ir_text.proofs.Marks.{mark_opens}
use Rattle.ir_text.proofs.Persisting.{Takers}
use Rattle.instr_laws.specs.Made.{Made}
use Rattle.instr_laws.proofs.Chains.{together, apart}
use Rattle.instr_laws.proofs.Restricted.{only, only_laws}
use Rattle.instr_laws.proofs.Rows.{last, ended, then, before}
use Rattle.instr_laws.proofs.Opening.{unopened, both_opens, one_opens}
use Rattle.instr_laws.proofs.Said.{reread}
use Rattle.ir_grammar.specs.Scopes.{Scope, defining, after_block}
use Rattle.ir_grammar.specs.Bodies.{is_label, kind_is_label, new_label_by, new_label, entry_label_at, instructions_at, block_behind, block_at, body_at}
use Rattle.module_laws.specs.Blocks.{some_instructions, a_block, a_body}
use Rattle.module_laws.proofs.RowLaws.{row_laws}

abbrev Instr : Type 0
Instr = Instruction Name TypeV ConstantV

abbrev BlockV : Type 0
BlockV = Block Name TypeV ConstantV

abbrev block_of : Name → List Instr → BlockV
block_of label all = record { label = label; instructions = all }

label_by : (scope : Scope) (k : TokenKind) (t : TokenV) (name : Name) → new_label_by scope k t ≡ Ok name → kind_is_label k ≡ true
label_by scope kind.Label t name e = refl
label_by scope kind.LocalName t name e = absurd cc
label_by scope kind.GlobalName t name e = absurd cc
label_by scope kind.Integer t name e = absurd cc
label_by scope kind.Word t name e = absurd cc
label_by scope kind.Text t name e = absurd cc
label_by scope kind.Punct t name e = absurd cc

pub label_opens : (scope : Scope) (name : Name) (ws : List TokenV) → one_token (new_label scope) name ws → Opens is_label ws
label_opens scope name ws s = one_opens is_label (new_label scope) name ws (λ t e. label_by scope t.kind t name e) s

pub block_opens : (known : Known) (scope : Scope) (b : BlockV) (ws : List TokenV) → a_block known scope b ws → Opens is_label ws
block_opens known scope b ws s = both_opens is_label (one_token (new_label scope) b.label) _ ws (λ us o. label_opens scope b.label us o) s

-- What stands behind instructions, behind a block and behind a body: instructions are read before a label or the closing
-- brace, blocks before the closing brace.
module _ (n : ℕ) (known : Known) (inner blocks follow : Follow)
    (instructions_laws : (scope : Scope) → Lawful n inner (instructions_at known scope) (some_instructions known scope))
    (over : (rest : List TokenV) → blocks rest → next_is is_label rest ≡ false)
    (comes : (scope : Scope) (all : List BlockV) (ws rest : List TokenV) → each_under (a_block known) after_block scope all ws → blocks rest → inner (ws ++ rest))
    (closes : (ws rest : List TokenV) → a_mark 125 ws → follow rest → blocks (ws ++ rest)) where
  abbrev made_behind : Scope → Name → Spelling BlockV
  made_behind scope label = Made (λ (all : List Instr). record { label = label; instructions = all }) (λ all. some_instructions known (defining scope label) all)

  behind_laws : (scope : Scope) (label : Name) → Lawful n inner (block_behind known scope label) (made_behind scope label)
  behind_laws scope label = last (λ (all : List Instr). record { label = label; instructions = all }) (instructions_laws (defining scope label))

  pub block_laws : (scope : Scope) → Lawful n inner (block_at known scope) (a_block known scope)
  block_laws scope = respell n inner (block_at known scope) (Made (λ (p : Name × List Instr). record { label = p.0; instructions = p.1 }) (λ p. one_token (new_label scope) p.0 ▸ some_instructions known (defining scope p.0) p.1)) (a_block known scope)
      (λ b ws t. subst (λ (x : BlockV). a_block known scope x ws) t.is t.spelled)
      (λ b ws t. record { parts = (b.label, b.instructions); is = refl; spelled = t })
      (then (token_laws n (new_label scope)) (λ (label : Name). behind_laws scope label))

  blocks_laws : (scope : Scope) → Lawful n blocks (repeated_under is_label (block_at known) after_block scope) (each_under (a_block known) after_block scope)
  blocks_laws scope = row_laws n is_label (block_at known) after_block (a_block known) inner blocks block_laws (block_opens known) over comes scope

  -- ---- behind the label of the entry

  abbrev Others : Scope → List BlockV → List TokenV → Type 0
  Others scope others = each_under (a_block known) after_block scope others ▸ a_mark 125

  -- the other blocks and the closing brace
  rest_at : Scope → BlockV → Reader (List BlockV)
  rest_at scope entry ts = repeated_under is_label (block_at known) after_block (after_block scope entry) ts >>= λ others. mark_at 125 others.1 >>= λ close. Ok (entry ∷ others.0, close.1)

  abbrev labelled_at : Scope → Name → Reader (List BlockV)
  labelled_at scope label ts = block_behind known scope label ts >>= λ entry. rest_at scope entry.0 entry.1

  abbrev behind_label : Scope → Name → Spelling (List BlockV)
  behind_label scope label = Made (λ (p : BlockV × List BlockV). p.0 ∷ p.1) (λ p. made_behind scope label p.0 ▸ Others (after_block scope p.0) p.1)

  closed : (scope : Scope) (others : List BlockV) (ws rest : List TokenV) → Others scope others ws → follow rest → inner (ws ++ rest)
  closed scope others ws rest s h =
      let is : ws ++ rest ≡ s.front ++ (s.rest ++ rest) = ap (λ (u : List TokenV). u ++ rest) s.parts ∙ append_assoc s.front s.rest rest in
      subst inner (sym is) (comes scope others s.front (s.rest ++ rest) s.first_spells (closes s.rest rest s.rest_spells h))

  labelled_laws : (scope : Scope) (label : Name) → Lawful n follow (labelled_at scope label) (behind_label scope label)
  unfolding rest_at
  labelled_laws scope label =
      before (behind_laws scope label) (λ (entry : BlockV). ended (λ (others : List BlockV). entry ∷ others) (blocks_laws (after_block scope entry)) (weaken n anything follow (mark_at 125) (one_token (mark 125)) (λ rest h. tt) (token_laws n (mark 125))) (λ ws rest s h. closes ws rest s h))
      (λ entry others ws rest s h. closed (after_block scope entry) others ws rest s h)

  abbrev with_label : Scope → Spelling (List BlockV)
  with_label scope = Made (λ (p : Name × (BlockV × List BlockV)). p.1.0 ∷ p.1.1) (λ p. one_token (new_label scope) p.0 ▸ made_behind scope p.0 p.1.0 ▸ Others (after_block scope p.1.0) p.1.1)

  abbrev label_first : Scope → Reader (List BlockV)
  label_first scope ts = token_by (new_label scope) ts >>= λ label. labelled_at scope label.0 label.1

  with_label_laws : (scope : Scope) → Lawful n follow (label_first scope) (with_label scope)
  with_label_laws scope = then (token_laws n (new_label scope)) (λ (label : Name). labelled_laws scope label)

  -- ---- without a label

  abbrev no_label_first : TokenV → Bool
  no_label_first t = not (is_label t)

  behind_takes : (scope : Scope) (label : Name) → Takers (behind_label scope label)
  behind_takes scope label all ws s =
      let o = s.spelled.rest_spells in
      let m = mark_opens 125 o.rest o.rest_spells in
      let one = ap length m.parts in
      let two : length ws ≡ length s.spelled.front + length s.spelled.rest = ap length s.spelled.parts ∙ length-append s.spelled.front s.spelled.rest in
      let three : length s.spelled.rest ≡ length o.front + length o.rest = ap length o.parts ∙ length-append o.front o.rest in
      omega arith

  abbrev bare_at : Scope → Reader (List BlockV)
  bare_at scope = only n follow no_label_first (labelled_at scope (Numbered scope.next)) (behind_label scope (Numbered scope.next)) (labelled_laws scope (Numbered scope.next)) (behind_takes scope (Numbered scope.next))

  abbrev bare : Scope → Spelling (List BlockV)
  bare scope all ws = behind_label scope (Numbered scope.next) all ws × Opens no_label_first ws

  bare_laws : (scope : Scope) → Lawful n follow (bare_at scope) (bare scope)
  bare_laws scope = only_laws n follow no_label_first (labelled_at scope (Numbered scope.next)) (behind_label scope (Numbered scope.next)) (labelled_laws scope (Numbered scope.next)) (behind_takes scope (Numbered scope.next))

  -- ---- both

  in_order : {A B C : Type 0} (o : Outcome A) (f : A × List TokenV → Outcome B) (g : B × List TokenV → Outcome C) → (o >>= λ x. f x >>= g) ≡ (o >>= f) >>= g
  in_order (Ok x) f g = refl
  in_order (Err e) f g = refl

  no_tokens : (scope : Scope) → labelled_at scope (Numbered scope.next) [] ≡ Err Ended
  unfolding rest_at repeated_under repeated_to next_is token_by
  no_tokens scope = refl

  same_body : (scope : Scope) (ts : List TokenV) → choose is_label (label_first scope) (bare_at scope) ts ≡ body_at known scope ts
  unfolding rest_at next_is
  same_body scope [] = sym (no_tokens scope)
  same_body scope (t ∷ ts) = by_label (is_label t) ∙ in_order (entry_label_at scope (t ∷ ts)) (λ label. block_behind known scope label.0 label.1) (λ entry. rest_at scope entry.0 entry.1)
    where
      by_label : (b : Bool) → cond b (label_first scope (t ∷ ts)) (cond (not b) (labelled_at scope (Numbered scope.next) (t ∷ ts)) (Err Ended)) ≡ (cond b (token_by (new_label scope) (t ∷ ts)) (Ok (Numbered scope.next, t ∷ ts)) >>= λ label. labelled_at scope label.0 label.1)
      by_label true = refl
      by_label false = refl

  both_to : (scope : Scope) (all : List BlockV) (ws : List TokenV) → bare scope all ws ⊎ with_label scope all ws → a_body known scope all ws
  both_to scope all ws (inr t) =
      let b = t.spelled in
      let m = b.rest_spells in
      let e = m.first_spells in
      subst (λ (x : List BlockV). a_body known scope x ws) t.is
      (inl (subst (λ (x : BlockV). (a_block known scope x ▸ Others (after_block scope t.parts.1.0) t.parts.1.1) ws) e.is
      (together (one_token (new_label scope) t.parts.0) (some_instructions known (defining scope t.parts.0) e.parts) (Others (after_block scope t.parts.1.0) t.parts.1.1) ws
      (record { front = b.front; rest = b.rest; parts = b.parts; first_spells = b.first_spells; rest_spells = record { front = m.front; rest = m.rest; parts = m.parts; first_spells = e.spelled; rest_spells = m.rest_spells } }))))
  both_to scope all ws (inl (t, o)) =
      let m = t.spelled in
      let e = m.first_spells in
      subst (λ (x : List BlockV). a_body known scope x ws) t.is
      (inr (ap (λ (x : BlockV). x.label) e.is, o, subst (λ (x : BlockV). (some_instructions known (defining scope x.label) x.instructions ▸ Others (after_block scope t.parts.0) t.parts.1) ws) e.is (record { front = m.front; rest = m.rest; parts = m.parts; first_spells = e.spelled; rest_spells = m.rest_spells })))

  both_from : (scope : Scope) (all : List BlockV) (ws : List TokenV) → a_body known scope all ws → bare scope all ws ⊎ with_label scope all ws
  both_from scope [] ws t = absurd t
  both_from scope (entry ∷ others) ws (inl t) =
      let a = apart (one_token (new_label scope) entry.label) (some_instructions known (defining scope entry.label) entry.instructions) (Others (after_block scope entry) others) ws t in
      let m = a.rest_spells in
      inr (record {
        parts = (entry.label, (entry, others));
        is = refl;
        spelled = record { front = a.front; rest = a.rest; parts = a.parts; first_spells = a.first_spells; rest_spells = record { front = m.front; rest = m.rest; parts = m.parts; first_spells = record { parts = entry.instructions; is = refl; spelled = m.first_spells }; rest_spells = m.rest_spells } };
      })
  both_from scope (entry ∷ others) ws (inr t) =
      let m = t.2 in
      inl (
        record {
          parts = (entry, others);
          is = refl;
          spelled = record {
            front = m.front;
            rest = m.rest;
            parts = m.parts;
            first_spells = record {
              parts = entry.instructions;
              is = ap (λ (name : Name). block_of name entry.instructions) t.0;
              spelled = subst (λ (name : Name). some_instructions known (defining scope name) entry.instructions m.front) (sym t.0) m.first_spells;
            };
            rest_spells = m.rest_spells;
          };
        },
        t.1,
      )

  pub body_laws : (scope : Scope) → Lawful n follow (body_at known scope) (a_body known scope)
  body_laws scope =
      reread n follow (λ ts. choose is_label (label_first scope) (bare_at scope) ts) (body_at known scope) (a_body known scope) (same_body scope)
      (respell n follow (λ ts. choose is_label (label_first scope) (bare_at scope) ts) (λ all ws. bare scope all ws ⊎ with_label scope all ws) (a_body known scope) (both_to scope) (both_from scope)
      (choice n is_label follow follow follow (label_first scope) (bare_at scope) (with_label scope) (bare scope) (with_label_laws scope) (bare_laws scope)
      (λ all ws s. both_opens is_label (one_token (new_label scope) s.parts.0) _ ws (λ us o. label_opens scope s.parts.0 us o) s.spelled)
      (λ all ws rest s h. unopened is_label ws rest s.1) (λ rest h. h) (λ rest h. h)))
