-- The laws of declarations and definitions.
use Rattle.std.proofs.Common.{◌≡◌, ℕ, Bool, true, false, List, [], ◌∷◌, ◌++◌, refl, sym, ap, subst, ◌∙◌, inl, inr}
use Rattle.std.specs.Prelude.{not}
use Rattle.pv_base.specs.declared.name.Name.{Name}
use Rattle.ir_tree.specs.declared.items.Block.{Block}
use Rattle.ir_tree.specs.declared.items.Function.{Function}
use Rattle.ir_tree.specs.Trees.{TypeV, ConstantV}
use Rattle.ir_text.specs.Tokens.{TokenV, is_mark}
use Rattle.ir_text.specs.Reading.{next_is}
use Rattle.ir_text.specs.Choice.{Opens}
use Rattle.ir_text.specs.Lawful.{Follow, Behind, anything, Lawful}
use Rattle.ir_text.specs.Leaves.{mark}
use Rattle.ir_text.specs.Passed.{some_words, stops, is_type_word}
use Rattle.ir_text.specs.Spelled.{Spelling, one_token}
use Rattle.ir_text.specs.Tails.{some_notes}
use Rattle.ir_text.specs.Types.{Known, result_type}
use Rattle.ir_text.specs.TypeSpelled.{◌▸◌, a_mark}
use Rattle.ir_text.proofs.Choices.{respell, token_laws, weaken}
use Rattle.ir_text.proofs.Marks.{apart, mark_opens}
use Rattle.ir_text.proofs.PassedLaws.{words_laws, passed_opens}
use Rattle.ir_text.proofs.TailLaws.{notes_laws}
use Rattle.instr_laws.specs.Made.{Made}
use Rattle.instr_laws.proofs.Attributes.{words_cases}
use Rattle.instr_laws.proofs.Opening.{unopened, both_opens, one_opens, not_mark, result_word}
use Rattle.instr_laws.proofs.Rows.{last, then, past, pass}
use Rattle.instr_laws.proofs.Values.{passed_mark}
use Rattle.ir_grammar.specs.Headers.{Header, scope_of}
use Rattle.ir_grammar.specs.Bodies.{body_at}
use Rattle.ir_grammar.specs.Items.{item_words, declared_function, declaration_at, definition_at}
use Rattle.module_laws.specs.Heads.{a_head}
use Rattle.module_laws.specs.Blocks.{a_body}
use Rattle.module_laws.specs.Skipped.{some_attached}
use Rattle.module_laws.specs.ItemsSpelled.{a_declaration, defined_function, a_definition}
use Rattle.module_laws.specs.Behind.{Between, BehindDeclaration}
use Rattle.module_laws.proofs.Between.{opens_follow, mark_between}
use Rattle.module_laws.proofs.HeadLaws.{head_laws}
use Rattle.module_laws.proofs.SkippedLaws.{Last, attached_laws, attached_cases, notes_cases}

abbrev FunctionV : Type 0
FunctionV = Function Name TypeV ConstantV

abbrev BlockV : Type 0
BlockV = Block Name TypeV ConstantV

-- a head begins with no `!`
pub head_opens : (declared : Bool) (values : List Name) (h : Header) (ws : List TokenV) → a_head declared values h ws → Opens (λ t. not (is_mark 33 t)) ws
head_opens declared values h ws s =
    elim (words_cases (stops [] true) s.front s.first_spells) [
      | inl none ↦
          let r = s.rest_spells in
          let o = both_opens (λ t. not (is_mark 33 t)) (one_token result_type h.result) _ s.rest (λ us m. one_opens (λ t. not (is_mark 33 t)) result_type h.result us (λ t e. not_mark is_type_word 33 t (result_word t h.result e)) m) r in
          record { token = o.token; rest = o.rest; parts = s.parts ∙ ap (λ (u : List TokenV). u ++ s.rest) none ∙ o.parts; is = o.is }
      | inr some ↦
          let p = passed_opens (stops [] true) tt some.front some.first_spells in
          let other : is_mark 33 p.token ≡ false = passed_mark 33 (stops [] true) p.token refl p.is in
          record { token = p.token; rest = (p.rest ++ some.rest) ++ s.rest; parts = s.parts ∙ ap (λ (u : List TokenV). u ++ s.rest) (some.parts ∙ ap (λ (u : List TokenV). u ++ some.rest) p.parts); is = rw other refl }
    ]

module _ (n : ℕ) where
  attached_behind : (ws rest : List TokenV) → some_attached ws → BehindDeclaration rest → Between (stops item_words false) (ws ++ rest)
  attached_behind ws rest s h =
      elim (attached_cases ws s) [
        | inl none ↦ subst (λ (u : List TokenV). Between (stops item_words false) (u ++ rest)) (sym none) h.fits
        | inr o ↦ opens_follow (is_mark 33) (Between (stops item_words false)) ws rest (mark_between 33 (stops item_words false) refl refl refl) o
      ]

  abbrev made_declaration : List Name → Spelling FunctionV
  made_declaration values = Made (λ (p : Header × Unit {0}). declared_function p.0) (λ p. some_notes tt ▸ a_head true values p.0 ▸ some_words (stops item_words false) tt ▸ some_attached)

  pub declaration_laws : (values : List Name) → Lawful n BehindDeclaration (declaration_at values) (a_declaration values)
  declaration_laws values = respell n BehindDeclaration (declaration_at values) (made_declaration values) (a_declaration values)
      (λ f ws t. record { parts = t.parts.0; is = t.is; spelled = t.spelled })
      (λ f ws t. record { parts = (t.parts, tt); is = t.is; spelled = t.spelled })
      (past (notes_laws n) (then (head_laws n true values) (λ (h : Header). past (words_laws (stops item_words false) n)
      (last (λ (u : Unit {0}). declared_function h) (weaken n Last BehindDeclaration _ _ (λ rest h. record { none = h.none; fits = tt }) (attached_laws n)))
      (λ u ws rest s h. attached_behind ws rest s h)))
      (λ p ws rest s h. record { none = unopened (is_mark 33) ws rest (both_opens (λ t. not (is_mark 33 t)) (a_head true values p.0) _ ws (λ us o. head_opens true values p.0 us o) s); fits = tt }))

  -- ---- definitions

  module _ (known : Known) (values : List Name) (follow : Follow) (body_laws : (h : Header) → Lawful n follow (body_at known (scope_of h.params)) (a_body known (scope_of h.params))) where
    brace_opens : (c : List TokenV → Type 0) (ws : List TokenV) → (a_mark 123 ▸ c) ws → Opens (is_mark 123) ws
    brace_opens c ws s = both_opens (is_mark 123) (a_mark 123) c ws (λ us o. mark_opens 123 us o) s

    notes_behind : (c : List TokenV → Type 0) (ws rest : List TokenV) → (some_notes tt ▸ a_mark 123 ▸ c) ws → Between (stops [] false) (ws ++ rest)
    notes_behind c ws rest s =
        elim (notes_cases s.front s.first_spells) [
          | inl none ↦
              let is : ws ≡ s.rest = s.parts ∙ ap (λ (u : List TokenV). u ++ s.rest) none in
              subst (λ (u : List TokenV). Between (stops [] false) (u ++ rest)) (sym is) (opens_follow (is_mark 123) (Between (stops [] false)) s.rest rest (mark_between 123 (stops [] false) refl refl refl) (brace_opens c s.rest s.rest_spells))
          | inr o ↦ opens_follow (is_mark 33) (Between (stops [] false)) ws rest (mark_between 33 (stops [] false) refl refl refl) (record { token = o.token; rest = o.rest ++ s.rest; parts = s.parts ∙ ap (λ (u : List TokenV). u ++ s.rest) o.parts; is = o.is })
        ]

    no_note : (t : TokenV) (us : List TokenV) → is_mark 123 t ≡ true → Behind (is_mark 33) anything (t ∷ us)
    unfolding next_is
    no_note t us e = record { none = apart 123 33 t refl e; fits = tt }

    pub definition_laws : Lawful n follow (definition_at known values) (a_definition known values)
    definition_laws =
        then (head_laws n false values) (λ (h : Header). past (words_laws (stops [] false) n) (past (notes_laws n) (pass (token_laws n (mark 123)) (last (λ (blocks : List BlockV). defined_function (h, blocks)) (body_laws h)))
        (λ blocks ws rest s f. opens_follow (is_mark 123) (Behind (is_mark 33) anything) ws rest no_note (brace_opens _ ws s)))
        (λ blocks ws rest s f. notes_behind _ ws rest s))
