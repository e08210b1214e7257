-- What is spelled of items is read: metadata behind a declaration is passed over with it.
use Rattle.std.proofs.Common.{◌≡◌, ℕ, zero, suc, ◌+◌, ◌≤◌, length, arith, true, false, fold, List, [], ◌∷◌, ◌++◌, Ok, refl, sym, ap, subst, ◌∙◌, append_assoc, ◌⊎◌, inl, inr}
use Rattle.std.specs.Prelude.{codes, not}
use Rattle.std.proofs.lemmas.List.{append-nil}
use Rattle.pv_base.specs.declared.name.Name.{Name}
use Rattle.ir_tree.specs.declared.items.NamedType.{NamedType}
use Rattle.ir_tree.specs.declared.items.Global.{Global}
use Rattle.ir_tree.specs.declared.items.Function.{Function}
use Rattle.ir_tree.specs.Trees.{TypeV, ConstantV}
use Rattle.ir_text.specs.Tokens.{TokenV, among, is_mark, is_word}
use Rattle.ir_text.specs.Reading.{Outcome, next_is}
use Rattle.ir_text.specs.Choice.{Opens}
use Rattle.ir_text.specs.Lawful.{Behind, anything, Lawful}
use Rattle.ir_text.specs.Operands.{is_local}
use Rattle.ir_text.specs.Passed.{is_any_word, AfterPassed, AfterWord, some_words, stops}
use Rattle.ir_text.specs.Repeated.{repeated_under, each_under}
use Rattle.ir_text.specs.Tails.{some_notes}
use Rattle.ir_text.specs.Types.{Known}
use Rattle.ir_text.specs.TypeSpelled.{◌▸◌, a_word}
use Rattle.ir_text.proofs.Choices.{weaken}
use Rattle.ir_text.proofs.Marks.{apart}
use Rattle.ir_text.proofs.PassedLaws.{words_laws}
use Rattle.ir_text.proofs.RepeatedLaws.{repeated_is}
use Rattle.ir_text.proofs.TailLaws.{notes_laws}
use Rattle.instr_laws.specs.Made.{Made}
use Rattle.instr_laws.proofs.Chains.{Tokens, inside}
use Rattle.instr_laws.proofs.Opening.{opened, unopened, both_opens, opens_as, the_word}
use Rattle.ir_grammar.specs.Headers.{Header, scope_of}
use Rattle.ir_grammar.specs.Bodies.{body_at}
use Rattle.ir_grammar.specs.Modules.{Item, TypeItem, GlobalItem, FunctionItem, PassedItem, SoFar, nothing_so_far, with_item, ModuleV}
use Rattle.ir_grammar.specs.Items.{size_of, item_words, declared_function, declaration_at, is_global, any_token, worded_item_at, item_at}
use Rattle.module_laws.specs.Behind.{at_end, Between, BehindDeclaration, BehindItem}
use Rattle.module_laws.specs.Blocks.{a_body}
use Rattle.module_laws.specs.Heads.{a_head}
use Rattle.module_laws.specs.Skipped.{up_to_string, some_attributes, some_metadata, a_comdat, some_attached}
use Rattle.module_laws.specs.ItemsSpelled.{a_named_type, a_global, a_declaration, a_definition, an_item, a_module}
use Rattle.module_laws.specs.TextLaws.{items_module_at}
use Rattle.module_laws.proofs.Between.{opens_follow, mark_between, word_mark, that_word_between, is_name, name_between, name_mark, local_name, global_name}
use Rattle.module_laws.proofs.DefinitionLaws.{body_laws, definition_laws}
use Rattle.module_laws.proofs.FunctionLaws.{declaration_laws, head_opens}
use Rattle.module_laws.proofs.GlobalLaws.{named_type_laws, global_laws}
use Rattle.module_laws.proofs.HeadLaws.{head_laws}
use Rattle.module_laws.proofs.ItemLaws.{item_laws, is_plain, other_word, type_opens, global_opens, comdat_opens, inner_opens, marked_opens, other_opens, item_opens, plain_no_local, plain_no_global, any_word_by, word_plain, word_no_mark}
use Rattle.module_laws.proofs.Leading.{that_opens}
use Rattle.module_laws.proofs.SkippedLaws.{string_laws, attributes_laws, metadata_laws, metadata_opens, comdat_laws, closed_opens, closed_read}
use Rattle.module_laws.proofs.StepLaws.{either_inside, more_inside}
use Rattle.module_laws.proofs.WholeLaws.{loose_module, item_shorter}

-- ---- what an item begins with

name_starts : (t : TokenV) (us : List TokenV) → is_name t ≡ true → BehindDeclaration (t ∷ us)
unfolding next_is
name_starts t us e = record { none = name_mark 33 t e; fits = name_between (stops item_words false) t us e }

sign_starts : (t : TokenV) (us : List TokenV) → is_mark 36 t ≡ true → BehindDeclaration (t ∷ us)
unfolding next_is
sign_starts t us e = record { none = apart 36 33 t refl e; fits = mark_between 36 (stops item_words false) refl refl refl t us e }

word_starts : (w : List ℕ) → among item_words w ≡ true → (t : TokenV) (us : List TokenV) → is_word w t ≡ true → BehindDeclaration (t ∷ us)
unfolding next_is
word_starts w is t us e = record { none = word_mark w 33 t e; fits = that_word_between item_words w is t us e }

-- it may stand behind every item
record Starts (ws : List TokenV) : Type 0 where
  no_comma : next_is (is_mark 44) ws ≡ false
  behind : BehindDeclaration ws

name_both : (t : TokenV) (us : List TokenV) → is_name t ≡ true → Starts (t ∷ us)
unfolding next_is
name_both t us e = record { no_comma = name_mark 44 t e; behind = name_starts t us e }

sign_both : (t : TokenV) (us : List TokenV) → is_mark 36 t ≡ true → Starts (t ∷ us)
unfolding next_is
sign_both t us e = record { no_comma = apart 36 44 t refl e; behind = sign_starts t us e }

word_both : (w : List ℕ) → among item_words w ≡ true → (t : TokenV) (us : List TokenV) → is_word w t ≡ true → Starts (t ∷ us)
unfolding next_is
word_both w is t us e = record { no_comma = word_mark w 44 t e; behind = word_starts w is t us e }

none_starts : Starts []
unfolding next_is AfterPassed AfterWord
none_starts = record { no_comma = refl; behind = record { none = refl; fits = record { none = refl; fits = record { none = refl; fits = record { none = refl; fits = record { none = refl; fits = tt } } } } } }

sign_comma : (t : TokenV) (us : List TokenV) → is_mark 33 t ≡ true → next_is (is_mark 44) (t ∷ us) ≡ false
unfolding next_is
sign_comma t us e = apart 33 44 t refl e

module _ (known : Known) (s : SoFar) where
  -- an item of metadata, or one that may stand behind every item
  item_cases : (i : Item) (ws rest : List TokenV) → an_item known s i ws → Starts (ws ++ rest) ⊎ ((i ≡ PassedItem) × some_metadata ws)
  unfolding among
  item_cases (TypeItem t) ws rest h = inl (opens_follow is_local Starts ws rest (λ u us e. name_both u us (local_name u e)) (type_opens 0 known s (TypeItem t) ws (record { parts = t; is = refl; spelled = h })))
  item_cases (GlobalItem g size) ws rest h = inl (opens_follow is_global Starts ws rest (λ u us e. name_both u us (global_name u e)) (global_opens 0 known s (GlobalItem g (size_of known g.of)) ws (record { parts = g; is = refl; spelled = h.0 })))
  item_cases (FunctionItem f) ws rest (inl h) = inl (opens_follow (is_word (codes "declare")) Starts ws rest (word_both (codes "declare") refl) (that_opens (codes "declare") (a_declaration s.values f) ws h))
  item_cases (FunctionItem f) ws rest (inr h) = inl (opens_follow (is_word (codes "define")) Starts ws rest (word_both (codes "define") refl) (that_opens (codes "define") (a_definition known s.values f) ws h))
  item_cases PassedItem ws rest (inl (inl h)) = inl (opens_follow (is_word (codes "source_filename")) Starts ws rest (word_both (codes "source_filename") refl) (that_opens (codes "source_filename") _ ws h))
  item_cases PassedItem ws rest (inl (inr h)) = inl (opens_follow (is_word (codes "target")) Starts ws rest (word_both (codes "target") refl) (that_opens (codes "target") _ ws h))
  item_cases PassedItem ws rest (inr (inl h)) = inl (opens_follow (is_word (codes "attributes")) Starts ws rest (word_both (codes "attributes") refl) (that_opens (codes "attributes") _ ws h))
  item_cases PassedItem ws rest (inr (inr (inl h))) = inr (refl, h)
  item_cases PassedItem ws rest (inr (inr (inr h))) = inl (opens_follow (is_mark 36) Starts ws rest sign_both (comdat_opens 0 known s PassedItem ws (record { parts = tt; is = refl; spelled = h })))

  -- ---- items but declarations are read before anything but `,`

  word_opens : (w : List ℕ) (c : Tokens) (ws : List TokenV) → (a_word w ▸ c) ws → Opens is_any_word ws
  word_opens w c ws h = opens_as (is_word w) is_any_word ws (λ t e. any_word_by w t.kind t.text e) (that_opens w c ws h)

  -- a word leads to what is read behind it
  worded_read : (w : List ℕ) (c : Tokens) (i : Item) (ws rest : List TokenV) → (a_word w ▸ c) ws → ((t : TokenV) (us : List TokenV) → is_word w t ≡ true → c us → worded_item_at known s (t ∷ (us ++ rest)) ≡ Ok (i, rest)) → item_at known s (ws ++ rest) ≡ Ok (i, rest)
  worded_read w c i ws rest h by_word =
      let a = h.first_spells in
      let o = word_opens w c ws h in
      let is : ws ++ rest ≡ a.token ∷ (h.rest ++ rest) = ap (λ (u : List TokenV). u ++ rest) (h.parts ∙ ap (λ (u : List TokenV). u ++ h.rest) a.parts) in
      let no_local = unopened is_local ws rest (opens_as is_any_word (λ t. not (is_local t)) ws (λ t e. plain_no_local t.kind (word_plain t.kind e)) o) in
      let no_global = unopened is_global ws rest (opens_as is_any_word (λ t. not (is_global t)) ws (λ t e. plain_no_global t.kind (word_plain t.kind e)) o) in
      let no_sign = unopened (is_mark 33) ws rest (opens_as is_any_word (λ t. not (is_mark 33 t)) ws (λ t e. word_no_mark 33 t.kind t.text e) o) in
      let no_dollar = unopened (is_mark 36) ws rest (opens_as is_any_word (λ t. not (is_mark 36 t)) ws (λ t e. word_no_mark 36 t.kind t.text e) o) in
      rw no_local (rw no_global (rw no_sign (rw no_dollar (ap (worded_item_at known s) is ∙ by_word a.token h.rest (the_word w a.token tt a.is) h.rest_spells))))

  -- a declaration, however its end is read
  declared_read : (f : Function Name TypeV ConstantV) (c : Tokens) (ws rest : List TokenV) → (a_word (codes "declare") ▸ c) ws → ((us : List TokenV) → c us → declaration_at s.values (us ++ rest) ≡ Ok (f, rest)) → item_at known s (ws ++ rest) ≡ Ok (FunctionItem f, rest)
  unfolding worded_item_at
  declared_read f c ws rest h read = worded_read (codes "declare") c (FunctionItem f) ws rest h (λ t us e d. rw (other_word (codes "define") (codes "declare") t refl e, e) (rw (read us d) refl))

  defined_read : (f : Function Name TypeV ConstantV) (ws rest : List TokenV) → (a_word (codes "define") ▸ a_definition known s.values f) ws → item_at known s (ws ++ rest) ≡ Ok (FunctionItem f, rest)
  unfolding worded_item_at
  defined_read f ws rest h = worded_read (codes "define") (a_definition known s.values f) (FunctionItem f) ws rest h (λ t us e d. rw e (rw ((definition_laws (length us) known s.values).complete f us rest (omega arith) d tt) refl))

  filename_read : (ws rest : List TokenV) → (a_word (codes "source_filename") ▸ up_to_string) ws → item_at known s (ws ++ rest) ≡ Ok (PassedItem, rest)
  unfolding worded_item_at
  filename_read ws rest h =
      worded_read (codes "source_filename") up_to_string PassedItem ws rest h
      (λ t us e d. rw (other_word (codes "define") (codes "source_filename") t refl e, other_word (codes "declare") (codes "source_filename") t refl e, e) (rw ((string_laws (length us)).complete tt us rest (omega arith) d tt) refl))

  target_read : (ws rest : List TokenV) → (a_word (codes "target") ▸ up_to_string) ws → item_at known s (ws ++ rest) ≡ Ok (PassedItem, rest)
  unfolding worded_item_at
  target_read ws rest h =
      worded_read (codes "target") up_to_string PassedItem ws rest h
      (λ t us e d. rw (other_word (codes "define") (codes "target") t refl e, other_word (codes "declare") (codes "target") t refl e, other_word (codes "source_filename") (codes "target") t refl e, e) (rw ((string_laws (length us)).complete tt us rest (omega arith) d tt) refl))

  attributes_read : (ws rest : List TokenV) → (a_word (codes "attributes") ▸ some_attributes) ws → item_at known s (ws ++ rest) ≡ Ok (PassedItem, rest)
  unfolding worded_item_at
  attributes_read ws rest h =
      worded_read (codes "attributes") some_attributes PassedItem ws rest h
      (λ t us e d. rw (other_word (codes "define") (codes "attributes") t refl e, other_word (codes "declare") (codes "attributes") t refl e, other_word (codes "source_filename") (codes "attributes") t refl e, other_word (codes "target") (codes "attributes") t refl e, e)
      (rw ((attributes_laws (length us)).complete tt us rest (omega arith) d tt) refl))

  type_read : (t : NamedType Name TypeV) (ws rest : List TokenV) → a_named_type known s.types t ws → item_at known s (ws ++ rest) ≡ Ok (TypeItem t, rest)
  type_read t ws rest h =
      let here = opened is_local ws rest (type_opens 0 known s (TypeItem t) ws (record { parts = t; is = refl; spelled = h })) in
      let read = (named_type_laws (length ws) known s.types).complete t ws rest (omega arith) h tt in
      rw here (rw read refl)

  global_read : (g : Global Name TypeV ConstantV) (ws rest : List TokenV) → a_global known s.values s.size g ws → Behind (is_mark 44) anything rest → item_at known s (ws ++ rest) ≡ Ok (GlobalItem g (size_of known g.of), rest)
  global_read g ws rest h end =
      let no_local = unopened is_local ws rest (other_opens 0 known s (GlobalItem g (size_of known g.of)) ws (inr (record { parts = g; is = refl; spelled = h }))) in
      let here = opened is_global ws rest (global_opens 0 known s (GlobalItem g (size_of known g.of)) ws (record { parts = g; is = refl; spelled = h })) in
      let read = (global_laws (length ws) known s.size s.values).complete g ws rest (omega arith) h end in
      rw no_local (rw here (rw read refl))

  metadata_read : (ws rest : List TokenV) → some_metadata ws → item_at known s (ws ++ rest) ≡ Ok (PassedItem, rest)
  metadata_read ws rest h =
      let m : Made (λ (u : Unit {0}). PassedItem) (λ u. some_metadata) PassedItem ws = record { parts = tt; is = refl; spelled = h } in
      let no_local = unopened is_local ws rest (other_opens 0 known s PassedItem ws (inl (inr m))) in
      let no_global = unopened is_global ws rest (opens_as is_plain (λ t. not (is_global t)) ws (λ t e. plain_no_global t.kind e) (marked_opens 0 known s PassedItem ws (inr m))) in
      let here = opened (is_mark 33) ws rest (metadata_opens ws h) in
      let read = (metadata_laws (length ws)).complete tt ws rest (omega arith) h tt in
      rw no_local (rw no_global (rw here (rw read refl)))

  comdat_read : (ws rest : List TokenV) → a_comdat ws → item_at known s (ws ++ rest) ≡ Ok (PassedItem, rest)
  comdat_read ws rest h =
      let m : Made (λ (u : Unit {0}). PassedItem) (λ u. a_comdat) PassedItem ws = record { parts = tt; is = refl; spelled = h } in
      let no_local = unopened is_local ws rest (other_opens 0 known s PassedItem ws (inl (inl (inr m)))) in
      let no_global = unopened is_global ws rest (opens_as is_plain (λ t. not (is_global t)) ws (λ t e. plain_no_global t.kind e) (marked_opens 0 known s PassedItem ws (inl (inr m)))) in
      let no_sign = unopened (is_mark 33) ws rest (inner_opens 0 known s PassedItem ws (inr m)) in
      let here = opened (is_mark 36) ws rest (comdat_opens 0 known s PassedItem ws m) in
      let read = (comdat_laws (length ws)).complete tt ws rest (omega arith) h tt in
      rw no_local (rw no_global (rw no_sign (rw here (rw read refl))))

  -- ---- declarations

  abbrev declared_with : Header → Tokens → Tokens
  declared_with h tail = some_notes tt ▸ a_head true s.values h ▸ some_words (stops item_words false) tt ▸ some_notes tt ▸ tail

  -- with metadata attached last, before anything
  closed_declaration : (h : Header) (ws rest : List TokenV) → declared_with h some_metadata ws → declaration_at s.values (ws ++ rest) ≡ Ok (declared_function h, rest)
  closed_declaration h ws rest d =
      let a = d.rest_spells in
      let w = a.rest_spells in
      let cut : ws ++ rest ≡ d.front ++ (d.rest ++ rest) = ap (λ (u : List TokenV). u ++ rest) d.parts ∙ append_assoc d.front d.rest rest in
      let inner : d.rest ++ rest ≡ a.front ++ (a.rest ++ rest) = ap (λ (u : List TokenV). u ++ rest) a.parts ∙ append_assoc a.front a.rest rest in
      let last : a.rest ++ rest ≡ w.front ++ (w.rest ++ rest) = ap (λ (u : List TokenV). u ++ rest) w.parts ∙ append_assoc w.front w.rest rest in
      let n : ℕ = length d.front + length a.front + length w.front in
      let no_note : Behind (is_mark 33) anything (d.rest ++ rest) = record { none = unopened (is_mark 33) d.rest rest (both_opens (λ t. not (is_mark 33 t)) (a_head true s.values h) _ d.rest (λ us o. head_opens true s.values h us o) a); fits = tt } in
      let notes = (notes_laws n).complete tt d.front (d.rest ++ rest) (omega arith) d.first_spells no_note in
      let head = (head_laws n true s.values).complete h a.front (a.rest ++ rest) (omega arith) a.first_spells tt in
      let stops_here : Between (stops item_words false) (w.rest ++ rest) = opens_follow (is_mark 33) (Between (stops item_words false)) w.rest rest (mark_between 33 (stops item_words false) refl refl refl) (closed_opens w.rest w.rest_spells) in
      let words = (words_laws (stops item_words false) n).complete tt w.front (w.rest ++ rest) (omega arith) w.first_spells stops_here in
      let attached = closed_read w.rest rest w.rest_spells in
      rw cut (rw notes (rw inner (rw head (rw last (rw words (rw attached refl))))))

  -- nothing is attached last
  abbrev open_end : Tokens
  open_end us = us ≡ []

  declaration_cases : (h : Header) (ws : List TokenV) → (some_notes tt ▸ a_head true s.values h ▸ some_words (stops item_words false) tt ▸ some_attached) ws → declared_with h open_end ws ⊎ declared_with h some_metadata ws
  declaration_cases h = either_inside (either_inside (either_inside (either_inside (λ us d. d))))

  -- and metadata behind it is attached
  metadata_attached : (m : List TokenV) → some_metadata m → (us : List TokenV) → open_end us → some_metadata (us ++ m)
  metadata_attached m t us none = subst (λ (v : List TokenV). some_metadata (v ++ m)) (sym none) t

  with_metadata : (h : Header) (m : List TokenV) → some_metadata m → (ws : List TokenV) → declared_with h open_end ws → declared_with h some_metadata (ws ++ m)
  with_metadata h m t = more_inside m (more_inside m (more_inside m (more_inside m (metadata_attached m t))))

  some_end : (h : Header) (ws : List TokenV) → declared_with h open_end ws → a_declaration s.values (declared_function h) ws
  some_end h ws d = record { parts = h; is = refl; spelled = inside3 d }
    where
      either_end : (us : List TokenV) → open_end us → (us ≡ []) ⊎ some_metadata us
      either_end us e = inl e

      inside3 : declared_with h open_end ws → (some_notes tt ▸ a_head true s.values h ▸ some_words (stops item_words false) tt ▸ some_attached) ws
      inside3 e = inside (some_notes tt) _ _ (inside (a_head true s.values h) _ _ (inside (some_words (stops item_words false) tt) _ _ (inside (some_notes tt) open_end (λ us. (us ≡ []) ⊎ some_metadata us) either_end))) ws e

-- ---- one after the other

module _ (known : Known) where
  -- what is left behind an item: items that make the same module
  record Advance (s : SoFar) (i : Item) (others : List Item) (ts : List TokenV) : Type 0 where
    left : List TokenV
    more : List Item
    fewer : length more ≤ length others
    read : item_at known s ts ≡ Ok (i, left)
    spelled : each_under (an_item known) with_item (with_item s i) more left
    same_module : fold with_item (with_item s i) more ≡ fold with_item (with_item s i) others

  abbrev Rest : SoFar → List Item → List TokenV → Type 0
  Rest s others ws = each_under (an_item known) with_item s others ws

  no_comma : (s : SoFar) (others : List Item) (ws : List TokenV) → Rest s others ws → Behind (is_mark 44) anything ws
  no_comma s [] ws r = subst (Behind (is_mark 44) anything) (sym r) (record { none = none_starts.no_comma; fits = tt })
  no_comma s (j ∷ others) ws r =
      elim (item_cases known s j r.front r.rest r.first_spells) [
        | inl starts ↦ subst (Behind (is_mark 44) anything) (sym r.parts) (record { none = starts.no_comma; fits = tt })
        | inr m ↦ subst (Behind (is_mark 44) anything) (sym r.parts) (opens_follow (is_mark 33) (Behind (is_mark 44) anything) r.front r.rest sign_no_comma (metadata_opens r.front m.1))
      ]
    where
      sign_no_comma : (t : TokenV) (us : List TokenV) → is_mark 33 t ≡ true → Behind (is_mark 44) anything (t ∷ us)
      sign_no_comma t us e = record { none = sign_comma t us e; fits = tt }

  plain : (s : SoFar) (i : Item) (others : List Item) (f ws : List TokenV) → item_at known s (f ++ ws) ≡ Ok (i, ws) → Rest (with_item s i) others ws → Advance s i others (f ++ ws)
  plain s i others f ws read r = record { left = ws; more = others; fewer = omega arith; read = read; spelled = r; same_module = refl }

  closed : (s : SoFar) (h : Header) (others : List Item) (f ws : List TokenV) → (a_word (codes "declare") ▸ declared_with known s h some_metadata) f → item_at known s (f ++ ws) ≡ Ok (FunctionItem (declared_function h), ws)
  closed s h others f ws d = declared_read known s (declared_function h) (declared_with known s h some_metadata) f ws d (λ us t. closed_declaration known s h us ws t)

  settled : (s : SoFar) (h : Header) (f ws : List TokenV) → (a_word (codes "declare") ▸ declared_with known s h (open_end known s)) f → BehindDeclaration ws → item_at known s (f ++ ws) ≡ Ok (FunctionItem (declared_function h), ws)
  settled s h f ws d b = declared_read known s (declared_function h) (declared_with known s h (open_end known s)) f ws d (λ us t. (declaration_laws (length us) s.values).complete (declared_function h) us ws (omega arith) (some_end known s h us t) b)

  opened_end : (s : SoFar) (h : Header) (others : List Item) (f ws : List TokenV) → (a_word (codes "declare") ▸ declared_with known s h (open_end known s)) f → Rest (with_item s (FunctionItem (declared_function h))) others ws → Advance s (FunctionItem (declared_function h)) others (f ++ ws)
  opened_end s h [] f ws d r = plain s (FunctionItem (declared_function h)) [] f ws (settled s h f ws d (subst BehindDeclaration (sym r) none_starts.behind)) r
  opened_end s h (j ∷ others) f ws d r =
      let next = with_item s (FunctionItem (declared_function h)) in
      elim (item_cases known next j r.front r.rest r.first_spells) [
        | inl starts ↦ plain s (FunctionItem (declared_function h)) (j ∷ others) f ws (settled s h f ws d (subst BehindDeclaration (sym r.parts) starts.behind)) r
        | inr m ↦
            let is : f ++ ws ≡ (f ++ r.front) ++ r.rest = ap (λ (u : List TokenV). f ++ u) r.parts ∙ sym (append_assoc f r.front r.rest) in
            record {
              left = r.rest;
              more = others;
              fewer = omega arith;
              read = ap (item_at known s) is ∙ closed s h others (f ++ r.front) r.rest (more_inside r.front (with_metadata known s h r.front m.1) f d);
              spelled = subst (λ (x : Item). Rest (with_item next x) others r.rest) m.0 r.rest_spells;
              same_module = sym (ap (λ (x : Item). fold with_item (with_item next x) others) m.0);
            }
      ]

  declared : (s : SoFar) (h : Header) (others : List Item) (f ws : List TokenV) → (a_word (codes "declare") ▸ some_notes tt ▸ a_head true s.values h ▸ some_words (stops item_words false) tt ▸ some_attached) f
      → Rest (with_item s (FunctionItem (declared_function h))) others ws → Advance s (FunctionItem (declared_function h)) others (f ++ ws)
  declared s h others f ws d r =
      elim (either_inside (declaration_cases known s h) f d) [
        | inl none ↦ opened_end s h others f ws none r
        | inr some ↦ plain s (FunctionItem (declared_function h)) others f ws (closed s h others f ws some) r
      ]

  advance : (s : SoFar) (i : Item) (others : List Item) (f ws : List TokenV) → an_item known s i f → Rest (with_item s i) others ws → Advance s i others (f ++ ws)
  advance s (TypeItem t) others f ws h r = plain s (TypeItem t) others f ws (type_read known s t f ws h) r
  advance s (GlobalItem g size) others f ws h r =
      plain s (GlobalItem g size) others f ws (global_read known s g f ws h.0 (no_comma (with_item s (GlobalItem g size)) others ws r) ∙ ap (λ (k : ℕ). let o : Outcome Item = Ok (GlobalItem g k, ws) in o) h.1) r
  advance s (FunctionItem g) others f ws (inl h) r = by_head h.rest_spells.parts h.rest_spells.is h.rest_spells.spelled
    where
      by_head : (p : Header) → declared_function p ≡ g → (some_notes tt ▸ a_head true s.values p ▸ some_words (stops item_words false) tt ▸ some_attached) h.rest → Advance s (FunctionItem g) others (f ++ ws)
      by_head p is d =
          subst (λ (x : Function Name TypeV ConstantV). Advance s (FunctionItem x) others (f ++ ws)) is
          (declared s p others f ws (record { front = h.front; rest = h.rest; parts = h.parts; first_spells = h.first_spells; rest_spells = d }) (subst (λ (x : Function Name TypeV ConstantV). Rest (with_item s (FunctionItem x)) others ws) (sym is) r))
  advance s (FunctionItem g) others f ws (inr h) r = plain s (FunctionItem g) others f ws (defined_read known s g f ws h) r
  advance s PassedItem others f ws (inl (inl h)) r = plain s PassedItem others f ws (filename_read known s f ws h) r
  advance s PassedItem others f ws (inl (inr h)) r = plain s PassedItem others f ws (target_read known s f ws h) r
  advance s PassedItem others f ws (inr (inl h)) r = plain s PassedItem others f ws (attributes_read known s f ws h) r
  advance s PassedItem others f ws (inr (inr (inl h))) r = plain s PassedItem others f ws (metadata_read known s f ws h) r
  advance s PassedItem others f ws (inr (inr (inr h))) r = plain s PassedItem others f ws (comdat_read known s f ws h) r

  -- items that make the same module are read
  record AllRead (s : SoFar) (all : List Item) (ws : List TokenV) : Type 0 where
    found : List Item
    read : repeated_under any_token (item_at known) with_item s ws ≡ Ok (found, [])
    same_module : fold with_item s found ≡ fold with_item s all

  all_read : (k : ℕ) (s : SoFar) (all : List Item) (ws : List TokenV) → length all ≤ k → Rest s all ws → AllRead s all ws
  unfolding next_is
  all_read k s [] ws le r = record { found = []; read = ap (repeated_under any_token (item_at known) with_item s) r ∙ repeated_is any_token (item_at known) with_item (item_shorter known) s []; same_module = refl }
  all_read zero s (i ∷ all) ws le r = absurd (omega arith)
  all_read (suc k) s (i ∷ all) ws le r =
      let a = advance s i all r.front r.rest r.first_spells r.rest_spells in
      let fewer = a.fewer in
      let others = all_read k (with_item s i) a.more a.left (omega arith) a.spelled in
      let o = item_opens known s i r.front r.first_spells in
      let here : next_is any_token (r.front ++ r.rest) ≡ true = opened any_token r.front r.rest o in
      let first = a.read in
      let second = others.read in
      record {
        found = i ∷ others.found;
        read = ap (repeated_under any_token (item_at known) with_item s) r.parts ∙ repeated_is any_token (item_at known) with_item (item_shorter known) s (r.front ++ r.rest) ∙ rw here (rw first (rw second refl));
        same_module = others.same_module ∙ a.same_module;
      }

  -- what is spelled is read
  pub module_read : (types : List (NamedType Name TypeV)) (m : ModuleV) (ws : List TokenV) → a_module types known m ws → items_module_at types known ws ≡ Ok (m, [])
  module_read types m ws s =
      let a = all_read (length s.parts) nothing_so_far s.parts ws (omega arith) s.spelled in
      let read = a.read in
      rw read (ap (λ (x : SoFar). let o : Outcome ModuleV = Ok (record x.module_so_far { types = types }, []) in o) a.same_module ∙ ap (λ (x : ModuleV). let o : Outcome ModuleV = Ok (x, []) in o) s.is)

-- ---- the laws

module _ (n : ℕ) (known : Known) where
  pub items_laws : (s : SoFar) → Lawful n BehindItem (item_at known s) (an_item known s)
  items_laws s = item_laws n known s BehindItem (λ rest h. record { none = h.none; fits = tt }) (λ rest h. h.fits)
      (λ h. weaken n anything BehindItem (body_at known (scope_of h.params)) (a_body known (scope_of h.params)) (λ rest b. tt) (body_laws n known (scope_of h.params)))

  pub modules_laws : (types : List (NamedType Name TypeV)) → Lawful n at_end (items_module_at types known) (a_module types known)
  modules_laws types =
      let loose = loose_module n types known in
      record {
        sound = loose.sound;
        complete = λ m ws rest short s over.
            let read : items_module_at types known (ws ++ []) ≡ Ok (m, []) = ap (items_module_at types known) (append-nil ws) ∙ module_read known types m ws s in
            subst (λ (u : List TokenV). items_module_at types known (ws ++ u) ≡ Ok (m, u)) (sym over) read;
        faults = loose.faults;
        begins = loose.begins;
      }
