-- The laws of all items, as far as they need not say what stands behind instructions, and of texts.
use Rattle.std.proofs.Common.{◌≡◌, ℕ, zero, suc, ◌+◌, ◌≤◌, length, arith, List, [], ◌∷◌, ◌++◌, Option, Some, None, Ok, Err, refl, sym, ap, subst, ◌∙◌}
use Rattle.std.proofs.lemmas.List.{append-nil}
use Rattle.pv_base.specs.declared.name.Name.{Name}
use Rattle.ir_lex.specs.declared.token.ReadError.{ReadError}
use Rattle.ir_lex.specs.Lexing.{lexed}
use Rattle.ir_tree.specs.declared.items.NamedType.{NamedType}
use Rattle.ir_tree.specs.Trees.{TypeV}
use Rattle.ir_text.specs.declared.fault.Fault.{Fault}
use Rattle.ir_text.specs.declared.fault.Fault.TheVariants.{At, Ended}
use Rattle.ir_text.specs.Tokens.{TokenV}
use Rattle.ir_text.specs.Reading.{Outcome, Reader, ◌>>=◌, next_is}
use Rattle.ir_text.specs.Lawful.{Lawful}
use Rattle.ir_text.specs.Repeated.{repeated_to, repeated_under}
use Rattle.ir_text.specs.Types.{Known}
use Rattle.ir_text.proofs.Laws.{bind_ok}
use Rattle.ir_text.proofs.Persisting.{shortens}
use Rattle.instr_laws.specs.Behind.{BehindInstruction}
use Rattle.instr_laws.proofs.InstructionLaws.{instruction_laws}
use Rattle.instr_laws.proofs.Rows.{last}
use Rattle.ir_grammar.specs.Scopes.{Scope, after_instruction}
use Rattle.ir_grammar.specs.Headers.{scope_of}
use Rattle.ir_grammar.specs.Bodies.{in_block, step_at, instructions_at, body_at}
use Rattle.ir_grammar.specs.Modules.{Item, ModuleV, SoFar, nothing_so_far, with_item}
use Rattle.ir_grammar.specs.Items.{named_body_at, any_token, item_at, items_at}
use Rattle.ir_grammar.specs.NamedTypes.{definitions, bodies_read, bodies_in}
use Rattle.ir_grammar.specs.Texts.{last_line, settled, unless_wrong, first_fault, module_in, read_tokens, read_of}
use Rattle.module_laws.specs.Blocks.{a_step, some_instructions, a_body}
use Rattle.module_laws.specs.ItemsSpelled.{an_item, some_items, module_of, a_module}
use Rattle.module_laws.specs.TextLaws.{types_of, known_of, names_of, all_sound, items_module_at, ReadIsSpelled}
use Rattle.module_laws.proofs.Leading.{step_opens}
use Rattle.module_laws.proofs.RowLaws.{nowhere, row_laws}
use Rattle.module_laws.proofs.BodyLaws.{body_laws}
use Rattle.module_laws.proofs.ItemLaws.{item_laws, item_opens}

-- ---- sound, and the first fault

module _ (n : ℕ) (known : Known) where
  pub loose_instructions : (scope : Scope) → Lawful n nowhere (instructions_at known scope) (some_instructions known scope)
  loose_instructions scope = row_laws n in_block (step_at known) after_instruction (a_step known) BehindInstruction nowhere (λ s. instruction_laws n known s.next s.defined) (step_opens known) (λ rest h. absurd h) (λ s all ws rest t h. absurd h) scope

  loose_bodies : (scope : Scope) → Lawful n nowhere (body_at known scope) (a_body known scope)
  loose_bodies scope = body_laws n known nowhere nowhere nowhere loose_instructions (λ rest h. absurd h) (λ s all ws rest t h. absurd h) (λ ws rest t h. absurd h) scope

  pub loose_item : (s : SoFar) → Lawful n nowhere (item_at known s) (an_item known s)
  loose_item s = item_laws n known s nowhere (λ rest h. absurd h) (λ rest h. absurd h) (λ h. loose_bodies (scope_of h.params))

  pub loose_items : Lawful n nowhere (items_at known) (some_items known)
  loose_items = row_laws n any_token (item_at known) with_item (an_item known) nowhere nowhere loose_item (item_opens known) (λ rest h. absurd h) (λ s all ws rest t h. absurd h) nothing_so_far

pub loose_module : (n : ℕ) (types : List (NamedType Name TypeV)) (known : Known) → Lawful n nowhere (items_module_at types known) (a_module types known)
loose_module n types known = last (module_of types) (loose_items n known)

-- ---- all tokens are read

module _ {S A : Type 0} (item : S → Reader A) (next : S → A → S) (less : (state : S) (ts : List TokenV) (x : A × List TokenV) → item state ts ≡ Ok x → 1 + length x.1 ≤ length ts) where
  abbrev with_first : A → Outcome (List A) → Outcome (List A)
  with_first a read = read >>= λ others. Ok (a ∷ others.0, others.1)

  last_same : (a : A) (o : Outcome (List A)) (x : List A × List TokenV) → with_first a o ≡ Ok x → (y : List A × List TokenV) × (o ≡ Ok y) × (y.1 ≡ x.1)
  last_same a (Ok y) x e = (y, refl, rests (a ∷ y.0, y.1) x e)
    where
      rests : (u v : List A × List TokenV) → (let o : Outcome (List A) = Ok u in o) ≡ Ok v → u.1 ≡ v.1
      rests u v h = let p : u ≡ v = cc in ap (λ (w : List A × List TokenV). w.1) p
  last_same a (Err f) x e = absurd cc

  read_none : (x : List A × List TokenV) → (let o : Outcome (List A) = Ok ([], []) in o) ≡ Ok x → x.1 ≡ []
  read_none x h = let p : (let u : List A × List TokenV = ([], []) in u) ≡ x = cc in ap (λ (w : List A × List TokenV). w.1) (sym p)

  none_left : (k : ℕ) (state : S) (ts : List TokenV) (x : List A × List TokenV) → length ts ≤ k → repeated_to any_token item next k state ts ≡ Ok x → x.1 ≡ []
  unfolding repeated_to next_is
  none_left zero state [] x le e = read_none x e
  none_left zero state (t ∷ ts) x le e = absurd (omega arith)
  none_left (suc k) state [] x le e = read_none x e
  none_left (suc k) state (t ∷ ts) x le e =
      let b = bind_ok (item state (t ∷ ts)) (λ first. with_first first.0 (repeated_to any_token item next k (next state first.0) first.1)) x e in
      let fewer = less state (t ∷ ts) b.0 b.1 in
      let l = last_same b.0.0 (repeated_to any_token item next k (next state b.0.0) b.0.1) x b.2 in
      sym l.2 ∙ none_left k (next state b.0.0) b.0.1 l.0 (omega arith) l.1

pub item_shorter : (known : Known) (s : SoFar) (ts : List TokenV) (x : Item × List TokenV) → item_at known s ts ≡ Ok x → 1 + length x.1 ≤ length ts
item_shorter known s ts x e = shortens 0 nowhere (item_at known s) (an_item known s) (loose_item 0 known s) (λ i ws h. let o = item_opens known s i ws h in omega (arith, ap length o.parts)) ts x e

pub all_read : (types : List (NamedType Name TypeV)) (known : Known) (ts : List TokenV) (x : ModuleV × List TokenV) → items_module_at types known ts ≡ Ok x → x.1 ≡ []
unfolding repeated_under
all_read types known ts x e =
    let b = bind_ok (items_at known ts) (λ all. Ok (module_of types all.0, all.1)) x e in
    let none = none_left (item_at known) with_item (item_shorter known) (length ts) nothing_so_far ts b.0 (omega arith) b.1 in
    sym (rests (module_of types b.0.0, b.0.1) x b.2) ∙ none
  where
    rests : (u v : ModuleV × List TokenV) → (let o : Outcome ModuleV = Ok u in o) ≡ Ok v → u.1 ≡ v.1
    rests u v h = let p : u ≡ v = cc in ap (λ (w : ModuleV × List TokenV). w.1) p

-- ---- the bodies of definitions

-- where they are read, nothing of them is left
none_behind : (known : Known) (ds : List (Name × List TokenV)) (x : Unit {0} × List TokenV) → bodies_read known ds ≡ Ok x → bodies_read known ds ≡ all_sound
unfolding bodies_read
none_behind known [] x e = refl
none_behind known (d ∷ ds) x e =
    let b = bind_ok (named_body_at known d.1) (λ of. bodies_read known ds) x e in
    let first = b.1 in
    rw first (none_behind known ds x b.2)

-- ---- items, and then bodies

abbrev items_alone : List (NamedType Name TypeV) → Outcome (List Item) → Outcome ModuleV
items_alone types o = o >>= λ all. Ok (module_of types all.0, all.1)

module _ (types : List (NamedType Name TypeV)) (bodies : Outcome (Unit {0})) where
  abbrev then_bodies : Outcome (List Item) → Outcome ModuleV
  then_bodies o = o >>= λ all. bodies >>= λ sound. Ok (module_of types all.0, all.1)

  pub both_read : (o : Outcome (List Item)) (x : ModuleV × List TokenV) → then_bodies o ≡ Ok x → ((s : Unit {0} × List TokenV) × (bodies ≡ Ok s)) × (items_alone types o ≡ Ok x)
  both_read (Ok all) x e = let b = bind_ok bodies (λ sound. Ok (module_of types all.0, all.1)) x e in ((b.0, b.1), b.2)
  both_read (Err f) x e = absurd cc

  pub both_sound : (o : Outcome (List Item)) (x : ModuleV × List TokenV) → bodies ≡ all_sound → items_alone types o ≡ Ok x → then_bodies o ≡ Ok x
  both_sound (Ok all) x sound e = rw sound e
  both_sound (Err f) x sound e = absurd cc

-- ---- texts

settled_ok : (last : ℕ) (fault : Option ReadError) (o : Outcome ModuleV) (m : ModuleV) → settled last fault o ≡ Ok m → (fault ≡ None) × ((rest : List TokenV) × (o ≡ Ok (m, rest)))
settled_ok last None (Ok x) m e = (refl, (x.1, let same : x.0 ≡ m = cc in ap (λ (k : ModuleV). let p : Outcome ModuleV = Ok (k, x.1) in p) same))
settled_ok last (Some f) (Ok x) m e = absurd cc
settled_ok last fault (Err (At line cause)) m e = absurd cc
settled_ok last fault (Err Ended) m e = absurd cc

-- what is read where nothing is wrong
nothing_was : (wrong : Option Fault) (o : Outcome ModuleV) (x : ModuleV × List TokenV) → unless_wrong wrong o ≡ Ok x → o ≡ Ok x
nothing_was None o x e = e
nothing_was (Some f) o x e = absurd cc

sound_in : (text : List ℕ) (x : Unit {0} × List TokenV) → bodies_in (read_tokens text) ≡ Ok x → bodies_in (read_tokens text) ≡ all_sound
unfolding bodies_in
sound_in text x e = none_behind (names_of text) (definitions (read_tokens text)) x e

pub read_is_spelled : ReadIsSpelled
unfolding read_of
read_is_spelled text m e =
    let s = settled_ok (last_line text) (lexed text).fault (unless_wrong (first_fault (read_tokens text)) (module_in (read_tokens text))) m e in
    let read = nothing_was (first_fault (read_tokens text)) (module_in (read_tokens text)) (m, s.1.0) s.1.1 in
    let b = both_read (types_of text) (bodies_in (read_tokens text)) (items_at (known_of text) (read_tokens text)) (m, s.1.0) read in
    let t = (loose_module 0 (types_of text) (known_of text)).sound (read_tokens text) (m, s.1.0) b.1 in
    let none : s.1.0 ≡ [] = all_read (types_of text) (known_of text) (read_tokens text) (m, s.1.0) b.1 in
    let flat : read_tokens text ≡ t.front = t.parts ∙ ap (λ (u : List TokenV). t.front ++ u) none ∙ append-nil t.front in
    record { lexical = s.0; bodies = sound_in text b.0.0 b.0.1; spelled = subst (λ (u : List TokenV). a_module (types_of text) (known_of text) m u) (sym flat) t.spelled }
