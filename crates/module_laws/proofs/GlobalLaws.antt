-- The laws of named types and globals.
use Rattle.std.proofs.Common.{◌≡◌, ℕ, ◌+◌, Bool, true, false, cond, List, [], ◌∷◌, ◌++◌, Option, Some, None, Ok, Err, refl, subst, ◌⊎◌, inl, inr}
use Rattle.std.specs.Prelude.{codes, is_some}
use Rattle.std.proofs.lemmas.Bool.{or_left}
use Rattle.pv_base.specs.declared.name.Name.{Name}
use Rattle.ir_lex.specs.declared.token.TokenKind.{TokenKind}
use Rattle.ir_lex.specs.declared.token.TokenKind.TheVariants as kind
use Rattle.ir_lex.specs.declared.token.Cause.{Cause}
use Rattle.ir_lex.specs.declared.token.Cause.TheVariants as causes
use Rattle.ir_tree.specs.declared.items.NamedType.{NamedType}
use Rattle.ir_tree.specs.declared.items.Global.{Global}
use Rattle.ir_tree.specs.Trees.{TypeV, ConstantV}
use Rattle.ir_text.specs.declared.fault.Fault.TheVariants.{Ended}
use Rattle.ir_text.specs.Tokens.{TokenV, same, among, is_mark}
use Rattle.ir_text.specs.Reading.{Outcome, Reader, ◌>>=◌, next_is, token_by, wrong}
use Rattle.ir_text.specs.Choice.{choose, Opens}
use Rattle.ir_text.specs.Constants.{width_of}
use Rattle.ir_text.specs.Lawful.{Behind, anything, Lawful}
use Rattle.ir_text.specs.Leaves.{mark, word}
use Rattle.ir_text.specs.MemoryTypes.{a_memory_type, memory_type_at}
use Rattle.ir_text.specs.Operands.{a_constant}
use Rattle.ir_text.specs.Passed.{some_words, stops_at}
use Rattle.ir_text.specs.Repeated.{Both}
use Rattle.ir_text.specs.Spelled.{Spelling, one_token}
use Rattle.ir_text.specs.Tails.{some_tails}
use Rattle.ir_text.specs.Types.{Known, type_at}
use Rattle.ir_text.specs.TypeSpelled.{◌▸◌, a_mark, a_word, a_type}
use Rattle.ir_text.proofs.Choices.{respell, token_laws}
use Rattle.ir_text.proofs.ChoiceLaws.{choice}
use Rattle.ir_text.proofs.ConstantFuel.{constant_laws}
use Rattle.ir_text.proofs.MemoryLaws.{memory_laws}
use Rattle.ir_text.proofs.PassedLaws.{words_laws}
use Rattle.ir_text.proofs.Persisting.{Takers}
use Rattle.ir_text.proofs.TailLaws.{tails_laws}
use Rattle.ir_text.proofs.TypeFuel.{type_laws}
use Rattle.ir_instr.specs.Words.{meaning_of, worded}
use Rattle.instr_laws.specs.Made.{Made}
use Rattle.instr_laws.proofs.Checked.{verdict, checked}
use Rattle.instr_laws.proofs.MemoryLaws.{type_takes}
use Rattle.instr_laws.proofs.Opening.{word_of, word_by, both_opens, one_opens, worded_word}
use Rattle.instr_laws.proofs.Restricted.{only, only_laws}
use Rattle.instr_laws.proofs.Rows.{last, ended, then, past, pass}
use Rattle.instr_laws.proofs.Said.{reread}
use Rattle.ir_grammar.specs.Headers.{new_global, new_local}
use Rattle.ir_grammar.specs.Items.{no_body, begins_body, named_body_at, named_type_at, global_words, before_global, size_of, fits_globals, global_type_at, global_at}
use Rattle.module_laws.specs.ItemsSpelled.{a_named_body, a_named_type, a_global_type, a_global}
use Rattle.module_laws.specs.Behind.{Between}
use Rattle.module_laws.proofs.Between.{opens_follow, word_between}

-- ---- named types

module _ (n : ℕ) (known : Known) where
  abbrev body_only : Reader TypeV
  body_only = only n anything begins_body (type_at known) (a_type known) (type_laws known n) (type_takes n known)

  abbrev no_body_here : Spelling TypeV
  no_body_here = one_token (λ t. Err (no_body known t))

  never_body : (of : TypeV) (ws : List TokenV) → no_body_here of ws → ⊥
  never_body of ws s = let e = s.is in absurd cc

  body_to : (of : TypeV) (ws : List TokenV) → no_body_here of ws ⊎ (a_type known of ws × Opens begins_body ws) → a_named_body known of ws
  body_to of ws (inl s) = absurd (never_body of ws s)
  body_to of ws (inr s) = s

  same_body : (ts : List TokenV) → choose begins_body body_only (token_by (λ t. Err (no_body known t))) ts ≡ named_body_at known ts
  unfolding next_is token_by named_body_at
  same_body [] = refl
  same_body (t ∷ rest) = by_test (begins_body t)
    where
      by_test : (b : Bool) → cond b (cond b (type_at known (t ∷ rest)) (Err Ended)) (wrong t (no_body known t)) ≡ cond b (type_at known (t ∷ rest)) (wrong t (no_body known t))
      by_test true = refl
      by_test false = refl

  pub named_body_laws : Lawful n anything (named_body_at known) (a_named_body known)
  named_body_laws =
      reread n anything (λ ts. choose begins_body body_only (token_by (λ t. Err (no_body known t))) ts) (named_body_at known) (a_named_body known) same_body
      (respell n anything (λ ts. choose begins_body body_only (token_by (λ t. Err (no_body known t))) ts) (λ of ws. no_body_here of ws ⊎ (a_type known of ws × Opens begins_body ws)) (a_named_body known) body_to (λ of ws s. inr s)
      (choice n begins_body anything anything anything body_only (token_by (λ t. Err (no_body known t))) (λ of ws. a_type known of ws × Opens begins_body ws) no_body_here
      (only_laws n anything begins_body (type_at known) (a_type known) (type_laws known n) (type_takes n known)) (token_laws n (λ t. Err (no_body known t)))
      (λ of ws s. s.1) (λ of ws rest s h. absurd (never_body of ws s)) (λ rest h. tt) (λ rest h. tt)))

  pub named_type_laws : (types : List Name) → Lawful n anything (named_type_at known types) (a_named_type known types)
  named_type_laws types = respell n anything (named_type_at known types)
      (Made (λ (p : Name × TypeV). record { name = p.0; of = p.1 }) (λ p. one_token (new_local types) p.0 ▸ a_mark 61 ▸ a_word (codes "type") ▸ a_named_body known p.1)) (a_named_type known types)
      (λ x ws t. subst (λ (y : NamedType Name TypeV). a_named_type known types y ws) t.is t.spelled)
      (λ x ws t. record { parts = (x.name, x.of); is = refl; spelled = t })
      (then (token_laws n (new_local types)) (λ (name : Name). pass (token_laws n (mark 61)) (pass (token_laws n (word (codes "type"))) (last (λ (of : TypeV). record { name = name; of = of }) named_body_laws))))

-- ---- globals

memory_takes : (known : Known) → Takers (a_memory_type known)
memory_takes known of ws s = type_takes 0 known of ws s.0

-- the words that say what a global is end the words before them
global_stops : (text : List ℕ) (a b : Bool) → same text (codes "global") ≡ a → same text (codes "constant") ≡ b → is_some (meaning_of global_words text) ≡ true → among (codes "global" ∷ codes "constant" ∷ []) text ≡ true
unfolding meaning_of among
global_stops text true b ea eb e = rw ea refl
global_stops text false true ea eb e = rw (ea, eb) refl
global_stops text false false ea eb e = let clash : is_some (meaning_of global_words text) ≡ false = rw (ea, eb) refl in absurd cc

module _ (n : ℕ) (known : Known) (size : ℕ) where
  why : TypeV → Option Cause
  why of = cond (fits_globals (size + size_of known of)) None (Some causes.Layout)

  judged : (o : Outcome TypeV) (t : TokenV) → (o >>= λ x. cond (fits_globals (size + size_of known x.0)) (Ok x) (wrong t causes.Layout)) ≡ (o >>= λ x. verdict (why x.0) t x)
  unfolding why
  judged (Ok x) t = by_size (fits_globals (size + size_of known x.0))
    where
      by_size : (b : Bool) → cond b (Ok x) (wrong t causes.Layout) ≡ verdict (cond b None (Some causes.Layout)) t x
      by_size true = refl
      by_size false = refl
  judged (Err e) t = refl

  sized_to : (of : TypeV) (ws : List TokenV) → (a_memory_type known of ws × (why of ≡ None)) → a_global_type known size of ws
  unfolding why
  sized_to of ws s = (s.0, by_size (fits_globals (size + size_of known of)) s.1)
    where
      by_size : (b : Bool) → cond b None (Some causes.Layout) ≡ None → b ≡ true
      by_size true h = refl
      by_size false h = absurd cc

  sized_from : (of : TypeV) (ws : List TokenV) → a_global_type known size of ws → a_memory_type known of ws × (why of ≡ None)
  unfolding why
  sized_from of ws s = (s.0, let h = s.1 in rw h refl)

  global_type_laws : Lawful n anything (global_type_at known size) (a_global_type known size)
  unfolding global_type_at
  global_type_laws = respell n anything (global_type_at known size) (λ of ws. a_memory_type known of ws × (why of ≡ None)) (a_global_type known size) sized_to sized_from
      (checked n (memory_type_at known) (a_memory_type known) why (global_type_at known size) (memory_laws known n) (memory_takes known) refl (λ t rest. judged (memory_type_at known (t ∷ rest)) t))

  abbrev Words : List ℕ → Bool
  Words text = is_some (meaning_of global_words text)

  stops_there_by : (k : TokenKind) (text : List ℕ) → word_by Words k text ≡ true → among (codes "global" ∷ codes "constant" ∷ []) text ≡ true
  stops_there_by kind.Word text e = global_stops text (same text (codes "global")) (same text (codes "constant")) refl refl e
  stops_there_by kind.Punct text e = absurd cc
  stops_there_by kind.LocalName text e = absurd cc
  stops_there_by kind.GlobalName text e = absurd cc
  stops_there_by kind.Label text e = absurd cc
  stops_there_by kind.Integer text e = absurd cc
  stops_there_by kind.Text text e = absurd cc

  stops_there : (t : TokenV) → word_of Words t ≡ true → before_global t ≡ true
  unfolding stops_at
  stops_there t e = or_left (among (codes "global" ∷ codes "constant" ∷ []) t.text) _ (stops_there_by t.kind t.text e)

  kind_behind : (constant : Bool) (c : List TokenV → Type 0) (ws rest : List TokenV) → Both (one_token (worded global_words) constant) c ws → Between before_global (ws ++ rest)
  kind_behind constant c ws rest s =
      opens_follow (word_of Words) (Between before_global) ws rest (λ t us e. word_between Words before_global t us (λ h. stops_there t h) e)
      (both_opens (word_of Words) (one_token (worded global_words) constant) c ws (λ us m. one_opens (word_of Words) (worded global_words) constant us (λ t e. worded_word global_words t constant e) m) s)

  abbrev made_global : List Name → Spelling (Global Name TypeV ConstantV)
  made_global values =
      Made (λ (p : Name × (Bool × (TypeV × ConstantV))). record { name = p.0; of = p.1.1.0; constant = p.1.0; init = p.1.1.1 })
      (λ p. one_token (new_global values) p.0 ▸ a_mark 61 ▸ some_words before_global tt ▸ one_token (worded global_words) p.1.0 ▸ a_global_type known size p.1.1.0 ▸ a_constant known (width_of p.1.1.0) p.1.1.1 ▸ some_tails tt)

  pub global_laws : (values : List Name) → Lawful n (Behind (is_mark 44) anything) (global_at known values size) (a_global known values size)
  global_laws values = respell n (Behind (is_mark 44) anything) (global_at known values size) (made_global values) (a_global known values size)
      (λ g ws t. subst (λ (y : Global Name TypeV ConstantV). a_global known values size y ws) t.is t.spelled)
      (λ g ws t. record { parts = (g.name, (g.constant, (g.of, g.init))); is = refl; spelled = t })
      (then (token_laws n (new_global values)) (λ (name : Name). pass (token_laws n (mark 61)) (past (words_laws before_global n) (then (token_laws n (worded global_words)) (λ (constant : Bool). then global_type_laws (λ (of : TypeV).
      ended (λ (init : ConstantV). record { name = name; of = of; constant = constant; init = init }) (constant_laws known n (width_of of)) (tails_laws n) (λ ws rest s h. tt)))) (λ p ws rest s h. kind_behind p.0 _ ws rest s))))
