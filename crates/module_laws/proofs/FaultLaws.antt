-- A text of no module has a first fault at a token, or its fault is where its tokens end.
use Rattle.std.proofs.Common.{◌≡◌, ℕ, Bool, true, false, cond, List, [], ◌∷◌, ◌++◌, map, Option, Some, None, Ok, Err, refl, sym, ap, subst, ◌∙◌, ◌⊎◌, inl, inr}
use Rattle.std.specs.Prelude.{option_map}
use Rattle.std.specs.Map.{lookup}
use Rattle.pv_base.specs.declared.name.Name.{Name}
use Rattle.ir_lex.specs.declared.token.Cause.{Cause}
use Rattle.ir_lex.specs.declared.token.ReadError.{ReadError}
use Rattle.ir_lex.specs.Lexing.{lexed}
use Rattle.ir_tree.specs.declared.items.NamedType.{NamedType}
use Rattle.ir_tree.specs.declared.layout.Layout.{Layout}
use Rattle.ir_tree.specs.Layouts.{layout_of}
use Rattle.ir_tree.specs.Table.{same_name}
use Rattle.ir_tree.specs.Trees.{TypeV, NamedV}
use Rattle.ir_text.specs.declared.fault.Fault.{Fault}
use Rattle.ir_text.specs.declared.fault.Fault.TheVariants.{At, Ended}
use Rattle.ir_text.specs.Tokens.{TokenV}
use Rattle.ir_text.specs.Reading.{Outcome, ◌>>=◌}
use Rattle.ir_text.specs.Types.{Body, Known}
use Rattle.ir_grammar.specs.Modules.{Item, ModuleV}
use Rattle.ir_grammar.specs.Items.{named_body_at, items_at}
use Rattle.ir_grammar.specs.NamedTypes.{definitions, unread_body, named_only, unless_faulty, bodies_of, types_by, bodies_read, bodies_in, known_in}
use Rattle.ir_grammar.specs.Texts.{end_of, last_line, settled, token_fault, wrong_among, first_wrong, unless_wrong, first_fault, module_in, read_tokens, read_of}
use Rattle.module_laws.specs.ItemsSpelled.{module_of}
use Rattle.module_laws.specs.TextLaws.{types_of, known_of, names_of, wrong_in, FirstFault, FaultAtEnd, FaultIsFirst}
use Rattle.module_laws.proofs.FirstFaults.{none_both, Place, none_in_all, place_in, met_at, wrong_stays, none_at_start, never_ended, wrong_line}

-- ---- which names are types, by what is known of them

abbrev blank : Option Body → Option Body
blank None = None
blank (Some b) = Some (unread_body [])

names_by : (known : Known) (name : Name) (layout : Option Layout) (all : List (Name × List TokenV))
    → option_map unread_body (lookup (same_name name) all) ≡ blank (option_map (λ of. record { of = of; layout = layout }) (lookup (same_name name) (map (λ d. (d.0, unless_faulty (named_body_at known d.1))) all)))
names_by known name layout [] = refl
names_by known name layout (d ∷ all) = by_test (same_name name d.0) (names_by known name layout all)
  where
    bodies : List (Name × Option TypeV)
    bodies = map (λ c. (c.0, unless_faulty (named_body_at known c.1))) all

    by_test : (b : Bool) → option_map unread_body (lookup (same_name name) all) ≡ blank (option_map (λ of. record { of = of; layout = layout }) (lookup (same_name name) bodies))
        → option_map unread_body (cond b (Some d.1) (lookup (same_name name) all))
        ≡ blank (option_map (λ of. record { of = of; layout = layout }) (cond b (Some (unless_faulty (named_body_at known d.1))) (lookup (same_name name) bodies)))
    by_test true e = refl
    by_test false e = e

names_from : (ts : List TokenV) (name : Name) → named_only (definitions ts) name ≡ blank (known_in ts name)
unfolding known_in
names_from ts name = names_by (named_only (definitions ts)) name (layout_of (types_by (bodies_of (definitions ts))) (NamedV name)) (definitions ts)

same_names : (text other : List ℕ) → known_of other ≡ known_of text → names_of other ≡ names_of text
same_names text other same = λ i. λ name. (names_from (read_tokens other) name ∙ ap (λ (k : Known). blank (k name)) same ∙ sym (names_from (read_tokens text) name)) i

-- ---- a fault at a token

module _ (text : List ℕ) (line : ℕ) (cause : Cause) (first : first_fault (read_tokens text) ≡ Some (At line cause)) where
  abbrev place : Place (wrong_in text) (read_tokens text) (At line cause)
  place = place_in (wrong_in text) (read_tokens text) [] (At line cause) (none_at_start (names_of text) (known_of text)) first

  met : (other : List ℕ) (more : List TokenV) → read_tokens other ≡ place.front ++ place.token ∷ more → ((name : Name) → known_of other name ≡ known_of text name) → read_of other ≡ Err (record { line = line; cause = cause })
  unfolding read_of
  met other more tokens names =
      let same : known_of other ≡ known_of text = λ i. λ name. names name i in
      let there : first_fault (read_tokens other) ≡ Some (At line cause) =
      ap (λ (k : Known). first_wrong (wrong_among k (known_of other)) [] (read_tokens other)) (same_names text other same)
      ∙ ap (λ (k : Known). first_wrong (wrong_among (names_of text) k) [] (read_tokens other)) same
      ∙ ap (first_wrong (wrong_in text) []) tokens
      ∙ met_at (wrong_in text) (wrong_stays (names_of text) (known_of text)) place.front [] place.token more (At line cause) place.before place.here in
      ap (λ (o : Option Fault). settled (last_line other) (lexed other).fault (unless_wrong o (module_in (read_tokens other)))) there

  first_at : FirstFault text (record { line = line; cause = cause })
  first_at = record {
    front = place.front;
    token = place.token;
    rest = place.rest;
    parts = place.parts;
    before = place.before;
    here = place.here;
    on_line = wrong_line (names_of text) (known_of text) line cause (place.front ++ place.token ∷ []) place.here;
    met = met;
  }

-- ---- a fault where the tokens end

module _ (types : List (NamedType Name TypeV)) where
  abbrev then_bodies : Outcome (List Item) → Outcome (Unit {0}) → Outcome ModuleV
  then_bodies items bodies = items >>= λ all. bodies >>= λ sound. Ok (module_of types all.0, all.1)

  none_then : (items : Outcome (List Item)) (bodies : Outcome (Unit {0})) → token_fault items ≡ None → token_fault bodies ≡ None → token_fault (then_bodies items bodies) ≡ None
  none_then (Ok all) (Ok sound) e h = refl
  none_then (Ok all) (Err (At line cause)) e h = absurd cc
  none_then (Ok all) (Err Ended) e h = refl
  none_then (Err (At line cause)) bodies e h = absurd cc
  none_then (Err Ended) bodies e h = refl

no_token : (text : List ℕ) → wrong_in text (read_tokens text) ≡ None → token_fault (module_in (read_tokens text)) ≡ None
unfolding wrong_among bodies_in
no_token text e =
    let ts = read_tokens text in
    let none = none_both (token_fault (items_at (known_of text) ts)) (token_fault (bodies_read (names_of text) (definitions ts))) e in
    none_then (types_of text) (items_at (known_of text) ts) (bodies_in ts) none.0 none.1

at_end : (last : ℕ) (fault : Option ReadError) (o : Outcome ModuleV) (found : ReadError) → token_fault o ≡ None → settled last fault o ≡ Err found → found ≡ end_of last fault
at_end last None (Ok x) found none e = absurd cc
at_end last (Some f) (Ok x) found none e = let same : f ≡ found = cc in sym same
at_end last fault (Err (At line cause)) found none e = absurd cc
at_end last fault (Err Ended) found none e = let same : end_of last fault ≡ found = cc in sym same

-- ---- one of them

by_first : (text : List ℕ) (found : ReadError) (o : Option Fault) → first_fault (read_tokens text) ≡ o → settled (last_line text) (lexed text).fault (unless_wrong o (module_in (read_tokens text))) ≡ Err found
    → FirstFault text found ⊎ FaultAtEnd text found
by_first text found (Some (At line cause)) e h = let same : record { line = line; cause = cause } ≡ found = cc in inl (subst (FirstFault text) same (first_at text line cause e))
by_first text found (Some Ended) e h =
    let p = place_in (wrong_in text) (read_tokens text) [] Ended (none_at_start (names_of text) (known_of text)) e in
    absurd (never_ended (names_of text) (known_of text) (p.front ++ p.token ∷ []) p.here)
by_first text found None e h =
    let none : wrong_in text (read_tokens text) ≡ None = none_in_all (wrong_in text) (read_tokens text) [] e in
    inr (record { nothing_wrong = none; is = at_end (last_line text) (lexed text).fault (module_in (read_tokens text)) found (no_token text none) h })

pub fault_is_first : FaultIsFirst
unfolding read_of
fault_is_first text found e = by_first text found (first_fault (read_tokens text)) refl e
