-- The named types of a text.
use Rattle.std.proofs.Common.{◌≡◌, ℕ, Bool, true, false, cond, List, [], ◌∷◌, ◌++◌, map, Option, Some, None, Ok, Err, refl, sym, ap, subst, ◌∙◌}
use Rattle.std.specs.Prelude.{◌||◌, fold, is_some, option_map, option_and_then}
use Rattle.std.specs.List.{list_all}
use Rattle.std.specs.Map.{lookup}
use Rattle.std.proofs.lemmas.List.{map-append}
use Rattle.std.proofs.lemmas.List.Folds.{list_all-append}
use Rattle.pv_base.specs.declared.name.Name.{Name}
use lib.Pointwise.{bytes_decides}
use Rattle.ir_lex.specs.declared.token.TokenKind.{TokenKind}
use Rattle.ir_lex.specs.declared.token.TokenKind.TheVariants as kind
use Rattle.ir_tree.specs.declared.items.NamedType.{NamedType}
use Rattle.ir_tree.specs.Layouts.{type_named}
use Rattle.ir_tree.specs.Table.{same_name, name_among}
use Rattle.ir_tree.specs.Trees.{TypeV, NamedV}
use Rattle.ir_text.specs.declared.fault.Fault.TheVariants.{Ended}
use Rattle.ir_text.specs.Tokens.{TokenV, is_mark, punct_is}
use Rattle.ir_text.specs.Reading.{Outcome, meant, wrong}
use Rattle.ir_text.specs.Leaves.{mark_at}
use Rattle.ir_text.specs.Lists.{list_at}
use Rattle.ir_text.specs.Types.{Known, simple, array_rule, struct_rule, packed_rule, type_rule, type_at}
use Rattle.ir_text.proofs.TypeFuel.{type_laws, type_is}
use Rattle.ir_grammar.specs.Items.{no_body, begins_body, named_body_at}
use Rattle.ir_grammar.specs.NamedTypes.{definitions, unread_body, named_only, unless_faulty, bodies_of, laid_body, laid_types, with_type, types_by, known_by, types_in, known_in}
use Rattle.ir_grammar.proofs.NamedLemmas.{layout_known, name_known, body_named}
use Rattle.ir_rules.specs.Reading.{all_differ, names_differ, is_struct, is_known_type, type_stands}
use Rattle.ir_rules.proofs.SameLemmas.{and_both}
use Rattle.read_laws.specs.Types.{BodiesAreRead, TextsDescribe, AllTypesStand}
use Rattle.read_laws.proofs.Scopes.{differ_push}
use Rattle.read_laws.proofs.Steps.{Gives, gives, faulty, then}
use Rattle.read_laws.proofs.Types.{spelled_type}

abbrev Types : Type 0
Types = List (NamedType Name TypeV)

abbrev Bodies : Type 0
Bodies = List (Name × Option TypeV)

-- ---- names

known_named : (types : Types) (name : Name) → is_some (type_named types name) ≡ is_known_type types name
known_named [] name = refl
known_named (t ∷ types) name = by_test (same_name name t.name) (known_named types name)
  where
    by_test : (b : Bool) → is_some (type_named types name) ≡ is_known_type types name → is_some (cond b (Some t.of) (type_named types name)) ≡ (b || is_known_type types name)
    by_test true e = refl
    by_test false e = e

-- ---- bodies

found_read : (bodies : Bodies) (name : Name) (o : Option TypeV) → list_all (λ b. is_some b.1) bodies ≡ true → lookup (same_name name) bodies ≡ Some o → is_some o ≡ true
found_read [] name o all e = absurd cc
found_read (b ∷ bodies) name o all e = by_test (same_name name b.0) (and_both (is_some b.1) (list_all (λ x. is_some x.1) bodies) all) e (λ h f. found_read bodies name o h f)
  where
    by_test : (c : Bool) → (is_some b.1 ≡ true) × (list_all (λ x. is_some x.1) bodies ≡ true) → cond c (Some b.1) (lookup (same_name name) bodies) ≡ Some o → (list_all (λ x. is_some x.1) bodies ≡ true → lookup (same_name name) bodies ≡ Some o → is_some o ≡ true) → is_some o ≡ true
    by_test true h f g = let s : b.1 ≡ o = cc in subst (λ (x : Option TypeV). is_some x ≡ true) s h.0
    by_test false h f g = g h.1 f

body_by : (bodies : Bodies) (name : Name) (o : Option (Option TypeV)) → list_all (λ b. is_some b.1) bodies ≡ true → lookup (same_name name) bodies ≡ o
    → option_and_then (λ b. b.of) (known_by bodies name) ≡ option_map laid_body o
body_by bodies name None all e = rw e refl
body_by bodies name (Some (Some of)) all e = rw e refl
body_by bodies name (Some None) all e = absurd (let h : false ≡ true = found_read bodies name None all e in cc)

described : (ts : List TokenV) (name : Name) → BodiesAreRead ts → option_and_then (λ b. b.of) (known_in ts name) ≡ type_named (types_in ts) name
unfolding known_in types_in
described ts name all =
    let bodies = bodies_of (definitions ts) in
    body_by bodies name (lookup (same_name name) bodies) all refl ∙ sym (body_named bodies name)

pub texts_describe : TextsDescribe
texts_describe ts all = record {
  names = λ name. sym (name_known ts name) ∙ known_named (types_in ts) name;
  bodies = λ name. described ts name all;
  layouts = λ name. layout_known ts (NamedV name);
}

-- ---- types

module _ (p : NamedType Name TypeV → Bool) where
  with_passes : (types : Types) (t : NamedType Name TypeV) → list_all p types ≡ true → p t ≡ true → list_all p (with_type types t) ≡ true
  with_passes types t old new = by_test (name_among t.name (map (λ u. u.name) types))
    where
      by_test : (b : Bool) → list_all p (cond b types (types ++ t ∷ [])) ≡ true
      by_test true = old
      by_test false = list_all-append p types (t ∷ []) ∙ rw (old, new) refl

  all_pass : (types all : Types) → list_all p types ≡ true → list_all p all ≡ true → list_all p (fold with_type types all) ≡ true
  all_pass types [] old new = old
  all_pass types (t ∷ all) old new = let parts = and_both (p t) (list_all p all) new in all_pass (with_type types t) all (with_passes types t old parts.0) parts.1

with_differs : (types : Types) (t : NamedType Name TypeV) → names_differ (map (λ u. u.name) types) ≡ true → names_differ (map (λ u. u.name) (with_type types t)) ≡ true
with_differs types t old = by_test (name_among t.name (map (λ u. u.name) types)) refl
  where
    by_test : (b : Bool) → name_among t.name (map (λ u. u.name) types) ≡ b → names_differ (map (λ u. u.name) (cond b types (types ++ t ∷ []))) ≡ true
    by_test true e = old
    by_test false e = ap names_differ (map-append (λ (u : NamedType Name TypeV). u.name) types (t ∷ [])) ∙ differ_push (map (λ u. u.name) types) t.name old e

all_differ_named : (types all : Types) → names_differ (map (λ u. u.name) types) ≡ true → names_differ (map (λ u. u.name) (fold with_type types all)) ≡ true
all_differ_named types [] old = old
all_differ_named types (t ∷ all) old = all_differ_named (with_type types t) all (with_differs types t old)

-- ---- what bodies are

no_brace : (k : TokenKind) (text : List ℕ) → punct_is (91 ∷ []) k text ≡ true → (punct_is (123 ∷ []) k text || punct_is (60 ∷ []) k text) ≡ false
no_brace kind.Punct text e = let s : text ≡ 91 ∷ [] = (bytes_decides text (91 ∷ [])).0 e in rw s refl
no_brace kind.Word text e = refl
no_brace kind.GlobalName text e = refl
no_brace kind.LocalName text e = refl
no_brace kind.Label text e = refl
no_brace kind.Integer text e = refl
no_brace kind.Text text e = refl

abbrev IsStructAt : TypeV × List TokenV → Type 0
IsStructAt x = is_struct x.0 ≡ true

struct_is : (known : Known) (ts : List TokenV) → Gives IsStructAt (struct_rule known (type_at known) ts)
struct_is known ts = then IsStructAt (list_at 125 (type_at known) ts) _ (λ fields e. gives IsStructAt _ refl)

packed_is : (known : Known) (ts : List TokenV) → Gives IsStructAt (packed_rule known (type_at known) ts)
packed_is known ts = then IsStructAt (mark_at 123 ts) _ (λ brace a. then IsStructAt (list_at 125 (type_at known) brace.1) _ (λ fields b. then IsStructAt (mark_at 62 fields.1) _ (λ close c. gives IsStructAt _ refl)))

rule_by : (known : Known) (t : TokenV) (rest : List TokenV) (a b c : Bool) → is_mark 91 t ≡ a → is_mark 123 t ≡ b → is_mark 60 t ≡ c → (b || c) ≡ true
    → Gives IsStructAt (cond a (array_rule known (type_at known) rest) (cond b (struct_rule known (type_at known) rest) (cond c (packed_rule known (type_at known) rest) (meant (simple known t) t rest))))
rule_by known t rest true b c is_a is_b is_c begins = absurd (let none : (is_mark 123 t || is_mark 60 t) ≡ false = no_brace t.kind t.text is_a in let same : (is_mark 123 t || is_mark 60 t) ≡ (b || c) = rw (is_b, is_c) refl in let clash : true ≡ false = sym begins ∙ sym same ∙ none in cc)
rule_by known t rest false true c is_a is_b is_c begins = struct_is known rest
rule_by known t rest false false true is_a is_b is_c begins = packed_is known rest
rule_by known t rest false false false is_a is_b is_c begins = absurd (let clash : false ≡ true = begins in cc)

rule_is : (known : Known) (t : TokenV) (rest : List TokenV) → begins_body t ≡ true → Gives IsStructAt (type_rule known (type_at known) (t ∷ rest))
unfolding type_rule
rule_is known t rest begins = rule_by known t rest (is_mark 91 t) (is_mark 123 t) (is_mark 60 t) refl refl refl begins

record BodyStands (types : Types) (x : TypeV × List TokenV) : Type 0 where
  struct : is_struct x.0 ≡ true
  stands : type_stands types x.0 ≡ true

module _ (known : Known) (types : Types) (names : (name : Name) → is_some (known name) ≡ is_known_type types name) where
  begun : (t : TokenV) (rest : List TokenV) (b : Bool) → begins_body t ≡ b → Gives (BodyStands types) (cond b (type_at known (t ∷ rest)) (wrong t (no_body known t)))
  begun t rest true is = record {
    holds = λ x e. let s = (type_laws known 0).sound (t ∷ rest) x e in record {
      struct = (rule_is known t rest is).holds x (sym (type_is known t rest) ∙ e);
      stands = spelled_type known types names x.0 s.front s.spelled;
    };
  }
  begun t rest false is = faulty (BodyStands types) _

  body_is : (ts : List TokenV) → Gives (BodyStands types) (named_body_at known ts)
  unfolding named_body_at
  body_is [] = faulty (BodyStands types) Ended
  body_is (t ∷ rest) = begun t rest (begins_body t) refl

  laid_stands : (o : Outcome TypeV) → Gives (BodyStands types) o → (is_struct (laid_body (unless_faulty o)) ≡ true) × (type_stands types (laid_body (unless_faulty o)) ≡ true)
  unfolding type_stands
  laid_stands (Ok x) g = let h = g.holds x refl in (h.struct, h.stands)
  laid_stands (Err e) g = (refl, refl)

looked_up : (all : List (Name × List TokenV)) (known : Known) (name : Name)
    → is_some (lookup (same_name name) (map (λ d. (d.0, unless_faulty (named_body_at known d.1))) all)) ≡ is_some (lookup (same_name name) all)
looked_up [] known name = refl
looked_up (d ∷ all) known name = by_test (same_name name d.0) (looked_up all known name)
  where
    by_test : (b : Bool) → is_some (lookup (same_name name) (map (λ x. (x.0, unless_faulty (named_body_at known x.1))) all)) ≡ is_some (lookup (same_name name) all)
        → is_some (cond b (Some (unless_faulty (named_body_at known d.1))) (lookup (same_name name) (map (λ x. (x.0, unless_faulty (named_body_at known x.1))) all))) ≡ is_some (cond b (Some d.1) (lookup (same_name name) all))
    by_test true e = refl
    by_test false e = e

some_unread : (o : Option (List TokenV)) → is_some (option_map unread_body o) ≡ is_some o
some_unread None = refl
some_unread (Some ts) = refl

some_laid : (o : Option (Option TypeV)) → is_some (option_map laid_body o) ≡ is_some o
some_laid None = refl
some_laid (Some of) = refl

named_names : (all : List (Name × List TokenV)) (name : Name) → is_some (named_only all name) ≡ is_known_type (types_by (bodies_of all)) name
named_names all name =
    some_unread (lookup (same_name name) all)
    ∙ sym (looked_up all (named_only all) name)
    ∙ sym (some_laid (lookup (same_name name) (bodies_of all)))
    ∙ ap is_some (sym (body_named (bodies_of all) name))
    ∙ known_named (types_by (bodies_of all)) name

bodies_stand : (types : Types) (known : Known) → ((name : Name) → is_some (known name) ≡ is_known_type types name) → (all : List (Name × List TokenV))
    → (list_all (λ t. is_struct t.of) (laid_types (map (λ d. (d.0, unless_faulty (named_body_at known d.1))) all)) ≡ true) × (list_all (λ t. type_stands types t.of) (laid_types (map (λ d. (d.0, unless_faulty (named_body_at known d.1))) all)) ≡ true)
bodies_stand types known names [] = (refl, refl)
bodies_stand types known names (d ∷ all) =
    let here = laid_stands known types names (named_body_at known d.1) (body_is known types names d.1) in
    let struct = here.0 in
    let level = here.1 in
    let others = bodies_stand types known names all in
    let structs = others.0 in
    let levels = others.1 in
    (rw (struct, structs) refl, rw (level, levels) refl)

pub types_stand : AllTypesStand
unfolding types_in all_differ
types_stand ts =
    let all = definitions ts in
    let types = types_by (bodies_of all) in
    let each = bodies_stand types (named_only all) (named_names all) all in
    record {
      structs = all_pass (λ (t : NamedType Name TypeV). is_struct t.of) [] (laid_types (bodies_of all)) refl each.0;
      bodies = all_pass (λ (t : NamedType Name TypeV). type_stands types t.of) [] (laid_types (bodies_of all)) refl each.1;
      names = all_differ_named [] (laid_types (bodies_of all)) refl;
    }
