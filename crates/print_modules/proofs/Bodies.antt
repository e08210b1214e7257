-- The definitions of a text that was read: their names fit, and their bodies are printed.
use Rattle.std.proofs.Common.{◌≡◌, ℕ, Bool, true, false, cond, ◌&&◌, ◌||◌, List, [], ◌∷◌, ◌++◌, map, drop, Option, Some, Ok, refl, sym, ap, subst, ◌∙◌, inl, inr}
use Rattle.std.specs.Prelude.{All, option_map}
use Rattle.std.specs.Map.{lookup}
use Rattle.std.proofs.lemmas.Bool.{and_parts, or_left, or_right, or_cases}
use Rattle.std.proofs.lemmas.List.Elements.{All-nil, All-cons, All-head, All-tail, All-drop}
use Rattle.pv_base.specs.declared.name.Name.{Name}
use Rattle.ir_lex.specs.declared.token.TokenKind.{TokenKind}
use Rattle.ir_lex.specs.declared.token.TokenKind.TheVariants as kind
use Rattle.ir_lex.specs.Spelling.{IsNameKind}
use Rattle.ir_tree.specs.declared.items.NamedType.{NamedType}
use Rattle.ir_tree.specs.Table.{same_name}
use Rattle.ir_tree.specs.Trees.{TypeV, IntV, PtrV, VoidV, ArrayV, StructV, NamedV}
use Rattle.ir_text.specs.Tokens.{TokenV, is_mark, punct_is}
use Rattle.ir_text.specs.Reading.{Outcome}
use Rattle.ir_text.specs.Choice.{Opens}
use Rattle.ir_text.specs.Leaves.{spelled_name}
use Rattle.ir_text.specs.Operands.{is_local, kind_is_local}
use Rattle.ir_text.specs.Repeated.{Both}
use Rattle.ir_text.specs.Spelled.{one_token}
use Rattle.ir_text.specs.Types.{Known, simple_by, simple}
use Rattle.ir_text.specs.TypeSpelled.{a_mark, a_type}
use Rattle.ir_text.proofs.Laws.{bind_ok}
use Rattle.ir_text.proofs.Marks.{apart}
use Rattle.ir_printer.specs.Operands.{type_pieces}
use Rattle.instr_laws.proofs.Opening.{the_mark}
use Rattle.ir_grammar.specs.Items.{begins_body, named_body_at}
use Rattle.ir_grammar.specs.NamedTypes.{says_type, definitions, unless_faulty, laid_body, laid_types, bodies_read}
use Rattle.module_laws.specs.TextLaws.{all_sound}
use Rattle.module_laws.proofs.GlobalLaws.{named_body_laws}
use Rattle.print_tokens.specs.Standing.{NameFits}
use Rattle.print_values.specs.Printed.{IsSound, AreSound, Printed}
use Rattle.print_values.specs.Laws.{NamesFit, TypesReadBack}
use Rattle.print_functions.proofs.Composing.{sound_front}

-- ---- which types begin as bodies

no_body_by : (known : Known) (k : TokenKind) (t : TokenV) (of : TypeV) → (punct_is (123 ∷ []) k t.text || punct_is (60 ∷ []) k t.text) ≡ true → simple_by known k t ≡ Ok of → ⊥
no_body_by known kind.Punct t of e is = absurd cc
no_body_by known kind.Word t of e is = absurd cc
no_body_by known kind.LocalName t of e is = absurd cc
no_body_by known kind.GlobalName t of e is = absurd cc
no_body_by known kind.Label t of e is = absurd cc
no_body_by known kind.Integer t of e is = absurd cc
no_body_by known kind.Text t of e is = absurd cc

no_simple_body : (known : Known) (of : TypeV) (ws : List TokenV) → one_token (simple known) of ws → Opens begins_body ws → ⊥
no_simple_body known of ws s o =
    let first = sym s.parts ∙ o.parts in
    let same : s.token ≡ o.token = cc in
    let is : simple known o.token ≡ Ok of = subst (λ (t : TokenV). simple known t ≡ Ok of) same s.is in
    no_body_by known o.token.kind o.token of o.is is

no_array : (t : TokenV) → is_mark 91 t ≡ true → begins_body t ≡ true → ⊥
no_array t e is =
    elim (or_cases (is_mark 123 t) (is_mark 60 t) is) [
      | inl brace ↦ let clash = sym (apart 91 123 t refl e) ∙ brace in absurd cc
      | inr angle ↦ let clash = sym (apart 91 60 t refl e) ∙ angle in absurd cc
    ]

first_mark : (b : ℕ) (others : List TokenV → Type 0) (ws : List TokenV) → Both (a_mark b) others ws → Opens (is_mark b) ws
first_mark b others ws s = record {
  token = s.first_spells.token;
  rest = s.rest;
  parts = s.parts ∙ ap (λ (us : List TokenV). us ++ s.rest) s.first_spells.parts;
  is = the_mark b s.first_spells.token tt s.first_spells.is;
}

body_mark : (ws : List TokenV) → Opens (is_mark 123) ws → Opens begins_body ws
body_mark ws o = record { token = o.token; rest = o.rest; parts = o.parts; is = or_left (is_mark 123 o.token) (is_mark 60 o.token) o.is }

angle_mark : (ws : List TokenV) → Opens (is_mark 60) ws → Opens begins_body ws
angle_mark ws o = record { token = o.token; rest = o.rest; parts = o.parts; is = or_right (is_mark 123 o.token) (is_mark 60 o.token) o.is }

-- where some tokens of a type begin a body, all do
opens_type : (known : Known) (of : TypeV) (ws us : List TokenV) → a_type known of ws → Opens begins_body ws → a_type known of us → Opens begins_body us
opens_type known (IntV w) ws us s o t = absurd (no_simple_body known (IntV w) ws s o)
opens_type known PtrV ws us s o t = absurd (no_simple_body known PtrV ws s o)
opens_type known VoidV ws us s o t = absurd s
opens_type known (NamedV name) ws us s o t = absurd (no_simple_body known (NamedV name) ws s o)
opens_type known (ArrayV n of) ws us s o t =
    let a = first_mark 91 _ ws s in
    let first = sym a.parts ∙ o.parts in
    let same : a.token ≡ o.token = cc in
    absurd (no_array o.token (subst (λ (x : TokenV). is_mark 91 x ≡ true) same a.is) o.is)
opens_type known (StructV false fields) ws us s o t = body_mark us (first_mark 123 _ us t)
opens_type known (StructV true fields) ws us s o t = angle_mark us (first_mark 60 _ us t)

-- ---- named types that are printed

pub record TypeFits (known : Known) (n : NamedType Name TypeV) : Type 0 where
  pub name : NameFits n.name
  pub printed : Printed (a_type known n.of) (type_pieces n.of)
  pub opens : (ws : List TokenV) → a_type known n.of ws → Opens begins_body ws

pub record DefinitionFits (d : Name × List TokenV) : Type 0 where
  pub name : NameFits d.0
  pub sound : AreSound d.1

abbrev pub bodies_by : Known → List (Name × List TokenV) → List (Name × Option TypeV)
bodies_by known ds = map (λ d. (d.0, unless_faulty (named_body_at known d.1))) ds

module _ (types_back : TypesReadBack) where
  type_fits : (known : Known) (d : Name × List TokenV) (x : TypeV × List TokenV) → DefinitionFits d → named_body_at known d.1 ≡ Ok x → TypeFits known (record { name = d.0; of = x.0 })
  type_fits known d x fits e =
      let taken = (named_body_laws 0 known).sound d.1 x e in
      record {
        name = fits.name;
        printed = types_back known x.0 taken.front (sound_front taken.front x.1 d.1 taken.parts fits.sound) taken.spelled.0;
        opens = λ ws s. opens_type known x.0 taken.front ws taken.spelled.0 taken.spelled.1 s;
      }

  pub bodies_fit : (known : Known) (ds : List (Name × List TokenV)) → All DefinitionFits ds → bodies_read known ds ≡ all_sound → All (TypeFits known) (laid_types (bodies_by known ds))
  unfolding bodies_read
  bodies_fit known [] h e = All-nil (TypeFits known)
  bodies_fit known (d ∷ ds) h e =
      let b = bind_ok (named_body_at known d.1) (λ of. bodies_read known ds) (tt, []) e in
      let first = b.1 in
      let fits = type_fits known d b.0 (All-head DefinitionFits d ds h) first in
      subst (λ (o : Outcome TypeV). All (TypeFits known) (record { name = d.0; of = laid_body (unless_faulty o) } ∷ laid_types (bodies_by known ds))) (sym first)
      (All-cons (TypeFits known) (record { name = d.0; of = b.0.0 }) (laid_types (bodies_by known ds)) fits (bodies_fit known ds (All-tail DefinitionFits d ds h) b.2))

-- all of them have bodies
pub bodies_all : (known : Known) (ds : List (Name × List TokenV)) (name : Name) → bodies_read known ds ≡ all_sound
    → option_map Some (option_map laid_body (lookup (same_name name) (bodies_by known ds))) ≡ lookup (same_name name) (bodies_by known ds)
unfolding bodies_read
bodies_all known [] name e = refl
bodies_all known (d ∷ ds) name e =
    let b = bind_ok (named_body_at known d.1) (λ of. bodies_read known ds) (tt, []) e in
    let first = b.1 in
    rw first (by_test (same_name name d.0) b.0.0 (lookup (same_name name) (bodies_by known ds)) (bodies_all known ds name b.2))
  where
    by_test : (t : Bool) (of : TypeV) (o : Option (Option TypeV)) → option_map Some (option_map laid_body o) ≡ o → option_map Some (option_map laid_body (cond t (Some (Some of)) o)) ≡ cond t (Some (Some of)) o
    by_test true of o h = refl
    by_test false of o h = h

-- ---- the definitions of sound tokens

local_kind : (k : TokenKind) → kind_is_local k ≡ true → IsNameKind k
local_kind kind.LocalName e = tt
local_kind kind.GlobalName e = tt
local_kind kind.Label e = tt
local_kind kind.Word e = absurd cc
local_kind kind.Punct e = absurd cc
local_kind kind.Integer e = absurd cc
local_kind kind.Text e = absurd cc

one_fits : (b : Bool) (d : Name × List TokenV) (ds : List (Name × List TokenV)) → (b ≡ true → DefinitionFits d) → All DefinitionFits ds → All DefinitionFits (cond b (d ∷ ds) ds)
one_fits true d ds f h = All-cons DefinitionFits d ds (f refl) h
one_fits false d ds f h = h

pub definitions_fit : NamesFit → (ts : List TokenV) → AreSound ts → All DefinitionFits (definitions ts)
unfolding definitions
definitions_fit names [] s = All-nil DefinitionFits
definitions_fit names (t ∷ rest) s =
    let behind = All-tail IsSound t rest s in
    one_fits (is_local t && says_type rest) (spelled_name t, drop 2 rest) (definitions rest)
    (λ e. record { name = names t (All-head IsSound t rest s) (local_kind t.kind (and_parts (is_local t) (says_type rest) e).0); sound = All-drop IsSound 2 rest behind })
    (definitions_fit names rest behind)
