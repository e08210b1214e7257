-- The named types of a text, and what is known of their names.
use Rattle.std.proofs.Common.{◌≡◌, ℕ, zero, suc, Bool, true, false, cond, List, [], ◌∷◌, ◌++◌, length, map, Option, Some, None, refl, sym, ap, ◌∙◌, eqb-true}
use Rattle.std.specs.Prelude.{◌||◌, fold, is_some, option_map}
use Rattle.std.specs.Map.{lookup}
use Rattle.std.specs.Option.{option_or}
use mathlib.Core.Path.{fun_ext}
use lib.Pointwise.{bytes_decides}
use Rattle.pv_base.specs.declared.name.Name.{Name}
use Rattle.pv_base.specs.declared.name.Name.TheVariants.{Named, Numbered}
use Rattle.ir_tree.specs.declared.layout.Layout.{Layout}
use Rattle.ir_tree.specs.declared.items.NamedType.{NamedType}
use Rattle.ir_tree.specs.Layouts.{layout_with, layout_of, named_layout, type_named}
use Rattle.ir_tree.specs.Table.{same_name, name_among}
use Rattle.ir_tree.specs.Trees.{TypeV}
use Rattle.ir_text.specs.Tokens.{TokenV}
use Rattle.ir_text.specs.MemoryTypes.{named_layouts}
use Rattle.ir_grammar.specs.NamedTypes.{laid_body, laid_types, with_type, types_by, types_in, known_by, known_in, bodies_of, definitions}

pub same_is : (a b : Name) → same_name a b ≡ true → a ≡ b
same_is (Named a) (Named b) e = ap Named ((bytes_decides a b).0 e)
same_is (Numbered a) (Numbered b) e = ap Numbered (eqb-true a b e)
same_is (Named a) (Numbered b) e = absurd cc
same_is (Numbered a) (Named b) e = absurd cc

-- ---- the type of a name, among those of which each name has one

or_none : {A : Type 0} (o : Option A) → option_or o None ≡ o
or_none None = refl
or_none (Some x) = refl

some_or : {A : Type 0} (o p : Option A) → is_some o ≡ true → o ≡ option_or o p
some_or None p e = absurd cc
some_or (Some x) p e = refl

regroup : {A : Type 0} (o : Option A) (b : Bool) (x : A) (rest : Option A) → option_or (option_or o (cond b (Some x) None)) rest ≡ option_or o (cond b (Some x) rest)
regroup (Some y) b x rest = refl
regroup None true x rest = refl
regroup None false x rest = refl

named_more : (types : List (NamedType Name TypeV)) (t : NamedType Name TypeV) (name : Name) → type_named (types ++ t ∷ []) name ≡ option_or (type_named types name) (cond (same_name name t.name) (Some t.of) None)
named_more [] t name = refl
named_more (u ∷ types) t name = by_test (same_name name u.name) (named_more types t name)
  where
    by_test : (b : Bool) → type_named (types ++ t ∷ []) name ≡ option_or (type_named types name) (cond (same_name name t.name) (Some t.of) None)
        → cond b (Some u.of) (type_named (types ++ t ∷ []) name) ≡ option_or (cond b (Some u.of) (type_named types name)) (cond (same_name name t.name) (Some t.of) None)
    by_test true e = refl
    by_test false e = e

named_among : (types : List (NamedType Name TypeV)) (name : Name) → is_some (type_named types name) ≡ name_among name (map (λ u. u.name) types)
named_among [] name = refl
named_among (u ∷ types) name = by_test (same_name name u.name) (named_among types name)
  where
    by_test : (b : Bool) → is_some (type_named types name) ≡ name_among name (map (λ u. u.name) types) → is_some (cond b (Some u.of) (type_named types name)) ≡ (b || name_among name (map (λ u. u.name) types))
    by_test true e = refl
    by_test false e = e

with_more : (types : List (NamedType Name TypeV)) (t : NamedType Name TypeV) (name : Name) → type_named (with_type types t) name ≡ option_or (type_named types name) (cond (same_name name t.name) (Some t.of) None)
with_more types t name = by_test (name_among t.name (map (λ u. u.name) types)) (named_among types t.name)
  where
    old : (b : Bool) → same_name name t.name ≡ b → is_some (type_named types t.name) ≡ true → type_named types name ≡ option_or (type_named types name) (cond b (Some t.of) None)
    old true e some = some_or (type_named types name) (Some t.of) (let same : name ≡ t.name = same_is name t.name e in rw same some)
    old false e some = sym (or_none (type_named types name))

    by_test : (b : Bool) → is_some (type_named types t.name) ≡ b → type_named (cond b types (types ++ t ∷ [])) name ≡ option_or (type_named types name) (cond (same_name name t.name) (Some t.of) None)
    by_test true e = old (same_name name t.name) refl e
    by_test false e = named_more types t name

firsts_named : (types all : List (NamedType Name TypeV)) (name : Name) → type_named (fold with_type types all) name ≡ option_or (type_named types name) (type_named all name)
firsts_named types [] name = sym (or_none (type_named types name))
firsts_named types (t ∷ all) name =
    firsts_named (with_type types t) all name
    ∙ ap (λ (o : Option TypeV). option_or o (type_named all name)) (with_more types t name)
    ∙ regroup (type_named types name) (same_name name t.name) t.of (type_named all name)

laid_named : (bodies : List (Name × Option TypeV)) (name : Name) → type_named (laid_types bodies) name ≡ option_map laid_body (lookup (same_name name) bodies)
laid_named [] name = refl
laid_named (d ∷ bodies) name = by_test (same_name name d.0) (laid_named bodies name)
  where
    by_test : (b : Bool) → type_named (laid_types bodies) name ≡ option_map laid_body (lookup (same_name name) bodies)
        → cond b (Some (laid_body d.1)) (type_named (laid_types bodies) name) ≡ option_map laid_body (cond b (Some d.1) (lookup (same_name name) bodies))
    by_test true e = refl
    by_test false e = e

-- the type of a name is its first body
pub body_named : (bodies : List (Name × Option TypeV)) (name : Name) → type_named (types_by bodies) name ≡ option_map laid_body (lookup (same_name name) bodies)
body_named bodies name = firsts_named [] (laid_types bodies) name ∙ laid_named bodies name

-- ---- layouts

none_named : (n : ℕ) (types : List (NamedType Name TypeV)) (name : Name) → type_named types name ≡ None → named_layout n types name ≡ None
unfolding named_layout
none_named zero types name e = refl
none_named (suc n) types name e = rw e refl

layout_by : (bodies : List (Name × Option TypeV)) (name : Name) (o : Option (Option TypeV)) → lookup (same_name name) bodies ≡ o → named_layouts (known_by bodies) name ≡ named_layout (length (types_by bodies)) (types_by bodies) name
layout_by bodies name (Some of) e = rw e refl
layout_by bodies name None e =
    let none : type_named (types_by bodies) name ≡ None = body_named bodies name ∙ ap (option_map laid_body) e in
    rw e (sym (none_named (length (types_by bodies)) (types_by bodies) name none))

-- layouts by what is known are those by the types of the text
pub layout_known : (ts : List TokenV) (of : TypeV) → layout_with (named_layouts (known_in ts)) of ≡ layout_of (types_in ts) of
unfolding known_in types_in
layout_known ts of =
    let bodies = bodies_of (definitions ts) in
    ap (λ (f : Name → Option Layout). layout_with f of) (fun_ext (λ name. layout_by bodies name (lookup (same_name name) bodies) refl))

some_body : (o : Option (Option TypeV)) → is_some (option_map laid_body o) ≡ is_some o
some_body None = refl
some_body (Some of) = refl

some_known : (bodies : List (Name × Option TypeV)) (name : Name) (o : Option (Option TypeV)) → lookup (same_name name) bodies ≡ o → is_some o ≡ is_some (known_by bodies name)
some_known bodies name None e = rw e refl
some_known bodies name (Some of) e = rw e refl

-- the names that are known are those of the types of the text
pub name_known : (ts : List TokenV) (name : Name) → is_some (type_named (types_in ts) name) ≡ is_some (known_in ts name)
unfolding known_in types_in
name_known ts name =
    let bodies = bodies_of (definitions ts) in
    ap (λ (o : Option TypeV). is_some o) (body_named bodies name) ∙ some_body (lookup (same_name name) bodies) ∙ some_known bodies name (lookup (same_name name) bodies) refl
