-- What the tokens of printed items say of named types: what the text said from which they were read.
use Rattle.std.proofs.Common.{◌≡◌, Bool, true, false, cond, List, [], ◌∷◌, Option, Some, None, refl, sym, ap, ◌∙◌}
use Rattle.std.specs.Prelude.{All, fold, is_some, option_map}
use Rattle.std.specs.Map.{lookup}
use mathlib.Core.Path.{fun_ext}
use Rattle.pv_base.specs.declared.name.Name.{Name}
use Rattle.ir_tree.specs.declared.items.NamedType.{NamedType}
use Rattle.ir_tree.specs.Layouts.{layout_of, type_named}
use Rattle.ir_tree.specs.Table.{same_name}
use Rattle.ir_tree.specs.Trees.{TypeV, NamedV}
use Rattle.ir_text.specs.Tokens.{TokenV}
use Rattle.ir_text.specs.Types.{Known, Body}
use Rattle.ir_grammar.specs.Items.{named_body_at}
use Rattle.ir_grammar.specs.NamedTypes.{definitions, named_only, unread_body, unless_faulty, laid_body, laid_types, with_type, types_by, types_in, known_by, known_in, bodies_of, bodies_read, bodies_in}
use Rattle.ir_grammar.proofs.NamedLemmas.{body_named}
use Rattle.module_laws.specs.TextLaws.{all_sound}
use Rattle.print_modules.proofs.Distinct.{type_names, named, named_laid, lookup_named, types_again, types_new, types_kept}
use Rattle.print_modules.proofs.Fresh.{New}
use Rattle.print_modules.proofs.Bodies.{bodies_by, bodies_all}
use Rattle.print_modules.proofs.Defining.{Defines, defines_read, defines_bodies, defines_names}

-- ---- names alone

unread_same : (o p : Option (List TokenV)) → is_some o ≡ is_some p → option_map unread_body o ≡ option_map unread_body p
unread_same None None e = refl
unread_same (Some x) (Some y) e = refl
unread_same None (Some y) e = absurd cc
unread_same (Some x) None e = absurd cc

some_laid : (o : Option (Option TypeV)) → is_some (option_map laid_body o) ≡ is_some o
some_laid None = refl
some_laid (Some x) = refl

some_body : (known : Known) (ds : List (Name × List TokenV)) (name : Name) → is_some (lookup (same_name name) (bodies_by known ds)) ≡ is_some (lookup (same_name name) ds)
some_body known [] name = refl
some_body known (d ∷ ds) name = by_test (unless_faulty (named_body_at known d.1)) d.1 (same_name name d.0) (lookup (same_name name) (bodies_by known ds)) (lookup (same_name name) ds) (some_body known ds name)
  where
    by_test : {A B : Type 0} (x : A) (y : B) (b : Bool) (o : Option A) (p : Option B) → is_some o ≡ is_some p → is_some (cond b (Some x) o) ≡ is_some (cond b (Some y) p)
    by_test x y true o p e = refl
    by_test x y false o p e = e

some_known : (bodies : List (Name × Option TypeV)) (name : Name) → is_some (known_by bodies name) ≡ is_some (lookup (same_name name) bodies)
some_known bodies name = by_body (lookup (same_name name) bodies)
  where
    by_body : (o : Option (Option TypeV)) → is_some (option_map (λ (of : Option TypeV). let x : Body = record { of = of; layout = layout_of (types_by bodies) (NamedV name) } in x) o) ≡ is_some o
    by_body None = refl
    by_body (Some of) = refl

some_only : (ds : List (Name × List TokenV)) (name : Name) → is_some (named_only ds name) ≡ is_some (lookup (same_name name) ds)
some_only ds name = by_tokens (lookup (same_name name) ds)
  where
    by_tokens : (o : Option (List TokenV)) → is_some (option_map unread_body o) ≡ is_some o
    by_tokens None = refl
    by_tokens (Some us) = refl

-- the names alone say which are known
pub names_known : (ts : List TokenV) (name : Name) → is_some (named_only (definitions ts) name) ≡ is_some (known_in ts name)
unfolding known_in
names_known ts name =
    some_only (definitions ts) name ∙ (sym (some_body (named_only (definitions ts)) (definitions ts) name) ∙ sym (some_known (bodies_of (definitions ts)) name))

-- ---- bodies

known_same : (a b : List (Name × Option TypeV)) (name : Name) → types_by a ≡ types_by b → lookup (same_name name) a ≡ lookup (same_name name) b → known_by a name ≡ known_by b name
known_same a b name types bodies =
    ap (λ (ts : List (NamedType Name TypeV)). option_map (λ (of : Option TypeV). let x : Body = record { of = of; layout = layout_of ts (NamedV name) } in x) (lookup (same_name name) a)) types
    ∙ ap (λ (o : Option (Option TypeV)). option_map (λ (of : Option TypeV). let x : Body = record { of = of; layout = layout_of (types_by b) (NamedV name) } in x) o) bodies

-- the types of a text
pub types_distinct : (ts : List TokenV) → New [] (type_names (types_in ts))
unfolding types_in
types_distinct ts = types_new (laid_types (bodies_of (definitions ts)))

pub types_hold : (P : NamedType Name TypeV → Type 0) (ts : List TokenV) → All P (laid_types (bodies_of (definitions ts))) → All P (types_in ts)
unfolding types_in
types_hold P ts h = types_kept P (laid_types (bodies_of (definitions ts))) h

-- other tokens, whose definitions are those of the types of a text
module _ (ts us : List TokenV) (read : bodies_in ts ≡ all_sound) (defines : Defines (named_only (definitions ts)) (definitions us) (types_in ts)) where
  abbrev first_bodies : List (Name × Option TypeV)
  first_bodies = bodies_of (definitions ts)

  same_named : (name : Name) → type_named (types_in ts) name ≡ option_map laid_body (lookup (same_name name) first_bodies)
  unfolding types_in
  same_named name = body_named first_bodies name

  pub names_same : named_only (definitions us) ≡ named_only (definitions ts)
  names_same = fun_ext (λ name. unread_same (lookup (same_name name) (definitions us)) (lookup (same_name name) (definitions ts))
      (defines_names (named_only (definitions ts)) (definitions us) (types_in ts) name defines
      ∙ (ap (λ (o : Option TypeV). is_some o) (same_named name) ∙ (some_laid (lookup (same_name name) first_bodies) ∙ some_body (named_only (definitions ts)) (definitions ts) name))))

  bodies_same : bodies_of (definitions us) ≡ named (types_in ts)
  bodies_same = ap (λ (k : Known). bodies_by k (definitions us)) names_same ∙ defines_bodies (named_only (definitions ts)) (definitions us) (types_in ts) defines

  pub bodies_sound : bodies_in us ≡ all_sound
  unfolding bodies_in
  bodies_sound = ap (λ (k : Known). bodies_read k (definitions us)) names_same ∙ defines_read (named_only (definitions ts)) (definitions us) (types_in ts) defines

  types_of_named : types_by (named (types_in ts)) ≡ types_in ts
  unfolding types_in
  types_of_named = ap (λ (all : List (NamedType Name TypeV)). fold with_type [] all) (named_laid (types_in ts)) ∙ types_again (laid_types first_bodies)

  pub types_same : types_in us ≡ types_in ts
  unfolding types_in
  types_same = ap types_by bodies_same ∙ types_of_named

  same_lookup : (name : Name) → lookup (same_name name) (named (types_in ts)) ≡ lookup (same_name name) first_bodies
  unfolding bodies_in
  same_lookup name =
      lookup_named (types_in ts) name
      ∙ (ap (λ (o : Option TypeV). option_map Some o) (same_named name) ∙ bodies_all (named_only (definitions ts)) (definitions ts) name read)

  known_first : (name : Name) → known_by (named (types_in ts)) name ≡ known_by first_bodies name
  unfolding types_in
  known_first name = known_same (named (types_in ts)) first_bodies name types_of_named (same_lookup name)

  pub known_is : known_in us ≡ known_in ts
  unfolding known_in
  known_is = ap known_by bodies_same ∙ fun_ext known_first
