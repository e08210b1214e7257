-- The named types of a text, each name once.
use Rattle.std.proofs.Common.{◌≡◌, Bool, true, false, cond, List, [], ◌∷◌, ◌++◌, map, Option, Some, refl, sym, ap, subst, ◌∙◌}
use Rattle.std.specs.Prelude.{All, fold, option_map}
use Rattle.std.specs.Map.{lookup}
use Rattle.std.proofs.lemmas.List.{map-append}
use Rattle.std.proofs.lemmas.List.Elements.{All-nil, All-head, All-tail, All-push}
use Rattle.std.proofs.lemmas.List.Sums.{fold-append}
use Rattle.pv_base.specs.declared.name.Name.{Name}
use Rattle.ir_tree.specs.declared.items.NamedType.{NamedType}
use Rattle.ir_tree.specs.Layouts.{type_named}
use Rattle.ir_tree.specs.Table.{same_name, name_among}
use Rattle.ir_tree.specs.Trees.{TypeV}
use Rattle.ir_grammar.specs.NamedTypes.{laid_types, with_type}
use Rattle.print_modules.proofs.Fresh.{New, new_more}

abbrev pub type_names : List (NamedType Name TypeV) → List Name
type_names types = map (λ t. t.name) types

-- each with its body
abbrev pub named : List (NamedType Name TypeV) → List (Name × Option TypeV)
named types = map (λ t. (t.name, Some t.of)) types

pub named_laid : (types : List (NamedType Name TypeV)) → laid_types (named types) ≡ types
named_laid [] = refl
named_laid (t ∷ types) = ap (λ (us : List (NamedType Name TypeV)). t ∷ us) (named_laid types)

pub lookup_named : (types : List (NamedType Name TypeV)) (name : Name) → lookup (same_name name) (named types) ≡ option_map Some (type_named types name)
lookup_named [] name = refl
lookup_named (t ∷ types) name = by_test (same_name name t.name) (lookup_named types name)
  where
    by_test : (b : Bool) → lookup (same_name name) (named types) ≡ option_map Some (type_named types name)
        → cond b (Some (Some t.of)) (lookup (same_name name) (named types)) ≡ option_map Some (cond b (Some t.of) (type_named types name))
    by_test true e = refl
    by_test false e = e

-- ---- taken up once more, they stay the same

again_one : (types : List (NamedType Name TypeV)) (t : NamedType Name TypeV) → fold with_type [] types ≡ types → fold with_type [] (with_type types t) ≡ with_type types t
again_one types t s = by_test (name_among t.name (type_names types)) refl
  where
    by_test : (b : Bool) → name_among t.name (type_names types) ≡ b → fold with_type [] (cond b types (types ++ t ∷ [])) ≡ cond b types (types ++ t ∷ [])
    by_test true e = s
    by_test false e = fold-append with_type [] types (t ∷ []) ∙ (ap (λ (us : List (NamedType Name TypeV)). with_type us t) s ∙ rw e refl)

again_all : (types all : List (NamedType Name TypeV)) → fold with_type [] types ≡ types → fold with_type [] (fold with_type types all) ≡ fold with_type types all
again_all types [] s = s
again_all types (t ∷ all) s = again_all (with_type types t) all (again_one types t s)

pub types_again : (all : List (NamedType Name TypeV)) → fold with_type [] (fold with_type [] all) ≡ fold with_type [] all
types_again all = again_all [] all refl

-- ---- each name is new

new_one : (types : List (NamedType Name TypeV)) (t : NamedType Name TypeV) → New [] (type_names types) → New [] (type_names (with_type types t))
new_one types t h = by_test (name_among t.name (type_names types)) refl
  where
    by_test : (b : Bool) → name_among t.name (type_names types) ≡ b → New [] (type_names (cond b types (types ++ t ∷ [])))
    by_test true e = h
    by_test false e = subst (New []) (sym (map-append (λ (u : NamedType Name TypeV). u.name) types (t ∷ []))) (new_more [] (type_names types) t.name h refl e)

new_all : (types all : List (NamedType Name TypeV)) → New [] (type_names types) → New [] (type_names (fold with_type types all))
new_all types [] h = h
new_all types (t ∷ all) h = new_all (with_type types t) all (new_one types t h)

pub types_new : (all : List (NamedType Name TypeV)) → New [] (type_names (fold with_type [] all))
types_new all = new_all [] all tt

-- ---- what holds of all holds of the first of each name

kept_one : (P : NamedType Name TypeV → Type 0) (types : List (NamedType Name TypeV)) (t : NamedType Name TypeV) → All P types → P t → All P (with_type types t)
kept_one P types t h p = by_test (name_among t.name (type_names types))
  where
    by_test : (b : Bool) → All P (cond b types (types ++ t ∷ []))
    by_test true = h
    by_test false = All-push P types t h p

kept_all : (P : NamedType Name TypeV → Type 0) (types all : List (NamedType Name TypeV)) → All P types → All P all → All P (fold with_type types all)
kept_all P types [] h k = h
kept_all P types (t ∷ all) h k = kept_all P (with_type types t) all (kept_one P types t h (All-head P t all k)) (All-tail P t all k)

pub types_kept : (P : NamedType Name TypeV → Type 0) (all : List (NamedType Name TypeV)) → All P all → All P (fold with_type [] all)
types_kept P all h = kept_all P [] all (All-nil P) h
