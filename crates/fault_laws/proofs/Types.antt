-- The named types of two texts are the same where their bodies are: the layouts follow.
use Rattle.std.proofs.Common.{◌≡◌, ℕ, zero, suc, ◌≤◌, Bool, true, false, cond, List, [], ◌∷◌, ◌++◌, length, map, Option, Some, None, refl, sym, ap, subst, ◌∙◌, arith}
use Rattle.std.proofs.lemmas.Bool.{eq-eqb}
use Rattle.std.specs.Prelude.{◌||◌, fold, is_some, option_map, option_and_then}
use Rattle.std.specs.Map.{lookup}
use mathlib.Core.Path.{fun_ext}
use lib.Pointwise.{bytes_decides}
use Rattle.pv_base.specs.declared.name.Name.{Name}
use Rattle.pv_base.specs.declared.name.Name.TheVariants.{Named, Numbered}
use Rattle.ir_tree.specs.declared.layout.Layout.{Layout}
use Rattle.ir_tree.specs.declared.items.NamedType.{NamedType}
use Rattle.ir_tree.specs.Layouts.{layout_with, named_layout, type_named}
use Rattle.ir_tree.specs.Table.{same_name, name_among}
use Rattle.ir_tree.specs.Trees.{TypeV}
use Rattle.ir_text.specs.Tokens.{TokenV}
use Rattle.ir_text.specs.Types.{Body}
use Rattle.ir_grammar.specs.NamedTypes.{laid_body, laid_types, with_type, types_by, known_by, known_in, bodies_of, definitions}
use Rattle.ir_grammar.proofs.NamedLemmas.{same_is, body_named}
use Rattle.fault_laws.specs.Texts.{body_of}

abbrev NamedTypes : Type 0
NamedTypes = List (NamedType Name TypeV)

-- ---- names

same_self : (a : Name) → same_name a a ≡ true
same_self (Named a) = (bytes_decides a a).1 refl
same_self (Numbered a) = eq-eqb a a refl

other_way : (a b : Name) → same_name a b ≡ false → same_name b a ≡ false
other_way a b e = by_test (same_name b a) refl
  where
    by_test : (t : Bool) → same_name b a ≡ t → t ≡ false
    by_test true h = let same : b ≡ a = same_is b a h in let clash : true ≡ false = sym (same_self a) ∙ ap (same_name a) (sym same) ∙ e in absurd cc
    by_test false h = refl

-- ---- types of which no two have one name

abbrev Distinct : NamedTypes → Type 0
Distinct [] = Unit {0}
Distinct (t ∷ ts) = (type_named ts t.name ≡ None) × Distinct ts

none_more : (ts : NamedTypes) (t : NamedType Name TypeV) (name : Name) → type_named ts name ≡ None → same_name name t.name ≡ false → type_named (ts ++ t ∷ []) name ≡ None
none_more [] t name e other = rw other refl
none_more (u ∷ ts) t name e other = by_test (same_name name u.name) e (none_more ts t name)
  where
    by_test : (b : Bool) → cond b (Some u.of) (type_named ts name) ≡ None → (type_named ts name ≡ None → same_name name t.name ≡ false → type_named (ts ++ t ∷ []) name ≡ None) → cond b (Some u.of) (type_named (ts ++ t ∷ []) name) ≡ None
    by_test true h go = absurd cc
    by_test false h go = go h other

distinct_more : (ts : NamedTypes) (t : NamedType Name TypeV) → Distinct ts → name_among t.name (map (λ u. u.name) ts) ≡ false → Distinct (ts ++ t ∷ [])
distinct_more [] t d new = (refl, tt)
distinct_more (u ∷ ts) t d new =
    let parts = either_false (same_name t.name u.name) (name_among t.name (map (λ v. v.name) ts)) new in
    (none_more ts t u.name d.0 (other_way t.name u.name parts.0), distinct_more ts t d.1 parts.1)
  where
    either_false : (a b : Bool) → (a || b) ≡ false → (a ≡ false) × (b ≡ false)
    either_false true b e = absurd cc
    either_false false b e = (refl, e)

distinct_with : (ts : NamedTypes) (t : NamedType Name TypeV) → Distinct ts → Distinct (with_type ts t)
distinct_with ts t d = by_test (name_among t.name (map (λ u. u.name) ts)) refl
  where
    by_test : (b : Bool) → name_among t.name (map (λ u. u.name) ts) ≡ b → Distinct (cond b ts (ts ++ t ∷ []))
    by_test true e = d
    by_test false e = distinct_more ts t d e

all_distinct : (all ts : NamedTypes) → Distinct ts → Distinct (fold with_type ts all)
all_distinct [] ts d = d
all_distinct (t ∷ all) ts d = all_distinct all (with_type ts t) (distinct_with ts t d)

types_distinct : (bodies : List (Name × Option TypeV)) → Distinct (types_by bodies)
types_distinct bodies = all_distinct (laid_types bodies) [] tt

-- ---- as many types where the names are the same

-- without the first of a name
without : Name → NamedTypes → NamedTypes
without name [] = []
without name (u ∷ us) = cond (same_name name u.name) us (u ∷ without name us)

one_fewer : (name : Name) (us : NamedTypes) → is_some (type_named us name) ≡ true → suc (length (without name us)) ≡ length us
unfolding without
one_fewer name [] e = absurd cc
one_fewer name (u ∷ us) e = by_test (same_name name u.name) e (one_fewer name us)
  where
    by_test : (b : Bool) → is_some (cond b (Some u.of) (type_named us name)) ≡ true → (is_some (type_named us name) ≡ true → suc (length (without name us)) ≡ length us) → suc (length (cond b us (u ∷ without name us))) ≡ suc (length us)
    by_test true h go = refl
    by_test false h go = ap suc (go h)

others_stay : (name other : Name) (us : NamedTypes) → same_name other name ≡ false → type_named (without name us) other ≡ type_named us other
unfolding without
others_stay name other [] e = refl
others_stay name other (u ∷ us) e = by_test (same_name name u.name) refl (others_stay name other us e)
  where
    by_test : (b : Bool) → same_name name u.name ≡ b → type_named (without name us) other ≡ type_named us other → type_named (cond b us (u ∷ without name us)) other ≡ type_named (u ∷ us) other
    by_test true h go = let same : name ≡ u.name = same_is name u.name h in let differs : same_name other u.name ≡ false = ap (same_name other) (sym same) ∙ e in rw differs refl
    by_test false h go = ap (cond (same_name other u.name) (Some u.of)) go

not_none : (o : Option TypeV) → o ≡ None → is_some o ≡ true → ⊥
not_none None e some = cc
not_none (Some of) e some = cc

no_more : (ts us : NamedTypes) → Distinct ts → ((name : Name) → is_some (type_named ts name) ≡ true → is_some (type_named us name) ≡ true) → length ts ≤ length us
no_more [] us d inside = omega arith
no_more (t ∷ ts) us d inside =
    let here : is_some (type_named us t.name) ≡ true = inside t.name (ap (λ (b : Bool). is_some (cond b (Some t.of) (type_named ts t.name))) (same_self t.name)) in
    let fewer = one_fewer t.name us here in
    let rest = no_more ts (without t.name us) d.1 (λ name some. left name some (same_name name t.name) refl) in
    omega arith
  where
    left : (name : Name) → is_some (type_named ts name) ≡ true → (b : Bool) → same_name name t.name ≡ b → is_some (type_named (without t.name us) name) ≡ true
    left name some true e =
        let same : name ≡ t.name = same_is name t.name e in
        let clash : is_some (type_named ts t.name) ≡ true = subst (λ (n : Name). is_some (type_named ts n) ≡ true) same some in
        absurd (not_none (type_named ts t.name) d.0 clash)
    left name some false e =
        let there : is_some (type_named us name) ≡ true = inside name (ap (λ (b : Bool). is_some (cond b (Some t.of) (type_named ts name))) e ∙ some) in
        ap (λ (o : Option TypeV). is_some o) (others_stay t.name name us e) ∙ there

-- ---- layouts

same_layouts : (n : ℕ) (ts us : NamedTypes) → ((name : Name) → type_named ts name ≡ type_named us name) → named_layout n ts ≡ named_layout n us
unfolding named_layout
same_layouts zero ts us same = refl
same_layouts (suc n) ts us same = fun_ext (λ name. ap (λ (f : Name → Option Layout). option_and_then (layout_with f) (type_named ts name)) (same_layouts n ts us same) ∙ ap (option_and_then (layout_with (named_layout n us))) (same name))

-- what is known, by the bodies alone
body_by : (bodies : List (Name × Option TypeV)) (name : Name) (o : Option (Option TypeV)) → lookup (same_name name) bodies ≡ o → body_of (known_by bodies name) ≡ o
body_by bodies name None e = rw e refl
body_by bodies name (Some of) e = rw e refl

module _ (mine theirs : List (Name × Option TypeV)) (same : (name : Name) → body_of (known_by theirs name) ≡ body_of (known_by mine name)) where
  found_same : (name : Name) → lookup (same_name name) theirs ≡ lookup (same_name name) mine
  found_same name = sym (body_by theirs name _ refl) ∙ same name ∙ body_by mine name _ refl

  types_same : (name : Name) → type_named (types_by theirs) name ≡ type_named (types_by mine) name
  types_same name = body_named theirs name ∙ ap (option_map laid_body) (found_same name) ∙ sym (body_named mine name)

  as_many : length (types_by theirs) ≡ length (types_by mine)
  as_many =
      let le = no_more (types_by theirs) (types_by mine) (types_distinct theirs) (λ name some. ap (λ (o : Option TypeV). is_some o) (sym (types_same name)) ∙ some) in
      let ge = no_more (types_by mine) (types_by theirs) (types_distinct mine) (λ name some. ap (λ (o : Option TypeV). is_some o) (types_same name) ∙ some) in
      omega arith

  layouts_same : named_layout (length (types_by theirs)) (types_by theirs) ≡ named_layout (length (types_by mine)) (types_by mine)
  layouts_same = same_layouts (length (types_by theirs)) (types_by theirs) (types_by mine) types_same ∙ ap (λ (n : ℕ). named_layout n (types_by mine)) as_many

  pub known_same : (name : Name) → known_by theirs name ≡ known_by mine name
  known_same name =
      ap (λ (o : Option (Option TypeV)). option_map (λ of. let b : Body = record { of = of; layout = named_layout (length (types_by theirs)) (types_by theirs) name } in b) o) (found_same name)
      ∙ ap (λ (f : Name → Option Layout). option_map (λ of. let b : Body = record { of = of; layout = f name } in b) (lookup (same_name name) mine)) layouts_same

-- texts whose definitions have the same bodies say the same of their named types
pub types_known : (ts us : List TokenV) → ((name : Name) → body_of (known_in us name) ≡ body_of (known_in ts name)) → (name : Name) → known_in us name ≡ known_in ts name
unfolding known_in
types_known ts us same name = known_same (bodies_of (definitions ts)) (bodies_of (definitions us)) same name
