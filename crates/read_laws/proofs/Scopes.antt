-- What a function defines differs: each name is new to the scope that it joins.
use Rattle.std.proofs.Common.{◌≡◌, ℕ, ◌≤◌, Bool, true, false, cond, List, [], ◌∷◌, ◌++◌, Ok, Err, refl, sym, ap, subst, ◌∙◌, inl, inr, arith, append_assoc, eqb-true}
use Rattle.std.specs.Prelude.{not, ◌||◌, nat_eq}
use Rattle.std.specs.List.{list_any}
use Rattle.std.proofs.lemmas.Bool.{cases_Bool, or_parts, or_from, not-true, eq-eqb}
use Rattle.std.proofs.lemmas.List.{append-nil}
use Rattle.std.proofs.lemmas.List.Folds.{list_any-append}
use Rattle.std.proofs.lemmas.Bool.Decides.{nat_tests}
use Rattle.pv_base.specs.declared.name.Name.{Name}
use Rattle.pv_base.specs.declared.name.Name.TheVariants.{Named, Numbered}
use Rattle.ir_lex.specs.declared.token.Cause.TheVariants as causes
use Rattle.ir_lex.specs.declared.token.TokenKind.{TokenKind}
use Rattle.ir_lex.specs.declared.token.TokenKind.TheVariants as kind
use Rattle.ir_tree.specs.Table.{same_name, name_among, with_name}
use Rattle.ir_tree.proofs.Bodies.{same_self}
use Rattle.ir_text.specs.Tokens.{TokenV}
use Rattle.ir_text.specs.Leaves.{spelled_name}
use Rattle.ir_instr.specs.Instructions.{is_counted, definable, defined_by, defined_name}
use Rattle.ir_grammar.specs.Scopes.{Scope, counted, defining}
use Rattle.ir_rules.specs.Reading.{all_differ, names_differ}
use Rattle.ir_rules.proofs.SameLemmas.{and_both, name_is}

-- ---- names that differ

swapped : (a b : Name) → same_name a b ≡ false → same_name b a ≡ false
swapped a b e = elim (cases_Bool (same_name b a)) [
  | inl h ↦ let s : b ≡ a = name_is b a h in let k : same_name b b ≡ false = subst (λ (x : Name). same_name x b ≡ false) (sym s) e in let self = same_self b in absurd cc
  | inr h ↦ h
]

-- a new name may stand anywhere among names that differ
pub differ_insert : (xs ys : List Name) (x : Name) → names_differ (xs ++ ys) ≡ true → name_among x (xs ++ ys) ≡ false → names_differ (xs ++ x ∷ ys) ≡ true
unfolding all_differ
differ_insert [] ys x all new = rw (new, all) refl
differ_insert (y ∷ xs) ys x all new =
    let parts = and_both (not (list_any (same_name y) (xs ++ ys))) (names_differ (xs ++ ys)) all in
    let apart = or_parts (same_name x y) (name_among x (xs ++ ys)) new in
    let others : names_differ (xs ++ x ∷ ys) ≡ true = differ_insert xs ys x parts.1 apart.1 in
    let old : (list_any (same_name y) xs || list_any (same_name y) ys) ≡ false = sym (list_any-append (same_name y) xs ys) ∙ not-true (list_any (same_name y) (xs ++ ys)) parts.0 in
    let sides = or_parts (list_any (same_name y) xs) (list_any (same_name y) ys) old in
    let here : list_any (same_name y) (xs ++ x ∷ ys) ≡ false =
    list_any-append (same_name y) xs (x ∷ ys) ∙ or_from (list_any (same_name y) xs) (same_name y x || list_any (same_name y) ys) sides.0 (or_from (same_name y x) (list_any (same_name y) ys) (swapped x y apart.0) sides.1) in
    rw (here, others) refl

pub differ_push : (xs : List Name) (x : Name) → names_differ xs ≡ true → name_among x xs ≡ false → names_differ (xs ++ x ∷ []) ≡ true
differ_push xs x all new = differ_insert xs [] x (ap names_differ (append-nil xs) ∙ all) (ap (name_among x) (append-nil xs) ∙ new)

-- ---- scopes

-- the names of a scope differ, and no number of one is as great as its counter
pub record Fresh (scope : Scope) : Type 0 where
  pub differ : names_differ scope.defined ≡ true
  pub below : (n : ℕ) → scope.next ≤ n → name_among (Numbered n) scope.defined ≡ false

-- a name that the scope can define
pub record IsNew (scope : Scope) (name : Name) : Type 0 where
  pub is_next : is_counted scope.next name ≡ true
  pub is_new : name_among name scope.defined ≡ false

-- these names are defined between one scope and another
pub record Defines (scope : Scope) (names : List Name) (behind : Scope) : Type 0 where
  pub all : behind.defined ≡ scope.defined ++ names
  pub fresh : Fresh behind

pub pushed : (names : List Name) (name : Name) → name_among name names ≡ false → with_name names name ≡ names ++ name ∷ []
pushed names name new = rw new refl

below_push : (names : List Name) (name : Name) (next : ℕ) → is_counted next name ≡ true → ((n : ℕ) → next ≤ n → name_among (Numbered n) names ≡ false) → (n : ℕ) → counted next name ≤ n → name_among (Numbered n) (names ++ name ∷ []) ≡ false
below_push names (Named text) next is below n le = list_any-append (same_name (Numbered n)) names (Named text ∷ []) ∙ or_from (name_among (Numbered n) names) false (below n le) refl
below_push names (Numbered m) next is below n le =
    let same : m ≡ next = eqb-true m next is in
    let other : nat_eq n m ≡ false = grind (arith, nat_tests) in
    list_any-append (same_name (Numbered n)) names (Numbered m ∷ []) ∙ or_from (name_among (Numbered n) names) (nat_eq n m || false) (below n (omega arith)) (or_from (nat_eq n m) false other refl)

pub defines_one : (scope : Scope) (name : Name) → Fresh scope → IsNew scope name → Defines scope (name ∷ []) (defining scope name)
defines_one scope name fresh new =
    let add : with_name scope.defined name ≡ scope.defined ++ name ∷ [] = pushed scope.defined name new.is_new in
    record {
      all = add;
      fresh = record {
        differ = ap names_differ add ∙ differ_push scope.defined name fresh.differ new.is_new;
        below = λ n le. ap (name_among (Numbered n)) add ∙ below_push scope.defined name scope.next new.is_next fresh.below n le;
      };
    }

pub defines_none : (scope : Scope) → Fresh scope → Defines scope [] scope
defines_none scope fresh = record { all = sym (append-nil scope.defined); fresh = fresh }

pub defines_then : (a b c : Scope) (xs ys : List Name) → Defines a xs b → Defines b ys c → Defines a (xs ++ ys) c
defines_then a b c xs ys first others = record { all = others.all ∙ ap (λ (l : List Name). l ++ ys) first.all ∙ append_assoc a.defined xs ys; fresh = others.fresh }

-- the counter's number
pub next_is_new : (scope : Scope) → Fresh scope → IsNew scope (Numbered scope.next)
next_is_new scope fresh = record { is_next = eq-eqb scope.next scope.next refl; is_new = fresh.below scope.next (omega arith) }

definable_by : (scope : Scope) (name found : Name) (b c : Bool) → is_counted scope.next name ≡ b → name_among name scope.defined ≡ c → cond (not b) (Err causes.Name) (cond c (Err causes.Duplicate) (Ok name)) ≡ Ok found → IsNew scope found
definable_by scope name found true true is new e = absurd cc
definable_by scope name found true false is new e = let s : name ≡ found = cc in subst (IsNew scope) s (record { is_next = is; is_new = new })
definable_by scope name found false c is new e = absurd cc

pub definable_new : (scope : Scope) (name found : Name) → definable scope.next scope.defined name ≡ Ok found → IsNew scope found
definable_new scope name found e = definable_by scope name found (is_counted scope.next name) (name_among name scope.defined) refl refl e

defined_of : (scope : Scope) (k : TokenKind) (t : TokenV) (found : Name) → defined_by scope.next scope.defined k t ≡ Ok found → IsNew scope found
defined_of scope kind.LocalName t found e = definable_new scope (spelled_name t) found e
defined_of scope kind.Word t found e = absurd cc
defined_of scope kind.Punct t found e = absurd cc
defined_of scope kind.GlobalName t found e = absurd cc
defined_of scope kind.Label t found e = absurd cc
defined_of scope kind.Integer t found e = absurd cc
defined_of scope kind.Text t found e = absurd cc

-- the name of a result or a parameter
pub name_new : (scope : Scope) (t : TokenV) (found : Name) → defined_name scope.next scope.defined t ≡ Ok found → IsNew scope found
name_new scope t found e = defined_of scope t.kind t found e
