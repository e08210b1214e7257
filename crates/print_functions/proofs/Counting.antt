-- The counter of a function's parameters: its number is never among the names that are defined, and is no greater than the count of tokens.
use Rattle.std.proofs.Common.{◌≡◌, ℕ, ◌+◌, ◌≤◌, ◌<◌, Bool, true, false, cond, List, [], ◌∷◌, ◌++◌, Ok, Err, refl, ap, ◌∙◌, arith, eqb-true}
use Rattle.std.specs.Prelude.{not, ◌||◌, ◌^◌, nat_eq}
use Rattle.std.proofs.lemmas.Bool.{or_from, eq-eqb}
use Rattle.std.proofs.lemmas.Bool.Decides.{nat_tests}
use Rattle.std.proofs.lemmas.List.Folds.{list_any-append}
use Rattle.pv_base.specs.declared.name.Name.{Name}
use Rattle.pv_base.specs.declared.name.Name.TheVariants.{Named, Numbered}
use Rattle.ir_lex.specs.declared.token.Cause.TheVariants as causes
use Rattle.ir_tree.specs.Table.{same_name, name_among, with_name}
use Rattle.ir_instr.specs.Instructions.{is_counted, definable}
use Rattle.ir_grammar.specs.Scopes.{Scope, no_scope, counted, defining}
use Rattle.print_functions.proofs.Naming.{Definable}

-- no number is defined that is as great as the counter
pub record Fresh (scope : Scope) : Type 0 where
  pub below : (n : ℕ) → scope.next ≤ n → name_among (Numbered n) scope.defined ≡ false

pub none_defined : Fresh no_scope
none_defined = record { below = λ n le. refl }

record IsNew (scope : Scope) (name : Name) : Type 0 where
  is_next : is_counted scope.next name ≡ true
  is_new : name_among name scope.defined ≡ false

new_by : (scope : Scope) (name : Name) (b c : Bool) → is_counted scope.next name ≡ b → name_among name scope.defined ≡ c → cond (not b) (Err causes.Name) (cond c (Err causes.Duplicate) (Ok name)) ≡ Ok name → IsNew scope name
new_by scope name true true is new e = absurd cc
new_by scope name true false is new e = record { is_next = is; is_new = new }
new_by scope name false c is new e = absurd cc

definable_new : (scope : Scope) (name : Name) → definable scope.next scope.defined name ≡ Ok name → IsNew scope name
definable_new scope name e = new_by scope name (is_counted scope.next name) (name_among name scope.defined) refl refl e

new_definable : (scope : Scope) (name : Name) → IsNew scope name → definable scope.next scope.defined name ≡ Ok name
new_definable scope name new = let next = new.is_next in let among = new.is_new in rw (next, among) refl

below_push : (names : List Name) (name : Name) (next : ℕ) → is_counted next name ≡ true → ((n : ℕ) → next ≤ n → name_among (Numbered n) names ≡ false) → (n : ℕ) → counted next name ≤ n → name_among (Numbered n) (names ++ name ∷ []) ≡ false
below_push names (Named text) next is below n le = list_any-append (same_name (Numbered n)) names (Named text ∷ []) ∙ or_from (name_among (Numbered n) names) false (below n le) refl
below_push names (Numbered m) next is below n le =
    let same : m ≡ next = eqb-true m next is in
    let other : nat_eq n m ≡ false = grind (arith, nat_tests) in
    list_any-append (same_name (Numbered n)) names (Numbered m ∷ []) ∙ or_from (name_among (Numbered n) names) (nat_eq n m || false) (below n (omega arith)) (or_from (nat_eq n m) false other refl)

pushed : (names : List Name) (name : Name) → name_among name names ≡ false → with_name names name ≡ names ++ name ∷ []
pushed names name new = rw new refl

fresh_with : (scope : Scope) (name : Name) → Fresh scope → IsNew scope name → Fresh (defining scope name)
fresh_with scope name fresh new = record { below = λ n le. ap (name_among (Numbered n)) (pushed scope.defined name new.is_new) ∙ below_push scope.defined name scope.next new.is_next fresh.below n le }

pub fresh_behind : (scope : Scope) (name : Name) → Fresh scope → Definable scope name → Fresh (defining scope name)
fresh_behind scope name fresh d = fresh_with scope name fresh (definable_new scope name d.may)

-- the counter's number
pub next_definable : (scope : Scope) → Fresh scope → scope.next < 2 ^ 63 → Definable scope (Numbered scope.next)
next_definable scope fresh few = record {
  may = new_definable scope (Numbered scope.next) (record { is_next = eq-eqb scope.next scope.next refl; is_new = fresh.below scope.next (omega arith) });
  fits = few;
}

pub counted_once : (next : ℕ) (name : Name) → counted next name ≤ next + 1
counted_once next (Named text) = omega arith
counted_once next (Numbered n) = omega arith
