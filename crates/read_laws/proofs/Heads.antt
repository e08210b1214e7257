-- What the head of a function keeps.
use Rattle.std.proofs.Common.{◌≡◌, ℕ, zero, suc, length, Bool, true, false, cond, List, [], ◌∷◌, Option, Some, None, Ok, Err, refl, sym, subst, ◌∙◌, arith}
use Rattle.std.specs.Prelude.{fold, filter_map, is_some}
use Rattle.std.specs.List.{list_all}
use Rattle.pv_base.specs.declared.name.Name.{Name}
use Rattle.ir_lex.specs.declared.token.TokenKind.{TokenKind}
use Rattle.ir_lex.specs.declared.token.TokenKind.TheVariants as kind
use Rattle.ir_lex.specs.declared.token.Cause.TheVariants as causes
use Rattle.ir_tree.specs.declared.items.Param.{Param}
use Rattle.ir_tree.specs.Table.{name_among}
use Rattle.ir_tree.specs.Trees.{TypeV}
use Rattle.ir_text.specs.Tokens.{TokenV}
use Rattle.ir_text.specs.Reading.{token_by}
use Rattle.ir_text.specs.declared.fault.Fault.TheVariants.{Ended}
use Rattle.ir_text.specs.Leaves.{mark_at, spelled_name}
use Rattle.ir_text.specs.Passed.{words_at, stops}
use Rattle.ir_text.specs.Types.{register_type, result_type}
use Rattle.ir_instr.specs.Instructions.{defined_name}
use Rattle.ir_grammar.specs.Scopes.{Scope, no_scope, after_name, after_param}
use Rattle.ir_grammar.specs.Headers.{Params, no_params, with_param, unnamed, param_name_at, param_at, points_by, points_at, entries_to, entries_at, params_at, unique, new_global, new_global_by, Header, header_at}
use Rattle.ir_rules.specs.Reading.{all_differ, is_register, is_answer}
use Rattle.read_laws.proofs.Tokens.{register_stands, result_stands}
use Rattle.read_laws.proofs.Forms.{more}
use Rattle.read_laws.proofs.Scopes.{Fresh, IsNew, Defines, defines_one, defines_none, defines_then, next_is_new, name_new}
use Rattle.read_laws.proofs.Steps.{Gives, gives, faulty, then, either, token_read}

abbrev ParamV : Type 0
ParamV = Param Name TypeV

-- a name is new, and only a declaration's parameter has none
abbrev NameIs : Bool → Scope → Option Name → Type 0
NameIs declared scope (Some name) = IsNew scope name
NameIs declared scope None = declared ≡ true

record ParamIs (declared : Bool) (scope : Scope) (p : ParamV) : Type 0 where
  of : is_register p.of ≡ true
  name : NameIs declared scope p.name

unnamed_is : (declared : Bool) (scope : Scope) → Fresh scope → NameIs declared scope (unnamed declared scope.next)
unnamed_is true scope fresh = refl
unnamed_is false scope fresh = next_is_new scope fresh

abbrev NameGiven : Bool → Scope → Option Name × List TokenV → Type 0
NameGiven declared scope x = NameIs declared scope x.0

param_name : (declared : Bool) (scope : Scope) (ts : List TokenV) → Fresh scope → Gives (NameGiven declared scope) (param_name_at declared scope ts)
param_name declared scope ts fresh =
    either (NameGiven declared scope) _ _ _
    (then (NameGiven declared scope) (token_by (defined_name scope.next scope.defined) ts) _ (λ a e. gives (NameGiven declared scope) _ (let t = token_read (defined_name scope.next scope.defined) ts a e in name_new scope t.token a.0 t.is)))
    (gives (NameGiven declared scope) _ (unnamed_is declared scope fresh))

abbrev ParamGiven : Bool → Scope → ParamV × List TokenV → Type 0
ParamGiven declared scope x = ParamIs declared scope x.0

param_is : (declared : Bool) (scope : Scope) (ts : List TokenV) → Fresh scope → Gives (ParamGiven declared scope) (param_at declared scope ts)
param_is declared scope ts fresh =
    then (ParamGiven declared scope) (token_by register_type ts) _ (λ of e. then (ParamGiven declared scope) (words_at (stops [] false) of.1) _ (λ passed f. then (ParamGiven declared scope) (param_name_at declared scope passed.1) _ (λ name g. gives (ParamGiven declared scope) _ (record {
      of = let t = token_read register_type ts of e in register_stands t.token of.0 t.is;
      name = (param_name declared scope passed.1 fresh).holds name g;
    }))))

-- ---- all parameters

pub record ParamsAre (declared : Bool) (scope : Scope) (all : Params) : Type 0 where
  pub types : list_all (λ p. is_register p.of) all.params ≡ true
  pub defines : Defines scope (filter_map (λ p. p.name) all.params) (fold after_param scope all.params)
  pub named : declared ≡ false → list_all (λ p. is_some p.name) all.params ≡ true
  pub fixed : declared ≡ false → all.variadic ≡ false

none_are : (declared : Bool) (scope : Scope) → Fresh scope → ParamsAre declared scope no_params
none_are declared scope fresh = record { types = refl; defines = defines_none scope fresh; named = λ h. refl; fixed = λ h. refl }

-- a parameter without a name takes a number all the same
behind_none : (scope : Scope) → Fresh scope → Fresh (after_name scope None)
behind_none scope fresh = record { differ = fresh.differ; below = λ n le. fresh.below n (omega arith) }

behind_fresh : (declared : Bool) (scope : Scope) (o : Option Name) → Fresh scope → NameIs declared scope o → Fresh (after_name scope o)
behind_fresh declared scope (Some name) fresh is = (defines_one scope name fresh is).fresh
behind_fresh declared scope None fresh is = behind_none scope fresh

one_more : (declared : Bool) (scope : Scope) (o : Option Name) (of : TypeV) (all : Params) → Fresh scope → is_register of ≡ true → NameIs declared scope o → ParamsAre declared (after_name scope o) all
    → ParamsAre declared scope (with_param (record { name = o; of = of }) all)
one_more declared scope (Some name) of all fresh type is others = record {
  types = more (λ (p : ParamV). is_register p.of) (record { name = Some name; of = of }) all.params type others.types;
  defines = defines_then scope _ _ (name ∷ []) _ (defines_one scope name fresh is) others.defines;
  named = λ h. more (λ (p : ParamV). is_some p.name) (record { name = Some name; of = of }) all.params refl (others.named h);
  fixed = others.fixed;
}
one_more declared scope None of all fresh type is others = record {
  types = more (λ (p : ParamV). is_register p.of) (record { name = None; of = of }) all.params type others.types;
  defines = record { all = others.defines.all; fresh = others.defines.fresh };
  named = λ h. absurd (let clash : true ≡ false = sym is ∙ h in cc);
  fixed = others.fixed;
}

abbrev ParamsGiven : Bool → Scope → Params × List TokenV → Type 0
ParamsGiven declared scope x = ParamsAre declared scope x.0

points_only : (declared : Bool) (t : TokenV) (u : Unit {0}) → points_by declared t ≡ Ok u → declared ≡ false → false ≡ true
points_only true t u e h = sym h
points_only false t u e h = absurd cc

points_are : (declared : Bool) (scope : Scope) (ts : List TokenV) → Fresh scope → Gives (ParamsGiven declared scope) (points_at declared ts)
points_are declared scope ts fresh = then (ParamsGiven declared scope) (token_by (points_by declared) ts) _ (λ x e. gives (ParamsGiven declared scope) _ (record {
  types = refl;
  defines = defines_none scope fresh;
  named = λ h. refl;
  fixed = λ h. let t = token_read (points_by declared) ts x e in sym (points_only declared t.token x.0 t.is h);
}))

entries_are : (declared : Bool) (k : ℕ) (scope : Scope) (ts : List TokenV) → Fresh scope → Gives (ParamsGiven declared scope) (entries_to declared k scope ts)
unfolding entries_to
entries_are declared zero scope ts fresh = faulty (ParamsGiven declared scope) Ended
entries_are declared (suc k) scope ts fresh =
    either (ParamsGiven declared scope) _ _ _ (points_are declared scope ts fresh)
    (then (ParamsGiven declared scope) (param_at declared scope ts) _ (λ p e.
    let one = (param_is declared scope ts fresh).holds p e in
    let behind = behind_fresh declared scope p.0.name fresh one.name in
    either (ParamsGiven declared scope) _ _ _
    (then (ParamsGiven declared scope) (mark_at 44 p.1) _ (λ comma f. then (ParamsGiven declared scope) (entries_to declared k (after_param scope p.0) comma.1) _ (λ others g.
    gives (ParamsGiven declared scope) _ (one_more declared scope p.0.name p.0.of others.0 fresh one.of one.name ((entries_are declared k (after_param scope p.0) comma.1 behind).holds others g)))))
    (gives (ParamsGiven declared scope) _ (one_more declared scope p.0.name p.0.of no_params fresh one.of one.name (none_are declared (after_param scope p.0) behind)))))

pub fresh_start : Fresh no_scope
unfolding all_differ
fresh_start = record { differ = refl; below = λ n le. refl }

params_are : (declared : Bool) (ts : List TokenV) → Gives (ParamsGiven declared no_scope) (params_at declared ts)
params_are declared ts =
    either (ParamsGiven declared no_scope) _ _ _
    (then (ParamsGiven declared no_scope) (mark_at 41 ts) _ (λ close e. gives (ParamsGiven declared no_scope) _ (none_are declared no_scope fresh_start)))
    (then (ParamsGiven declared no_scope) (entries_at declared ts) _ (λ all e. then (ParamsGiven declared no_scope) (mark_at 41 all.1) _ (λ close f.
    gives (ParamsGiven declared no_scope) _ ((entries_are declared (length ts) no_scope ts fresh_start).holds all e))))

-- ---- the whole head

unique_by : (values : List Name) (name found : Name) (b : Bool) → name_among name values ≡ b → cond b (Err causes.Duplicate) (Ok name) ≡ Ok found → name_among found values ≡ false
unique_by values name found true is e = absurd cc
unique_by values name found false is e = let s : name ≡ found = cc in subst (λ (x : Name). name_among x values ≡ false) s is

pub unique_new : (values : List Name) (name found : Name) → unique values name ≡ Ok found → name_among found values ≡ false
unique_new values name found e = unique_by values name found (name_among name values) refl e

global_of : (values : List Name) (k : TokenKind) (t : TokenV) (found : Name) → new_global_by values k t ≡ Ok found → name_among found values ≡ false
global_of values kind.GlobalName t found e = unique_new values (spelled_name t) found e
global_of values kind.Word t found e = absurd cc
global_of values kind.Punct t found e = absurd cc
global_of values kind.LocalName t found e = absurd cc
global_of values kind.Label t found e = absurd cc
global_of values kind.Integer t found e = absurd cc
global_of values kind.Text t found e = absurd cc

pub global_new : (values : List Name) (t : TokenV) (found : Name) → new_global values t ≡ Ok found → name_among found values ≡ false
global_new values t found e = global_of values t.kind t found e

pub record HeaderIs (declared : Bool) (values : List Name) (h : Header) : Type 0 where
  pub result : is_answer h.result ≡ true
  pub name : name_among h.name values ≡ false
  pub params : ParamsAre declared no_scope h.params

abbrev pub HeaderGiven : Bool → List Name → Header × List TokenV → Type 0
HeaderGiven declared values x = HeaderIs declared values x.0

pub header_is : (declared : Bool) (values : List Name) (ts : List TokenV) → Gives (HeaderGiven declared values) (header_at declared values ts)
header_is declared values ts =
    then (HeaderGiven declared values) (words_at (stops [] true) ts) _ (λ words a. then (HeaderGiven declared values) (token_by result_type words.1) _ (λ result b. then (HeaderGiven declared values) (token_by (new_global values) result.1) _ (λ name c.
    then (HeaderGiven declared values) (mark_at 40 name.1) _ (λ parenthesis d. then (HeaderGiven declared values) (params_at declared parenthesis.1) _ (λ params e. gives (HeaderGiven declared values) _ (record {
      result = let t = token_read result_type words.1 result b in result_stands t.token result.0 t.is;
      name = let t = token_read (new_global values) result.1 name c in global_new values t.token name.0 t.is;
      params = (params_are declared parenthesis.1).holds params e;
    }))))))
