-- The heads of functions: result, name and parameters.
use Rattle.std.specs.Prelude.{ℕ, zero, suc, fold, length, Bool, true, false, if◌then◌else◌, List, [], ◌∷◌, Option, Some, None, Result, Ok, Err, codes}
use Rattle.pv_base.specs.declared.name.Name.{Name}
use Rattle.pv_base.specs.declared.name.Name.TheVariants.{Numbered}
use Rattle.ir_lex.specs.declared.token.TokenKind.{TokenKind}
use Rattle.ir_lex.specs.declared.token.TokenKind.TheVariants as kind
use Rattle.ir_lex.specs.declared.token.Cause.{Cause}
use Rattle.ir_lex.specs.declared.token.Cause.TheVariants as causes
use Rattle.ir_tree.specs.declared.items.Param.{Param}
use Rattle.ir_tree.specs.Table.{name_among}
use Rattle.ir_tree.specs.Trees.{TypeV}
use Rattle.ir_text.specs.declared.fault.Fault.TheVariants.{Ended}
use Rattle.ir_text.specs.Tokens.{TokenV, is_mark, is_points}
use Rattle.ir_text.specs.Reading.{Reader, ◌>>=◌, gives, Meaning, token_by}
use Rattle.ir_text.specs.Choice.{choose}
use Rattle.ir_text.specs.Leaves.{tested, mark_at, spelled_name}
use Rattle.ir_text.specs.Lists.{mark_for}
use Rattle.ir_text.specs.Operands.{is_local}
use Rattle.ir_text.specs.Passed.{words_at, stops}
use Rattle.ir_text.specs.Types.{register_type, result_type}
use Rattle.ir_instr.specs.Instructions.{defined_name}
use Rattle.ir_grammar.specs.Scopes.{Scope, no_scope, after_param}

-- ---- names of items

-- a name that was not given before
abbrev pub unique : List Name → Name → Result Name Cause
unique defined name = if name_among name defined then Err causes.Duplicate else Ok name

abbrev pub new_global_by : List Name → TokenKind → TokenV → Result Name Cause
new_global_by defined kind.GlobalName t = unique defined (spelled_name t)
new_global_by defined _ t = Err causes.Name

-- @name, the first time
abbrev pub new_global : List Name → Meaning Name
new_global defined t = new_global_by defined t.kind t

abbrev pub new_local_by : List Name → TokenKind → TokenV → Result Name Cause
new_local_by defined kind.LocalName t = unique defined (spelled_name t)
new_local_by defined _ t = Err causes.Name

-- %name, the first time
abbrev pub new_local : List Name → Meaning Name
new_local defined t = new_local_by defined t.kind t

-- ---- parameters

pub record Params : Type 0 where
  pub params : List (Param Name TypeV)
  pub variadic : Bool

abbrev pub no_params : Params
no_params = record { params = []; variadic = false }

-- with one more before them
abbrev pub with_param : Param Name TypeV → Params → Params
with_param p all = record { params = p ∷ all.params; variadic = all.variadic }

-- a declaration's unnamed parameter has no name, and a definition's has the counter's number
abbrev pub unnamed : Bool → ℕ → Option Name
unnamed true next = None
unnamed false next = Some (Numbered next)

-- a parameter's name, or none
abbrev pub param_name_at : Bool → Scope → Reader (Option Name)
param_name_at declared scope = choose is_local (λ us. token_by (defined_name scope.next scope.defined) us >>= λ name. Ok (Some name.0, name.1)) (gives (unnamed declared scope.next))

-- T WORDS %name, or T WORDS
abbrev pub param_at : Bool → Scope → Reader (Param Name TypeV)
param_at declared scope ts = do
  of ← token_by register_type ts
  passed ← words_at (stops [] false) of.1
  name ← param_name_at declared scope passed.1
  Ok (record { name = name.0; of = of.0 }, name.1)

abbrev pub points_by : Bool → Meaning (Unit {0})
points_by true t = tested (is_points t) causes.Operand
points_by false t = Err (causes.OutOfProfile (codes "..."))

-- ... behind the parameters of a declaration; a definition has none
abbrev pub points_at : Bool → Reader Params
points_at declared ts = token_by (points_by declared) ts >>= λ x. Ok (record { params = []; variadic = true }, x.1)

-- parameters with commas between them, at most so many; `...` may be the last
unfoldable pub entries_to : Bool → ℕ → Scope → Reader Params
entries_to declared zero scope ts = Err Ended
entries_to declared (suc n) scope ts =
    choose is_points (points_at declared) (λ us. param_at declared scope us >>= λ p.
    choose (is_mark 44) (λ vs. mark_at 44 vs >>= λ comma. entries_to declared n (after_param scope p.0) comma.1 >>= λ others. Ok (with_param p.0 others.0, others.1))
    (gives (with_param p.0 no_params)) p.1) ts

-- each takes a token, so there are no more than tokens
abbrev pub entries_at : Bool → Reader Params
entries_at declared ts = entries_to declared (length ts) no_scope ts

-- parameters up to the closing parenthesis
abbrev pub params_at : Bool → Reader Params
params_at declared = choose (is_mark 41) (mark_for 41 no_params) (λ ts. entries_at declared ts >>= λ all. mark_for 41 all.0 all.1)

-- ---- heads

pub record Header : Type 0 where
  pub result : TypeV
  pub name : Name
  pub params : Params

-- WORDS T @name(PARAMS), where these names of globals and functions were given before
abbrev pub header_at : Bool → List Name → Reader Header
header_at declared values ts = do
  words ← words_at (stops [] true) ts
  result ← token_by result_type words.1
  name ← token_by (new_global values) result.1
  parenthesis ← mark_at 40 name.1
  params ← params_at declared parenthesis.1
  Ok (record { result = result.0; name = name.0; params = params.0 }, params.1)

-- what a function has defined behind its parameters
abbrev pub scope_of : Params → Scope
scope_of all = fold after_param no_scope all.params
