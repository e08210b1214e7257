-- The heads of functions, by number.
use Rattle.std.specs.Prelude.{ℕ, ◌<◌, length, map, List, ◌++◌, Ok, IfSome}
use Rattle.pv_base.specs.declared.name.Name.{Name}
use Rattle.ir_tree.specs.declared.items.Param.{Param}
use Rattle.ir_tree.specs.Table.{Table}
use Rattle.ir_tree.specs.Naming.{name_at, type_at}
use Rattle.ir_tree.specs.Shown.{shown_param}
use Rattle.ir_tree.specs.Trees.{TypeV}
use Rattle.ir_text.specs.Reading.{Outcome, ◌>>=◌}
use Rattle.ir_grammar.specs.Headers as grammar
use Rattle.ir_reader.specs.declared.params.Params.{Params}
use Rattle.ir_reader.specs.declared.params.Header.{Header}

-- parameters, with names and types in place of their numbers
abbrev pub shown_params : Table → Params → grammar.Params
shown_params table p = record { params = map (shown_param table) p.params; variadic = p.variadic }

-- more parameters behind these
abbrev pub with_params : List (Param Name TypeV) → grammar.Params → grammar.Params
with_params front all = record { params = front ++ all.params; variadic = all.variadic }

-- what was read before, and what is still read
abbrev pub behind_params : List (Param Name TypeV) → Outcome grammar.Params → Outcome grammar.Params
behind_params front read = read >>= λ x. Ok (with_params front x.0, x.1)

-- the name of a parameter, if it has one, is of the table
abbrev pub ParamWithin : Table → Param ℕ ℕ → Type 0
ParamWithin table p = IfSome p.name (λ k. k < length table.names)

-- a head, with names and types in place of their numbers
abbrev pub shown_header : Table → Header → grammar.Header
shown_header table h = record { result = type_at table h.result; name = name_at table h.name; params = shown_params table h.params }
