-- Scopes by number.
use Rattle.std.specs.Prelude.{map}
use Rattle.ir_tree.specs.Table.{Table}
use Rattle.ir_tree.specs.Naming.{name_at}
use Rattle.ir_grammar.specs.Scopes as grammar
use Rattle.ir_reader.specs.declared.scope.Scope.{Scope}

-- a scope, with names in place of their numbers
abbrev pub scope_at : Table → Scope → grammar.Scope
scope_at table s = record { next = s.next; defined = map (name_at table) s.defined }
