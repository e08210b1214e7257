use Rattle.std.proofs.Common.{◌≡◌, ◌++◌, length, map, All}
use Rattle.ir_lex.specs.Lexing.{TokenIn}
use Rattle.ir_tree.specs.Naming.{Grows}
use Rattle.ir_tree.specs.Table.{Table}
use Rattle.ir_text.specs.Named.{known_of}
use Rattle.ir_text.specs.Tokens.{tokens_of}
use Rattle.ir_grammar.specs.NamedTypes.{definitions}
use Rattle.ir_reader.specs.Knowing.{read_bodies, shown_defined, IsDefined}
use Rattle.ir_reader.proofs.named.defined_types.Given as goal

-- the bodies so far and those of the rest are those of the whole
abbrev pub invariant-loop-rest : goal.invariant-loop-rest
invariant-loop-rest l = record {
  so_far : (later : Table) → Grows l.names later → map (shown_defined later) l.found ++ read_bodies (known_of later l.known) (definitions (tokens_of l.text l.rest)) ≡ read_bodies (known_of later l.known) (definitions (tokens_of l.fn.text l.fn.tokens));
  are : All (IsDefined l.names) l.found;
  rest : All (TokenIn l.text) l.rest;
  grows : Grows l.fn.names l.names;
}

abbrev pub decreases-loop-rest : goal.decreases-loop-rest
decreases-loop-rest l = length l.rest
