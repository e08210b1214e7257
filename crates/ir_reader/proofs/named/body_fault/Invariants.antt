use Rattle.std.proofs.Common.{◌≡◌, length, All}
use Rattle.ir_lex.specs.Lexing.{TokenIn}
use Rattle.ir_tree.specs.Table.{Table}
use Rattle.ir_text.specs.Named.{known_of}
use Rattle.ir_text.specs.Tokens.{tokens_of}
use Rattle.ir_text.specs.Types.{Known}
use Rattle.ir_grammar.specs.NamedTypes.{definitions, bodies_read}
use Rattle.ir_reader.proofs.named.body_fault.Given as goal

-- the bodies of the rest are read as those of the whole
abbrev pub invariant-loop-rest : goal.invariant-loop-rest
invariant-loop-rest l = record {
  so_far : (all : Known) → ((later : Table) → known_of later l.known ≡ all) → bodies_read all (definitions (tokens_of l.text l.rest)) ≡ bodies_read all (definitions (tokens_of l.fn.text l.fn.tokens));
  rest : All (TokenIn l.text) l.rest;
}

abbrev pub decreases-loop-rest : goal.decreases-loop-rest
decreases-loop-rest l = length l.rest
