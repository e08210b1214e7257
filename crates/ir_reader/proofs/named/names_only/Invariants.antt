use Rattle.std.proofs.Common.{◌≡◌, length, All}
use Rattle.std.specs.Option.{option_or}
use Rattle.pv_base.specs.declared.name.Name.{Name}
use Rattle.ir_lex.specs.Lexing.{TokenIn}
use Rattle.ir_text.specs.Named.{body_in}
use Rattle.ir_text.specs.Tokens.{tokens_of}
use Rattle.ir_reader.proofs.Knowing.{said}
use Rattle.ir_reader.proofs.named.names_only.Given as goal

-- the names so far, before those of the rest, are those of the whole
abbrev pub invariant-loop-rest : goal.invariant-loop-rest
invariant-loop-rest l = record {
  so_far : (q : Name) → option_or (body_in l.known q) (said (tokens_of l.text l.rest) q) ≡ said (tokens_of l.fn.text l.fn.tokens) q;
  rest : All (TokenIn l.text) l.rest;
}

abbrev pub decreases-loop-rest : goal.decreases-loop-rest
decreases-loop-rest l = length l.rest
