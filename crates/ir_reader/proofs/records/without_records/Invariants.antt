use Rattle.std.proofs.Common.{◌≡◌, ◌++◌, length, All}
use Rattle.ir_lex.specs.Lexing.{TokenIn}
use Rattle.ir_grammar.specs.Texts.{kept_from, without_records}
use Rattle.ir_reader.proofs.records.without_records.Given as goal

-- what was kept and what is kept of the rest is what is kept of the whole
abbrev pub invariant-loop-rest : goal.invariant-loop-rest
invariant-loop-rest l = record {
  so_far : l.kept ++ kept_from l.text l.line l.passed l.rest ≡ without_records l.fn.text l.fn.tokens;
  rest : All (TokenIn l.fn.text) l.rest;
  kept : All (TokenIn l.fn.text) l.kept;
}

abbrev pub decreases-loop-rest : goal.decreases-loop-rest
decreases-loop-rest l = length l.rest
