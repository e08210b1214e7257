use Rattle.std.proofs.Common.{◌≡◌, drop}
use Rattle.ir_lex.specs.Spelling.{number_after}
use Rattle.ir_lex.proofs.spelled.magnitude.Given as goal

abbrev pub invariant-loop-b : goal.invariant-loop-b
invariant-loop-b l = number_after l.n (drop l.b-index l.digits) ≡ number_after 0 l.digits
