use Rattle.std.proofs.Common.{arith}
use Rattle.std.proofs.lemmas.List.Sums.{prefix_len-le-length}
use Rattle.ir_lex.specs.Classes.{is_name_byte}
use Rattle.ir_lex.proofs.forms.name_len.Goals as goal

pub returns-then-name_start-clause-bound : goal.returns-then-name_start-clause-bound
returns-then-name_start-clause-bound c = omega (arith, prefix_len-le-length is_name_byte c.args.text.now)
