use Rattle.std.proofs.Common.{arith, ◌∙◌}
use Rattle.ir_tree.specs.Naming.{type_at}
use Rattle.ir_rules.proofs.CallLemmas.{only_one}
use Rattle.ir_rules.proofs.fitting.written_form.Goals as goal

pub returns-in-len1 : goal.returns-in-len1
returns-in-len1 c = c.is_pointer.ensures ∙ only_one (type_at c.args.names.now) c.args.params.now (omega arith) (omega arith)
