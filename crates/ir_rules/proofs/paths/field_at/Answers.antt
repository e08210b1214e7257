use Rattle.std.proofs.Common.{arith}
use Rattle.ir_rules.proofs.PathLemmas.{field_inside, field_outside}
use Rattle.ir_rules.proofs.paths.field_at.Goals as goal

pub returns-then-at-fields : goal.returns-then-at-fields
returns-then-at-fields c = field_inside c.args.names.now c.args.fields.now c.args.index (omega arith)

pub returns-else-at-fields : goal.returns-else-at-fields
returns-else-at-fields c = field_outside c.args.names.now c.args.fields.now c.args.index (omega arith)
