use Rattle.ir_text.specs.Named.{layout_in}
use Rattle.ir_text.proofs.LaidOut.{laid_later}
use Rattle.ir_instr.proofs.forms.binary_or_other.Goals as goal

pub returns-in-Some-clause-laid : goal.returns-in-Some-clause-laid
returns-in-Some-clause-laid c = laid_later c.args.names.now c.binary-read.new.names c.is_table.ensures c.binary-read.ensures.grows (layout_in c.args.known.now) c.args.layouts.now c.requires.laid
