use Rattle.ir_text.specs.Named.{layout_in}
use Rattle.ir_text.proofs.LaidOut.{laid_later}
use Rattle.ir_instr.proofs.forms.other.Goals as goal

pub returns-clause-laid : goal.returns-clause-laid
returns-clause-laid c = laid_later c.args.names.now c.plain.new.names c.is_table.ensures c.plain.ensures.grows (layout_in c.args.known.now) c.args.layouts.now c.requires.laid
