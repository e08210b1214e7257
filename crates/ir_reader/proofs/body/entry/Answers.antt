use Rattle.ir_text.specs.Named.{layout_in}
use Rattle.ir_text.proofs.LaidOut.{laid_later}
use Rattle.ir_reader.proofs.body.entry.Goals as goal

pub returns-in_err-label-clause-laid : goal.returns-in_err-label-clause-laid
returns-in_err-label-clause-laid c = laid_later c.args.names.now c.entry_label.new.names c.is_table.ensures c.in_err-label.ensures.grows (layout_in c.args.known.now) c.args.layouts.now c.requires.laid

pub block_behind-requires-clause-laid : goal.block_behind-requires-clause-laid
block_behind-requires-clause-laid c = laid_later c.args.names.now c.entry_label.new.names c.is_table.ensures c.in_ok-label.ensures.grows (layout_in c.args.known.now) c.args.layouts.now c.requires.laid
