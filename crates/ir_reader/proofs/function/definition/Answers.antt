use Rattle.ir_text.specs.Named.{layout_in}
use Rattle.ir_text.proofs.LaidOut.{laid_later}
use Rattle.ir_reader.proofs.Keeping.{new_later}
use Rattle.ir_reader.proofs.function.definition.Goals as goal

pub body-requires-clause-laid : goal.body-requires-clause-laid
body-requires-clause-laid c = laid_later c.args.names.now c.read_header.new.names c.is_table.ensures c.in_ok-header.ensures.grows (layout_in c.args.known.now) c.args.layouts.now c.requires.laid

pub returns-clause-new : goal.returns-clause-new
returns-clause-new c = new_later c.read_header.new.names c.body.new.names c.args.values.now c.in_ok-header.header.name c.in_ok-header.ensures.new c.in_ok-blocks.ensures.grows
