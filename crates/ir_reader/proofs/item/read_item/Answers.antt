use Rattle.ir_text.specs.Named.{layout_in}
use Rattle.ir_text.proofs.LaidOut.{laid_later}
use Rattle.ir_reader.proofs.ItemTurns.{on_ok}
use Rattle.ir_reader.proofs.item.read_item.Goals as goal

pub returns-then-sees_local-clause-laid : goal.returns-then-sees_local-clause-laid
returns-then-sees_local-clause-laid c = on_ok _ c.type_item.result (laid_later c.args.names.now c.type_item.new.names c.is_table.ensures c.type_item.ensures.grows (layout_in c.args.known.now) c.args.layouts.now c.requires.laid)
