use Rattle.ir_tree.proofs.Showing.{grows_then}
use Rattle.ir_text.specs.Named.{layout_in}
use Rattle.ir_text.proofs.LaidOut.{laid_later}
use Rattle.ir_reader.proofs.Keeping.{new_later}
use Rattle.ir_reader.proofs.global.read_global.Goals as goal

pub global_type-requires-clause-laid : goal.global_type-requires-clause-laid
global_type-requires-clause-laid c = laid_later c.args.names.now c.new_global.new.names c.is_table.ensures c.in_ok-name.ensures.grows (layout_in c.args.known.now) c.args.layouts.now c.requires.laid

pub returns-clause-new : goal.returns-clause-new
returns-clause-new c = new_later c.new_global.new.names c.read_constant.new.names c.args.values.now c.in_ok-name.name c.in_ok-name.ensures.new (grows_then _ _ _ c.in_ok-placed.ensures.grows c.in_ok-init.ensures.grows)

pub returns-clause-laid : goal.returns-clause-laid
returns-clause-laid c = laid_later c.global_type.new.names c.read_constant.new.names c.is_table-2.ensures c.in_ok-init.ensures.grows (layout_in c.args.known.now) c.global_type.new.layouts c.in_ok-placed.ensures.laid
