use Rattle.std.proofs.Common.{refl}
use Rattle.ir_reader.proofs.Gathering.{so_far_kept}
use Rattle.ir_reader.proofs.item.add_item.Goals as goal

pub add-requires-clause-so_far : goal.add-requires-clause-so_far
add-requires-clause-so_far c = so_far_kept c.args.names.now c.read_item.new.names c.args.so_far.now c.requires.so_far c.in_ok-item.ensures.grows

pub returns-clause-reads : goal.returns-clause-reads
returns-clause-reads c = λ later grows. rw (c.in_ok-item.ensures.reads later grows, c.in_ok-add.ensures.adds later grows) refl
