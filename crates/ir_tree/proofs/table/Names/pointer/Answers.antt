use Rattle.ir_tree.proofs.Showing.{shows, reads_ptr}
use Rattle.ir_tree.proofs.table.Names.pointer.Goals as goal

pub returns-clause-shows : goal.returns-clause-shows
returns-clause-shows c = shows c.args.self.now c.add_type.new.self c.add_type.result _ _ c.add_type.ensures.known c.add_type.ensures.last c.add_type.ensures.within (reads_ptr c.add_type.new.self _)
