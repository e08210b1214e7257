use Rattle.ir_tree.proofs.Showing.{shows, reads_array}
use Rattle.ir_tree.proofs.table.Names.array.Goals as goal

pub returns-clause-shows : goal.returns-clause-shows
returns-clause-shows c = shows c.args.self.now c.add_type.new.self c.add_type.result _ _ c.add_type.ensures.known c.add_type.ensures.last c.add_type.ensures.within (reads_array c.add_type.new.self _ c.args.count c.args.of c.requires)
