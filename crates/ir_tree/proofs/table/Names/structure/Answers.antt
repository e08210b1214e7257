use Rattle.ir_tree.proofs.Showing.{shows, reads_struct}
use Rattle.ir_tree.proofs.table.Names.structure.Goals as goal

pub returns-clause-shows : goal.returns-clause-shows
returns-clause-shows c = shows c.args.self.now c.add_type.new.self c.add_type.result _ _ c.add_type.ensures.known c.add_type.ensures.last c.add_type.ensures.within (reads_struct c.add_type.new.self _ c.args.packed c.args.fields c.requires)
