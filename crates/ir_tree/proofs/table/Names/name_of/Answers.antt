use Rattle.ir_tree.proofs.Showing.{shows_constant, reads_name_of}
use Rattle.ir_tree.proofs.table.Names.name_of.Goals as goal

pub returns-clause-shows : goal.returns-clause-shows
returns-clause-shows c = shows_constant c.args.self.now c.add_constant.new.self c.add_constant.result _ _ c.add_constant.ensures.known c.add_constant.ensures.last c.add_constant.ensures.within (reads_name_of c.add_constant.new.self _ c.args.name)
