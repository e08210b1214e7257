use Rattle.seq_externals.proofs.Printing.{puts_cut, puts_done}
use Rattle.seq_externals.proofs.texts.put_text.Goals as goal

pub returns-in-Err-clause-follows : goal.returns-in-Err-clause-follows
returns-in-Err-clause-follows g c =
    puts_cut g.M.Mem.image g.M.Mem.relation c.args.types.now c.args.frame.now c.args.at c.args.to c.args.from c.in_ok-pointer.pointer c.args.memory.now c.text_at.new.memory c.in_ok-pointer.ensures
    c.in-Err.fault c.in-Err.ensures.follows

pub returns-clause-follows : goal.returns-clause-follows
returns-clause-follows g c =
    puts_done g.M.Mem.image g.M.Mem.relation c.args.types.now c.args.frame.now c.args.at c.args.to c.args.from c.in_ok-pointer.pointer c.args.memory.now c.text_at.new.memory c.in_ok-pointer.ensures
    c.in-Ok.text c.print_line.result c.in-Ok.ensures.follows c.print_line.ensures.effect
