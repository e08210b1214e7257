use Rattle.seq_externals.proofs.TextLists.{operands_cut, format_cut, format_done}
use Rattle.seq_externals.proofs.texts.print_format.Goals as goal

pub returns-in-Err-clause-follows : goal.returns-in-Err-clause-follows
returns-in-Err-clause-follows g c =
    operands_cut g.M.Mem.image g.M.Mem.relation c.args.types.now c.args.frame.now c.args.at c.args.to c.args.format c.args.rest.now c.in_ok-pointer.pointer c.in_ok-pointer.ensures c.args.memory.now c.in-Err.fault c.in-Err.ensures

pub returns-in-Err-text_at-clause-follows : goal.returns-in-Err-text_at-clause-follows
returns-in-Err-text_at-clause-follows g c =
    format_cut g.M.Mem.image g.M.Mem.relation c.args.types.now c.args.frame.now c.args.at c.args.to c.args.format c.args.rest.now c.in_ok-pointer.pointer c.in_ok-pointer.ensures c.in-Ok.values.items c.args.memory.now c.text_at.new.memory
    c.in-Err-text_at.fault c.in-Ok.ensures c.in-Err-text_at.ensures.follows

pub returns-clause-follows : goal.returns-clause-follows
returns-clause-follows g c =
    let next = rw (c.as_slice.ensures.value, c.as_slice-2.ensures) at c.print_values.ensures.follows in
    format_done g.M.Mem.image g.M.Mem.relation c.args.types.now c.args.frame.now c.args.at c.args.to c.args.format c.args.rest.now c.in_ok-pointer.pointer c.in_ok-pointer.ensures c.in-Ok.values.items c.args.memory.now c.text_at.new.memory c.print_values.new.memory
    c.in-Ok-text_at.format c.print_values.result c.in-Ok.ensures c.in-Ok-text_at.ensures.follows next
