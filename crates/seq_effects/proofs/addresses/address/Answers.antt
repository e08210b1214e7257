use Rattle.std.proofs.Common.{sym, ◌∙◌, Ok, Err}
use Rattle.seq_effects.specs.Accesses.{exact}
use Rattle.seq_effects.proofs.Addressing.{address_cut, address_done}
use Rattle.seq_effects.proofs.addresses.address.Goals as goal

pub returns-in-Err-clause-follows : goal.returns-in-Err-clause-follows
returns-in-Err-clause-follows g c =
    address_cut g.M.Mem.image g.M.Mem.relation c.args.types.now c.args.frame.now c.args.to c.args.inbounds c.args.base c.args.indices.now c.in_ok-pointer.pointer (exact c.in_ok-by.by) c.args.memory.now
    c.in_ok-pointer.ensures c.in_ok-by.ensures c.in-Err.fault c.in-Err.ensures

pub returns-in-Ok-give-clause-follows : goal.returns-in-Ok-give-clause-follows
returns-in-Ok-give-clause-follows g c =
    address_done g.M.Mem.image g.M.Mem.relation c.args.types.now c.args.frame.now c.args.to c.args.inbounds c.args.base c.args.indices.now c.in_ok-pointer.pointer (exact c.in_ok-by.by) c.args.memory.now
    c.in_ok-pointer.ensures c.in_ok-by.ensures c.in-Ok.pointer (Ok c.in-Ok-give.effect) c.in-Ok.ensures (sym c.in-Ok-give.is ∙ c.give.ensures.effect)

pub returns-in-Err-give-clause-follows : goal.returns-in-Err-give-clause-follows
returns-in-Err-give-clause-follows g c =
    address_done g.M.Mem.image g.M.Mem.relation c.args.types.now c.args.frame.now c.args.to c.args.inbounds c.args.base c.args.indices.now c.in_ok-pointer.pointer (exact c.in_ok-by.by) c.args.memory.now
    c.in_ok-pointer.ensures c.in_ok-by.ensures c.in-Ok.pointer (Err c.in-Err-give.trap) c.in-Ok.ensures (sym c.in-Err-give.is ∙ c.give.ensures.effect)
