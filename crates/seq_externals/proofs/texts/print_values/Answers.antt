use Rattle.seq_externals.specs.Externals.{formatting}
use Rattle.seq_effects.proofs.Follow.{follows_out_of_memory}
use Rattle.seq_externals.proofs.TextLists.{values_cut, values_done}
use Rattle.seq_externals.proofs.texts.print_values.Goals as goal

pub returns-in-Err-clause-follows : goal.returns-in-Err-clause-follows
returns-in-Err-clause-follows g c =
    follows_out_of_memory g.M.Mem.image g.M.Mem.relation (formatting c.args.types.now c.args.at c.args.to c.args.values.now c.args.format.now) c.args.memory.now

pub returns-in-Err-text_args-clause-follows : goal.returns-in-Err-text_args-clause-follows
returns-in-Err-text_args-clause-follows g c =
    follows_out_of_memory g.M.Mem.image g.M.Mem.relation (formatting c.args.types.now c.args.at c.args.to c.args.values.now c.args.format.now) c.args.memory.now

pub returns-in-Err-read_texts-clause-follows : goal.returns-in-Err-read_texts-clause-follows
returns-in-Err-read_texts-clause-follows g c =
    values_cut g.M.Mem.image g.M.Mem.relation c.args.at c.args.values.now c.args.types.now c.args.to c.args.format.now c.in-Ok-text_args.found c.in-Ok.args c.args.memory.now c.read_texts.new.memory
    c.in-Ok.ensures c.in-Ok-text_args.ensures.exact c.in-Err-read_texts.fault c.in-Err-read_texts.ensures.follows

pub returns-clause-follows : goal.returns-clause-follows
returns-clause-follows g c =
    values_done g.M.Mem.image g.M.Mem.relation c.args.at c.args.values.now c.args.types.now c.args.to c.args.format.now c.in-Ok-text_args.found c.in-Ok.args c.args.memory.now c.read_texts.new.memory
    c.in-Ok.ensures c.in-Ok-text_args.ensures.exact c.read_texts.new.args c.print_formatted.result c.in-Ok-read_texts.ensures.follows c.print_formatted.ensures.effect
