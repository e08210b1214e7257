use Rattle.std.proofs.Common.{◌+◌, slice_get}
use Rattle.seq_externals.specs.Externals.{text_of_value}
use Rattle.seq_effects.proofs.Follow.{follows_out_of_memory}
use Rattle.seq_externals.proofs.texts.argument_text.Goals as goal

pub returns-then-number-eq4294967295-clause-follows : goal.returns-then-number-eq4294967295-clause-follows
returns-then-number-eq4294967295-clause-follows g c =
    follows_out_of_memory g.M.Mem.image g.M.Mem.relation (text_of_value c.args.at (c.args.number + 1) (slice_get c.args.values.now c.args.number)) c.args.memory.now
