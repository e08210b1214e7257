use Rattle.seq_run.proofs.header.header_of.Goals as goal

pub at-function-requires : goal.at-function-requires
at-function-requires c = (c.requires.each _ _ c.at-frame.ensures).function

pub at-block-requires : goal.at-block-requires
at-block-requires c = rw c.at-function.ensures at ((c.requires.each _ _ c.at-frame.ensures).block)
