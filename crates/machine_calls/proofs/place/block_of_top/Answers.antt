use Rattle.machine_calls.proofs.place.block_of_top.Goals as goal

pub at-function-requires : goal.at-function-requires
at-function-requires c = (c.requires.each _ _ c.at-frame.ensures).function

pub at-requires : goal.at-requires
at-requires c = rw c.at-function.ensures at ((c.requires.each _ _ c.at-frame.ensures).block)
