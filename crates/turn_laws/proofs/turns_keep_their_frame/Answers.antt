use Rattle.turn_laws.proofs.Frames.{run_keeps_frames, turns_keep_frames}
use Rattle.turn_laws.proofs.turns_keep_their_frame.Goals as goal

pub returns-clause-run : goal.returns-clause-run
returns-clause-run c = run_keeps_frames

pub returns-clause-turns : goal.returns-clause-turns
returns-clause-turns c = turns_keep_frames
