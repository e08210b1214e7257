use Rattle.ir_code.specs.Coding.{code_of}
use Rattle.seq_run.proofs.Firsts.{first_frames_of, first_own}
use Rattle.seq_run.proofs.start.start.Goals as goal

pub returns-clause-module : goal.returns-clause-module
returns-clause-module c = record {
  frames = first_frames_of (code_of c.args.program.now) c.starts.ensures c.in_ok-frames.frames c.in_ok-frames.ensures;
  memory = c.next.ensures.picture;
  own = first_own (code_of c.args.program.now) c.in_ok-frames.frames c.in_ok-memory.memory c.in_ok-frames.ensures;
}
