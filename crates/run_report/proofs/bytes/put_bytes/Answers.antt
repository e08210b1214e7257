use Rattle.std.proofs.Common.{arith}
use Rattle.run_report.proofs.Lines.{bytes_step, bytes_end}
use Rattle.run_report.proofs.bytes.put_bytes.Goals as goal

pub loop-i-preserved : goal.loop-i-preserved
loop-i-preserved c = bytes_step c.args.bytes.now c.loop-i.i c.loop-i.passed c.in_ok-passed.passed c.loop-i.to c.put_front.new.to _ c.in_ok-passed.ensures c.loop-i.invariant

pub returns : goal.returns
returns c = bytes_end c.args.bytes.now c.loop-i.i c.loop-i.passed c.loop-i.to c.args.to.now (omega arith) c.loop-i.invariant
