use Rattle.std.proofs.Common.{◌++◌}
use Rattle.ir_printer.specs.Pieces.{escaped}
use Rattle.ir_printer.proofs.Spelled.{escaped_step, escaped_end}
use Rattle.ir_printer.proofs.spelling.put_escaped.Goals as goal

pub loop-b-preserved : goal.loop-b-preserved
loop-b-preserved c = escaped_step c.args.bytes.now c.loop-b.b-index c.loop-b.to c.put_escaped_byte.new.to (c.args.to.now ++ escaped c.args.bytes.now) c.loop-b-test.true c.in_ok-put_escaped_byte.ensures c.loop-b.invariant

pub returns : goal.returns
returns c = escaped_end c.args.bytes.now c.loop-b.b-index c.loop-b.to (c.args.to.now ++ escaped c.args.bytes.now) c.loop-b-test.false c.loop-b.invariant
