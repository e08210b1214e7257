use Rattle.ir_reader.specs.Knowing.{entry_of}
use Rattle.ir_reader.proofs.Knowing.{no_type, entry_more}
use Rattle.ir_reader.proofs.named.with_layouts.Goals as goal

pub loop-defined-preserved : goal.loop-defined-preserved
loop-defined-preserved c = λ q.
    entry_more (entry_of c.args.names.now c.args.layouts.now.layouts) c.args.all.now c.loop-defined.defined-index no_type c.loop-defined.known c.insert_defined.new.known q c.loop-defined-test.true (c.loop-defined.invariant q) (c.in_ok-insert_defined.ensures q)
