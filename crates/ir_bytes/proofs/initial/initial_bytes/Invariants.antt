use Rattle.std.proofs.Common.{◌≡◌, reverse}
use Rattle.ir_bytes.specs.Initial.{bytes_at}
use Rattle.ir_bytes.specs.Works.{laid_out, AreWorks, load}
use Rattle.ir_bytes.proofs.initial.initial_bytes.Given as goal

abbrev pub invariant-pieces : goal.invariant-pieces
invariant-pieces l = record {
  same : laid_out l.tree l.bytes (reverse l.work) ≡ bytes_at l.tree l.of l.value;
  inside : AreWorks (reverse l.work);
}

abbrev pub decreases-pieces : goal.decreases-pieces
decreases-pieces l = load l.tree (reverse l.work)
