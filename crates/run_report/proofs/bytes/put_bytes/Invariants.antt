use Rattle.std.proofs.Common.{◌≡◌, ◌++◌, drop}
use Rattle.run_report.specs.Bytes.{bytes_after}
use Rattle.run_report.proofs.bytes.put_bytes.Given as goal

abbrev pub invariant-loop-i : goal.invariant-loop-i
invariant-loop-i l = l.to ++ bytes_after (drop l.i l.bytes) l.passed ≡ l.fn.to ++ bytes_after l.bytes 0
