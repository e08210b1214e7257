use Rattle.std.proofs.Common.{◌≡◌, map, take}
use Rattle.deferred_output.specs.Order.{joined}
use Rattle.deferred_output.proofs.order.join.Given as goal

abbrev pub invariant-loop-part : goal.invariant-loop-part
invariant-loop-part l = l.bytes ≡ joined (map (λ part. part.now) (take l.part-index l.parts))
