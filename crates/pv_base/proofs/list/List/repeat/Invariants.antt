use Rattle.std.proofs.Common.{◌≡◌, replicate}
use Rattle.pv_base.proofs.list.List.repeat.Given as goal

abbrev pub invariant-loop : goal.invariant-loop
invariant-loop g l = l.items.items ≡ replicate l.counter l.item
