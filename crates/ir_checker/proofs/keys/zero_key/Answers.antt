use Rattle.std.proofs.Common.{arith}
use Rattle.ir_checker.proofs.KeyLemmas.{zero_found, zero_none}
use Rattle.ir_checker.proofs.keys.zero_key.Goals as goal

pub returns-then-is_name_zero : goal.returns-then-is_name_zero
returns-then-is_name_zero c = zero_found c.args.names.now c.loop-i.i c.is_name_zero.result c.is_table.ensures (omega (arith, c.name_count-i-end.ensures)) (rw c.in_ok-number.ensures at c.is_name_zero.ensures) c.if-is_name_zero.true

pub returns : goal.returns
returns c = rw c.name_count.ensures (zero_none c.args.names.now c.is_table.ensures (λ i li. c.loop-i.invariant i (omega (arith, c.name_count-i-end.ensures))))
