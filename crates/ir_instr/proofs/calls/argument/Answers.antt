use Rattle.std.proofs.Common.{◌≤◌, length, arith}
use Rattle.ir_instr.proofs.AttributeTurns.{attributes_keep}
use Rattle.ir_instr.proofs.calls.argument.Goals as goal

pub returns-clause-shorter : goal.returns-clause-shorter
returns-clause-shorter c =
    let kept : length c.attributes.new.cursor ≤ length c.register.new.cursor = attributes_keep c.register.new.cursor (tt, c.attributes.new.cursor) c.in_ok-attributes.ensures in
    omega (arith, c.in_ok-scalar.ensures.shorter, c.in_ok-value.ensures.shorter)
