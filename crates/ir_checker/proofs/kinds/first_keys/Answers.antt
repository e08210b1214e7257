use Rattle.std.proofs.Common.{length, ap, arith}
use Rattle.ir_checker.proofs.ConstantKeyLemmas.{key_first}
use Rattle.ir_checker.proofs.kinds.first_keys.Goals as goal

pub returns : goal.returns
returns c =
    let empty = ap length c.new-keys.ensures in
    key_first c.args.names.now c.args.classes.now c.number.new.self _ c.in_ok-number.ensures.known c.in_ok-number.ensures.within (omega (arith, empty, c.in_ok-number.ensures.len))
