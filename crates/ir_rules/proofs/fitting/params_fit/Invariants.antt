use Rattle.std.proofs.Common.{◌≡◌, map, drop}
use Rattle.ir_tree.specs.Naming.{type_at}
use Rattle.ir_rules.specs.Calls.{params_fit}
use Rattle.ir_rules.proofs.fitting.params_fit.Given as goal

abbrev pub invariant-loop-i : goal.invariant-loop-i
invariant-loop-i l =
    params_fit l.more (map (type_at l.names) l.params) (map (type_at l.names) l.arguments)
    ≡ params_fit l.more (map (type_at l.names) (drop l.i l.params)) (map (type_at l.names) (drop l.i l.arguments))
