use Rattle.std.proofs.Common.{◌≡◌, map, drop, false}
use Rattle.ir_tree.specs.Naming.{type_at}
use Rattle.ir_rules.specs.Calls.{params_fit}
use Rattle.ir_rules.specs.Outer.{shown_outer}
use Rattle.ir_rules.proofs.whole.each_fits.Given as goal

abbrev pub invariant-loop-i : goal.invariant-loop-i
invariant-loop-i l =
    params_fit false (map shown_outer l.outer) (map (λ p. type_at l.names p.of) l.params)
    ≡ params_fit false (map shown_outer (drop l.i l.outer)) (map (λ p. type_at l.names p.of) (drop l.i l.params))
