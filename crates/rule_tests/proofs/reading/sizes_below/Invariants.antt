use Rattle.std.proofs.Common.{◌≡◌, drop}
use Rattle.pv_base.specs.Limits.{live_limit}
use Rattle.std.specs.Prelude.{nat_le, sum_by}
use Rattle.ir_tree.specs.Modules.{layout_in}
use Rattle.ir_rules.specs.Reading.{size_of}
use Rattle.rule_tests.proofs.reading.sizes_below.Given as goal

abbrev pub invariant-loop-variable : goal.invariant-loop-variable
invariant-loop-variable l = nat_le (sum_by (λ g. size_of (layout_in l.tree g.of)) l.globals) live_limit ≡ nat_le (sum_by (λ g. size_of (layout_in l.tree g.of)) (drop l.variable-index l.globals)) l.left
