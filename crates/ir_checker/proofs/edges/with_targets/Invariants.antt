use Rattle.std.proofs.Common.{◌≡◌, ℕ, Bool, take}
use Rattle.std.specs.Prelude.{nat_eq, not, ◌&&◌, ◌||◌}
use Rattle.std.specs.List.{list_all}
use Rattle.ir_checker.specs.Keys.{key_of}
use Rattle.ir_checker.specs.Entering.{list_at}
use Rattle.ir_checker.proofs.edges.with_targets.Given as goal

abbrev pub invariant-loop-target : goal.invariant-loop-target
invariant-loop-target l = (q : ℕ) (p : ℕ → Bool) → list_all p (list_at l.to q) ≡ (list_all p (list_at l.initial.to q) && list_all (λ k. not (nat_eq q (key_of l.names l.zero k)) || p l.from) (take l.target-index l.targets))
