use Rattle.std.proofs.Common.{◌≡◌, ℕ, Bool, take}
use Rattle.std.specs.Prelude.{nat_eq, not, ◌||◌}
use Rattle.std.specs.List.{list_all}
use Rattle.ir_rules.specs.Forms.{targets}
use Rattle.ir_checker.specs.Keys.{key_of}
use Rattle.ir_checker.specs.Entering.{list_at}
use Rattle.ir_checker.proofs.edges.with_blocks.Given as goal

abbrev pub invariant-loop-block : goal.invariant-loop-block
invariant-loop-block l = (q : ℕ) (p : ℕ → Bool) →
    list_all p (list_at l.to q) ≡ list_all (λ b. list_all (λ i. list_all (λ k. not (nat_eq q (key_of l.names l.zero k)) || p (key_of l.names l.zero b.label)) (targets i)) b.instructions) (take l.block-index l.blocks)
