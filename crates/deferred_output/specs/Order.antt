-- Outputs in the order of their turns.
use Rattle.std.specs.Prelude.{◌≡◌, ◌==◌, ℕ, List, map}
use Rattle.std.specs.List.{flat_map, IsDistinct}
use Rattle.std.specs.List.Sorted.{IsPermutation, IsNonDecreasing}
use Rattle.deferred_output.specs.declared.output.TurnOutput.{TurnOutput}

abbrev pub turns : List TurnOutput → List ℕ
turns parts = map (λ p. p.turn) parts

-- the bytes of the parts, one after another
abbrev pub joined : List TurnOutput → List ℕ
joined parts = flat_map (λ p. p.bytes) parts

-- these are the bytes of all parts, those of an earlier turn first
pub record IsInTurnOrder (parts : List TurnOutput) (bytes : List ℕ) : Type 0 where
  pub order : List TurnOutput
  pub same : IsPermutation parts order
  pub rises : IsNonDecreasing (turns order)
  pub is : bytes ≡ joined order

-- no two parts are of one turn
abbrev pub HaveDistinctTurns : List TurnOutput → Type 0
HaveDistinctTurns parts = IsDistinct (λ m n. m == n) (turns parts)

-- parts of distinct turns have one answer, in whatever order they come
abbrev pub OneAnswer : Type 0
OneAnswer = (parts others : List TurnOutput) (bytes more : List ℕ) → HaveDistinctTurns parts → IsPermutation parts others → IsInTurnOrder parts bytes → IsInTurnOrder others more → bytes ≡ more
