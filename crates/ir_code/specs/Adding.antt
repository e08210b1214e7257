-- The edges of a function, as those of a block are added behind those of the blocks before.
use Rattle.std.specs.Prelude.{◌≡◌, ℕ, List, ◌++◌, Option, fold}
use Rattle.ir_code.specs.declared.code.Edge.{Edge}
use Rattle.ir_code.specs.Tables.{Tables}
use Rattle.ir_code.specs.Blocks.{Scope, targets_of, with_target, with_exit}

-- the block's own edges, behind others, and where they lead
pub record AreOwn (before own all : List Edge) (targets : List (Option ℕ)) : Type 0 where
  pub all_is : all ≡ before ++ own
  pub targets_is : targets ≡ targets_of own

-- the edge to one more block was added
abbrev pub AddsTarget : Tables → Scope → ℕ → ℕ → List Edge → List (Option ℕ) → List Edge → List (Option ℕ) → Type 0
AddsTarget t s label to edges targets edges' targets' = (before own : List Edge) → AreOwn before own edges targets → AreOwn before (with_target t s label own to) edges' targets'

-- the edges to the blocks of these labels were added, in their order
abbrev pub Adds : Tables → Scope → ℕ → List ℕ → List Edge → List (Option ℕ) → List Edge → List (Option ℕ) → Type 0
Adds t s label exits edges targets edges' targets' = (before own : List Edge) → AreOwn before own edges targets → AreOwn before (fold (with_exit t s label) own exits) edges' targets'
