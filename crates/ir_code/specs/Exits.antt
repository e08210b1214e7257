-- The edges of a block, as its terminators name them.
use Rattle.std.specs.Prelude.{ℕ, List, Option}

-- where they lead, and the number of the first
pub record Leading : Type 0 where
  pub first : ℕ
  pub targets : List (Option ℕ)
