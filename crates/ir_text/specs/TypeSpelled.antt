-- How types are spelled.
use Rattle.std.specs.Prelude.{ℕ, true, false, List, codes}
use Rattle.ir_tree.specs.Trees.{TypeV, IntV, PtrV, VoidV, ArrayV, StructV, NamedV, TypesV, NoneV, MoreV}
use Rattle.ir_text.specs.Tokens.{TokenV}
use Rattle.ir_text.specs.Spelled.{one_token}
use Rattle.ir_text.specs.Repeated.{Both}
use Rattle.ir_text.specs.Leaves.{mark, word}
use Rattle.ir_text.specs.Types.{Known, count, simple}

-- some tokens, and then others
infixr 20 ◌▸◌
abbrev pub ◌▸◌ : (List TokenV → Type 0) → (List TokenV → Type 0) → List TokenV → Type 0
first ▸ others = Both first others

-- a mark
abbrev pub a_mark : ℕ → List TokenV → Type 0
a_mark b = one_token (mark b) tt

abbrev pub a_word : List ℕ → List TokenV → Type 0
a_word w = one_token (word w) tt

abbrev mutual
  -- iN, ptr, %name, [ n x T ], { T, .. }, <{ T, .. }>
  pub a_type : Known → TypeV → List TokenV → Type 0
  a_type known (IntV w) ws = one_token (simple known) (IntV w) ws
  a_type known PtrV ws = one_token (simple known) PtrV ws
  a_type known VoidV ws = ⊥
  a_type known (NamedV name) ws = one_token (simple known) (NamedV name) ws
  a_type known (ArrayV n of) ws = Both (a_mark 91) (Both (one_token count n) (Both (a_word (codes "x")) (Both (a_type known of) (a_mark 93)))) ws
  a_type known (StructV false fields) ws = Both (a_mark 123) (some_fields known fields) ws
  a_type known (StructV true fields) ws = Both (a_mark 60) (Both (a_mark 123) (Both (some_fields known fields) (a_mark 62))) ws

  pub some_fields : Known → TypesV → List TokenV → Type 0
  some_fields known NoneV ws = a_mark 125 ws
  some_fields known (MoreV type rest) ws = Both (a_type known type) (more_fields known rest) ws

  pub more_fields : Known → TypesV → List TokenV → Type 0
  more_fields known NoneV ws = a_mark 125 ws
  more_fields known (MoreV type rest) ws = Both (a_mark 44) (Both (a_type known type) (more_fields known rest)) ws
