-- What every layout keeps.
use Rattle.std.specs.Prelude.{◌<◌, ◌≤◌, ◌^◌}
use Rattle.ir_tree.specs.declared.layout.Layout.{Layout}

-- a size below 2^63, and an alignment of 1 to 8
pub record IsLayout (l : Layout) : Type 0 where
  pub size : l.size < 2 ^ 63
  pub least : 0 < l.align
  pub most : l.align ≤ 8
