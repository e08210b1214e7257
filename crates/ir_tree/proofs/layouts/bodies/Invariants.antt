use Rattle.std.proofs.Common.{◌≡◌, ◌<◌, ℕ, length, take, None}
use Rattle.std.specs.Prelude.{slice_index_or}
use Rattle.ir_tree.specs.Filling.{body_of}
use Rattle.ir_tree.proofs.layouts.bodies.Given as goal

abbrev pub invariant-loop-named : goal.invariant-loop-named
invariant-loop-named l = record {
  len : length l.bodies ≡ l.names;
  each : (x : ℕ) → x < l.names → slice_index_or l.bodies x None ≡ body_of (take l.named-index l.types) x;
}
