use Rattle.std.proofs.Common.{◌≡◌, length}
use Rattle.ir_text.specs.Named.{layout_in}
use Rattle.ir_text.specs.MemoryTypes.{AreLaid}
use Rattle.ir_text.proofs.layouts.TypeLayouts.extend.Given as goal

abbrev pub invariant-loop : goal.invariant-loop
invariant-loop l = record {
  laid : AreLaid (layout_in l.known) l.names l.self;
  at : length l.self ≡ l.counter;
}
