use Rattle.std.proofs.Common.{◌≡◌, ◌-◌, ℕ, List, [], Result}
use Rattle.mem_image.specs.declared.fault.Fault.{Fault}
use Rattle.seq_effects.specs.Script.{Follows}
use Rattle.seq_externals.specs.Externals.{text}
use Rattle.seq_externals.proofs.texts.text.Given as goal

abbrev pub invariant-loop : goal.invariant-loop
invariant-loop g l =
    g.M.Mem.ready l.memory
    × (g.M.Mem.image l.memory ≡ g.M.Mem.image l.initial.memory)
    × ((answer : Result (List ℕ) Fault) (n : _)
    → Follows g.M.Mem.image g.M.Mem.relation (text (l.limit - l.counter) l.at l.slot l.pointer l.bytes) l.memory answer n
    → Follows g.M.Mem.image g.M.Mem.relation (text l.limit l.at l.slot l.initial.pointer []) l.initial.memory answer n)
