use Rattle.std.proofs.Common.{◌≡◌, List, Result, length, drop}
use Rattle.mem_image.specs.declared.fault.Fault.{Fault}
use Rattle.seq_calls.specs.declared.show.Arg.{Arg}
use Rattle.seq_effects.specs.Script.{Follows}
use Rattle.seq_externals.specs.Externals.{texts}
use Rattle.seq_externals.proofs.texts.read_texts.Given as goal

abbrev pub invariant-loop-number : goal.invariant-loop-number
invariant-loop-number g l =
    g.M.Mem.ready l.memory
    × (g.M.Mem.image l.memory ≡ g.M.Mem.image l.initial.memory)
    × (length l.args ≡ length l.initial.args)
    × ((answer : Result (List Arg) Fault) (n : _)
    → Follows g.M.Mem.image g.M.Mem.relation (texts l.at l.values (drop l.number-index l.from) l.args) l.memory answer n
    → Follows g.M.Mem.image g.M.Mem.relation (texts l.at l.values l.from l.initial.args) l.initial.memory answer n)
