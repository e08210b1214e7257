use Rattle.std.proofs.Common.{◌≡◌, map, take}
use Rattle.ir_reader.specs.Knowing.{first_types}
use Rattle.ir_reader.proofs.named.named_types.Given as goal

abbrev pub invariant-loop-defined : goal.invariant-loop-defined
invariant-loop-defined l = record {
  types : l.types ≡ first_types (take l.defined-index l.all);
  seen : l.seen ≡ map (λ t. t.name) l.types;
}
