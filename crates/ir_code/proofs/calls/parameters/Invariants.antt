use Rattle.ir_code.specs.Tables.{scalar_at}
use Rattle.ir_code.proofs.Every.{KeptTo}
use Rattle.ir_code.proofs.calls.parameters.Given as goal

abbrev pub invariant-loop-one : goal.invariant-loop-one
invariant-loop-one l = KeptTo (λ a. scalar_at l.lookups a.of) l.all l.one-index l.scalars
