use Rattle.std.proofs.Common.{sym, ◌∙◌}
use Rattle.ir_reader.specs.Scoping.{scope_at}
use Rattle.ir_reader.proofs.Scopes.{on_ok_then}
use Rattle.ir_reader.proofs.Results.{defines_some, defines_none}
use Rattle.ir_reader.proofs.body.note_result.Goals as goal

pub returns-in-Some-clause-defines : goal.returns-in-Some-clause-defines
returns-in-Some-clause-defines c = on_ok_then _ _ _ _ c.define.result c.define.ensures.defines (λ all later grows.
    all later grows ∙ sym (defines_some later (scope_at later c.args.scope.now) c.args.instruction.now c.in-Some.name c.in-Some.ensures))

pub returns-in-None-clause-defines : goal.returns-in-None-clause-defines
returns-in-None-clause-defines c = λ later grows. sym (defines_none later (scope_at later c.args.scope.now) c.args.instruction.now c.in-None.ensures)
