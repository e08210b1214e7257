use Rattle.std.proofs.Common.{sym}
use Rattle.ir_reader.proofs.Scopes.{defined_later, within_some, on_ok_then}
use Rattle.ir_reader.proofs.scope.Scope.define.Goals as goal

pub returns-in_ok-self-in-Some-clause-defines : goal.returns-in_ok-self-in-Some-clause-defines
returns-in_ok-self-in-Some-clause-defines c = on_ok_then _ _ _ _ c.push.result c.push.ensures.ok (λ e later grows.
    rw e (defined_later c.args.names.now later c.is_table.ensures grows c.args.self.now.next c.in_ok-self-in-Some.field-0 c.args.self.now.defined c.args.name c.in-Some.spelled.now c.requires.names c.requires.name (sym c.in-Some.ensures) c.in_ok-self-in-Some.ensures))

pub returns-in-None-clause-defines : goal.returns-in-None-clause-defines
returns-in-None-clause-defines c = λ later grows. absurd (within_some c.args.names.now c.args.name c.requires.name (sym c.in-None.ensures))
