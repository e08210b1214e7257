use Rattle.ir_checker.proofs.IndexLemmas.{register_none, register_lost, register_some}
use Rattle.ir_checker.proofs.scope.register_type.Goals as goal

pub returns-in-Some-get : goal.returns-in-Some-get
returns-in-Some-get c = register_some c.args.names.now c.args.zero c.args.function.now c.args.scope.now c.requires.zero c.requires.scope c.args.name c.in-Some.place c.in-Some-get.one.now (rw c.key_of.ensures at c.in-Some.ensures) c.in-Some-get.ensures

pub returns-in-None-get : goal.returns-in-None-get
returns-in-None-get c = register_lost c.args.names.now c.args.zero c.args.function.now c.args.scope.now c.requires.zero c.requires.scope c.args.name c.in-Some.place (rw c.key_of.ensures at c.in-Some.ensures) c.in-None-get.ensures

pub returns-in-None : goal.returns-in-None
returns-in-None c = register_none c.args.names.now c.args.zero c.args.function.now c.args.scope.now c.requires.zero c.requires.scope c.args.name (rw c.key_of.ensures at c.in-None.ensures)
