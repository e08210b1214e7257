use Rattle.ir_text.specs.Types.{register_type}
use Rattle.ir_text.proofs.ConstantTurns.{grows_self}
use Rattle.ir_text.proofs.IndexLaws.{no_type_ok, no_type_err}
use Rattle.ir_text.proofs.indices.no_type.Goals as goal

pub returns-in-Ok-clause-reads : goal.returns-in-Ok-clause-reads
returns-in-Ok-clause-reads c = λ rest. no_type_ok (Unit {0}) (register_type c.args.lexeme.now) c.args.lexeme.now rest _ _ (c.in-Ok.ensures.reads c.register_word.new.names rest (grows_self c.register_word.new.names)) c.bad.ensures

pub returns-in-Err-clause-reads : goal.returns-in-Err-clause-reads
returns-in-Err-clause-reads c = λ rest. no_type_err (Unit {0}) (register_type c.args.lexeme.now) c.args.lexeme.now rest _ (c.in-Err.ensures.reads c.register_word.new.names rest (grows_self c.register_word.new.names))
