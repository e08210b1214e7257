use Rattle.ir_text.specs.Named.{layout_in}
use Rattle.ir_text.proofs.Apart.{none_laid, comes_ok, comes_err}
use Rattle.ir_text.proofs.ConstantTurns.{grows_self}
use Rattle.ir_text.proofs.memory_types.memory_type_comes.Goals as goal

pub read_memory_type-requires : goal.read_memory_type-requires
read_memory_type-requires c = none_laid (layout_in c.args.known.now) c.new-names.result c.new-layouts.result c.new-layouts.ensures

pub returns-in-Ok-clause-ok : goal.returns-in-Ok-clause-ok
returns-in-Ok-clause-ok c = λ later. comes_ok c.read_memory_type.new.names later c.args.known.now c.args.cursor.now c.copy-apart.result c.copy-apart.ensures _ (c.in-Ok.ensures.reads c.read_memory_type.new.names (grows_self c.read_memory_type.new.names))

pub returns-clause-err : goal.returns-clause-err
returns-clause-err c = λ later. comes_err c.read_memory_type.new.names later c.args.known.now c.args.cursor.now c.copy-apart.result c.copy-apart.ensures c.in-Err.end (c.in-Err.ensures.reads c.read_memory_type.new.names (grows_self c.read_memory_type.new.names))
