use Rattle.ir_text.specs.Reading.{token_by}
use Rattle.ir_text.specs.Types.{register_type}
use Rattle.ir_text.specs.NestedConstants.{Typed}
use Rattle.ir_text.proofs.IndexLaws.{no_type_any}
use Rattle.ir_text.proofs.indices.no_index.Goals as goal

pub returns-in-Some-clause-reads : goal.returns-in-Some-clause-reads
unfolding token_by
returns-in-Some-clause-reads c = rw c.in-Some.ensures (no_type_any (Unit {0}) Typed (register_type c.in-Some.lexeme) c.in-Some.lexeme c.next.new.self c.no_type.result (c.no_type.ensures.reads c.next.new.self))
