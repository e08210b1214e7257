use Rattle.std.proofs.lemmas.Result.{err_from_is_err_and}
use Rattle.ir_tree.specs.Naming.{type_at}
use Rattle.ir_text.specs.Named.{known_of}
use Rattle.ir_text.proofs.Apart.{memory_reads}
use Rattle.ir_text.proofs.memory_types.read_lone_memory_type.Goals as goal

pub returns-in_err-memory_type_comes-clause-reads : goal.returns-in_err-memory_type_comes-clause-reads
returns-in_err-memory_type_comes-clause-reads c = λ later grows.
    let p = err_from_is_err_and c.from_residual.result c.from_residual.ensures.1 in
    rw (p.1, p.2) (c.in_err-memory_type_comes.ensures.err later)

pub returns-clause-reads : goal.returns-clause-reads
returns-clause-reads c = λ later grows.
    memory_reads (known_of later c.args.known.now) c.args.cursor.now c.read_type.new.cursor (type_at later) c.read_type.result (c.in_ok-memory_type_comes.ensures.ok later) (c.read_type.ensures.reads later grows)
