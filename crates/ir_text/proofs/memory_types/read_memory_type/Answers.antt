use Rattle.std.proofs.Common.{drop, sym, ◌∙◌}
use Rattle.ir_text.specs.Named.{known_of, layout_in}
use Rattle.ir_text.proofs.LaidOut.{type_kept, laid_later}
use Rattle.ir_text.proofs.MemoryTypeLaws.{memory_none, memory_fails, read_laid, read_unlaid}
use Rattle.ir_text.proofs.memory_types.read_memory_type.Goals as goal

pub returns-in-None-clause-reads : goal.returns-in-None-clause-reads
returns-in-None-clause-reads c = λ later grows. memory_none (known_of later c.args.known.now) c.args.cursor.now c.in-None.ensures

pub returns-in-Err-clause-reads : goal.returns-in-Err-clause-reads
returns-in-Err-clause-reads c = λ later grows.
    memory_fails (known_of later c.args.known.now) c.args.cursor.now (drop 1 c.args.cursor.now) c.in-Some.first c.in-Some.ensures c.in-Err.end (c.in-Err.ensures.reads later grows)

pub returns-in-Err-clause-laid : goal.returns-in-Err-clause-laid
returns-in-Err-clause-laid c = laid_later c.args.names.now c.read_type-read.new.names c.is_table.ensures c.in-Err.ensures.grows (layout_in c.args.known.now) c.args.layouts.now c.requires

pub of-requires-clause-laid : goal.of-requires-clause-laid
of-requires-clause-laid c = laid_later c.args.names.now c.read_type-read.new.names c.is_table.ensures c.in-Ok.ensures.grows (layout_in c.args.known.now) c.args.layouts.now c.requires

pub returns-in-Some-2-clause-reads : goal.returns-in-Some-2-clause-reads
returns-in-Some-2-clause-reads c = λ later grows.
    read_laid c.args.known.now later c.read_type-read.new.names c.args.cursor.now (drop 1 c.args.cursor.now) c.read_type-read.new.cursor c.in-Some.first c.in-Some.ensures c.in-Ok.of (c.in-Ok.ensures.reads later grows)
    (type_kept c.read_type-read.new.names later c.is_table-2.ensures grows c.in-Ok.of c.in-Ok.ensures.within)
    c.in-Some-2.field-0 (sym c.in-Some-2.is ∙ c.in_ok-of.ensures.is)

pub returns-in-None-2-clause-reads : goal.returns-in-None-2-clause-reads
returns-in-None-2-clause-reads c = λ later grows.
    read_unlaid c.args.known.now later c.read_type-read.new.names c.args.cursor.now (drop 1 c.args.cursor.now) c.read_type-read.new.cursor c.in-Some.first c.in-Some.ensures c.in-Ok.of (c.in-Ok.ensures.reads later grows)
    (type_kept c.read_type-read.new.names later c.is_table-2.ensures grows c.in-Ok.of c.in-Ok.ensures.within)
    (sym c.in-None-2.is ∙ c.in_ok-of.ensures.is) c.bad.result c.bad.ensures
