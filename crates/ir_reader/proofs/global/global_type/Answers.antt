use Rattle.std.proofs.Common.{drop, sym, ◌∙◌}
use Rattle.std.proofs.lemmas.Result.{err_from_is_err_and}
use Rattle.ir_tree.specs.Naming.{type_at}
use Rattle.ir_text.specs.Named.{known_of}
use Rattle.ir_reader.proofs.Globals.{size_is, global_none, global_fails, global_fits, global_over}
use Rattle.ir_reader.proofs.global.global_type.Goals as goal

pub returns-in-None-clause-reads : goal.returns-in-None-clause-reads
returns-in-None-clause-reads c = λ later grows. global_none (known_of later c.args.known.now) c.args.size c.args.cursor.now c.in-None.ensures

pub returns-in_err-of-clause-reads : goal.returns-in_err-of-clause-reads
returns-in_err-of-clause-reads c = λ later grows.
    let p = err_from_is_err_and c.from_residual.result c.from_residual.ensures.1 in
    rw (p.1, p.2) (global_fails (known_of later c.args.known.now) c.args.size c.args.cursor.now (drop 1 c.args.cursor.now) c.in-Some.first c.in-Some.ensures c.in_err-of.field-0.0 (c.in_err-of.ensures.reads later grows))

pub returns-then-fits-clause-reads : goal.returns-then-fits-clause-reads
returns-then-fits-clause-reads c = λ later grows.
    global_fits (known_of later c.args.known.now) c.args.size c.args.cursor.now (drop 1 c.args.cursor.now) c.in-Some.first c.in-Some.ensures (type_at later c.in_ok-of.of) c.read_memory_type.new.cursor (c.in_ok-of.ensures.reads later grows) c.bytes_of-bytes.result
    (size_is c.read_memory_type.new.names later c.is_table.ensures grows c.args.known.now c.in_ok-of.of c.bytes_of-bytes.result c.in_ok-of-2.field-0 c.in_ok-of.ensures.within c.in_ok-of-2.ensures.is c.bytes_of-bytes.ensures.bytes)
    (sym c.fits.ensures ∙ c.if-fits.true)

pub returns-then-fits-clause-bytes : goal.returns-then-fits-clause-bytes
returns-then-fits-clause-bytes c = λ later grows. size_is c.read_memory_type.new.names later c.is_table.ensures grows c.args.known.now c.in_ok-of.of c.bytes_of-bytes.result c.in_ok-of-2.field-0 c.in_ok-of.ensures.within c.in_ok-of-2.ensures.is c.bytes_of-bytes.ensures.bytes

pub returns-clause-reads : goal.returns-clause-reads
returns-clause-reads c = λ later grows.
    global_over (known_of later c.args.known.now) c.args.size c.args.cursor.now (drop 1 c.args.cursor.now) c.in-Some.first c.in-Some.ensures (type_at later c.in_ok-of.of) c.read_memory_type.new.cursor (c.in_ok-of.ensures.reads later grows) c.bytes_of-bytes.result
    (size_is c.read_memory_type.new.names later c.is_table.ensures grows c.args.known.now c.in_ok-of.of c.bytes_of-bytes.result c.in_ok-of-2.field-0 c.in_ok-of.ensures.within c.in_ok-of-2.ensures.is c.bytes_of-bytes.ensures.bytes)
    (sym c.fits.ensures ∙ c.if-fits.false) c.bad.result c.bad.ensures
