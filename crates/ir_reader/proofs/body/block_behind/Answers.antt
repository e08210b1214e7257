use Rattle.std.proofs.lemmas.Result.{err_from_is_err_and}
use Rattle.std.proofs.Common.{map}
use Rattle.ir_tree.specs.Naming.{name_at}
use Rattle.ir_tree.specs.Shown.{shown, shown_block}
use Rattle.ir_tree.proofs.Showing.{grows_then}
use Rattle.ir_text.specs.Named.{known_of}
use Rattle.ir_reader.specs.Scoping.{scope_at}
use Rattle.ir_reader.proofs.Blocks.{block_reads, block_fails, block_defines}
use Rattle.ir_reader.proofs.body.block_behind.Goals as goal

pub returns-in_err-instructions-clause-reads : goal.returns-in_err-instructions-clause-reads
returns-in_err-instructions-clause-reads c = λ later grows.
    let p = err_from_is_err_and c.from_residual-in_err-instructions.result c.from_residual-in_err-instructions.ensures.1 in
    rw (p.1, p.2) (block_fails (known_of later c.args.known.now) (scope_at later c.args.scope.now) (scope_at later c.define.new.self) (name_at later c.args.label) (c.in_ok-define.ensures.defines later (grows_then _ _ _ c.in_err-instructions.ensures.grows grows)) c.args.cursor.now c.in_err-instructions.field-0.0 (c.in_err-instructions.ensures.reads later grows))

pub returns-clause-reads : goal.returns-clause-reads
returns-clause-reads c = λ later grows.
    block_reads (known_of later c.args.known.now) (scope_at later c.args.scope.now) (scope_at later c.define.new.self) (name_at later c.args.label) (c.in_ok-define.ensures.defines later (grows_then _ _ _ c.in_ok-instructions.ensures.grows grows)) c.args.cursor.now (map (shown later) c.in_ok-instructions.instructions) c.instructions.new.cursor (c.in_ok-instructions.ensures.reads later grows)

pub returns-clause-defines : goal.returns-clause-defines
returns-clause-defines c = λ later grows.
    block_defines (scope_at later c.args.scope.now) (scope_at later c.define.new.self) (scope_at later c.instructions.new.scope) (shown_block later (record { label = c.args.label; instructions = c.in_ok-instructions.instructions })) (c.in_ok-define.ensures.defines later (grows_then _ _ _ c.in_ok-instructions.ensures.grows grows)) (c.in_ok-instructions.ensures.defines later grows)
