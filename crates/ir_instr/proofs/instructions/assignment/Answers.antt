use Rattle.ir_tree.proofs.Showing.{grows_then}
use Rattle.ir_text.specs.Named.{layout_in}
use Rattle.ir_text.proofs.LaidOut.{laid_later}
use Rattle.ir_instr.proofs.Kept.{types_kept}
use Rattle.ir_instr.proofs.Openings.{new_later, results_new}
use Rattle.ir_instr.proofs.instructions.assignment.Goals as goal

pub returns-in_err-to-clause-laid : goal.returns-in_err-to-clause-laid
returns-in_err-to-clause-laid c = laid_later c.args.names.now c.result_name.new.names c.is_table.ensures c.in_err-to.ensures.grows (layout_in c.args.known.now) c.args.layouts.now c.requires.laid

pub returns-in_err-mark-clause-laid : goal.returns-in_err-mark-clause-laid
returns-in_err-mark-clause-laid c = laid_later c.args.names.now c.result_name.new.names c.is_table.ensures c.in_ok-to.ensures.grows (layout_in c.args.known.now) c.args.layouts.now c.requires.laid

pub resulting-requires-clause-types : goal.resulting-requires-clause-types
resulting-requires-clause-types c = types_kept c.args.names.now c.result_name.new.names c.args.known.now c.requires.types c.in_ok-to.ensures.grows

pub resulting-requires-clause-laid : goal.resulting-requires-clause-laid
resulting-requires-clause-laid c = laid_later c.args.names.now c.result_name.new.names c.is_table.ensures c.in_ok-to.ensures.grows (layout_in c.args.known.now) c.args.layouts.now c.requires.laid

pub returns-clause-result : goal.returns-clause-result
returns-clause-result c =
    results_new c.resulting.new.names c.args.defined.now c.in_ok-to.to c.resulting.result c.resulting.ensures.result
    (new_later c.result_name.new.names c.resulting.new.names c.args.defined.now c.in_ok-to.to c.resulting.ensures.grows c.in_ok-to.ensures.is_new)

pub returns-clause-reads : goal.returns-clause-reads
returns-clause-reads c = λ later grows. rw (c.in_ok-to.ensures.reads later (grows_then _ _ _ c.resulting.ensures.grows grows), c.in_ok-mark.ensures.reads) (c.resulting.ensures.reads later grows)
