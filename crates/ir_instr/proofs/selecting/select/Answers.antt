use Rattle.std.proofs.Common.{refl}
use Rattle.ir_tree.specs.Naming.{Grows}
use Rattle.ir_tree.specs.Shown.{shown}
use Rattle.ir_tree.proofs.Showing.{grows_then}
use Rattle.ir_instr.proofs.selecting.select.Goals as goal

pub returns-clause-reads : goal.returns-clause-reads
unfolding shown
returns-clause-reads c = λ later grows.
    let g3 : Grows c.typed_operand-3.new.names later = grows_then _ _ _ c.number.ensures.grows grows in
    let g2 : Grows c.typed_operand-2.new.names later = grows_then _ _ _ c.typed_operand-3.ensures.grows g3 in
    let g1 : Grows c.typed_operand.new.names later = grows_then _ _ _ c.typed_operand-2.ensures.grows g2 in
    rw (c.in_ok-fixed_type.ensures.reads, c.in_ok-condition.ensures.reads later g1, c.in_ok-mark.ensures.reads, c.in_ok-scalar.ensures.reads, c.in_ok-on_true.ensures.reads later g2, c.in_ok-mark-2.ensures.reads, c.in_ok-fixed_type-2.ensures.reads, c.in_ok-on_false.ensures.reads later g3, c.in_ok-of.ensures.shows later grows) refl
