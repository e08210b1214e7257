use Rattle.std.proofs.Common.{sym, ◌∙◌}
use Rattle.ir_rules.proofs.EdgeLemmas.{spares_is}
use Rattle.ir_rules.proofs.edges.spares_entry.Goals as goal

pub returns : goal.returns
returns c =
    c.none_is_entry.ensures
    ∙ (rw (c.as_slice.ensures, c.as_slice-2.ensures, c.in_ok-labels.ensures) (sym (spares_is c.args.names.now c.args.function.now c.args.instruction.now)))
