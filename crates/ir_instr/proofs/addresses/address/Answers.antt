use Rattle.ir_tree.proofs.Showing.{grows_then}
use Rattle.ir_text.specs.Named.{layout_in}
use Rattle.ir_text.proofs.LaidOut.{laid_later}
use Rattle.ir_instr.proofs.addresses.address.Goals as goal

pub returns-in_err-base-clause-laid : goal.returns-in_err-base-clause-laid
returns-in_err-base-clause-laid c =
    laid_later c.read_memory_type.new.names c.pointer.new.names c.is_table.ensures c.in_err-base.ensures.grows (layout_in c.args.known.now) c.read_memory_type.new.layouts c.in_ok-of.ensures.laid

pub returns-in_err-indices-clause-laid : goal.returns-in_err-indices-clause-laid
returns-in_err-indices-clause-laid c =
    laid_later c.read_memory_type.new.names c.indices.new.names c.is_table.ensures (grows_then _ _ _ c.in_ok-base.ensures.grows c.in_err-indices.ensures.grows) (layout_in c.args.known.now) c.read_memory_type.new.layouts c.in_ok-of.ensures.laid

pub returns-clause-laid : goal.returns-clause-laid
returns-clause-laid c =
    laid_later c.read_memory_type.new.names c.indices.new.names c.is_table.ensures (grows_then _ _ _ c.in_ok-base.ensures.grows c.in_ok-indices.ensures.grows) (layout_in c.args.known.now) c.read_memory_type.new.layouts c.in_ok-of.ensures.laid
