use Rattle.ir_text.specs.Named.{layout_in}
use Rattle.ir_text.proofs.LaidOut.{laid_later}
use Rattle.ir_instr.proofs.memory.alloca.Goals as goal

pub returns-in_err-count-clause-laid : goal.returns-in_err-count-clause-laid
returns-in_err-count-clause-laid c =
    laid_later c.read_memory_type.new.names c.count.new.names c.is_table.ensures c.in_err-count.ensures.grows (layout_in c.args.known.now) c.read_memory_type.new.layouts c.in_ok-of.ensures.laid

pub returns-clause-laid : goal.returns-clause-laid
returns-clause-laid c =
    laid_later c.read_memory_type.new.names c.count.new.names c.is_table.ensures c.in_ok-count.ensures.grows (layout_in c.args.known.now) c.read_memory_type.new.layouts c.in_ok-of.ensures.laid
