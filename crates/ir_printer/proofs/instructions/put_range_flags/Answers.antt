use Rattle.std.specs.Prelude.{codes}
use Rattle.ir_printer.specs.Instructions.{flag}
use Rattle.ir_printer.proofs.Spelled.{put_last}
use Rattle.ir_printer.proofs.instructions.put_range_flags.Goals as goal

pub returns : goal.returns
returns c =
    put_last c.put_flag-2.result c.args.to.now c.put_flag.new.to c.put_flag-2.new.to (flag c.args.flags.nuw (codes "nuw")) (flag c.args.flags.nsw (codes "nsw"))
    (c.in_ok-put_flag.ensures) c.put_flag-2.ensures
