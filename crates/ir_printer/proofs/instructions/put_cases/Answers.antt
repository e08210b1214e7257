use Rattle.std.proofs.Common.{◌++◌, map, refl}
use Rattle.ir_tree.specs.Naming.{type_at}
use Rattle.ir_tree.specs.Shown.{shown_case}
use Rattle.ir_printer.specs.Pieces.{bytes_of, joined}
use Rattle.ir_printer.specs.Instructions.{case_pieces}
use Rattle.ir_printer.proofs.Spelled.{joined_step}
use Rattle.ir_printer.proofs.instructions.put_cases.Goals as goal

pub loop-case-preserved : goal.loop-case-preserved
loop-case-preserved c =
    joined_step (case_pieces (type_at c.args.names.now c.args.of)) (shown_case c.args.names.now) c.args.cases.now c.loop-case.case-index _ _ c.loop-case.to c.put_case.new.to
    (c.args.to.now ++ bytes_of (joined (map (case_pieces (type_at c.args.names.now c.args.of)) (map (shown_case c.args.names.now) c.args.cases.now)))) c.loop-case-test.true refl c.in_ok-put_case.ensures c.loop-case.invariant
