use Rattle.std.proofs.Common.{◌++◌}
use Rattle.std.specs.Prelude.{codes, option_map}
use Rattle.ir_tree.specs.Naming.{name_at, type_at}
use Rattle.ir_tree.specs.Shown.{shown, shown_argument}
use Rattle.ir_printer.specs.Instructions.{assigned, typed, count_pieces, instruction_pieces}
use Rattle.ir_printer.proofs.Spelled.{put_then, put_last}
use Rattle.ir_printer.proofs.instructions.put_alloca.Goals as goal

pub returns : goal.returns
unfolding instruction_pieces shown
returns c =
    put_last c.put_count.result c.args.to.now c.put_typed.new.to c.put_count.new.to (assigned (name_at c.args.names.now c.args.name) (codes "alloca") ++ (typed (type_at c.args.names.now c.args.of))) (count_pieces (option_map (shown_argument c.args.names.now) c.args.count))
    (put_then c.args.to.now c.put_assigned.new.to c.put_typed.new.to (assigned (name_at c.args.names.now c.args.name) (codes "alloca")) (typed (type_at c.args.names.now c.args.of)) (c.in_ok-put_assigned.ensures) c.in_ok-put_typed.ensures) c.put_count.ensures
