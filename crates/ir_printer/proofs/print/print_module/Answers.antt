use Rattle.std.proofs.Common.{◌++◌, [], map}
use Rattle.ir_tree.specs.Shown.{shown_named, shown_global, shown_function}
use Rattle.ir_printer.specs.Pieces.{joined}
use Rattle.ir_printer.specs.Items.{named_pieces, global_pieces, function_pieces}
use Rattle.ir_printer.proofs.Spelled.{put_then}
use Rattle.ir_printer.proofs.print.print_module.Goals as goal

pub returns : goal.returns
returns c =
    put_then [] c.put_globals.new.to c.put_functions.new.to (joined (map named_pieces (map (shown_named c.args.module.now.names) c.args.module.now.types)) ++ joined (map global_pieces (map (shown_global c.args.module.now.names) c.args.module.now.globals))) (joined (map function_pieces (map (shown_function c.args.module.now.names) c.args.module.now.functions)))
    (put_then [] c.put_types.new.to c.put_globals.new.to (joined (map named_pieces (map (shown_named c.args.module.now.names) c.args.module.now.types))) (joined (map global_pieces (map (shown_global c.args.module.now.names) c.args.module.now.globals))) (rw (c.names.ensures, c.types.ensures, c.new-text.ensures) at c.in_ok-put_types.ensures) (rw (c.names-2.ensures, c.globals.ensures) at c.in_ok-put_globals.ensures))
    (rw (c.names-3.ensures, c.functions.ensures) at c.in_ok-put_functions.ensures)
