use Rattle.ir_tree.specs.Shown.{shown_param}
use Rattle.ir_printer.specs.Pieces.{comma}
use Rattle.ir_printer.specs.Items.{param_pieces}
use Rattle.ir_printer.proofs.Spelled.{put_last}
use Rattle.ir_printer.proofs.items.put_next_param.Goals as goal

pub returns : goal.returns
returns c =
    put_last c.put_param.result c.args.to.now c.append.new.self c.put_param.new.to (comma) (param_pieces (shown_param c.args.names.now c.args.param))
    (c.in_ok-append.ensures.ok) c.put_param.ensures
