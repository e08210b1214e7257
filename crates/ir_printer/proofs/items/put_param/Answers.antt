use Rattle.std.specs.Prelude.{option_map}
use Rattle.ir_tree.specs.Naming.{name_at, type_at}
use Rattle.ir_printer.specs.Operands.{type_pieces}
use Rattle.ir_printer.specs.Items.{param_name}
use Rattle.ir_printer.proofs.Spelled.{put_last}
use Rattle.ir_printer.proofs.items.put_param.Goals as goal

pub returns : goal.returns
returns c =
    put_last c.put_param_name.result c.args.to.now c.put_type.new.to c.put_param_name.new.to (type_pieces (type_at c.args.names.now c.args.param.of)) (param_name (option_map (name_at c.args.names.now) c.args.param.name))
    (c.in_ok-put_type.ensures) c.put_param_name.ensures
