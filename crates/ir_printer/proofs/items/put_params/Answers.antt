use Rattle.ir_tree.specs.Shown.{shown_param}
use Rattle.ir_printer.specs.Items.{param_pieces, variadic_param}
use Rattle.ir_printer.proofs.Spelled.{separated_more}
use Rattle.ir_printer.proofs.items.put_params.Goals as goal

pub returns-in_ok-put_next_params-in-len1-up : goal.returns-in_ok-put_next_params-in-len1-up
returns-in_ok-put_next_params-in-len1-up c =
    separated_more param_pieces (shown_param c.args.names.now) c.args.params.now _ (variadic_param c.args.variadic) c.put_next_dots.result c.args.to.now c.put_param.new.to c.put_next_params.new.to c.put_next_dots.new.to c.in-len1-up.len_at_least
    c.in_ok-put_param-in-len1-up.ensures c.in_ok-put_next_params-in-len1-up.ensures c.put_next_dots.ensures
