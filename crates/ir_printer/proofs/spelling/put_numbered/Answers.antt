use Rattle.ir_printer.specs.Pieces.{name_text}
use Rattle.ir_printer.proofs.Spelled.{name_past}
use Rattle.ir_printer.proofs.spelling.put_numbered.Goals as goal

pub returns-in-None : goal.returns-in-None
unfolding name_text
returns-in-None c = rw (name_past c.args.names.now.names c.args.name c.in-None.ensures) c.put_decimal.ensures
