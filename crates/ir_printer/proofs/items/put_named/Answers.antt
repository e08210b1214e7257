use Rattle.std.proofs.Common.{◌++◌, ◌∷◌, []}
use Rattle.std.specs.Prelude.{codes}
use Rattle.ir_tree.specs.Naming.{name_at, type_at}
use Rattle.ir_printer.specs.Pieces.{LineEnd}
use Rattle.ir_printer.specs.Instructions.{assigned, typed}
use Rattle.ir_printer.proofs.Spelled.{put_then, put_last}
use Rattle.ir_printer.proofs.items.put_named.Goals as goal

pub returns : goal.returns
returns c =
    put_last c.append.result c.args.to.now c.put_typed.new.to c.append.new.self (assigned (name_at c.args.names.now c.args.named.name) (codes "type") ++ (typed (type_at c.args.names.now c.args.named.of))) (LineEnd ∷ [])
    (put_then c.args.to.now c.put_assigned.new.to c.put_typed.new.to (assigned (name_at c.args.names.now c.args.named.name) (codes "type")) (typed (type_at c.args.names.now c.args.named.of)) (c.in_ok-put_assigned.ensures) c.in_ok-put_typed.ensures) c.append.ensures.ok
