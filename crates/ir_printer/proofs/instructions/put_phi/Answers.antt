use Rattle.std.proofs.Common.{◌++◌, ◌∷◌, [], map}
use Rattle.std.specs.Prelude.{codes}
use Rattle.ir_tree.specs.Naming.{name_at, type_at}
use Rattle.ir_tree.specs.Shown.{shown, shown_arm}
use Rattle.ir_printer.specs.Pieces.{Blank, separated}
use Rattle.ir_printer.specs.Instructions.{assigned, typed, arm_pieces, instruction_pieces}
use Rattle.ir_printer.proofs.Spelled.{put_then, put_last}
use Rattle.ir_printer.proofs.instructions.put_phi.Goals as goal

pub returns : goal.returns
unfolding instruction_pieces shown
returns c =
    put_last c.put_arms.result c.args.to.now c.append.new.self c.put_arms.new.to (assigned (name_at c.args.names.now c.args.name) (codes "phi") ++ (typed (type_at c.args.names.now c.args.of)) ++ (Blank ∷ [])) (separated (map arm_pieces (map (shown_arm c.args.names.now) c.args.arms.now)))
    (put_then c.args.to.now c.put_typed.new.to c.append.new.self (assigned (name_at c.args.names.now c.args.name) (codes "phi") ++ (typed (type_at c.args.names.now c.args.of))) (Blank ∷ []) (put_then c.args.to.now c.put_assigned.new.to c.put_typed.new.to (assigned (name_at c.args.names.now c.args.name) (codes "phi")) (typed (type_at c.args.names.now c.args.of)) (c.in_ok-put_assigned.ensures) c.in_ok-put_typed.ensures) c.in_ok-append.ensures.ok) c.put_arms.ensures
