use Rattle.std.proofs.Common.{◌++◌}
use Rattle.ir_printer.specs.Nesting.{stacked}
use Rattle.ir_printer.proofs.Stacks.{taken, smaller, taken_all}
use Rattle.ir_printer.proofs.nested.show_all.Goals as goal

pub items-smaller : goal.items-smaller
items-smaller c = smaller c.args.names.now c.items.to c.show_one.new.to c.items.stack c.pop.new.self c.show_one.new.stack c.in-Some.show c.in-Some.ensures c.in_ok-show_one-in-Some.ensures

pub items-preserved : goal.items-preserved
items-preserved c =
    taken c.args.names.now c.items.to c.show_one.new.to (c.args.to.now ++ stacked c.args.names.now c.args.stack.now) c.items.stack c.pop.new.self c.show_one.new.stack c.in-Some.show
    c.in-Some.ensures c.in_ok-show_one-in-Some.ensures c.items.invariant

pub returns-in-None : goal.returns-in-None
returns-in-None c = taken_all c.args.names.now c.items.to (c.args.to.now ++ stacked c.args.names.now c.args.stack.now) c.items.stack c.in-None.ensures.0 c.items.invariant
