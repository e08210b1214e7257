use Rattle.std.specs.Option.{option_copied}
use Rattle.ir_checker.proofs.IndexLemmas.{function_none, function_some}
use Rattle.ir_checker.proofs.index.function_named.Goals as goal

pub returns-in-Some : goal.returns-in-Some
returns-in-Some c =
    function_some c.args.tree.now c.args.index.now c.requires c.args.name c.in-Some.place (option_copied c.function_at.result)
    (rw (c.key_of.ensures, c.names.ensures) at c.in-Some.ensures) (rw c.functions.ensures at c.function_at.ensures)

pub returns-in-None : goal.returns-in-None
returns-in-None c = function_none c.args.tree.now c.args.index.now c.requires c.args.name (rw (c.key_of.ensures, c.names.ensures) at c.in-None.ensures)
