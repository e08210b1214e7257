use Rattle.std.proofs.Common.{◌≡◌, Option, sym, subst}
use Rattle.std.specs.Prelude.{IfOk, option_map}
use Rattle.ir_tree.specs.Trees.{TypeV}
use Rattle.ir_tree.specs.Naming.{type_at}
use Rattle.ir_text.specs.Named.{known_of}
use Rattle.ir_text.proofs.IndexLaws.{plain_later, body_later}
use Rattle.ir_text.proofs.indices.body_of.Goals as goal

pub returns-in-None-node_name-clause-is : goal.returns-in-None-node_name-clause-is
returns-in-None-node_name-clause-is c = λ later grows. plain_later (known_of later c.args.known.now) c.args.names.now later c.args.of c.in-Some.node.now c.is_table.ensures (sym c.in-Some.ensures) grows (sym c.in-None-node_name.ensures)

pub returns-in-Some-name-clause-is : goal.returns-in-Some-name-clause-is
returns-in-Some-name-clause-is c = λ later grows.
    let same = body_later (known_of later c.args.known.now) c.args.names.now later c.args.of c.in-Some-node_name.number c.in-Some.node.now c.in-Some-name.name.now c.is_table.ensures (sym c.in-Some.ensures) grows (sym c.in-Some-node_name.ensures) (sym c.in-Some-name.ensures) in
    subst (λ (x : Option TypeV). IfOk c.body_in.result (λ o. option_map (type_at later) o ≡ x)) same (c.body_in.ensures.is later)
