use Rattle.std.proofs.Common.{◌<◌, ◌^◌, length, arith}
use Rattle.ir_tree.specs.Table.{Table}
use Rattle.ir_tree.proofs.Tables.{table_typed, last_of_push, types_grow}
use Rattle.ir_tree.proofs.table.Names.add_type.Goals as goal

pub invariant_of-self-2 : goal.invariant_of-self-2
invariant_of-self-2 c =
    let t : Table = record { names = c.self.inside.names.keys; types = c.self.inside.types; constants = c.self.inside.constants } in
    let room : length c.self.inside.types < 2 ^ 32 = omega (arith, c.len-number.ensures) in
    rw c.in_ok-push.ensures.ok (table_typed t c.args.node c.self.invariant (rw (← c.self.view_is) at c.requires) room)

pub returns-clause-known : goal.returns-clause-known
returns-clause-known c = rw (c.in_ok-push.ensures.ok, c.len-number.ensures) (last_of_push c.self.inside.types c.args.node)

pub returns-clause-grows : goal.returns-clause-grows
returns-clause-grows c =
    let t : Table = record { names = c.self.inside.names.keys; types = c.self.inside.types; constants = c.self.inside.constants } in
    rw (← c.self.view_is) (rw c.in_ok-push.ensures.ok (types_grow t c.args.node))
