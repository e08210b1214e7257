use Rattle.std.proofs.Common.{get_or, false}
use Rattle.std.proofs.lemmas.List.Elements.{All-from_recursion}
use Rattle.ir_tree.specs.declared.items.Global.{Global as Variable}
use Rattle.ir_tree.specs.Naming.{type_at, constant_at}
use Rattle.pv_base.specs.Limits.{live_limit}
use Rattle.mem_image.specs.Picture.{PartFits}
use Rattle.ir_bytes.specs.Initial.{bytes_at}
use Rattle.ir_bytes.proofs.Globals.{bytes_parts, next_picture, room}
use Rattle.ir_bytes.proofs.image.first_image.Goals as goal

pub push-requires-clause-room : goal.push-requires-clause-room
push-requires-clause-room c =
    let m = c.args.tree.now in
    let none : Variable _ _ _ = record { name = 0; of = 0; constant = false; init = 0 } in
    rw (c.loop-number.invariant, c.in_ok-bytes.ensures, c.globals-globals.ensures)
    (room m m.globals c.loop-number.number live_limit none (rw c.globals-globals.ensures at c.loop-number-test.true) c.requires.fit.live)

pub push-requires-clause-parts : goal.push-requires-clause-parts
push-requires-clause-parts c =
    let m = c.args.tree.now in
    let none : Variable _ _ _ = record { name = 0; of = 0; constant = false; init = 0 } in
    let g = get_or c.globals-globals.result.now c.loop-number.number none in
    rw c.in_ok-bytes.ensures (All-from_recursion PartFits (bytes_at m g.of g.init) (bytes_parts m (type_at m.names g.of) (constant_at m.names g.init)))

pub loop-number-preserved : goal.loop-number-preserved
loop-number-preserved c =
    let m = c.args.tree.now in
    let none : Variable _ _ _ = record { name = 0; of = 0; constant = false; init = 0 } in
    rw (c.in_ok-push.ensures.ok, c.loop-number.invariant, c.in_ok-bytes.ensures)
    (next_picture m c.globals-globals.result.now c.loop-number.number none c.loop-number-test.true)
