use Rattle.std.proofs.Common.{take, get_or, length-set}
use Rattle.std.proofs.lemmas.List.{take_more}
use Rattle.ir_tree.specs.declared.items.NamedType.{NamedType}
use Rattle.ir_tree.proofs.Bodies.{bodies_set, bodies_kept, read_none, read_some}
use Rattle.ir_tree.proofs.layouts.bodies.Goals as goal
use Rattle.ir_tree.proofs.layouts.bodies.Goals.{then-is_none, else-is_none}

pub loop-named-preserved : goal.loop-named-preserved
loop-named-preserved c =
    let i = c.loop-named.named-index in
    let types = c.args.types.now in
    let n : NamedType _ _ = get_or types i (record { name = 0; of = 0 }) in
    let before = take i types in
    let more = take_more types i (record { name = 0; of = 0 }) c.loop-named-test.true in
    let lt = c.requires i (record { name = 0; of = 0 }) c.loop-named-test.true in
    let len = c.loop-named.invariant.len in
    let each = c.loop-named.invariant.each in
    elim c.if-is_none.branch [
      | then-is_none w ↦
          let none = read_none c.loop-named.bodies n.name c.at.result.now c.is_none.result c.at.ensures c.is_none.ensures w.if-is_none.true in
          record {
            len = rw (w.bodies-is, w.set.ensures, length-set) len;
            each = rw (w.bodies-is, w.set.ensures, more) (bodies_set before n c.loop-named.bodies c.args.names len each lt none);
          }
      | else-is_none w ↦
          let some = read_some c.loop-named.bodies n.name c.at.result.now c.is_none.result c.at.ensures c.is_none.ensures w.if-is_none.false in
          record {
            len = rw w.bodies-is len;
            each = rw (w.bodies-is, more) (bodies_kept before n c.loop-named.bodies c.args.names some.0 each some.1);
          }
    ]
