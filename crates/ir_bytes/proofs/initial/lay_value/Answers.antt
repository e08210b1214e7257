use Rattle.std.proofs.Common.{sym, Result, Ok, Err, reverse}
use Rattle.std.specs.Prelude.{OnOk}
use Rattle.ir_bytes.proofs.Advancing.{lays_advances, past_advances}
use Rattle.ir_bytes.proofs.initial.lay_value.Goals as goal

-- what holds of an outcome that went well
then_ok : {T E : Type 0} (P Q : Type 0) → (P → Q) → (r : Result T E) → OnOk r P → OnOk r Q
then_ok P Q f (Ok t) h = f h
then_ok P Q f (Err e) h = tt

pub returns-in-Some : goal.returns-in-Some
returns-in-Some c =
    let m = c.args.tree.now in
    let table = rw c.names-names.ensures at c.is_table.ensures in
    let known = rw c.names-names.ensures at (sym c.in-Some.ensures) in
    then_ok _ _
    (lays_advances m c.args.next c.in-Some.node.now c.at-value.result c.args.bytes.now c.lay_node.new.bytes (reverse c.args.work.now) (reverse c.lay_node.new.work) table known c.at-value.ensures)
    c.lay_node.result c.lay_node.ensures

pub returns-in-None : goal.returns-in-None
returns-in-None c =
    let known = rw c.names-names.ensures at (sym c.in-None.ensures) in
    then_ok _ _ (past_advances c.args.tree.now c.args.next c.at-value.result c.args.bytes.now c.push_scalar.new.bytes (reverse c.args.work.now) known c.at-value.ensures) c.push_scalar.result c.push_scalar.ensures
