use Rattle.std.proofs.Common.{sym}
use Rattle.ir_code.proofs.Going.{field_found, field_none}
use Rattle.ir_code.proofs.strides.field.Goals as goal

pub returns-in-Some : goal.returns-in-Some
returns-in-Some c =
    field_found c.args.tree.now c.args.of c.args.fields.now c.args.value c.in_ok-number.number c.in_ok-offset.offset c.in-Some.into
    (sym c.in_ok-number.ensures) (sym c.in_ok-offset.ensures) (sym c.in-Some.ensures)

pub returns-in-None : goal.returns-in-None
returns-in-None c =
    field_none c.args.tree.now c.args.of c.args.fields.now c.args.value c.in_ok-number.number c.in_ok-offset.offset
    (sym c.in_ok-number.ensures) (sym c.in_ok-offset.ensures) (sym c.in-None.ensures)
