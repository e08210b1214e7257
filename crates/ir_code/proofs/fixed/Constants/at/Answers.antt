use Rattle.std.proofs.Common.{sym, ap}
use Rattle.std.proofs.lemmas.Option.{slice_get_within}
use Rattle.ir_tree.specs.Naming.{type_at}
use Rattle.ir_code.specs.Fixed.{fixed_of}
use Rattle.ir_tree.proofs.Opened.{constant_past}
use Rattle.ir_code.proofs.Values.{value_right}
use Rattle.ir_code.proofs.fixed.Constants.at.Goals as goal

pub returns-in-Some : goal.returns-in-Some
returns-in-Some c =
    let m = c.args.tree.now in
    let known = rw c.names-names.ensures at (sym c.in-Some.ensures) in
    let lt = slice_get_within m.names.constants c.args.number c.in-Some.field-0.now known in
    let each = rw (← c.self.view_is) at (c.requires.each c.args.number lt) in
    rw (c.value_at.ensures, c.names-names.ensures, c.as_slice.ensures)
    (value_right m c.self.inside.found c.args.of c.args.number (rw c.names-names.ensures at c.is_table.ensures) lt each)

pub returns-in-None : goal.returns-in-None
returns-in-None c =
    let m = c.args.tree.now in
    ap (fixed_of m (type_at m.names c.args.of)) (sym (constant_past m.names c.args.number (rw c.names-names.ensures at (sym c.in-None.ensures))))
