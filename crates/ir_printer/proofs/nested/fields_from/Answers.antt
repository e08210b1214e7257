use Rattle.std.proofs.Common.{refl, ◌+◌, ◌++◌, slice_get, arith, ◌≤◌, length}
use Rattle.std.specs.Prelude.{nat_lt}
use Rattle.ir_tree.specs.Naming.{type_at}
use Rattle.ir_printer.specs.Operands.{type_pieces}
use Rattle.ir_printer.specs.Nesting.{lead, fields_rest}
use Rattle.ir_printer.proofs.Stacks.{put_none, at_table, as_pieces}
use Rattle.ir_printer.proofs.Bracketing.{fields_next, fields_end}
use Rattle.ir_printer.proofs.nested.fields_from.Goals as goal

pub returns-then-from-len : goal.returns-then-from-len
returns-then-from-len c =
    at_table c.args.names.now c.args.to.now c.next_field.new.to c.args.stack.now c.next_field.new.stack
    (λ t. lead (nat_lt 0 c.args.from) ++ type_pieces (type_at t c.at.result.now) ++ fields_rest t (slice_get t.types c.args.of) (c.args.from + 1)) _ c.next_field.result
    (fields_next c.args.names.now c.args.of c.args.from c.in-Struct.packed c.in-Struct.fields c.at.result.now (rw c.in-Struct.is at c.requires) c.at.ensures)
    c.next_field.ensures

pub returns-else-from-len : goal.returns-else-from-len
returns-else-from-len c =
    let past : length c.in-Struct.fields ≤ c.args.from = omega arith in
    as_pieces c.args.names.now c.args.to.now c.end_fields.new.to c.args.stack.now c.args.stack.now _ _ c.end_fields.result
    (fields_end c.args.names.now c.args.of c.args.from c.in-Struct.packed c.in-Struct.fields (rw c.in-Struct.is at c.requires) past)
    (put_none c.args.names.now c.args.to.now c.end_fields.new.to _ c.args.stack.now _ c.end_fields.result c.end_fields.ensures refl)
