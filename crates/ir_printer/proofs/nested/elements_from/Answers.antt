use Rattle.std.proofs.Common.{refl, ◌≤◌, ◌+◌, ◌++◌, ◌∷◌, length, slice_get, arith}
use Rattle.std.specs.Prelude.{nat_lt, true}
use Rattle.ir_tree.specs.Naming.{type_at}
use Rattle.ir_printer.specs.Pieces.{Blank}
use Rattle.ir_printer.specs.Operands.{type_pieces, constant_pieces}
use Rattle.ir_printer.specs.Nesting.{lead, constant_below, elements_rest}
use Rattle.ir_printer.proofs.Stacks.{put_none, at_table, as_pieces}
use Rattle.ir_printer.proofs.Bracketing.{array_next, array_end, struct_next, struct_end, index_next, index_end}
use Rattle.ir_printer.proofs.nested.elements_from.Goals as goal

pub returns-then-from-len : goal.returns-then-from-len
returns-then-from-len c =
    at_table c.args.names.now c.args.to.now c.next_element.new.to c.args.stack.now c.next_element.new.stack
    (λ t. lead (nat_lt 0 c.args.from) ++ (type_pieces (type_at t c.at.result.now.of) ++ Blank ∷ constant_pieces (constant_below t c.args.of c.at.result.now.value)) ++ elements_rest t c.args.of (slice_get t.constants c.args.of) (c.args.from + 1)) _ c.next_element.result
    (array_next c.args.names.now c.args.of c.args.from c.in-Array.elements c.at.result.now (rw c.in-Array.is at c.requires) c.at.ensures)
    c.next_element.ensures

pub returns-else-from-len : goal.returns-else-from-len
returns-else-from-len c =
    let past : length c.in-Array.elements ≤ c.args.from = omega arith in
    as_pieces c.args.names.now c.args.to.now c.end_array.new.to c.args.stack.now c.args.stack.now _ _ c.end_array.result
    (array_end c.args.names.now c.args.of c.args.from c.in-Array.elements (rw c.in-Array.is at c.requires) past)
    (put_none c.args.names.now c.args.to.now c.end_array.new.to _ c.args.stack.now _ c.end_array.result c.end_array.ensures refl)

pub returns-then-from-len-2 : goal.returns-then-from-len-2
returns-then-from-len-2 c =
    at_table c.args.names.now c.args.to.now c.next_element-then-from-len-2.new.to c.args.stack.now c.next_element-then-from-len-2.new.stack
    (λ t. lead (nat_lt 0 c.args.from) ++ (type_pieces (type_at t c.at-then-from-len-2.result.now.of) ++ Blank ∷ constant_pieces (constant_below t c.args.of c.at-then-from-len-2.result.now.value)) ++ elements_rest t c.args.of (slice_get t.constants c.args.of) (c.args.from + 1)) _ c.next_element-then-from-len-2.result
    (struct_next c.args.names.now c.args.of c.args.from c.in-Struct.packed c.in-Struct.fields c.at-then-from-len-2.result.now (rw c.in-Struct.is at c.requires) c.at-then-from-len-2.ensures)
    c.next_element-then-from-len-2.ensures

pub returns-else-from-len-2 : goal.returns-else-from-len-2
returns-else-from-len-2 c =
    let past : length c.in-Struct.fields ≤ c.args.from = omega arith in
    as_pieces c.args.names.now c.args.to.now c.end_fields.new.to c.args.stack.now c.args.stack.now _ _ c.end_fields.result
    (struct_end c.args.names.now c.args.of c.args.from c.in-Struct.packed c.in-Struct.fields (rw c.in-Struct.is at c.requires) past)
    (put_none c.args.names.now c.args.to.now c.end_fields.new.to _ c.args.stack.now _ c.end_fields.result c.end_fields.ensures refl)

pub returns-then-from-len-3 : goal.returns-then-from-len-3
returns-then-from-len-3 c =
    at_table c.args.names.now c.args.to.now c.next_element-then-from-len-3.new.to c.args.stack.now c.next_element-then-from-len-3.new.stack
    (λ t. lead true ++ (type_pieces (type_at t c.at-then-from-len-3.result.now.of) ++ Blank ∷ constant_pieces (constant_below t c.args.of c.at-then-from-len-3.result.now.value)) ++ elements_rest t c.args.of (slice_get t.constants c.args.of) (c.args.from + 1)) _ c.next_element-then-from-len-3.result
    (index_next c.args.names.now c.args.of c.args.from c.in-Address.of c.in-Address.base c.in-Address.indices c.at-then-from-len-3.result.now (rw c.in-Address.is at c.requires) c.at-then-from-len-3.ensures)
    c.next_element-then-from-len-3.ensures

pub returns-else-from-len-3 : goal.returns-else-from-len-3
returns-else-from-len-3 c =
    let past : length c.in-Address.indices ≤ c.args.from = omega arith in
    as_pieces c.args.names.now c.args.to.now c.append.new.self c.args.stack.now c.args.stack.now _ _ c.append.result
    (index_end c.args.names.now c.args.of c.args.from c.in-Address.of c.in-Address.base c.in-Address.indices (rw c.in-Address.is at c.requires) past)
    (put_none c.args.names.now c.args.to.now c.append.new.self _ c.args.stack.now _ c.append.result c.append.ensures.ok refl)
