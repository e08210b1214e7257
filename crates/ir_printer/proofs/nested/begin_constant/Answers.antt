use Rattle.std.proofs.Common.{refl, [], ◌∷◌, ◌++◌, slice_get}
use Rattle.std.specs.Prelude.{codes}
use Rattle.std.proofs.lemmas.Result.{on_ok_weaker}
use Rattle.ir_tree.specs.Naming.{name_at, type_at}
use Rattle.ir_printer.specs.Pieces.{Global, bytes_of}
use Rattle.ir_printer.specs.Operands.{address_head, pointer_lead, type_pieces, constant_pieces, integer_piece}
use Rattle.ir_printer.specs.Nesting.{constant_below, elements_rest}
use Rattle.ir_printer.proofs.Stacks.{put_none, at_table}
use Rattle.ir_printer.proofs.Bracketing.{array_constant_begun, struct_constant_begun, address_is}
use Rattle.ir_printer.proofs.nested.begin_constant.Goals as goal

pub returns-in-Integer : goal.returns-in-Integer
unfolding constant_pieces
returns-in-Integer c =
    put_none c.args.names.now c.args.to.now c.put_integer.new.to (bytes_of (integer_piece c.in-Integer.value ∷ [])) c.args.stack.now _ c.put_integer.result c.put_integer.ensures
    (rw c.in-Integer.is refl)

pub returns-in-Null : goal.returns-in-Null
unfolding constant_pieces
returns-in-Null c = put_none c.args.names.now c.args.to.now c.append.new.self (codes "null") c.args.stack.now _ c.append.result c.append.ensures.ok (rw c.in-Null.is refl)

pub returns-in-Zero : goal.returns-in-Zero
unfolding constant_pieces
returns-in-Zero c =
    put_none c.args.names.now c.args.to.now c.append-in-Zero.new.self (codes "zeroinitializer") c.args.stack.now _ c.append-in-Zero.result c.append-in-Zero.ensures.ok (rw c.in-Zero.is refl)

pub returns-in-Text : goal.returns-in-Text
returns-in-Text c =
    put_none c.args.names.now c.args.to.now c.put_text.new.to _ c.args.stack.now _ c.put_text.result c.put_text.ensures (rw (c.in-Text.is, c.as_slice.ensures) refl)

pub returns-in_ok-append-in-Array : goal.returns-in_ok-append-in-Array
returns-in_ok-append-in-Array c =
    rw c.in-Array.is
    (on_ok_weaker c.push.result (λ last. array_constant_begun c.args.names.now c.args.to.now c.append-in-Array.new.self c.args.stack.now c.push.new.self c.args.of c.in-Array.field-0
    (rw c.in-Array.is at c.requires) c.in_ok-append-in-Array.ensures.ok last) c.push.ensures.ok)

pub returns-in_ok-put_opening-in-Struct : goal.returns-in_ok-put_opening-in-Struct
returns-in_ok-put_opening-in-Struct c =
    rw c.in-Struct.is
    (on_ok_weaker c.push-in-Struct.result (λ last. struct_constant_begun c.args.names.now c.args.to.now c.put_opening.new.to c.args.stack.now c.push-in-Struct.new.self c.args.of c.in-Struct.packed c.in-Struct.fields
    (rw c.in-Struct.is at c.requires) c.in_ok-put_opening-in-Struct.ensures last) c.push-in-Struct.ensures.ok)

pub returns-in-Name : goal.returns-in-Name
unfolding constant_pieces
returns-in-Name c =
    put_none c.args.names.now c.args.to.now c.put_global.new.to (bytes_of (Global (name_at c.args.names.now c.in-Name.name) ∷ [])) c.args.stack.now _ c.put_global.result c.put_global.ensures
    (rw c.in-Name.is refl)

pub returns-in-Address : goal.returns-in-Address
returns-in-Address c =
    rw c.in-Address.is
    (at_table c.args.names.now c.args.to.now c.begin_address.new.to c.args.stack.now c.begin_address.new.stack
    (λ t. address_head ++ type_pieces (type_at t c.in-Address.typed) ++ pointer_lead ++ constant_pieces (constant_below t c.args.of c.in-Address.base) ++ elements_rest t c.args.of (slice_get t.constants c.args.of) 0) _ c.begin_address.result
    (address_is c.args.names.now c.args.of c.in-Address.typed c.in-Address.base c.in-Address.indices (rw c.in-Address.is at c.requires)) c.begin_address.ensures)
