use Rattle.std.proofs.Common.{refl, [], ◌∷◌}
use Rattle.std.specs.Prelude.{codes}
use Rattle.std.proofs.lemmas.Result.{on_ok_weaker}
use Rattle.ir_tree.specs.Trees.{ArrayV}
use Rattle.ir_tree.specs.Naming.{name_at, type_at}
use Rattle.ir_printer.specs.Pieces.{Local, bytes_of}
use Rattle.ir_printer.specs.Operands.{type_pieces}
use Rattle.ir_printer.proofs.Stacks.{put_none, at_table}
use Rattle.ir_printer.proofs.Bracketing.{struct_begun}
use Rattle.ir_printer.proofs.nested.begin_type.Goals as goal

pub returns-in-Int : goal.returns-in-Int
unfolding type_pieces
returns-in-Int c = put_none c.args.names.now c.args.to.now c.put_width.new.to _ c.args.stack.now _ c.put_width.result c.put_width.ensures (rw c.in-Int.is refl)

pub returns-in-Ptr : goal.returns-in-Ptr
unfolding type_pieces
returns-in-Ptr c = put_none c.args.names.now c.args.to.now c.append.new.self (codes "ptr") c.args.stack.now _ c.append.result c.append.ensures.ok (rw c.in-Ptr.is refl)

pub returns-in-Void : goal.returns-in-Void
unfolding type_pieces
returns-in-Void c = put_none c.args.names.now c.args.to.now c.append-in-Void.new.self (codes "void") c.args.stack.now _ c.append-in-Void.result c.append-in-Void.ensures.ok (rw c.in-Void.is refl)

pub returns-in-Array : goal.returns-in-Array
returns-in-Array c =
    at_table c.args.names.now c.args.to.now c.begin_array.new.to c.args.stack.now c.begin_array.new.stack (λ t. type_pieces (ArrayV c.in-Array.count (type_at t c.in-Array.of))) _ c.begin_array.result
    (rw c.in-Array.is refl) c.begin_array.ensures

pub returns-in_ok-put_opening-in-Struct : goal.returns-in_ok-put_opening-in-Struct
returns-in_ok-put_opening-in-Struct c =
    rw c.in-Struct.is
    (on_ok_weaker c.push.result (λ last. struct_begun c.args.names.now c.args.to.now c.put_opening.new.to c.args.stack.now c.push.new.self c.args.of c.in-Struct.packed c.in-Struct.fields
    (rw c.in-Struct.is at c.requires) c.in_ok-put_opening-in-Struct.ensures last) c.push.ensures.ok)

pub returns-in-Named : goal.returns-in-Named
unfolding type_pieces
returns-in-Named c =
    put_none c.args.names.now c.args.to.now c.put_local.new.to (bytes_of (Local (name_at c.args.names.now c.in-Named.name) ∷ [])) c.args.stack.now _ c.put_local.result c.put_local.ensures
    (rw c.in-Named.is refl)
