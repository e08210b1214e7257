use Rattle.std.proofs.Common.{sym}
use Rattle.ir_rules.proofs.TypeLemmas.{type_read, type_none}
use Rattle.ir_rules.proofs.types.head_of.Goals as goal

pub returns-in-Some-Int : goal.returns-in-Some-Int
returns-in-Some-Int c = type_read c.args.names.now c.args.of _ _ c.is_table.ensures c.in-Some-Int.ensures c.in-Some-Int.field-0-is

pub returns-in-Some-Ptr : goal.returns-in-Some-Ptr
returns-in-Some-Ptr c = type_read c.args.names.now c.args.of _ _ c.is_table.ensures c.in-Some-Ptr.ensures c.in-Some-Ptr.field-0-is

pub returns-in-Some-Void : goal.returns-in-Some-Void
returns-in-Some-Void c = type_read c.args.names.now c.args.of _ _ c.is_table.ensures c.in-Some-Void.ensures c.in-Some-Void.field-0-is

pub returns-in-Some-Array : goal.returns-in-Some-Array
returns-in-Some-Array c = type_read c.args.names.now c.args.of _ _ c.is_table.ensures c.in-Some-Array.ensures c.in-Some-Array.field-0-is

pub returns-in-Some-Named : goal.returns-in-Some-Named
returns-in-Some-Named c = type_read c.args.names.now c.args.of _ _ c.is_table.ensures c.in-Some-Named.ensures c.in-Some-Named.field-0-is

pub returns-in-Some-Struct : goal.returns-in-Some-Struct
returns-in-Some-Struct c = rw c.as_slice.ensures (type_read c.args.names.now c.args.of _ _ c.is_table.ensures c.in-Some-Struct.ensures c.in-Some-Struct.field-0-is)

pub returns-in-None : goal.returns-in-None
returns-in-None c = type_none c.args.names.now c.args.of (sym c.in-None.ensures)
