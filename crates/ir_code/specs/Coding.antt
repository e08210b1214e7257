-- A module with its names resolved.
use Rattle.std.specs.Prelude.{ℕ, map, Bool, false, Option, Some, None, option_map, option_and_then, slice_get, position, length, codes, if◌then◌else◌}
use Rattle.std.specs.List.{flat_map, range_with_len}
use Rattle.std.specs.Str.{bytes_eq}
use Rattle.pv_base.specs.Outside.{Text}
use Rattle.pv_base.specs.declared.name.Name.{Name}
use Rattle.pv_base.specs.declared.name.Name.TheVariants.{Named, Numbered}
use Rattle.ir_tree.specs.declared.items.Function.{Function}
use Rattle.ir_tree.specs.Table.{Table}
use Rattle.ir_tree.specs.Modules.{Items, layout_in}
use Rattle.ir_tree.specs.Trees.{PtrV, ConstantV, IntegerC, NullC, ZeroC, TextC, ArrayC, StructC, NameC, AddressC}
use Rattle.ir_tree.specs.Naming.{name_at, constant_at}
use Rattle.ir_code.specs.declared.op.Scalar.{Scalar}
use Rattle.ir_code.specs.declared.code.FunctionCode.{FunctionCode}
use Rattle.ir_code.specs.declared.code.Code.{Code}
use Rattle.ir_code.specs.declared.lookups.Constant.{Constant}
use Rattle.ir_code.specs.declared.lookups.Constant.TheVariants as constant
use Rattle.ir_code.specs.Fixed.{fixed_of}
use Rattle.ir_code.specs.Tables.{Tables, scalar_of, scalar_at, scalar_or_pointer, linkage_of, external_of}
use Rattle.ir_code.specs.Blocks.{Scope, registers_of, joins_of, edges_of, blocks_from}

-- a constant: only the value of `zeroinitializer` rests on its type, so that each other is taken at `ptr`
abbrev pub constant_of : Items → ConstantV → Option Constant
constant_of m (IntegerC n) = option_map constant.Is (fixed_of m PtrV (IntegerC n))
constant_of m NullC = option_map constant.Is (fixed_of m PtrV NullC)
constant_of m ZeroC = Some constant.Zero
constant_of m (TextC bytes) = None
constant_of m (ArrayC elements) = None
constant_of m (StructC packed elements) = None
constant_of m (NameC name) = option_map constant.Is (fixed_of m PtrV (NameC name))
constant_of m (AddressC of base indices) = option_map constant.Is (fixed_of m PtrV (AddressC of base indices))

-- the constant of a number
abbrev pub constant_in : Items → ℕ → Option Constant
constant_in m k = constant_of m (constant_at m.names k)

-- the type of a number, where a register may have it
abbrev pub scalar_in : Table → ℕ → Option Scalar
scalar_in t of = option_and_then scalar_of (slice_get t.types of)

-- the size of the type of a number
abbrev pub size_in : Items → ℕ → Option ℕ
size_in m of = option_map (λ l. l.size) (layout_in m of)

-- what is found once of a module
abbrev pub tables_of : Items → Tables
tables_of m = record {
  scalars = map (scalar_in m.names) (range_with_len 0 (length m.names.types));
  sizes = map (size_in m) (range_with_len 0 (length m.names.types));
  constants = map (constant_in m) (range_with_len 0 (length m.names.constants));
  functions = map (λ f. Some f.name) m.functions;
  linkages = map (linkage_of m.names) m.functions;
}

-- what the blocks of a function are resolved in
abbrev pub scope_of : Tables → Function ℕ ℕ ℕ → Scope
scope_of t f = record {
  registers = map (λ r. r.name) (registers_of t f);
  labels = map (λ b. Some b.label) f.blocks;
  joins = map (λ b. joins_of b.instructions) f.blocks;
}

-- a function
unfoldable pub function_of : Items → Tables → Function ℕ ℕ ℕ → FunctionCode
function_of m t f =
    let s = scope_of t f in
    record {
      parameters = map (λ p. scalar_or_pointer t p.of) f.params;
      result = scalar_at t f.result;
      registers = map (λ r. r.of) (registers_of t f);
      blocks = blocks_from m t s 0 0 f.blocks;
      edges = flat_map (edges_of t s) f.blocks;
      external = external_of (linkage_of m.names f);
      declared = f.declared;
    }

-- the name is spelled by these bytes
abbrev pub is_named : Text → Name → Bool
is_named bytes (Named own) = bytes_eq own bytes
is_named bytes (Numbered n) = false

-- a definition of `main`
abbrev pub is_main : Table → Function ℕ ℕ ℕ → Bool
is_main t f = if f.declared then false else is_named (codes "main") (name_at t f.name)

-- a module with its names resolved: its functions in text order, and the first definition of `main`
unfoldable pub code_of : Items → Code
code_of m = record {
  functions = map (function_of m (tables_of m)) m.functions;
  main = position (is_main m.names) m.functions;
}
