-- The first bytes of globals fit, and so does the first state of a program.
use Rattle.std.proofs.Common.{ℕ, ◌+◌, Bool, List, [], ◌∷◌, ◌++◌, length, slice_get, Option, Some, None, arith}
use Rattle.std.specs.Prelude.{IfSome, max}
use Rattle.std.specs.List.{AllByRecursion}
use Rattle.ir_tree.specs.declared.items.Global.{Global as Variable}
use Rattle.ir_tree.specs.Trees.{TypeV}
use Rattle.ir_tree.specs.Trees.{ConstantV, IntegerC, NullC, ZeroC, TextC, ArrayC, StructC, NameC, AddressC, ElementsV, NoneC, MoreC}
use Rattle.ir_tree.specs.Naming.{type_at, constant_at}
use Rattle.ir_tree.specs.Modules.{Items}
use Rattle.ir_code.specs.declared.op.Scalar.{Scalar}
use Rattle.ir_code.specs.declared.op.Fixed.{Fixed}
use Rattle.ir_code.specs.declared.op.Fixed.TheVariants as fixed
use Rattle.ir_code.specs.declared.code.FunctionCode.{FunctionCode}
use Rattle.ir_code.specs.declared.code.Code.{Code}
use Rattle.ir_code.specs.Fixed.{fixed_of}
use Rattle.ir_code.specs.Coding.{code_of}
use Rattle.ir_bytes.specs.Initial.{zeros, fixed_bytes, scalar_bytes, size_in, aligned_in, gap, padded, byte_count, bytes_of, array_bytes, struct_bytes, global_objects}
use Rattle.mem_image.specs.declared.object.Byte.{Byte}
use Rattle.mem_image.specs.declared.object.Byte.TheVariants.{Num}
use Rattle.seq_run.specs.First.{main_arguments, main_registers, first_frames}
use Rattle.keeping_laws.specs.Keeping.{ByteFits, ValueFits, RegisterFits, ObjectFits, FrameFits}
use Rattle.keeping_laws.specs.Constants.{FixedFits}
use Rattle.keeping_laws.specs.Modules.{NodesFit}
use Rattle.keeping_laws.specs.Laws.{FirstKeeps}
use Rattle.keeping_laws.proofs.Lists.{by_append, by_replicate, by_map}
use Rattle.keeping_laws.proofs.Numbers.{int32_fits}
use Rattle.keeping_laws.proofs.Accesses.{number_bytes_fit}
use Rattle.keeping_laws.proofs.Flow.{entry_fits}
use Rattle.keeping_laws.proofs.Constants.{ConstantFits, ElementsFit, constant_at_fits, count, fixed_fits}

-- ---- bytes

zeros_fit : (next n : ℕ) → AllByRecursion (ByteFits next) (zeros n)
zeros_fit next n = by_replicate (ByteFits next) n (Num 0) (omega arith)

fixed_bytes_fit : (next : ℕ) (c : Fixed) → FixedFits next c → AllByRecursion (ByteFits next) (fixed_bytes c)
fixed_bytes_fit next (fixed.Int n) h = number_bytes_fit next (byte_count n.width) n.bits
fixed_bytes_fit next fixed.Null h = zeros_fit next 8
fixed_bytes_fit next (fixed.Global i offset) h = (h, (h, (h, (h, (h, (h, (h, (h, tt))))))))
fixed_bytes_fit next (fixed.Function i) h = (tt, (tt, (tt, (tt, (tt, (tt, (tt, (tt, tt))))))))
fixed_bytes_fit next fixed.Nowhere h = zeros_fit next 8

scalar_bytes_fit : (next : ℕ) (c : Option Fixed) → IfSome c (FixedFits next) → AllByRecursion (ByteFits next) (scalar_bytes c)
scalar_bytes_fit next None h = tt
scalar_bytes_fit next (Some c) h = fixed_bytes_fit next c h

padded_fits : (next : ℕ) (bytes : List Byte) (align : ℕ) → AllByRecursion (ByteFits next) bytes → AllByRecursion (ByteFits next) (padded bytes align)
padded_fits next bytes align h = by_append (ByteFits next) bytes (zeros (gap (length bytes) align)) h (zeros_fit next (gap (length bytes) align))

mutual
  bytes_fit : (m : Items) (type : TypeV) (c : ConstantV) → ConstantFits c → AllByRecursion (ByteFits (count m)) (bytes_of m type c)
  bytes_fit m type (IntegerC n) h = scalar_bytes_fit (count m) (fixed_of m type (IntegerC n)) (fixed_fits m type (IntegerC n) h)
  bytes_fit m type NullC h = scalar_bytes_fit (count m) (fixed_of m type NullC) (fixed_fits m type NullC h)
  bytes_fit m type ZeroC h = zeros_fit (count m) (size_in m type)
  bytes_fit m type (TextC text) h = by_map (ByteFits (count m)) Num text h
  bytes_fit m type (ArrayC elements) h = array_fits m elements h
  bytes_fit m type (StructC packed fields) h = struct_fits m packed [] 1 fields tt h
  bytes_fit m type (NameC name) h = scalar_bytes_fit (count m) (fixed_of m type (NameC name)) (fixed_fits m type (NameC name) h)
  bytes_fit m type (AddressC of base indices) h = scalar_bytes_fit (count m) (fixed_of m type (AddressC of base indices)) (fixed_fits m type (AddressC of base indices) h)

  array_fits : (m : Items) (es : ElementsV) → ElementsFit es → AllByRecursion (ByteFits (count m)) (array_bytes m es)
  array_fits m NoneC h = tt
  array_fits m (MoreC type value rest) h = by_append (ByteFits (count m)) (bytes_of m type value) (array_bytes m rest) (bytes_fit m type value h.0) (array_fits m rest h.1)

  struct_fits : (m : Items) (packed : Bool) (so : List Byte) (align : ℕ) (es : ElementsV) → AllByRecursion (ByteFits (count m)) so → ElementsFit es → AllByRecursion (ByteFits (count m)) (struct_bytes m packed so align es)
  struct_fits m packed so align NoneC b h = padded_fits (count m) so align b
  struct_fits m packed so align (MoreC type value rest) b h =
      struct_fits m packed (padded so (aligned_in m packed type) ++ bytes_of m type value) (max align (aligned_in m packed type)) rest
      (by_append (ByteFits (count m)) (padded so (aligned_in m packed type)) (bytes_of m type value) (padded_fits (count m) so (aligned_in m packed type) b) (bytes_fit m type value h.0)) h.1

globals_fit : (m : Items) → NodesFit m → (i : ℕ) (gs : List (Variable ℕ ℕ ℕ)) → AllByRecursion (ObjectFits (count m)) (global_objects m i gs)
globals_fit m h i [] = tt
globals_fit m h i (g ∷ gs) = (bytes_fit m (type_at m.names g.of) (constant_at m.names g.init) (constant_at_fits m h g.init), globals_fit m h (i + 1) gs)

-- ---- the frame of `main`

arguments_fit : (next : ℕ) (types : List Scalar) → AllByRecursion (ValueFits next) (main_arguments types)
arguments_fit next [] = tt
arguments_fit next (t ∷ ts) = (int32_fits 0 (omega arith), (tt, tt))

registers_fit : (next : ℕ) (g : Option FunctionCode) → AllByRecursion (RegisterFits next) (main_registers g)
registers_fit next None = tt
registers_fit next (Some g) = entry_fits next g (main_arguments g.parameters) (arguments_fit next g.parameters)

frames_fit : (next : ℕ) (code : Code) (main : Option ℕ) → AllByRecursion (FrameFits next) (first_frames code main)
frames_fit next code None = tt
frames_fit next code (Some k) = (record { registers = registers_fit next (slice_get code.functions k); own = tt }, tt)

pub first_keeps : FirstKeeps
first_keeps m h = record { frames = frames_fit (count m) (code_of m) (code_of m).main; memory = globals_fit m h 0 m.globals }
