-- The words that reports use.
use Rattle.std.specs.Prelude.{ℕ, List, codes}
use Rattle.mem_image.specs.declared.fault.Trap.{Trap}
use Rattle.mem_image.specs.declared.fault.Trap.TheVariants.{UnsetRegister, UnsetByte, ByteKind, Null, Dead, Range, ConstWrite, Overflow, Shift, Divide, Flag, PointerOrder, Inbounds, Unreachable, Callee, Free, Overlap, Format, Abort, Depth, Output, Names, LiveMemory}

-- a trap's word
abbrev pub trap_word : Trap → List ℕ
trap_word UnsetRegister = codes "unset-register"
trap_word UnsetByte = codes "unset-byte"
trap_word ByteKind = codes "byte-kind"
trap_word Null = codes "null"
trap_word Dead = codes "dead"
trap_word Range = codes "range"
trap_word ConstWrite = codes "const-write"
trap_word Overflow = codes "overflow"
trap_word Shift = codes "shift"
trap_word Divide = codes "divide"
trap_word Flag = codes "flag"
trap_word PointerOrder = codes "pointer-order"
trap_word Inbounds = codes "inbounds"
trap_word Unreachable = codes "unreachable"
trap_word Callee = codes "callee"
trap_word Free = codes "free"
trap_word Overlap = codes "overlap"
trap_word Format = codes "format"
trap_word Abort = codes "abort"
trap_word Depth = codes "depth"
trap_word Output = codes "output"
trap_word Names = codes "names"
trap_word LiveMemory = codes "live-memory"
