-- The functions outside a module that the machine knows: how their names are spelled, what they take and answer, and which of
-- their arguments they read or write memory through. After the C library, and the intrinsics of the LLVM Language Reference.
use Rattle.std.specs.Prelude.{◌≡◌, ◌≤◌, ◌<◌, ◌⊎◌, ◌++◌, ◌==◌, ℕ, List, [], ◌∷◌, Bool, true, false, Option, Some, None, codes, decimal, if◌then◌else◌}
use Rattle.pv_base.specs.Outside.{Text}
use Rattle.pv_base.specs.declared.external.External.{External}
use Rattle.pv_base.specs.declared.external.External.TheVariants.{Malloc, Calloc, Free, Putchar, Puts, Getchar, Printf, Exit, Abort, Memcpy, Memmove, Memset, Smax, Smin, Umax, Umin, LifetimeStart, LifetimeEnd}

-- the name, without the sign before it
abbrev pub external_name : External → Text
external_name Malloc = codes "malloc"
external_name Calloc = codes "calloc"
external_name Free = codes "free"
external_name Putchar = codes "putchar"
external_name Puts = codes "puts"
external_name Getchar = codes "getchar"
external_name Printf = codes "printf"
external_name Exit = codes "exit"
external_name Abort = codes "abort"
external_name (Memcpy n) = codes "llvm.memcpy.p0.p0.i" ++ decimal n
external_name (Memmove n) = codes "llvm.memmove.p0.p0.i" ++ decimal n
external_name (Memset n) = codes "llvm.memset.p0.i" ++ decimal n
external_name (Smax n) = codes "llvm.smax.i" ++ decimal n
external_name (Smin n) = codes "llvm.smin.i" ++ decimal n
external_name (Umax n) = codes "llvm.umax.i" ++ decimal n
external_name (Umin n) = codes "llvm.umin.i" ++ decimal n
external_name LifetimeStart = codes "llvm.lifetime.start.p0"
external_name LifetimeEnd = codes "llvm.lifetime.end.p0"

-- the bits of a length
abbrev pub IsLength : ℕ → Type 0
IsLength n = (n ≡ 32) ⊎ (n ≡ 64)

-- the bits of an operand
pub record IsOperand (n : ℕ) : Type 0 where
  pub positive : 0 < n
  pub most : n ≤ 64

-- the numbers that a name may end with
abbrev pub IsExternal : External → Type 0
IsExternal (Memcpy n) = IsLength n
IsExternal (Memmove n) = IsLength n
IsExternal (Memset n) = IsLength n
IsExternal (Smax n) = IsOperand n
IsExternal (Smin n) = IsOperand n
IsExternal (Umax n) = IsOperand n
IsExternal (Umin n) = IsOperand n
IsExternal _ = Unit {0}

-- the type of an argument or an answer
pub data ExternalType : Type 0 where
  IntegerOf : ℕ → ExternalType
  Pointer : ExternalType
  Void : ExternalType

-- the type of the answer
abbrev pub external_result : External → ExternalType
external_result Malloc = Pointer
external_result Calloc = Pointer
external_result Putchar = IntegerOf 32
external_result Puts = IntegerOf 32
external_result Getchar = IntegerOf 32
external_result Printf = IntegerOf 32
external_result (Smax n) = IntegerOf n
external_result (Smin n) = IntegerOf n
external_result (Umax n) = IntegerOf n
external_result (Umin n) = IntegerOf n
external_result _ = Void

-- the types of a transfer of bytes: to, from, how many, and whether it is volatile
abbrev pub transfer_parameters : ℕ → List ExternalType
transfer_parameters n = Pointer ∷ Pointer ∷ IntegerOf n ∷ IntegerOf 1 ∷ []

-- the lists of types that its arguments may have: more than one only where a length may be left out
abbrev pub external_parameters : External → List (List ExternalType)
external_parameters Malloc = (IntegerOf 64 ∷ []) ∷ []
external_parameters Calloc = (IntegerOf 64 ∷ IntegerOf 64 ∷ []) ∷ []
external_parameters Free = (Pointer ∷ []) ∷ []
external_parameters Putchar = (IntegerOf 32 ∷ []) ∷ []
external_parameters Puts = (Pointer ∷ []) ∷ []
external_parameters Getchar = [] ∷ []
external_parameters Printf = (Pointer ∷ []) ∷ []
external_parameters Exit = (IntegerOf 32 ∷ []) ∷ []
external_parameters Abort = [] ∷ []
external_parameters (Memcpy n) = transfer_parameters n ∷ []
external_parameters (Memmove n) = transfer_parameters n ∷ []
external_parameters (Memset n) = (Pointer ∷ IntegerOf 8 ∷ IntegerOf n ∷ IntegerOf 1 ∷ []) ∷ []
external_parameters (Smax n) = (IntegerOf n ∷ IntegerOf n ∷ []) ∷ []
external_parameters (Smin n) = (IntegerOf n ∷ IntegerOf n ∷ []) ∷ []
external_parameters (Umax n) = (IntegerOf n ∷ IntegerOf n ∷ []) ∷ []
external_parameters (Umin n) = (IntegerOf n ∷ IntegerOf n ∷ []) ∷ []
external_parameters LifetimeStart = (IntegerOf 64 ∷ Pointer ∷ []) ∷ (Pointer ∷ []) ∷ []
external_parameters LifetimeEnd = (IntegerOf 64 ∷ Pointer ∷ []) ∷ (Pointer ∷ []) ∷ []

-- arguments of any types may follow
abbrev pub takes_more : External → Bool
takes_more Printf = true
takes_more _ = false

-- what is done with the bytes that an argument points to
pub data Access : Type 0 where
  Reads : Access
  Writes : Access

-- an access in this slot alone
abbrev pub only_in : ℕ → Access → ℕ → Option Access
only_in slot access asked = if asked == slot then Some access else None

-- the access in a slot of a call. A slot is the argument's number from 0: the format of `printf` is in slot 0, and the text of
-- the i-th argument after it in slot i
abbrev pub external_access : External → ℕ → Option Access
external_access Puts asked = only_in 0 Reads asked
external_access Printf asked = Some Reads
external_access (Memcpy n) asked = if asked == 1 then Some Reads else only_in 0 Writes asked
external_access (Memmove n) asked = if asked == 1 then Some Reads else only_in 0 Writes asked
external_access (Memset n) asked = only_in 0 Writes asked
external_access _ asked = None

-- the access of a `load`, and that of a `store`
abbrev pub load_access : ℕ → Option Access
load_access asked = only_in 0 Reads asked

abbrev pub store_access : ℕ → Option Access
store_access asked = only_in 0 Writes asked
