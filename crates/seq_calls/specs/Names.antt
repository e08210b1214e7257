-- The names of the functions outside a module, read.
use Rattle.std.specs.Prelude.{◌≡◌, ◌+◌, ◌-◌, ◌*◌, ◌&&◌, ◌↔◌, ℕ, List, [], ◌∷◌, length, drop, Bool, Option, Some, None, find, option_map, codes, nat_eq, nat_le, if◌then◌else◌}
use Rattle.std.specs.Option.{option_or}
use Rattle.std.specs.Str.{bytes_eq}
use Rattle.std.specs.List.{starts_with}
use Rattle.pv_base.specs.Outside.{Text}
use Rattle.pv_base.specs.External.{external_name, IsExternal}
use Rattle.pv_base.specs.declared.external.External.{External}
use Rattle.pv_base.specs.declared.external.External.TheVariants.{Malloc, Calloc, Free, Putchar, Puts, Getchar, Printf, Exit, Abort, Memcpy, Memmove, Memset, Smax, Smin, Umax, Umin, LifetimeStart, LifetimeEnd}

-- the functions of the C library
abbrev pub library : List (Text × External)
library =
    (codes "malloc", Malloc) ∷ (codes "calloc", Calloc) ∷ (codes "free", Free) ∷ (codes "putchar", Putchar) ∷ (codes "puts", Puts)
    ∷ (codes "getchar", Getchar) ∷ (codes "printf", Printf) ∷ (codes "exit", Exit) ∷ (codes "abort", Abort) ∷ []

-- the intrinsics on memory
abbrev pub intrinsics : List (Text × External)
intrinsics =
    (codes "llvm.memcpy.p0.p0.i32", Memcpy 32) ∷ (codes "llvm.memcpy.p0.p0.i64", Memcpy 64)
    ∷ (codes "llvm.memmove.p0.p0.i32", Memmove 32) ∷ (codes "llvm.memmove.p0.p0.i64", Memmove 64)
    ∷ (codes "llvm.memset.p0.i32", Memset 32) ∷ (codes "llvm.memset.p0.i64", Memset 64)
    ∷ (codes "llvm.lifetime.start.p0", LifetimeStart) ∷ (codes "llvm.lifetime.end.p0", LifetimeEnd) ∷ []

-- the external that stands in the table beside this name
unfoldable pub named : List (Text × External) → Text → Option External
named table name = option_map (λ e. e.1) (find (λ e. bytes_eq name e.0) table)

abbrev pub is_digit : ℕ → Bool
is_digit b = nat_le 48 b && nat_le b 57

-- a digit but 0
abbrev pub is_first_digit : ℕ → Bool
is_first_digit b = nat_le 49 b && nat_le b 57

abbrev pub at_most_64 : ℕ → Option ℕ
at_most_64 n = if nat_le n 64 then Some n else None

-- a width of 1 to 64 in decimal digits, without a leading zero
unfoldable pub width_of : Text → Option ℕ
width_of [] = None
width_of (a ∷ []) = if is_first_digit a then Some (a - 48) else None
width_of (a ∷ b ∷ []) = if is_first_digit a && is_digit b then at_most_64 (10 * (a - 48) + (b - 48)) else None
width_of (a ∷ b ∷ c ∷ rest) = None

-- the width that stands behind this front of a name
unfoldable pub width_behind : Text → Text → Option ℕ
width_behind front name = if starts_with nat_eq name front then width_of (drop (length front) name) else None

-- the greater or the less of two integers of a width
unfoldable pub extreme : Text → Option External
extreme name =
    option_or (option_map Smax (width_behind (codes "llvm.smax.i") name))
    (option_or (option_map Smin (width_behind (codes "llvm.smin.i") name))
    (option_or (option_map Umax (width_behind (codes "llvm.umax.i") name))
    (option_map Umin (width_behind (codes "llvm.umin.i") name))))

-- the external of this name
unfoldable pub known : Text → Option External
known name = option_or (named library name) (option_or (named intrinsics name) (extreme name))

-- a name is known exactly as the external that is spelled so and has a number that it may have
abbrev pub KnownBySpelling : Type 0
KnownBySpelling = (name : Text) (e : External) → (known name ≡ Some e) ↔ (IsExternal e × (external_name e ≡ name))
