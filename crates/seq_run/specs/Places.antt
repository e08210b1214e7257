-- Headers, found by function and block.
use Rattle.std.specs.Prelude.{◌≡◌, ◌≤◌, ◌^◌, ℕ, ◌==◌, ◌&&◌, List, [], length, map, replicate, slice_get, position, Bool, Option, None, Some, option_map, if◌then◌else◌}
use Rattle.std.specs.Option.{option_or}
use Rattle.ir_code.specs.declared.code.FunctionCode.{FunctionCode}
use Rattle.seq_machine.specs.declared.state.Header.{Header}

-- the header is that of the block
abbrev pub is_at : ℕ → ℕ → Header → Bool
is_at function block h = h.function == function && h.block == block

-- the least place in the list of the header of the block
abbrev pub place_of : List Header → ℕ → ℕ → Option ℕ
place_of headers function block = position (is_at function block) headers

-- a place for each block of these functions, none of which is noted
abbrev pub rooms : List FunctionCode → List (List (Option ℕ))
rooms functions = map (λ g. replicate (length g.blocks) None) functions

-- what is noted at the blocks of a function
abbrev pub row_of : Option (List (Option ℕ)) → List (Option ℕ)
row_of (Some row) = row
row_of None = []

-- what is noted at a block, where there is room for it
abbrev pub noted_at : List (List (Option ℕ)) → ℕ → ℕ → Option (Option ℕ)
noted_at places function block = slice_get (row_of (slice_get places function)) block

-- what is noted at each block is the least place of its header
pub record ArePlaced (headers : List Header) (places : List (List (Option ℕ))) : Type 0 where
  pub each : (function block : ℕ) (o : Option ℕ) → noted_at places function block ≡ Some o → o ≡ place_of headers function block

-- and the places are numbers
pub record AreIndexed (headers : List Header) (places : List (List (Option ℕ))) : Type 0 where
  pub limit : length headers ≤ 2 ^ 32
  pub placed : ArePlaced headers places

-- what was noted before, or the place, where it is to be noted here
abbrev pub or_place : Bool → ℕ → Option ℕ → Option ℕ
or_place here place o = option_or o (if here then Some place else None)

-- a place is noted at a block, where none is, and the other blocks stay
pub record NotesIn (old new : List (Option ℕ)) (block place : ℕ) : Type 0 where
  pub each : (b : ℕ) → slice_get new b ≡ option_map (or_place (block == b) place) (slice_get old b)

-- a place is noted at the block of a header, where none is, and the other blocks stay
pub record Notes (old new : List (List (Option ℕ))) (h : Header) (place : ℕ) : Type 0 where
  pub each : (function block : ℕ) → noted_at new function block ≡ option_map (or_place (is_at function block h) place) (noted_at old function block)
