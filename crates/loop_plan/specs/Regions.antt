-- The region of a loop: whether its lines name what is there, its header and its latch.
use Rattle.std.specs.Prelude.{ℕ, Bool, false, not, ◌&&◌, ◌||◌, nat_eq, List, [], ◌∷◌, length, Option, Some, None, option_and_then, is_some, slice_get}
use Rattle.std.specs.List.{filter, filter_map, list_any, list_all, range_with_len}
use Rattle.std.specs.Option.{option_map_or}
use Rattle.ir_rules.specs.Seen.{ModuleV, FunctionV}
use Rattle.ir_rules.specs.Spots.{has_edge_to}
use Rattle.ir_rules.specs.Forms.{is_phi}
use Rattle.profile_lines.specs.declared.profile.ProfileName.{ProfileName}
use Rattle.profile_lines.specs.declared.profile.PhiLine.{PhiLine}
use Rattle.profile_lines.specs.declared.profile.UseLine.{UseLine}
use Rattle.profile_lines.specs.declared.profile.ProfileLoop.{ProfileLoop}
use Rattle.loop_plan.specs.Naming.{name_of, block_named, defines, instruction_at, instructions_of, site_named, maker_named, object_named, global_named}
use Rattle.loop_plan.specs.Slots.{slot_at}

-- a number is one of these
abbrev pub among : ℕ → List ℕ → Bool
among k ks = list_any (nat_eq k) ks

-- ---- the lines name what is there

-- the function has this block
abbrev pub has_block : FunctionV → ProfileName → Bool
has_block f x = is_some (block_named f (name_of x))

-- the function has a phi of this name, in any block
abbrev pub has_phi : FunctionV → PhiLine → Bool
has_phi f line = list_any (λ i. is_phi i && defines (name_of line.register) i) (instructions_of f)

module _ (v : ModuleV) where
  -- the slot is one of an instruction that is there, and so is what made the object
  abbrev pub is_use : UseLine → Bool
  is_use line = is_some (option_and_then (λ at. option_and_then (λ i. slot_at i line.slot) (instruction_at v at)) (site_named v line.at)) && is_some (object_named v line.object)

  -- every line of a loop of this function names what is there
  abbrev pub is_known : ProfileLoop → FunctionV → Bool
  is_known l f =
      has_block f l.header
      && list_all (has_block f) l.blocks
      && list_all (has_phi f) l.phis
      && list_all is_use l.uses
      && list_all (λ s. is_some (maker_named v s)) l.locals
      && list_all (λ line. is_some (object_named v line.object)) l.flows
      && list_all (λ line. is_some (global_named v line.global)) l.values

-- ---- blocks

-- the numbers of a loop's blocks, in the order of their lines
abbrev pub blocks_of : FunctionV → ProfileLoop → List ℕ
blocks_of f l = filter_map (λ x. block_named f (name_of x)) l.blocks

-- the first of two blocks has an edge to the second: every target of its terminator counts once
abbrev pub has_edge : FunctionV → ℕ → ℕ → Bool
has_edge f from to = option_map_or (λ a. option_map_or (λ b. has_edge_to b.label a) (slice_get f.blocks to) false) (slice_get f.blocks from) false

-- a block that is not listed has an edge to this one
abbrev pub entered_from_outside : FunctionV → List ℕ → ℕ → Bool
entered_from_outside f blocks b = list_any (λ a. not (among a blocks) && has_edge f a b) (range_with_len 0 (length f.blocks))

-- the loop is entered by its header alone, which is listed and is not the function's first block
abbrev pub is_entered_by : FunctionV → List ℕ → ℕ → Bool
is_entered_by f blocks header =
    not (nat_eq header 0) && among header blocks && list_all (λ b. nat_eq b header || not (entered_from_outside f blocks b)) blocks

-- the listed blocks with an edge to the header
abbrev pub latches : FunctionV → List ℕ → ℕ → List ℕ
latches f blocks header = filter (λ b. has_edge f b header) blocks

-- the one of these, where there is one alone
abbrev pub only : {A : Type 0} → List A → Option A
only [] = None
only (x ∷ []) = Some x
only (x ∷ y ∷ rest) = None
