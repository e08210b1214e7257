-- The faults of a module: at each place the first cause of the order, and of all places the first.
use Rattle.std.specs.Prelude.{ℕ, suc, Bool, false, not, ◌||◌, List, [], ◌∷◌, ◌++◌, map, length, find, is_some, Option, Some, None, option_and_then, option_map, slice_get}
use Rattle.std.specs.List.{range_with_len}
use Rattle.ir_rules.specs.declared.fault.CheckSite.{CheckSite}
use Rattle.ir_rules.specs.declared.fault.CheckSite.TheVariants as at
use Rattle.ir_rules.specs.declared.fault.CheckCause.{CheckCause}
use Rattle.ir_rules.specs.declared.fault.CheckCause.TheVariants.{UnknownName, TypeDiffers, Terminator, EntryHasPreds, PhiEdges, AllocaPlace, External, NoMain, MainType}
use Rattle.ir_rules.specs.declared.fault.CheckError.{CheckError}
use Rattle.ir_rules.specs.Seen.{FunctionV, GlobalV, ModuleV}
use Rattle.ir_rules.specs.Spots.{Spot, spots, lacks_instruction, instruction_count}
use Rattle.ir_rules.specs.Causes.{all_names_known, all_types_fit, terminates, spares_entry, phi_fits, alloca_fits, call_allowed, initialiser_known, initialiser_fits, main_of, main_fits}

-- the causes in their order
abbrev pub causes : List CheckCause
causes = UnknownName ∷ TypeDiffers ∷ Terminator ∷ EntryHasPreds ∷ PhiEdges ∷ AllocaPlace ∷ External ∷ NoMain ∷ MainType ∷ []

-- an instruction meets a cause
abbrev pub spot_meets : ModuleV → FunctionV → Spot → CheckCause → Bool
spot_meets m f s UnknownName = not (all_names_known m f s.instruction)
spot_meets m f s TypeDiffers = not (all_types_fit m f s.instruction)
spot_meets m f s Terminator = not (terminates s)
spot_meets m f s EntryHasPreds = not (spares_entry f s.instruction)
spot_meets m f s PhiEdges = not (phi_fits f s s.instruction)
spot_meets m f s AllocaPlace = not (alloca_fits s.entry s.instruction)
spot_meets m f s External = not (call_allowed m s.instruction)
spot_meets m f s cause = false

abbrev pub found_meets : ModuleV → FunctionV → Option Spot → CheckCause → Bool
found_meets m f None cause = false
found_meets m f (Some s) cause = spot_meets m f s cause

abbrev pub lack_meets : Bool → CheckCause → Bool
lack_meets lack Terminator = lack
lack_meets lack cause = false

-- a cause is met at the number of an instruction, or of an empty block
abbrev pub number_meets : ModuleV → FunctionV → ℕ → CheckCause → Bool
number_meets m f k cause = found_meets m f (slice_get (spots f) k) cause || lack_meets (lacks_instruction f k) cause

abbrev pub global_meets : ModuleV → GlobalV → CheckCause → Bool
global_meets m g UnknownName = not (initialiser_known m g)
global_meets m g TypeDiffers = not (initialiser_fits m g)
global_meets m g cause = false

abbrev pub whole_meets : ModuleV → CheckCause → Bool
whole_meets m NoMain = not (is_some (main_of m))
whole_meets m MainType = not (main_fits (main_of m))
whole_meets m cause = false

-- the first cause that is met at a place
abbrev pub cause_at : ModuleV → CheckSite → Option CheckCause
cause_at m (at.Global k) = option_and_then (λ g. find (global_meets m g) causes) (slice_get m.globals k)
cause_at m (at.At s) = option_and_then (λ f. find (number_meets m f s.place) causes) (slice_get m.functions s.function)
cause_at m at.Whole = find (whole_meets m) causes

-- the sites of a function: one more than it has instructions, for an empty block at its end
abbrev pub sites_of : ℕ → FunctionV → List CheckSite
sites_of number f = map (λ k. at.At (record { function = number; place = k })) (range_with_len 0 (suc (instruction_count f.blocks)))

abbrev pub sites_from : ℕ → List FunctionV → List CheckSite
sites_from number [] = []
sites_from number (f ∷ rest) = sites_of number f ++ sites_from (suc number) rest

-- globals, then sites, then the whole
abbrev pub places : ModuleV → List CheckSite
places m = map at.Global (range_with_len 0 (length m.globals)) ++ sites_from 0 m.functions ++ at.Whole ∷ []

abbrev pub fault_at : ModuleV → CheckSite → Option CheckError
fault_at m place = option_map (λ cause. record { at = place; cause = cause }) (cause_at m place)

-- the first place at which a cause is met, with the first cause there
unfoldable pub first_fault : ModuleV → Option CheckError
first_fault m = option_and_then (fault_at m) (find (λ place. is_some (cause_at m place)) (places m))
