-- The first fault of a module, found in text order: in each function block by block, and in each block instruction by instruction.
use Rattle.std.specs.Prelude.{ℕ, ◌+◌, Bool, true, false, not, ◌&&◌, ◌||◌, List, [], ◌∷◌, length, find, Option, Some, None, option_map}
use Rattle.pv_base.specs.declared.name.Name.{Name}
use Rattle.ir_rules.specs.declared.fault.CheckSite.TheVariants as at
use Rattle.ir_rules.specs.declared.fault.CheckCause.{CheckCause}
use Rattle.ir_rules.specs.declared.fault.CheckCause.TheVariants.{Terminator}
use Rattle.ir_rules.specs.declared.fault.CheckError.{CheckError}
use Rattle.ir_rules.specs.Seen.{InstructionV, BlockV, FunctionV, GlobalV, ModuleV}
use Rattle.ir_rules.specs.Forms.{is_phi}
use Rattle.ir_rules.specs.Spots.{Spot, is_empty}
use Rattle.ir_rules.specs.Faults.{causes, spot_meets, lack_meets, global_meets, whole_meets}
use Rattle.ir_checker.specs.declared.found.Found.{Found}

-- the first answer of two
abbrev pub either : {A : Type 0} → Option A → Option A → Option A
either None other = other
either (Some x) other = Some x

-- the first cause at an instruction; `lack` says that an empty block stands right before it
unfoldable pub spot_cause : ModuleV → FunctionV → Bool → Spot → Option CheckCause
spot_cause m f lack s = find (λ c. spot_meets m f s c || lack_meets lack c) causes

abbrev pub found_at : ℕ → Option CheckCause → Option Found
found_at k cause = option_map (λ c. record { place = k; cause = c }) cause

-- the first cause among what is left of a block, from an instruction's number on
unfoldable pub block_fault : ModuleV → FunctionV → Name → Bool → Bool → Bool → ℕ → List InstructionV → Option Found
block_fault m f label entry phis lack k [] = None
block_fault m f label entry phis lack k (i ∷ rest) =
    either (found_at k (spot_cause m f lack (record { instruction = i; label = label; entry = entry; behind_phis = phis; last = is_empty rest })))
    (block_fault m f label entry (phis && is_phi i) false (k + 1) rest)

abbrev pub lack_cause : Bool → Option CheckCause
lack_cause true = Some Terminator
lack_cause false = None

-- the first cause among the blocks that are left
unfoldable pub blocks_fault : ModuleV → FunctionV → Bool → Bool → ℕ → List BlockV → Option Found
blocks_fault m f entry lack k [] = found_at k (lack_cause lack)
blocks_fault m f entry lack k (b ∷ rest) =
    either (block_fault m f b.label entry true lack k b.instructions) (blocks_fault m f false (is_empty b.instructions) (k + length b.instructions) rest)

-- the first cause in a function
abbrev pub function_fault : ModuleV → FunctionV → Option Found
function_fault m f = blocks_fault m f true (not f.declared && is_empty f.blocks) 0 f.blocks

abbrev pub fault_in : ℕ → Option Found → Option CheckError
fault_in n found = option_map (λ x. record { at = at.At (record { function = n; place = x.place }); cause = x.cause }) found

-- the first fault in the functions from a number on
unfoldable pub functions_fault : ModuleV → ℕ → List FunctionV → Option CheckError
functions_fault m n [] = None
functions_fault m n (f ∷ rest) = either (fault_in n (function_fault m f)) (functions_fault m (n + 1) rest)

-- the first cause at the initialiser of a global
unfoldable pub global_cause : ModuleV → GlobalV → Option CheckCause
global_cause m g = find (global_meets m g) causes

abbrev pub fault_of_global : ℕ → Option CheckCause → Option CheckError
fault_of_global n cause = option_map (λ c. record { at = at.Global n; cause = c }) cause

-- the first fault in the globals from a number on
unfoldable pub globals_fault : ModuleV → ℕ → List GlobalV → Option CheckError
globals_fault m n [] = None
globals_fault m n (g ∷ rest) = either (fault_of_global n (global_cause m g)) (globals_fault m (n + 1) rest)

-- the first cause of the whole
unfoldable pub whole_cause : ModuleV → Option CheckCause
whole_cause m = find (whole_meets m) causes

abbrev pub fault_of_whole : Option CheckCause → Option CheckError
fault_of_whole cause = option_map (λ c. record { at = at.Whole; cause = c }) cause
