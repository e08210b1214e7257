-- What the names of a profile stand for in a module that is written out.
use Rattle.std.specs.Prelude.{ℕ, suc, Bool, true, false, List, [], ◌∷◌, ◌++◌, map, length, position, Option, Some, None, option_map, option_and_then, slice_get, if◌then◌else◌}
use Rattle.std.specs.List.{filter_map, flat_map, range_with_len}
use Rattle.pv_base.specs.declared.name.Name.{Name}
use Rattle.pv_base.specs.declared.name.Name.TheVariants as name
use Rattle.pv_base.specs.declared.place.Site.{Site}
use Rattle.pv_base.specs.declared.place.AllocSite.{AllocSite}
use Rattle.pv_base.specs.declared.place.AllocSite.TheVariants.{Global as OfGlobal, At as OfSite}
use Rattle.pv_base.specs.declared.external.External.{External}
use Rattle.pv_base.specs.declared.external.External.TheVariants.{Malloc, Calloc}
use Rattle.ir_tree.specs.declared.instruction.Callee.TheVariants as callee
use Rattle.ir_tree.specs.declared.instruction.Instruction.TheVariants as tree
use Rattle.ir_tree.specs.Table.{same_name}
use Rattle.ir_rules.specs.Seen.{ModuleV, FunctionV, InstructionV}
use Rattle.ir_rules.specs.Forms.{result_of}
use Rattle.ir_rules.specs.Calls.{external_of}
use Rattle.profile_lines.specs.declared.profile.ProfileName.{ProfileName}
use Rattle.profile_lines.specs.declared.profile.ProfileName.TheVariants.{Named, Numbered}
use Rattle.profile_lines.specs.declared.profile.SiteName.{SiteName}
use Rattle.profile_lines.specs.declared.profile.ObjectName.{ObjectName}
use Rattle.profile_lines.specs.declared.profile.ObjectName.TheVariants.{Global, At}

-- a name of a profile is one of the module's
abbrev pub name_of : ProfileName → Name
name_of (Named bytes) = name.Named bytes
name_of (Numbered n) = name.Numbered n

-- all instructions of a function, in text order
abbrev pub instructions_of : FunctionV → List InstructionV
instructions_of f = flat_map (λ b. b.instructions) f.blocks

-- the instruction of a number in a function
abbrev pub instruction_in : FunctionV → ℕ → Option InstructionV
instruction_in f k = slice_get (instructions_of f) k

-- the names of a function's registers: its parameters, of which one may have none, then the results in text order
abbrev pub registers_of : FunctionV → List (Option Name)
registers_of f = map (λ p. p.name) f.params ++ filter_map (λ i. option_map (λ d. Some d.name) (result_of i)) (instructions_of f)

-- an item that may have no name has this one
abbrev pub is_named : Name → Option Name → Bool
is_named x None = false
is_named x (Some y) = same_name x y

-- the number of a register in its frame
abbrev pub register_of : FunctionV → Name → Option ℕ
register_of f x = position (is_named x) (registers_of f)

-- the number of a block
abbrev pub block_named : FunctionV → Name → Option ℕ
block_named f x = position (λ b. same_name x b.label) f.blocks

-- what an instruction defines
abbrev pub result_name : InstructionV → Option Name
result_name i = option_map (λ d. d.name) (result_of i)

-- an instruction defines this register
abbrev pub defines : Name → InstructionV → Bool
defines x i = is_named x (result_name i)

-- the function outside the module that an instruction calls by its name
abbrev pub called : InstructionV → Option External
called (tree.Call to of variadic (callee.Function x) arguments) = external_of x
called i = None

abbrev pub grants : Option External → Bool
grants (Some Malloc) = true
grants (Some Calloc) = true
grants e = false

-- an instruction makes an object: `alloca`, and a call of `malloc` or `calloc` by its name
abbrev pub makes : InstructionV → Bool
makes (tree.Alloca to of count) = true
makes i = grants (called i)

-- over a module
module _ (v : ModuleV) where
  abbrev pub function_named : ProfileName → Option ℕ
  function_named x = position (λ f. same_name (name_of x) f.name) v.functions

  abbrev pub global_named : ProfileName → Option ℕ
  global_named x = position (λ g. same_name (name_of x) g.name) v.globals

  -- the instruction at a site
  abbrev pub instruction_at : Site → Option InstructionV
  instruction_at s = option_and_then (λ f. instruction_in f s.place) (slice_get v.functions s.function)

  abbrev pub site_within : SiteName → ℕ → Option Site
  site_within s k =
      let site : Site = record { function = k; place = s.place } in
      option_map (λ i. site) (instruction_at site)

  -- the site of an instruction that is there
  abbrev pub site_named : SiteName → Option Site
  site_named s = option_and_then (site_within s) (function_named s.function)

  abbrev pub making : Site → InstructionV → Option AllocSite
  making s i = if makes i then Some (OfSite s) else None

  -- the site of an instruction that makes objects
  abbrev pub maker_named : SiteName → Option AllocSite
  maker_named s = option_and_then (λ at. option_and_then (making at) (instruction_at at)) (site_named s)

  -- the site of a global, or of an instruction that makes objects
  abbrev pub object_named : ObjectName → Option AllocSite
  object_named (Global x) = option_map OfGlobal (global_named x)
  object_named (At s) = maker_named s

  -- the sites of a function's instructions, in text order
  abbrev pub function_sites : ℕ → FunctionV → List Site
  function_sites k f = map (λ p. record { function = k; place = p }) (range_with_len 0 (length (instructions_of f)))

  abbrev pub sites_from : ℕ → List FunctionV → List Site
  sites_from k [] = []
  sites_from k (f ∷ fs) = function_sites k f ++ sites_from (suc k) fs

  -- the sites of all instructions of the module, in text order
  abbrev pub sites_of : List Site
  sites_of = sites_from 0 v.functions

  -- all places at which an object may be made or a line may stand: the globals, and then the instructions
  abbrev pub places_of : List AllocSite
  places_of = map OfGlobal (range_with_len 0 (length v.globals)) ++ map OfSite sites_of
