-- What a checked module keeps.
use Rattle.std.specs.Prelude.{◌≡◌, None}
use Rattle.ir_tree.specs.Modules.{Items}
use Rattle.ir_rules.specs.Seen.{seen}
use Rattle.ir_rules.specs.Faults.{first_fault}
use Rattle.ir_rules.specs.Reading.{IsWellFormed}

-- no place of the module has a fault, and none breaks what reading keeps
pub record IsChecked (m : Items) : Type 0 where
  pub faultless : first_fault (seen m) ≡ None
  pub well_formed : IsWellFormed m
