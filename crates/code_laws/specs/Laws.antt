-- What a module means does not depend on the numbers that its table gives to names, types and constants.
use Rattle.std.specs.Prelude.{◌≡◌, ℕ, true}
use Rattle.pv_base.specs.Outside.{Text}
use Rattle.ir_tree.specs.Table.{IsTable}
use Rattle.ir_tree.specs.Modules.{Items}
use Rattle.ir_tree.specs.Written.{shown_module}
use Rattle.ir_rules.specs.Numbering.{is_within}
use Rattle.ir_code.specs.Coding.{code_of}
use Rattle.ir_bytes.specs.Initial.{first_picture}
use Rattle.seq_run.specs.First.{first_state}
use Rattle.seq_run.specs.Outcomes.{outcome_of_run}
use Rattle.code_laws.specs.Coded.{module_code}
use Rattle.code_laws.specs.Pictured.{module_picture}
use Rattle.code_laws.specs.Runs.{module_state, module_outcome}

-- the code of the items of a table is that of the module that they stand for
abbrev pub CodeIsTheModules : Type 0
CodeIsTheModules = (m : Items) → IsTable m.names → is_within m ≡ true → code_of m ≡ module_code (shown_module m)

-- so is the memory in which it starts
abbrev pub PictureIsTheModules : Type 0
PictureIsTheModules = (m : Items) → is_within m ≡ true → first_picture m ≡ module_picture (shown_module m)

-- so is the state in which it starts
abbrev pub StateIsTheModules : Type 0
StateIsTheModules = (m : Items) → IsTable m.names → is_within m ≡ true → first_state m ≡ module_state (shown_module m)

-- so is what its run leaves
abbrev pub OutcomeIsTheModules : Type 0
OutcomeIsTheModules = (m : Items) (input : Text) (n : ℕ) → IsTable m.names → is_within m ≡ true → outcome_of_run m input n ≡ module_outcome (shown_module m) input n
