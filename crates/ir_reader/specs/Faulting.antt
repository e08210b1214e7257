-- Faults by number, and where they are.
use Rattle.std.specs.Prelude.{◌≡◌, Option, Some, None}
use Rattle.ir_tree.specs.Naming.{Grows}
use Rattle.ir_tree.specs.Table.{Table}
use Rattle.ir_text.specs.declared.fault.Fault.{Fault}
use Rattle.ir_text.specs.declared.fault.Fault.TheVariants.{At}
use Rattle.ir_text.specs.Named.{known_of}
use Rattle.ir_text.specs.Types.{Known}
use Rattle.ir_reader.specs.declared.named.TextTypes.{TextTypes}

-- the fault, if it is at a token
abbrev pub at_token : Option Fault → Option Fault
at_token (Some (At line cause)) = Some (At line cause)
at_token _ = None

-- the names alone say this, and all that is known says that, in this table and in each later one
pub record IsSaid (table : Table) (named : TextTypes) (only known : Known) : Type 0 where
  pub names : (later : Table) → known_of later named.only ≡ only
  pub bodies : (later : Table) → Grows table later → known_of later named.known ≡ known
