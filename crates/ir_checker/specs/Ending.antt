-- How the test of a module ends.
use Rattle.std.specs.Prelude.{◌≡◌, Option, Some}
use Rattle.ir_rules.specs.declared.fault.CheckError.{CheckError}
use Rattle.ir_checker.specs.declared.check.CheckEnd.{CheckEnd}
use Rattle.ir_checker.specs.declared.check.CheckEnd.TheVariants.{Bad, Memory}

-- the answer is this fault, or want of memory
abbrev pub IsFault : Option CheckError → CheckEnd → Type 0
IsFault fault (Bad found) = fault ≡ Some found
IsFault fault Memory = Unit {0}
