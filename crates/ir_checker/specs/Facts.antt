-- What is found once of a module before its places are looked at.
use Rattle.ir_tree.specs.Modules.{Items}
use Rattle.ir_rules.specs.Heads.{AreTables}
use Rattle.ir_checker.specs.ConstantClasses.{AreKinds}
use Rattle.ir_checker.specs.Scopes.{IsIndex}
use Rattle.ir_checker.specs.declared.facts.Facts.{Facts}

pub record AreFacts (m : Items) (f : Facts) : Type 0 where
  pub index : IsIndex m f.index
  pub tables : AreTables m f.tables
  pub kinds : AreKinds m.names f.kinds
