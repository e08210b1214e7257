-- Types and constants as trees, with the names in them.
use Rattle.std.specs.Prelude.{ℕ, Bool, List}
use Rattle.pv_base.specs.declared.name.Name.{Name}
use Rattle.int_num.specs.Integer.{Integer}

-- a type
mutual
  pub data TypeV : Type 0 where
    IntV : ℕ → TypeV
    PtrV : TypeV
    VoidV : TypeV
    ArrayV : ℕ → TypeV → TypeV
    StructV : Bool → TypesV → TypeV
    NamedV : Name → TypeV

  pub data TypesV : Type 0 where
    NoneV : TypesV
    MoreV : TypeV → TypesV → TypesV

-- a constant, and the elements of one, each with its type
mutual
  pub data ConstantV : Type 0 where
    IntegerC : Integer → ConstantV
    NullC : ConstantV
    ZeroC : ConstantV
    TextC : List ℕ → ConstantV
    ArrayC : ElementsV → ConstantV
    StructC : Bool → ElementsV → ConstantV
    NameC : Name → ConstantV
    AddressC : TypeV → ConstantV → ElementsV → ConstantV

  pub data ElementsV : Type 0 where
    NoneC : ElementsV
    MoreC : TypeV → ConstantV → ElementsV → ElementsV
