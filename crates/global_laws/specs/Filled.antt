-- Initialisers whose bytes fill their types.
use Rattle.std.specs.Prelude.{◌≡◌, Bool, true, false, Option, None, Some, length}
use Rattle.ir_tree.specs.declared.layout.Layout.{Layout}
use Rattle.ir_tree.specs.Trees.{TypeV, PtrV, ConstantV, IntegerC, NullC, ZeroC, TextC, ArrayC, StructC, NameC, AddressC, ElementsV, NoneC, MoreC}
use Rattle.ir_tree.specs.Layouts.{layout_of}
use Rattle.ir_tree.specs.Modules.{Items, types_of}
use Rattle.ir_rules.specs.Constants.{is_of}
use Rattle.ir_rules.specs.Seen.{seen}
use Rattle.ir_code.specs.declared.op.Fixed.{Fixed}
use Rattle.ir_code.specs.declared.op.Fixed.TheVariants as fixed
use Rattle.ir_code.specs.Fixed.{fixed_of}
use Rattle.ir_bytes.specs.Initial.{bytes_of}

-- an address was found
abbrev pub is_address : Option Fixed → Bool
is_address (Some (fixed.Int n)) = false
is_address (Some fixed.Null) = true
is_address (Some (fixed.Global i offset)) = true
is_address (Some (fixed.Function i)) = true
is_address (Some fixed.Nowhere) = true
is_address None = false

-- each name and each address that stands in the constant is found
abbrev mutual
  pub IsFound : Items → ConstantV → Type 0
  IsFound m (IntegerC n) = Unit {0}
  IsFound m NullC = Unit {0}
  IsFound m ZeroC = Unit {0}
  IsFound m (TextC text) = Unit {0}
  IsFound m (ArrayC elements) = AreFound m elements
  IsFound m (StructC packed fields) = AreFound m fields
  IsFound m (NameC name) = is_address (fixed_of m PtrV (NameC name)) ≡ true
  IsFound m (AddressC of base indices) = is_address (fixed_of m PtrV (AddressC of base indices)) ≡ true

  pub AreFound : Items → ElementsV → Type 0
  AreFound m NoneC = Unit {0}
  AreFound m (MoreC type value rest) = IsFound m value × AreFound m rest

-- the first bytes of such a constant of a type are as many as the type's layout says
abbrev pub InitialisersFill : Type 0
InitialisersFill = (m : Items) (type : TypeV) (c : ConstantV) (l : Layout) → is_of (seen m) type c ≡ true → layout_of (types_of m) type ≡ Some l → IsFound m c → length (bytes_of m type c) ≡ l.size
