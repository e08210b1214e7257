-- The bytes of nested constants, laid down one after another from a list of what is to come.
use Rattle.std.specs.Prelude.{ℕ, ◌≡◌, ◌<◌, ◌+◌, ◌-◌, max, Bool, List, [], ◌∷◌, ◌++◌, length, map, Option}
use Rattle.ir_tree.specs.declared.nodes.Element.{Element}
use Rattle.ir_tree.specs.declared.nodes.ConstantNode.{ConstantNode}
use Rattle.ir_tree.specs.declared.nodes.ConstantNode.TheVariants as constant
use Rattle.ir_tree.specs.Trees.{ConstantV, IntegerC, NullC, ZeroC, TextC, ArrayC, StructC, NameC, AddressC, ElementsV, NoneC, MoreC}
use Rattle.ir_tree.specs.Naming.{type_at, constant_at}
use Rattle.ir_tree.specs.Modules.{Items}
use Rattle.ir_code.specs.declared.op.Fixed.{Fixed}
use Rattle.mem_image.specs.declared.object.Byte.{Byte}
use Rattle.mem_image.specs.declared.object.Byte.TheVariants.{Num}
use Rattle.ir_bytes.specs.declared.initial.Work.{Work}
use Rattle.ir_bytes.specs.declared.initial.Work.TheVariants as work
use Rattle.ir_bytes.specs.Initial.{zeros, size_in, aligned_in, gap, scalar_bytes, bytes_at}

-- the bytes with one more piece
abbrev pub with_work : Items → List Byte → Work → List Byte
with_work m so (work.Value e) = so ++ bytes_at m e.of e.value
with_work m so (work.Padding start align) = so ++ zeros (gap (length so - start) align)

-- the bytes with all that is to come
abbrev pub laid_out : Items → List Byte → List Work → List Byte
laid_out m so [] = so
laid_out m so (w ∷ ws) = laid_out m (with_work m so w) ws

-- elements in their order
abbrev pub value_works : List Element → List Work
value_works es = map work.Value es

-- fields, each behind its padding
abbrev pub field_works : Items → Bool → ℕ → List Element → List Work
field_works m packed start [] = []
field_works m packed start (e ∷ es) = work.Padding start (aligned_in m packed (type_at m.names e.of)) ∷ work.Value e ∷ field_works m packed start es

-- the greatest alignment of the fields
abbrev pub greatest : Items → Bool → ℕ → List Element → ℕ
greatest m packed align [] = align
greatest m packed align (e ∷ es) = greatest m packed (max align (aligned_in m packed (type_at m.names e.of))) es

-- the fields of a struct that starts there, and its padding
abbrev pub struct_works : Items → Bool → ℕ → List Element → List Work
struct_works m packed start es = field_works m packed start es ++ work.Padding start (greatest m packed 1 es) ∷ []

-- how many pieces a constant makes, itself among them
abbrev mutual
  pub weight : ConstantV → ℕ
  weight (IntegerC n) = 1
  weight NullC = 1
  weight ZeroC = 1
  weight (TextC text) = 1
  weight (ArrayC elements) = 1 + weights elements
  weight (StructC packed fields) = 1 + weights fields
  weight (NameC name) = 1
  weight (AddressC of base indices) = 1

  pub weights : ElementsV → ℕ
  weights NoneC = 1
  weights (MoreC type value rest) = 2 + weight value + weights rest

abbrev pub work_weight : Items → Work → ℕ
work_weight m (work.Value e) = weight (constant_at m.names e.value)
work_weight m (work.Padding start align) = 1

-- how many pieces are to come
abbrev pub load : Items → List Work → ℕ
load m [] = 0
load m (w ∷ ws) = work_weight m w + load m ws

-- padding is to a multiple of an alignment
abbrev pub IsWork : Work → Type 0
IsWork (work.Value e) = Unit {0}
IsWork (work.Padding start align) = 0 < align

abbrev pub AreWorks : List Work → Type 0
AreWorks [] = Unit {0}
AreWorks (w ∷ ws) = IsWork w × AreWorks ws

-- each field has an alignment
abbrev pub AreAligned : Items → Bool → List Element → Type 0
AreAligned m packed [] = Unit {0}
AreAligned m packed (e ∷ es) = (0 < aligned_in m packed (type_at m.names e.of)) × AreAligned m packed es

-- a constant's node lays its bytes down, or puts its parts before what is to come
abbrev pub Lays : Items → ℕ → Option Fixed → List Byte → List Work → List Byte → List Work → ConstantNode → Type 0
Lays m type value so works new after constant.Zero = (new ≡ so ++ zeros (size_in m (type_at m.names type))) × (after ≡ works)
Lays m type value so works new after (constant.Text text) = (new ≡ so ++ map Num text) × (after ≡ works)
Lays m type value so works new after (constant.Array es) = (new ≡ so) × (after ≡ value_works es ++ works)
Lays m type value so works new after (constant.Struct packed es) = (new ≡ so) × (after ≡ struct_works m packed (length so) es ++ works) × AreAligned m packed es
Lays m type value so works new after other = (new ≡ so ++ scalar_bytes value) × (after ≡ works)

-- one piece is done, and fewer are to come
pub record Advances (m : Items) (so : List Byte) (w : Work) (works : List Work) (new : List Byte) (after : List Work) : Type 0 where
  pub same : laid_out m new after ≡ laid_out m (with_work m so w) works
  pub inside : AreWorks works → AreWorks after
  pub lighter : load m after < work_weight m w + load m works
