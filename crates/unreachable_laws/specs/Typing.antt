-- Instructions of a code over registers of their types.
use Rattle.std.specs.Prelude.{ℕ, ◌+◌, ◌≤◌, ◌<◌, ◌≡◌, ◌++◌, ◌⊎◌, List, [], ◌∷◌, length, slice_get, is_some, Option, Some, None, Bool, true, false, IfOk}
use Rattle.std.specs.List.{AllByRecursion}
use Rattle.pv_base.specs.External.{ExternalType, IntegerOf, Pointer as PointerOf, Void, external_result, external_parameters, takes_more}
use Rattle.pv_base.specs.declared.external.External.{External}
use Rattle.ir_code.specs.declared.op.Scalar.{Scalar}
use Rattle.ir_code.specs.declared.op.Scalar.TheVariants.{Int, Pointer}
use Rattle.ir_code.specs.declared.op.Operand.{Operand}
use Rattle.ir_code.specs.declared.op.Operand.TheVariants.{Register, Constant}
use Rattle.ir_code.specs.declared.op.Index.{Index}
use Rattle.ir_code.specs.declared.op.Index.TheVariants.{Scaled, Field}
use Rattle.ir_code.specs.declared.op.Op.{Op}
use Rattle.ir_code.specs.declared.op.Op.TheVariants as op
use Rattle.ir_code.specs.declared.code.Move.{Move}
use Rattle.ir_code.specs.declared.code.Edge.{Edge}
use Rattle.ir_code.specs.declared.code.BlockCode.{BlockCode}
use Rattle.ir_code.specs.declared.code.FunctionCode.{FunctionCode}
use Rattle.ir_code.specs.declared.code.Code.{Code}
use Rattle.ir_code.specs.Cases.{edge_of}
use Rattle.seq_effects.specs.Values.{constant, is_of}
use Rattle.seq_effects.specs.Numbers.{fits_cast}
use Rattle.seq_effects.specs.Words.{word_length}
use Rattle.seq_effects.specs.Flow.{may_stand, receives}
use Rattle.seq_machine.specs.Meaning.{is_inner}
use Rattle.resolving_laws.specs.Looking.{Each}

-- a register of this type, or a constant whose value, where it has one, is of it
abbrev pub OperandHas : List Scalar → Scalar → Operand → Type 0
OperandHas types t (Register r) = slice_get types r ≡ Some t
OperandHas types t (Constant c) = IfOk (constant c) (λ v. is_of v t ≡ true)

-- an operand of some integer's type
abbrev pub IsNumber : List Scalar → Operand → Type 0
IsNumber types x = (w : ℕ) × OperandHas types (Int w) x

-- an index that counts is an integer
abbrev pub IndexHas : List Scalar → Index → Type 0
IndexHas types (Scaled value stride) = IsNumber types value
IndexHas types (Field offset) = Unit {0}

-- what a phi takes has the type of the phi's register
abbrev pub MoveTyped : FunctionCode → Move → Type 0
MoveTyped g m = (t : Scalar) × (slice_get g.registers m.register ≡ Some t) × OperandHas g.registers t m.value

-- an edge of this number: a frame may stand in its target, and its moves have their types
pub record EdgeTyped (g : FunctionCode) (i : ℕ) : Type 0 where
  pub edge : Edge
  pub at : slice_get g.edges i ≡ Some edge
  pub stands : may_stand (slice_get g.blocks edge.to) ≡ true
  pub moves : AllByRecursion (MoveTyped g) edge.moves

-- the operand, where there is one, has the type of the result
abbrev pub ReturnTyped : List Scalar → Option Scalar → Option Operand → Type 0
ReturnTyped types None None = Unit {0}
ReturnTyped types (Some t) (Some x) = OperandHas types t x
ReturnTyped types result value = ⊥

-- the type of an external's argument or answer in registers
abbrev pub outer_scalar : ExternalType → Option Scalar
outer_scalar (IntegerOf n) = Some (Int n)
outer_scalar PointerOf = Some Pointer
outer_scalar Void = None

-- an operand of the type of an external's argument
abbrev pub OuterHas : List Scalar → ExternalType → Operand → Type 0
OuterHas types t x = (s : Scalar) × (outer_scalar t ≡ Some s) × OperandHas types s x

-- the arguments are of these types one by one, and more may follow
abbrev pub Begin : List Scalar → Bool → List ExternalType → List Operand → Type 0
Begin types more [] [] = Unit {0}
Begin types true [] (x ∷ xs) = Unit {0}
Begin types false [] (x ∷ xs) = ⊥
Begin types more (t ∷ ts) [] = ⊥
Begin types more (t ∷ ts) (x ∷ xs) = OuterHas types t x × Begin types more ts xs

-- so they are for one of these lists of types
abbrev pub BeginOne : List Scalar → Bool → List (List ExternalType) → List Operand → Type 0
BeginOne types more [] xs = ⊥
BeginOne types more (ts ∷ others) xs = Begin types more ts xs ⊎ BeginOne types more others xs

-- a call of an external at one of its types
pub record OuterTyped (types : List Scalar) (to : Option ℕ) (e : External) (xs : List Operand) : Type 0 where
  pub arguments : BeginOne types (takes_more e) (external_parameters e) xs
  pub result : receives types to (outer_scalar (external_result e)) ≡ true

-- a call of a function that is defined, at its type
pub record CallTyped (code : Code) (types : List Scalar) (to : Option ℕ) (k : ℕ) (xs : List Operand) : Type 0 where
  pub callee : FunctionCode
  pub at : slice_get code.functions k ≡ Some callee
  pub defined : callee.declared ≡ false
  pub arguments : Each (OperandHas types) callee.parameters xs
  pub result : receives types to callee.result ≡ true

-- the operands of an instruction have the types that it needs, and so has the register that it sets; a frame stands at no phi
unfoldable pub OpTyped : Code → FunctionCode → Op → Type 0
OpTyped code g (op.Binary to what flags left right) = (w : ℕ) × (slice_get g.registers to ≡ Some (Int w)) × OperandHas g.registers (Int w) left × OperandHas g.registers (Int w) right
OpTyped code g (op.Cast to what flags value width) = (w : ℕ) × (slice_get g.registers to ≡ Some (Int width)) × OperandHas g.registers (Int w) value × (fits_cast what w width ≡ true)
OpTyped code g (op.Freeze to value) = (t : Scalar) × (slice_get g.registers to ≡ Some t) × OperandHas g.registers t value
OpTyped code g (op.Compare to pred left right) = (t : Scalar) × (slice_get g.registers to ≡ Some (Int 1)) × OperandHas g.registers t left × OperandHas g.registers t right
OpTyped code g (op.Select to c a b) = (t : Scalar) × (slice_get g.registers to ≡ Some t) × OperandHas g.registers (Int 1) c × OperandHas g.registers t a × OperandHas g.registers t b
OpTyped code g op.Phi = ⊥
OpTyped code g (op.Alloca to size) = slice_get g.registers to ≡ Some Pointer
OpTyped code g (op.Load to t p) = (slice_get g.registers to ≡ Some t) × (is_some (word_length t) ≡ true) × OperandHas g.registers Pointer p
OpTyped code g (op.Store t v p) = (is_some (word_length t) ≡ true) × OperandHas g.registers t v × OperandHas g.registers Pointer p
OpTyped code g (op.Address to inbounds base indices) = (slice_get g.registers to ≡ Some Pointer) × OperandHas g.registers Pointer base × AllByRecursion (IndexHas g.registers) indices
OpTyped code g (op.Call to k arguments) = CallTyped code g.registers to k arguments
OpTyped code g (op.CallPointer to p result parameters arguments) = OperandHas g.registers Pointer p × Each (OperandHas g.registers) parameters arguments × (receives g.registers to result ≡ true)
OpTyped code g (op.CallExternal to e arguments) = OuterTyped g.registers to e arguments
OpTyped code g (op.Return value) = ReturnTyped g.registers g.result value
OpTyped code g (op.Jump edge) = EdgeTyped g edge
OpTyped code g (op.Branch c a b) = OperandHas g.registers (Int 1) c × EdgeTyped g a × EdgeTyped g b
OpTyped code g (op.Switch v d cases) = IsNumber g.registers v × EdgeTyped g d × ((x e : ℕ) → edge_of cases x ≡ Some e → EdgeTyped g e)
OpTyped code g op.Unreachable = Unit {0}
OpTyped code g op.Stuck = ⊥

-- a frame of the function may stand in its first block, and its registers begin with its parameters
pub record CanEnter (g : FunctionCode) : Type 0 where
  pub others : List Scalar
  pub registers : g.registers ≡ g.parameters ++ others
  pub stands : may_stand (slice_get g.blocks 0) ≡ true

-- what holds of an instruction of a block behind its phis: it is typed, and another follows if it ends no block
pub record PlaceTyped (code : Code) (g : FunctionCode) (b : BlockCode) (i : ℕ) (o : Op) : Type 0 where
  pub typed : OpTyped code g o
  pub more : is_inner o ≡ true → i + 1 < length b.ops

pub record FunctionTyped (code : Code) (g : FunctionCode) : Type 0 where
  pub enter : g.declared ≡ false → CanEnter g
  pub places : (b i : ℕ) (block : BlockCode) (o : Op) → slice_get g.blocks b ≡ Some block → slice_get block.ops i ≡ Some o → block.phis ≤ i → PlaceTyped code g block i o

-- each function of the code
abbrev pub CodeTyped : Code → Type 0
CodeTyped code = (k : ℕ) (g : FunctionCode) → slice_get code.functions k ≡ Some g → FunctionTyped code g
