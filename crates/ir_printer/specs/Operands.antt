-- Types, constants and operands as pieces, after the LLVM Language Reference, "Type System" and "Constants".
use Rattle.std.specs.Prelude.{pos, Bool, true, false, nat_eq, if◌then◌else◌, List, [], ◌∷◌, ◌++◌, codes, decimal}
use Rattle.pv_base.specs.declared.name.Name.{Name}
use Rattle.int_num.specs.Integer.{Integer, signed}
use Rattle.ir_tree.specs.declared.instruction.Operand.{Operand}
use Rattle.ir_tree.specs.declared.instruction.Operand.TheVariants.{Register, Constant}
use Rattle.ir_tree.specs.declared.instruction.Argument.{Argument}
use Rattle.ir_tree.specs.Trees.{TypeV, IntV, PtrV, VoidV, ArrayV, StructV, NamedV, TypesV, NoneV, MoreV}
use Rattle.ir_tree.specs.Trees.{ConstantV, IntegerC, NullC, ZeroC, TextC, ArrayC, StructC, NameC, AddressC, ElementsV, NoneC, MoreC}
use Rattle.ir_printer.specs.Pieces.{Piece, Blank, Word, Mark, Global, Local, Number, Quote, led, within}

-- `{` and `}`, and of a packed struct `<{` and `}>`
abbrev pub opening : Bool → List Piece
opening false = Mark 123 ∷ []
opening true = Mark 60 ∷ Mark 123 ∷ []

abbrev pub closing : Bool → List Piece
closing false = Mark 125 ∷ []
closing true = Mark 125 ∷ Mark 62 ∷ []

-- `iN`, `ptr`, `void`, `[n x T]`, `{ T, T }`, `<{ T, T }>`, `%name`
unfoldable mutual
  pub type_pieces : TypeV → List Piece
  type_pieces (IntV width) = Word (105 ∷ decimal width) ∷ []
  type_pieces PtrV = Word (codes "ptr") ∷ []
  type_pieces VoidV = Word (codes "void") ∷ []
  type_pieces (ArrayV count of) = Mark 91 ∷ Number (pos count) ∷ Blank ∷ Word (codes "x") ∷ Blank ∷ type_pieces of ++ Mark 93 ∷ []
  type_pieces (StructV packed fields) = opening packed ++ within false (types_pieces fields) ++ closing packed
  type_pieces (NamedV name) = Local name ∷ []

  pub types_pieces : TypesV → List (List Piece)
  types_pieces NoneV = []
  types_pieces (MoreV type rest) = type_pieces type ∷ types_pieces rest

-- an integer in signed decimal, and of one bit as `true` or `false`
unfoldable pub integer_piece : Integer → Piece
integer_piece n = if nat_eq n.width 1 then (if nat_eq n.bits 0 then Word (codes "false") else Word (codes "true")) else Number (signed n)

-- `getelementptr (`, and `, ptr ` before a pointer
abbrev pub address_head : List Piece
address_head = Word (codes "getelementptr") ∷ Blank ∷ Mark 40 ∷ []

abbrev pub pointer_lead : List Piece
pointer_lead = Mark 44 ∷ Blank ∷ Word (codes "ptr") ∷ Blank ∷ []

-- `null`, `zeroinitializer`, `c".."`, `[ T c, T c ]`, `{ T c, T c }`, `<{ T c, T c }>`, `@name`, `getelementptr (T, ptr c, T c)`
unfoldable mutual
  pub constant_pieces : ConstantV → List Piece
  constant_pieces (IntegerC n) = integer_piece n ∷ []
  constant_pieces NullC = Word (codes "null") ∷ []
  constant_pieces ZeroC = Word (codes "zeroinitializer") ∷ []
  constant_pieces (TextC bytes) = Word (codes "c") ∷ Quote bytes ∷ []
  constant_pieces (ArrayC elements) = Mark 91 ∷ within false (elements_pieces elements) ++ Mark 93 ∷ []
  constant_pieces (StructC packed fields) = opening packed ++ within false (elements_pieces fields) ++ closing packed
  constant_pieces (NameC name) = Global name ∷ []
  constant_pieces (AddressC of base indices) =
      address_head ++ type_pieces of ++ pointer_lead ++ constant_pieces base ++ (led (elements_pieces indices) ++ Mark 41 ∷ [])

  pub elements_pieces : ElementsV → List (List Piece)
  elements_pieces NoneC = []
  elements_pieces (MoreC type value rest) = (type_pieces type ++ Blank ∷ constant_pieces value) ∷ elements_pieces rest

-- a register, or a constant
unfoldable pub operand_pieces : Operand Name ConstantV → List Piece
operand_pieces (Register name) = Local name ∷ []
operand_pieces (Constant value) = constant_pieces value

-- `T A`
abbrev pub argument_pieces : Argument Name TypeV ConstantV → List Piece
argument_pieces a = type_pieces a.of ++ Blank ∷ operand_pieces a.value
