-- Printed types, constants and operands stand inside a line.
use Rattle.std.proofs.Common.{◌≡◌, Bool, true, false, List, [], ◌∷◌, ◌++◌, refl, sym, subst, inl, inr}
use Rattle.std.specs.Prelude.{nat_eq, pos, codes, decimal}
use Rattle.std.proofs.lemmas.Bool.{cases_Bool}
use Rattle.pv_base.specs.declared.name.Name.{Name}
use Rattle.int_num.specs.Integer.{Integer}
use Rattle.ir_tree.specs.declared.instruction.Operand.{Operand}
use Rattle.ir_tree.specs.declared.instruction.Operand.TheVariants.{Register, Constant}
use Rattle.ir_tree.specs.Trees.{TypeV, IntV, PtrV, VoidV, ArrayV, StructV, NamedV, TypesV, NoneV, MoreV}
use Rattle.ir_tree.specs.Trees.{ConstantV, IntegerC, NullC, ZeroC, TextC, ArrayC, StructC, NameC, AddressC, ElementsV, NoneC, MoreC}
use Rattle.ir_printer.specs.Pieces.{Piece, Blank, Word, Mark, Global, Local, Number, Quote, led, within}
use Rattle.ir_printer.specs.Operands.{address_head, pointer_lead, opening, closing, type_pieces, types_pieces, integer_piece, constant_pieces, elements_pieces, operand_pieces}
use Rattle.print_tokens.specs.Standing.{begins_end, is_line_end, is_type_word, Inline}
use Rattle.print_values.specs.Laws.{TypesStand, ConstantsStand, OperandsStand}
use Rattle.print_values.proofs.Tokens.{address_is}
use Rattle.print_values.proofs.Composing.{AllInline, ends_append, led_ends, inline_one, inline_open, inline_closed, inline_append, inline_blank, inline_comma, inline_apart, inline_led, inline_within}

-- what stands in brackets, and the closing mark
inline_list : (b : _) (all : List (List Piece)) → AllInline all → Inline (within false all ++ Mark b ∷ [])
inline_list b all i = inline_append (within false all) (Mark b ∷ []) refl (inline_within false all i) (inline_one (Mark b) refl refl)

inline_struct : (packed : Bool) (all : List (List Piece)) → AllInline all → Inline (opening packed ++ within false all ++ closing packed)
inline_struct false all i = inline_closed (Mark 123) (within false all ++ Mark 125 ∷ []) refl refl refl (inline_list 125 all i)
inline_struct true all i =
    inline_closed (Mark 60) (Mark 123 ∷ within false all ++ Mark 125 ∷ Mark 62 ∷ []) refl refl refl
    (inline_closed (Mark 123) (within false all ++ Mark 125 ∷ Mark 62 ∷ []) refl refl refl
    (inline_append (within false all) (Mark 125 ∷ Mark 62 ∷ []) refl (inline_within false all i) (inline_closed (Mark 125) (Mark 62 ∷ []) refl refl refl (inline_one (Mark 62) refl refl))))

inline_array : (count : Piece) (ps : List Piece) → is_line_end count ≡ false → is_type_word count ≡ false → Inline ps → Inline (Mark 91 ∷ count ∷ Blank ∷ Word (codes "x") ∷ Blank ∷ ps ++ Mark 93 ∷ [])
inline_array count ps line word i =
    inline_closed (Mark 91) (count ∷ Blank ∷ Word (codes "x") ∷ Blank ∷ ps ++ Mark 93 ∷ []) refl refl refl
    (inline_open count (Blank ∷ Word (codes "x") ∷ Blank ∷ ps ++ Mark 93 ∷ []) line word refl
    (inline_blank (Word (codes "x") ∷ Blank ∷ ps ++ Mark 93 ∷ [])
    (inline_open (Word (codes "x")) (Blank ∷ ps ++ Mark 93 ∷ []) refl refl refl
    (inline_blank (ps ++ Mark 93 ∷ []) (inline_append ps (Mark 93 ∷ []) refl i (inline_one (Mark 93) refl refl))))))

mutual
  unfolding type_pieces types_pieces

  pub type_stands : (of : TypeV) → Inline (type_pieces of)
  type_stands (IntV w) = inline_one (Word (105 ∷ decimal w)) refl refl
  type_stands PtrV = inline_one (Word (codes "ptr")) refl refl
  type_stands VoidV = inline_one (Word (codes "void")) refl refl
  type_stands (NamedV name) = inline_one (Local name) refl refl
  type_stands (ArrayV n of) = inline_array (Number (pos n)) (type_pieces of) refl refl (type_stands of)
  type_stands (StructV packed fields) = inline_struct packed (types_pieces fields) (fields_stand fields)

  fields_stand : (fields : TypesV) → AllInline (types_pieces fields)
  fields_stand NoneV = tt
  fields_stand (MoreV type rest) = (type_stands type, fields_stand rest)

integer_stands : (n : Integer) → Inline (integer_piece n ∷ [])
unfolding integer_piece
integer_stands n =
    elim (cases_Bool (nat_eq n.width 1)) [
      | inl one ↦ elim (cases_Bool (nat_eq n.bits 0)) [
        | inl zero ↦ rw (one, zero) (inline_one (Word (codes "false")) refl refl)
        | inr other ↦ rw (one, other) (inline_one (Word (codes "true")) refl refl)
      ]
      | inr more ↦ rw more (inline_one (Number _) refl refl)
    ]

-- `getelementptr (T, ptr B`, and what stands behind them
inline_address : (ts bs rs : List Piece) → begins_end rs ≡ true → Inline ts → Inline bs → Inline rs → Inline (address_head ++ ts ++ pointer_lead ++ bs ++ rs)
inline_address ts bs rs ends i j k =
    let base : Inline (bs ++ rs) = inline_append bs rs ends j k in
    let pointer : Inline (Word (codes "ptr") ∷ Blank ∷ (bs ++ rs)) = inline_open (Word (codes "ptr")) (Blank ∷ (bs ++ rs)) refl refl refl (inline_blank (bs ++ rs) base) in
    let behind : Inline (Mark 44 ∷ Blank ∷ Word (codes "ptr") ∷ Blank ∷ (bs ++ rs)) = inline_comma (Word (codes "ptr") ∷ Blank ∷ (bs ++ rs)) pointer in
    let others : List Piece = ts ++ (Mark 44 ∷ Blank ∷ Word (codes "ptr") ∷ Blank ∷ (bs ++ rs)) in
    let inner : Inline others = inline_append ts (Mark 44 ∷ Blank ∷ Word (codes "ptr") ∷ Blank ∷ (bs ++ rs)) refl i behind in
    let whole : Inline (Word (codes "getelementptr") ∷ Blank ∷ Mark 40 ∷ others) =
    inline_open (Word (codes "getelementptr")) (Blank ∷ Mark 40 ∷ others) refl refl refl (inline_blank (Mark 40 ∷ others) (inline_closed (Mark 40) others refl refl refl inner)) in
    subst Inline (sym (address_is ts bs rs)) whole

inline_indices : (all : List (List Piece)) → AllInline all → Inline (led all ++ Mark 41 ∷ [])
inline_indices all i = inline_append (led all) (Mark 41 ∷ []) refl (inline_led all i) (inline_one (Mark 41) refl refl)

mutual
  unfolding constant_pieces elements_pieces

  pub constant_stands : (c : ConstantV) → Inline (constant_pieces c)
  constant_stands (IntegerC n) = integer_stands n
  constant_stands NullC = inline_one (Word (codes "null")) refl refl
  constant_stands ZeroC = inline_one (Word (codes "zeroinitializer")) refl refl
  constant_stands (TextC bytes) = inline_open (Word (codes "c")) (Quote bytes ∷ []) refl refl refl (inline_one (Quote bytes) refl refl)
  constant_stands (NameC name) = inline_one (Global name) refl refl
  constant_stands (ArrayC elements) = inline_closed (Mark 91) (within false (elements_pieces elements) ++ Mark 93 ∷ []) refl refl refl (inline_list 93 (elements_pieces elements) (elements_stand elements))
  constant_stands (StructC packed fields) = inline_struct packed (elements_pieces fields) (elements_stand fields)
  constant_stands (AddressC of base indices) = inline_address (type_pieces of) (constant_pieces base) (led (elements_pieces indices) ++ Mark 41 ∷ []) (ends_append (led (elements_pieces indices)) (Mark 41 ∷ []) (led_ends (elements_pieces indices)) refl) (type_stands of) (constant_stands base) (inline_indices (elements_pieces indices) (elements_stand indices))

  elements_stand : (elements : ElementsV) → AllInline (elements_pieces elements)
  elements_stand NoneC = tt
  elements_stand (MoreC type value rest) = (inline_apart (type_pieces type) (constant_pieces value) (type_stands type) (constant_stands value), elements_stand rest)

pub operand_stands : (o : Operand Name ConstantV) → Inline (operand_pieces o)
unfolding operand_pieces
operand_stands (Register name) = inline_one (Local name) refl refl
operand_stands (Constant value) = constant_stands value

pub types_stand : TypesStand
types_stand = type_stands

pub constants_stand : ConstantsStand
constants_stand = constant_stands

pub operands_stand : OperandsStand
operands_stand = operand_stands
