-- What is said of printed names, types, constants and operands: where tokens spell one, what is printed of it spells it too.
use Rattle.std.specs.Prelude.{◌≡◌, ◌≤◌, ℕ, List}
use Rattle.pv_base.specs.declared.name.Name.{Name}
use Rattle.ir_lex.specs.declared.token.TokenKind.TheVariants as kind
use Rattle.ir_lex.specs.Spelling.{IsNameKind}
use Rattle.ir_tree.specs.declared.instruction.Operand.{Operand}
use Rattle.ir_tree.specs.Trees.{TypeV, ConstantV}
use Rattle.ir_text.specs.Tokens.{TokenV}
use Rattle.ir_text.specs.Leaves.{spelled_name}
use Rattle.ir_text.specs.Spelled.{one_token}
use Rattle.ir_text.specs.Types.{Known, register_type, result_type}
use Rattle.ir_text.specs.TypeSpelled.{a_type}
use Rattle.ir_text.specs.Operands.{a_constant, an_operand}
use Rattle.ir_printer.specs.Pieces.{Global, Local, Label, spelled}
use Rattle.ir_printer.specs.Operands.{type_pieces, constant_pieces, operand_pieces}
use Rattle.print_tokens.specs.Standing.{NameFits, Inline}
use Rattle.print_values.specs.Printed.{IsSound, AreSound, Printed}

-- a name that a token spells fits
abbrev pub NamesFit : Type 0
NamesFit = (t : TokenV) → IsSound t → IsNameKind t.kind → NameFits (spelled_name t)

-- what is printed of a name spells it
pub record NameReadsBack (name : Name) : Type 0 where
  pub global : (line : ℕ) → spelled_name (record { kind = kind.GlobalName; text = spelled (Global name); line = line }) ≡ name
  pub local : (line : ℕ) → spelled_name (record { kind = kind.LocalName; text = spelled (Local name); line = line }) ≡ name
  pub label : (line : ℕ) → spelled_name (record { kind = kind.Label; text = spelled (Label name); line = line }) ≡ name

abbrev pub NamesReadBack : Type 0
NamesReadBack = (name : Name) → NameFits name → NameReadsBack name

abbrev pub TypesReadBack : Type 0
TypesReadBack = (known : Known) (of : TypeV) (ws : List TokenV) → AreSound ws → a_type known of ws → Printed (a_type known of) (type_pieces of)

abbrev pub RegisterTypesReadBack : Type 0
RegisterTypesReadBack = (of : TypeV) (ws : List TokenV) → one_token register_type of ws → Printed (one_token register_type of) (type_pieces of)

abbrev pub ResultTypesReadBack : Type 0
ResultTypesReadBack = (of : TypeV) (ws : List TokenV) → one_token result_type of ws → Printed (one_token result_type of) (type_pieces of)

abbrev pub ConstantsReadBack : Type 0
ConstantsReadBack = (known : Known) (w : ℕ) (c : ConstantV) (ws : List TokenV) → 1 ≤ w → w ≤ 64 → AreSound ws → a_constant known w c ws → Printed (a_constant known w c) (constant_pieces c)

abbrev pub OperandsReadBack : Type 0
OperandsReadBack = (known : Known) (of : TypeV) (o : Operand Name ConstantV) (ws : List TokenV) → AreSound ws → an_operand known of o ws → Printed (an_operand known of o) (operand_pieces o)

-- ---- and stands inside a line

abbrev pub TypesStand : Type 0
TypesStand = (of : TypeV) → Inline (type_pieces of)

abbrev pub ConstantsStand : Type 0
ConstantsStand = (c : ConstantV) → Inline (constant_pieces c)

abbrev pub OperandsStand : Type 0
OperandsStand = (o : Operand Name ConstantV) → Inline (operand_pieces o)
