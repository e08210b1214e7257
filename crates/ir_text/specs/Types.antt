-- The types of the text, after the type system of the LLVM Language Reference.
use Rattle.std.specs.Prelude.{ℕ, zero, suc, true, false, ◌&&◌, ◌==◌, not, nat_le, if◌then◌else◌, List, [], ◌∷◌, length, drop, Option, is_some, Result, Ok, Err, codes}
use Rattle.pv_base.specs.declared.name.Name.{Name}
use Rattle.ir_lex.specs.declared.token.TokenKind.{TokenKind}
use Rattle.ir_lex.specs.declared.token.TokenKind.TheVariants as kind
use Rattle.ir_lex.specs.declared.token.Cause.{Cause}
use Rattle.ir_lex.specs.declared.token.Cause.TheVariants as causes
use Rattle.ir_lex.specs.declared.token.Integer.{Integer}
use Rattle.ir_lex.specs.Spelling.{number, integer_of}
use Rattle.ir_tree.specs.declared.layout.Layout.{Layout}
use Rattle.ir_tree.specs.Trees.{TypeV, IntV, PtrV, VoidV, ArrayV, StructV, NamedV}
use Rattle.ir_tree.specs.Naming.{listed}
use Rattle.ir_text.specs.declared.fault.Fault.TheVariants.{Ended}
use Rattle.ir_text.specs.Tokens.{TokenV, same, is_mark}
use Rattle.ir_text.specs.Reading.{Reader, ◌>>=◌, Meaning, meant, token_by}
use Rattle.ir_text.specs.Leaves.{mark_at, word_at, spelled_name}
use Rattle.ir_text.specs.Passed.{is_int_word}
use Rattle.ir_text.specs.Lists.{list_at}

-- what the whole text says of a named type: its body, unless there is a fault in it, and its layout
pub record Body : Type 0 where
  pub of : Option TypeV
  pub layout : Option Layout

-- the named types of the whole text
abbrev pub Known : Type 0
Known = Name → Option Body

-- ---- types of one token

-- iN by its digits: a width is 1 to 64
unfoldable pub int_type : List ℕ → Result TypeV Cause
int_type digits = if nat_le 1 (number digits) && nat_le (number digits) 64 then Ok (IntV (number digits)) else Err causes.Width

-- ptr, or iN
unfoldable pub word_type : List ℕ → Result TypeV Cause
word_type text = if same text (codes "ptr") then Ok PtrV else (if is_int_word text then int_type (drop 1 text) else Err causes.BadType)

abbrev pub register_by : TokenKind → TokenV → Result TypeV Cause
register_by kind.Word t = word_type t.text
register_by _ t = Err causes.BadType

-- the type of a register
abbrev pub register_type : Meaning TypeV
register_type t = register_by t.kind t

abbrev pub result_by : TokenKind → TokenV → Result TypeV Cause
result_by kind.Word t = if same t.text (codes "void") then Ok VoidV else word_type t.text
result_by _ t = Err causes.BadType

-- the type of a result: that of a register, or void
abbrev pub result_type : Meaning TypeV
result_type t = result_by t.kind t

-- a named type
abbrev pub known_type : Known → Name → Result TypeV Cause
known_type known name = if is_some (known name) then Ok (NamedV name) else Err causes.BadType

abbrev pub simple_by : Known → TokenKind → TokenV → Result TypeV Cause
simple_by known kind.Word t = word_type t.text
simple_by known kind.LocalName t = known_type known (spelled_name t)
simple_by known _ t = Err causes.BadType

-- a type of one token
abbrev pub simple : Known → Meaning TypeV
simple known t = simple_by known t.kind t

-- ---- types in brackets

abbrev pub not_negative : Integer → Result ℕ Cause
not_negative n = if n.negative && not (n.magnitude == 0) then Err causes.Number else Ok n.magnitude

abbrev pub count_by : TokenKind → TokenV → Result ℕ Cause
count_by kind.Integer t = not_negative (integer_of t.text)
count_by _ t = Err causes.Operand

-- how many elements an array has
abbrev pub count : Meaning ℕ
count t = count_by t.kind t

-- an array's count, up to its element
abbrev pub header_at : Reader ℕ
header_at ts = do
  many ← token_by count ts
  times ← word_at (codes "x") many.1
  Ok (many.0, times.1)

module _ (known : Known) (rule : Reader TypeV) where
  -- behind [
  abbrev pub array_rule : Reader TypeV
  array_rule ts = do
    many ← header_at ts
    of ← rule many.1
    close ← mark_at 93 of.1
    Ok (ArrayV many.0 of.0, close.1)

  -- behind {
  abbrev pub struct_rule : Reader TypeV
  struct_rule ts = do
    fields ← list_at 125 rule ts
    Ok (StructV false (listed fields.0), fields.1)

  -- behind <
  abbrev pub packed_rule : Reader TypeV
  packed_rule ts = do
    brace ← mark_at 123 ts
    fields ← list_at 125 rule brace.1
    close ← mark_at 62 fields.1
    Ok (StructV true (listed fields.0), close.1)

  unfoldable pub type_rule : Reader TypeV
  type_rule [] = Err Ended
  type_rule (t ∷ rest) =
      if is_mark 91 t then array_rule rest
      else (if is_mark 123 t then struct_rule rest
      else (if is_mark 60 t then packed_rule rest else meant (simple known t) t rest))

-- the types that nest less than so deep
unfoldable pub type_to : Known → ℕ → Reader TypeV
type_to known zero ts = Err Ended
type_to known (suc n) ts = type_rule known (type_to known n) ts

-- a type takes more tokens than it nests
unfoldable pub type_at : Known → Reader TypeV
type_at known ts = type_to known (length ts) ts
