-- `call`, behind its word.
use Rattle.std.specs.Prelude.{Bool, true, false, ◌||◌, if◌then◌else◌, [], ◌∷◌, Option, Some, None, Result, Ok, Err, codes}
use Rattle.pv_base.specs.declared.name.Name.{Name}
use Rattle.ir_lex.specs.declared.token.TokenKind.{TokenKind}
use Rattle.ir_lex.specs.declared.token.TokenKind.TheVariants as kind
use Rattle.ir_lex.specs.declared.token.Cause.{Cause}
use Rattle.ir_lex.specs.declared.token.Cause.TheVariants as causes
use Rattle.ir_tree.specs.declared.instruction.Argument.{Argument}
use Rattle.ir_tree.specs.declared.instruction.Callee.{Callee}
use Rattle.ir_tree.specs.declared.instruction.Callee.TheVariants as callee
use Rattle.ir_tree.specs.declared.instruction.Instruction.{Instruction}
use Rattle.ir_tree.specs.declared.instruction.Instruction.TheVariants as instruction
use Rattle.ir_tree.specs.Trees.{TypeV, ConstantV}
use Rattle.ir_text.specs.declared.fault.Fault.TheVariants.{Ended}
use Rattle.ir_text.specs.Tokens.{TokenV, is_mark, is_points, is_refused}
use Rattle.ir_text.specs.Operands.{operand_at}
use Rattle.ir_text.specs.Reading.{Reader, ◌>>=◌, gives, wrong, Meaning, token_by}
use Rattle.ir_text.specs.Choice.{choose}
use Rattle.ir_text.specs.Leaves.{tested, mark_at, word_at, spelled_name}
use Rattle.ir_text.specs.Lists.{list_at}
use Rattle.ir_text.specs.Passed.{skipped, is_integer, group_from, may_pass, after_sign, after_string, words_at, stops}
use Rattle.ir_text.specs.Types.{Known, register_type, result_type}
use Rattle.ir_instr.specs.Words.{opcodes, constant_words}

-- ---- the words between the type of an argument and its value

-- a number behind a word is the value where `,` or `)` stands behind it, else it belongs to the word: where the tokens end, it may be either
abbrev pub number_behind : TokenV → Reader (Unit {0})
number_behind t [] = Err Ended
number_behind t (u ∷ rest) = if is_mark 44 u || is_mark 41 u then Ok (tt, t ∷ u ∷ rest) else Ok (tt, u ∷ rest)

-- a number that belongs to the word
unfoldable pub number_of_word : Reader (Unit {0})
number_of_word [] = Ok (tt, [])
number_of_word (t ∷ rest) = if is_integer t then number_behind t rest else Ok (tt, t ∷ rest)

-- a group in parentheses, or a number that belongs to the word
abbrev pub after_attribute : Reader (Unit {0})
after_attribute = choose (is_mark 40) (λ ts. mark_at 40 ts >>= λ x. group_from 1 x.1) number_of_word

abbrev pub attribute_by : TokenKind → TokenV → Reader (Unit {0})
attribute_by kind.Word t rest = if is_refused t then wrong t causes.Operand else after_attribute rest
attribute_by kind.Text t rest = after_string rest
attribute_by _ t rest = if is_mark 35 t then after_sign rest else wrong t causes.Operand

-- the words at which a constant begins are no attributes
abbrev pub begins_value : TokenV → Bool
begins_value = stops constant_words false

-- one attribute of an argument
unfoldable pub attribute_at : Reader (Unit {0})
attribute_at [] = Err Ended
attribute_at (t ∷ rest) = if may_pass begins_value t then attribute_by t.kind t rest else wrong t causes.Operand

abbrev pub attributes_at : Reader (Unit {0})
attributes_at = skipped (may_pass begins_value) attribute_at

module _ (known : Known) where
  -- T A, with attributes between them
  abbrev pub argument_at : Reader (Argument Name TypeV ConstantV)
  argument_at ts = do
    of ← token_by register_type ts
    passed ← attributes_at of.1
    value ← operand_at known of.0 passed.1
    Ok (record { of = of.0; value = value.0 }, value.1)

-- ---- what is called

-- ...
abbrev pub points : Meaning (Unit {0})
points t = tested (is_points t) causes.Operand

-- (ptr, ...), the one function type that may be written
abbrev pub written_at : Reader Bool
written_at ts = do
  parenthesis ← mark_at 40 ts
  pointer ← word_at (codes "ptr") parenthesis.1
  comma ← mark_at 44 pointer.1
  dots ← token_by points comma.1
  close ← mark_at 41 dots.1
  Ok (true, close.1)

-- whether the function type is written
abbrev pub variadic_at : Reader Bool
variadic_at = choose (is_mark 40) written_at (gives false)

abbrev pub called_by : Bool → TokenKind → TokenV → Result (Callee Name) Cause
called_by variadic kind.GlobalName t = Ok (callee.Function (spelled_name t))
called_by false kind.LocalName t = Ok (callee.Pointer (spelled_name t))
called_by _ _ t = Err causes.Name

-- @f, or %p where no function type is written
abbrev pub called : Bool → Meaning (Callee Name)
called variadic t = called_by variadic t.kind t

-- what a call answers: with a result, a register's type
abbrev pub answer_type : Option Name → Meaning TypeV
answer_type (Some to) = register_type
answer_type None = result_type

-- operand bundles are outside the language
abbrev pub bundle : Meaning (Unit {0})
bundle t = Err (causes.OutOfProfile (codes "operand bundles"))

-- no `[`, with which operand bundles begin
abbrev pub unbundled : Reader (Unit {0})
unbundled = choose (is_mark 91) (token_by bundle) (gives tt)

module _ (known : Known) where
  -- WORDS T @f(T A, ..) WORDS, with a written function type behind T
  abbrev pub call_at : Option Name → Reader (Instruction Name TypeV ConstantV)
  call_at to ts = do
    words ← words_at (stops [] true) ts
    of ← token_by (answer_type to) words.1
    variadic ← variadic_at of.1
    what ← token_by (called variadic.0) variadic.1
    parenthesis ← mark_at 40 what.1
    arguments ← list_at 41 (argument_at known) parenthesis.1
    behind ← words_at (stops opcodes false) arguments.1
    none ← unbundled behind.1
    Ok (instruction.Call to of.0 variadic.0 what.0 arguments.0, none.1)
