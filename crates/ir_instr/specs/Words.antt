-- The words that begin instructions, and what words stand for.
use Rattle.std.specs.Prelude.{ℕ, Bool, false, if◌then◌else◌, List, [], ◌∷◌, Option, Some, None, Result, Ok, Err, codes}
use Rattle.ir_lex.specs.declared.token.TokenKind.{TokenKind}
use Rattle.ir_lex.specs.declared.token.TokenKind.TheVariants as kind
use Rattle.ir_lex.specs.declared.token.Cause.{Cause}
use Rattle.ir_lex.specs.declared.token.Cause.TheVariants as causes
use Rattle.int_num.specs.declared.ops.BinOp.{BinOp}
use Rattle.int_num.specs.declared.ops.BinOp.TheVariants as op
use Rattle.int_num.specs.declared.ops.CastOp.{CastOp}
use Rattle.int_num.specs.declared.ops.CastOp.TheVariants as cast
use Rattle.int_num.specs.declared.ops.Pred.{Pred}
use Rattle.int_num.specs.declared.ops.Pred.TheVariants as pred
use Rattle.ir_text.specs.Tokens.{TokenV, same, among}
use Rattle.ir_text.specs.Reading.{Meaning}

-- what a word stands for in a table
unfoldable pub meaning_of : {A : Type 0} → List (List ℕ × A) → List ℕ → Option A
meaning_of [] text = None
meaning_of (e ∷ es) text = if same text e.0 then Some e.1 else meaning_of es text

-- the operations on two integers
abbrev pub operations : List (List ℕ × BinOp)
operations =
    (codes "add", op.Add) ∷ (codes "sub", op.Sub) ∷ (codes "mul", op.Mul) ∷ (codes "udiv", op.Udiv) ∷ (codes "sdiv", op.Sdiv) ∷ (codes "urem", op.Urem)
    ∷ (codes "srem", op.Srem) ∷ (codes "shl", op.Shl) ∷ (codes "lshr", op.Lshr) ∷ (codes "ashr", op.Ashr) ∷ (codes "and", op.And) ∷ (codes "or", op.Or)
    ∷ (codes "xor", op.Xor) ∷ []

-- the changes of width
abbrev pub casts : List (List ℕ × CastOp)
casts = (codes "trunc", cast.Trunc) ∷ (codes "zext", cast.Zext) ∷ (codes "sext", cast.Sext) ∷ []

-- the comparisons
abbrev pub predicates : List (List ℕ × Pred)
predicates =
    (codes "eq", pred.Eq) ∷ (codes "ne", pred.Ne) ∷ (codes "ugt", pred.Ugt) ∷ (codes "uge", pred.Uge) ∷ (codes "ult", pred.Ult) ∷ (codes "ule", pred.Ule)
    ∷ (codes "sgt", pred.Sgt) ∷ (codes "sge", pred.Sge) ∷ (codes "slt", pred.Slt) ∷ (codes "sle", pred.Sle) ∷ []

-- the words of the instructions that have no result
abbrev pub resultless : List (List ℕ)
resultless = codes "store" ∷ codes "ret" ∷ codes "br" ∷ codes "switch" ∷ codes "unreachable" ∷ []

-- the words that begin instructions
abbrev pub opcodes : List (List ℕ)
opcodes =
    codes "add" ∷ codes "sub" ∷ codes "mul" ∷ codes "udiv" ∷ codes "sdiv" ∷ codes "urem" ∷ codes "srem" ∷ codes "shl" ∷ codes "lshr" ∷ codes "ashr"
    ∷ codes "and" ∷ codes "or" ∷ codes "xor" ∷ codes "trunc" ∷ codes "zext" ∷ codes "sext" ∷ codes "freeze" ∷ codes "icmp" ∷ codes "select" ∷ codes "phi"
    ∷ codes "alloca" ∷ codes "load" ∷ codes "store" ∷ codes "getelementptr" ∷ codes "call" ∷ codes "ret" ∷ codes "br" ∷ codes "switch"
    ∷ codes "unreachable" ∷ []

-- the words that begin constants
abbrev pub constant_words : List (List ℕ)
constant_words = codes "true" ∷ codes "false" ∷ codes "null" ∷ codes "zeroinitializer" ∷ codes "getelementptr" ∷ codes "c" ∷ []

-- what is there, or why it is not
abbrev pub found : {A : Type 0} → Option A → Cause → Result A Cause
found (Some a) cause = Ok a
found None cause = Err cause

abbrev pub worded_by : {A : Type 0} → List (List ℕ × A) → TokenKind → List ℕ → Result A Cause
worded_by table kind.Word text = found (meaning_of table text) causes.Operand
worded_by table _ text = Err causes.Operand

-- a word of a table
abbrev pub worded : {A : Type 0} → List (List ℕ × A) → Meaning A
worded table t = worded_by table t.kind t.text

abbrev pub word_among_by : List (List ℕ) → TokenKind → List ℕ → Bool
word_among_by words kind.Word text = among words text
word_among_by words _ text = false

-- one of these words
abbrev pub is_among : List (List ℕ) → TokenV → Bool
is_among words t = word_among_by words t.kind t.text
