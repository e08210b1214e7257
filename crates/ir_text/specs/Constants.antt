-- The constants of the text, each at a type, after the LLVM Language Reference.
use Rattle.std.specs.Prelude.{ℕ, ◌-◌, ◌^◌, ◌&&◌, ◌==◌, not, nat_le, nat_lt, if◌then◌else◌, List, Option, Some, None, Result, Ok, Err, codes}
use Rattle.ir_lex.specs.declared.token.TokenKind.{TokenKind}
use Rattle.ir_lex.specs.declared.token.TokenKind.TheVariants as kind
use Rattle.ir_lex.specs.declared.token.Cause.{Cause}
use Rattle.ir_lex.specs.declared.token.Cause.TheVariants as causes
use Rattle.ir_lex.specs.declared.token.Integer.{Integer as Written}
use Rattle.ir_lex.specs.Spelling.{integer_of}
use Rattle.int_num.specs.Integer.{Integer}
use Rattle.ir_tree.specs.declared.nodes.TypeNode.{TypeNode}
use Rattle.ir_tree.specs.declared.nodes.TypeNode.TheVariants as node
use Rattle.ir_tree.specs.Trees.{TypeV, IntV, ConstantV, IntegerC, NullC, ZeroC, NameC}
use Rattle.ir_text.specs.Tokens.{TokenV, same}
use Rattle.ir_text.specs.Reading.{Meaning}
use Rattle.ir_text.specs.Leaves.{spelled_name}

-- the width of an integer written at a type: the type's own, and 64 where the type is no integer
abbrev pub width_of : TypeV → ℕ
width_of (IntV w) = if nat_le 1 w && nat_le w 64 then w else 64
width_of _ = 64

-- the same at a node
abbrev pub node_width : TypeNode → ℕ
node_width (node.Int w) = width_of (IntV w)
node_width _ = 64

-- an integer of a width is from -2^(N-1) to 2^N - 1
unfoldable pub integer_in : ℕ → Written → Option Integer
integer_in w n =
    if n.negative && not (n.magnitude == 0) then (if nat_le n.magnitude (2 ^ (w - 1)) then Some (record { width = w; bits = 2 ^ w - n.magnitude }) else None)
    else (if nat_lt n.magnitude (2 ^ w) then Some (record { width = w; bits = n.magnitude }) else None)

abbrev pub some_constant : Option Integer → Result ConstantV Cause
some_constant None = Err causes.Number
some_constant (Some n) = Ok (IntegerC n)

-- true, false, null, zeroinitializer
unfoldable pub word_constant : List ℕ → Result ConstantV Cause
word_constant text =
    if same text (codes "true") then Ok (IntegerC (record { width = 1; bits = 1 }))
    else (if same text (codes "false") then Ok (IntegerC (record { width = 1; bits = 0 }))
    else (if same text (codes "null") then Ok NullC
    else (if same text (codes "zeroinitializer") then Ok ZeroC else Err causes.Operand)))

abbrev pub simple_by : ℕ → TokenKind → TokenV → Result ConstantV Cause
simple_by w kind.Integer t = some_constant (integer_in w (integer_of t.text))
simple_by w kind.Word t = word_constant t.text
simple_by w kind.GlobalName t = Ok (NameC (spelled_name t))
simple_by w _ t = Err causes.Operand

-- a constant of one token, at a width
abbrev pub simple_constant : ℕ → Meaning ConstantV
simple_constant w t = simple_by w t.kind t
