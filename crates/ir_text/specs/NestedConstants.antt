-- Constants that nest, each at the width of its type, after the LLVM Language Reference.
use Rattle.std.specs.Prelude.{ℕ, zero, suc, true, false, if◌then◌else◌, List, [], ◌∷◌, ◌++◌, length, Option, Some, Ok, Err, codes}
use Rattle.ir_tree.specs.Trees.{TypeV, ConstantV, TextC, ArrayC, StructC, AddressC, TypesV, ElementsV, NoneC, MoreC}
use Rattle.ir_text.specs.declared.fault.Fault.TheVariants.{Ended}
use Rattle.ir_text.specs.declared.nested_constants.Bracket.{Bracket}
use Rattle.ir_text.specs.declared.nested_constants.Bracket.TheVariants as bracket
use Rattle.ir_text.specs.Tokens.{TokenV, is_mark, is_word}
use Rattle.ir_text.specs.Reading.{Outcome, Reader, ◌>>=◌, meant, token_by}
use Rattle.ir_text.specs.Leaves.{mark_at, string_at}
use Rattle.ir_text.specs.Passed.{skipped}
use Rattle.ir_text.specs.Repeated.{repeated_under}
use Rattle.ir_text.specs.Lists.{after_comma, list_at}
use Rattle.ir_text.specs.Types.{Known, register_type, type_at}
use Rattle.ir_text.specs.MemoryTypes.{memory_type_at}
use Rattle.ir_text.specs.Indices as index
use Rattle.ir_text.specs.Indices.{Entry, Counted, Field, Never, entry_of, led_to}
use Rattle.ir_text.specs.Constants.{width_of, simple_constant}

-- an element with its type
abbrev pub Typed : Type 0
Typed = TypeV × ConstantV

abbrev pub elements_of : List Typed → ElementsV
elements_of [] = NoneC
elements_of (e ∷ es) = MoreC e.0 e.1 (elements_of es)

-- the mark that closes the elements
abbrev pub closing_mark : Bracket → ℕ
closing_mark bracket.Array = 93
closing_mark bracket.Struct = 125
closing_mark bracket.Packed = 125

-- the constant of these elements, behind the mark that closes them
abbrev pub bracket_end : Bracket → ElementsV → Reader ConstantV
bracket_end bracket.Array es ts = Ok (ArrayC es, ts)
bracket_end bracket.Struct es ts = Ok (StructC false es, ts)
bracket_end bracket.Packed es ts = mark_at 62 ts >>= λ close. Ok (StructC true es, close.1)

-- behind c
abbrev pub text_rule : Reader ConstantV
text_rule ts = string_at ts >>= λ text. Ok (TextC text.0, text.1)

-- WORDS ( T , ptr, behind getelementptr
abbrev pub address_start : Known → Reader TypeV
address_start known ts = do
  words ← skipped index.is_address_word (token_by index.address_word) ts
  start ← mark_at 40 words.1
  of ← memory_type_at known start.1
  comma ← mark_at 44 of.1
  pointer ← token_by index.pointer_type comma.1
  Ok (of.0, pointer.1)

-- i32 c, which names a field
abbrev pub field_at : TypesV → Reader Typed
field_at fields ts = do
  of ← token_by index.word_of_32 ts
  value ← token_by (index.field fields) of.1
  Ok ((of.0, value.0), value.1)

module _ (known : Known) (rule : ℕ → Reader ConstantV) where
  -- T c
  abbrev pub element_at : Reader Typed
  element_at ts = do
    of ← type_at known ts
    value ← rule (width_of of.0) of.1
    Ok ((of.0, value.0), value.1)

  -- behind the bracket that opens the elements
  abbrev pub bracket_rule : Bracket → Reader ConstantV
  bracket_rule kind ts = list_at (closing_mark kind) element_at ts >>= λ all. bracket_end kind (elements_of all.0) all.1

  -- behind <
  abbrev pub packed_rule : Reader ConstantV
  packed_rule ts = mark_at 123 ts >>= λ brace. bracket_rule bracket.Packed brace.1

  -- iN c
  abbrev pub counted_at : Reader Typed
  counted_at ts = do
    of ← token_by index.integer_type ts
    value ← rule (width_of of.0) of.1
    Ok ((of.0, value.0), value.1)

  -- an index
  abbrev pub index_by : Entry → Reader Typed
  index_by (Counted of) = counted_at
  index_by (Field fields) = field_at fields
  index_by Never = token_by (λ t. index.no_type (register_type t))

  abbrev pub index_at : Option TypeV → Reader Typed
  index_at into = index_by (entry_of known into)

  -- where the next index goes
  abbrev pub next_into : Option TypeV → Typed → Option TypeV
  next_into into e = led_to (entry_of known into) e.1

  -- the other indices, and the end of the address
  unfoldable pub indices_end : TypeV → ConstantV → List Typed → Option TypeV → Reader ConstantV
  indices_end of base front into ts = do
    others ← repeated_under (is_mark 44) (λ i. after_comma (index_at i)) next_into into ts
    close ← mark_at 41 others.1
    Ok (AddressC of base (elements_of (front ++ others.0)), close.1)

  -- behind the pointer: the first index counts whole values of the type
  unfoldable pub base_end : TypeV → ConstantV × List TokenV → Outcome ConstantV
  base_end of x = do
    comma ← mark_at 44 x.1
    first ← counted_at comma.1
    indices_end of x.0 (first.0 ∷ []) (Some of) first.1

  -- behind getelementptr
  abbrev pub address_rule : Reader ConstantV
  address_rule ts = address_start known ts >>= λ of. rule 64 of.1 >>= base_end of.0

  unfoldable pub constant_rule : ℕ → Reader ConstantV
  constant_rule w [] = Err Ended
  constant_rule w (t ∷ rest) =
      if is_mark 91 t then bracket_rule bracket.Array rest
      else (if is_mark 123 t then bracket_rule bracket.Struct rest
      else (if is_mark 60 t then packed_rule rest
      else (if is_word (codes "c") t then text_rule rest
      else (if is_word (codes "getelementptr") t then address_rule rest
      else meant (simple_constant w t) t rest))))

-- the constants that nest less than so deep
unfoldable pub constant_to : Known → ℕ → ℕ → Reader ConstantV
constant_to known zero w ts = Err Ended
constant_to known (suc n) w ts = constant_rule known (constant_to known n) w ts

-- a constant at a width, which takes more tokens than it nests
unfoldable pub constant_at : Known → ℕ → Reader ConstantV
constant_at known w ts = constant_to known (length ts) w ts
