-- How constants are spelled.
use Rattle.std.specs.Prelude.{ℕ, true, false, List, Option, Some, codes}
use Rattle.ir_tree.specs.Trees.{TypeV, ConstantV, IntegerC, NullC, ZeroC, TextC, ArrayC, StructC, NameC, AddressC, ElementsV, NoneC, MoreC}
use Rattle.ir_text.specs.Tokens.{TokenV}
use Rattle.ir_text.specs.Spelled.{one_token}
use Rattle.ir_text.specs.Repeated.{Both}
use Rattle.ir_text.specs.Leaves.{string}
use Rattle.ir_text.specs.Passed.{skips}
use Rattle.ir_text.specs.Types.{Known}
use Rattle.ir_text.specs.TypeSpelled.{◌▸◌, a_mark, a_word, a_type}
use Rattle.ir_text.specs.MemoryTypes.{a_memory_type}
use Rattle.ir_text.specs.Indices as index
use Rattle.ir_text.specs.Indices.{Entry, Counted, Field, Never, entry_of, led_to}
use Rattle.ir_text.specs.Constants.{width_of, simple_constant}

-- WORDS ( T , ptr
abbrev pub an_address_start : Known → TypeV → List TokenV → Type 0
an_address_start known of = skips (one_token index.address_word) tt ▸ a_mark 40 ▸ a_memory_type known of ▸ a_mark 44 ▸ one_token index.pointer_type tt

-- an index that may be this entry, with its value spelled so
abbrev pub an_index : Entry → TypeV → ConstantV → (List TokenV → Type 0) → List TokenV → Type 0
an_index (Counted into) of c value ws = (one_token index.integer_type of ▸ value) ws
an_index (Field fields) of c value ws = (one_token index.word_of_32 of ▸ one_token (index.field fields) c) ws
an_index Never of c value ws = ⊥

abbrev mutual
  -- a constant of one token at the width, c"..", [ T c, .. ], { T c, .. }, <{ T c, .. }>,
  -- getelementptr WORDS (T, ptr c, iN c, ..)
  pub a_constant : Known → ℕ → ConstantV → List TokenV → Type 0
  a_constant known w (IntegerC n) ws = one_token (simple_constant w) (IntegerC n) ws
  a_constant known w NullC ws = one_token (simple_constant w) NullC ws
  a_constant known w ZeroC ws = one_token (simple_constant w) ZeroC ws
  a_constant known w (NameC name) ws = one_token (simple_constant w) (NameC name) ws
  a_constant known w (TextC bytes) ws = Both (a_word (codes "c")) (one_token string bytes) ws
  a_constant known w (ArrayC elements) ws = Both (a_mark 91) (some_elements known 93 elements) ws
  a_constant known w (StructC false fields) ws = Both (a_mark 123) (some_elements known 125 fields) ws
  a_constant known w (StructC true fields) ws = Both (a_mark 60) (Both (a_mark 123) (Both (some_elements known 125 fields) (a_mark 62))) ws
  a_constant known w (AddressC of base indices) ws = (a_word (codes "getelementptr") ▸ an_address_start known of ▸ a_constant known 64 base ▸ first_index known of indices) ws

  -- one index at least, which counts whole values of the type
  pub first_index : Known → TypeV → ElementsV → List TokenV → Type 0
  first_index known of NoneC ws = ⊥
  first_index known of (MoreC t c rest) ws = (a_mark 44 ▸ (one_token index.integer_type t ▸ a_constant known (width_of t) c) ▸ more_indices known (Some of) rest) ws

  -- the others, each into the type that the one before it leads to
  pub more_indices : Known → Option TypeV → ElementsV → List TokenV → Type 0
  more_indices known into NoneC ws = a_mark 41 ws
  more_indices known into (MoreC t c rest) ws = (a_mark 44 ▸ an_index (entry_of known into) t c (a_constant known (width_of t) c) ▸ more_indices known (led_to (entry_of known into) c) rest) ws

  -- elements with commas between them, up to a closing mark
  pub some_elements : Known → ℕ → ElementsV → List TokenV → Type 0
  some_elements known close NoneC ws = a_mark close ws
  some_elements known close (MoreC of value rest) ws = Both (Both (a_type known of) (a_constant known (width_of of) value)) (more_elements known close rest) ws

  pub more_elements : Known → ℕ → ElementsV → List TokenV → Type 0
  more_elements known close NoneC ws = a_mark close ws
  more_elements known close (MoreC of value rest) ws = Both (a_mark 44) (Both (Both (a_type known of) (a_constant known (width_of of) value)) (more_elements known close rest)) ws
