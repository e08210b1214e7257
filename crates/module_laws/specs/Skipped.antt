-- How items that are passed over are spelled.
use Rattle.std.specs.Prelude.{◌≡◌, Bool, List, [], ◌∷◌, codes}
use Rattle.std.proofs.Common.{◌⊎◌}
use Rattle.std.specs.Bool.{MatchBool}
use Rattle.ir_text.specs.Tokens.{TokenV}
use Rattle.ir_text.specs.Passed.{is_string, is_opening, closed_from, some_integer, some_word}
use Rattle.ir_text.specs.Spelled.{one_token}
use Rattle.ir_text.specs.Tails.{some_notes}
use Rattle.ir_text.specs.TypeSpelled.{◌▸◌, a_mark, a_word}
use Rattle.instr_laws.specs.Made.{Made}
use Rattle.ir_grammar.specs.PassedItems.{word_or_number, comdat_name}

-- tokens that are no strings, and a string
unfoldable pub up_to_string : List TokenV → Type 0
up_to_string [] = ⊥
up_to_string (t ∷ rest) = MatchBool (is_string t) (rest ≡ []) (up_to_string rest)

-- tokens that open no group, and a group
unfoldable pub up_to_group : List TokenV → Type 0
up_to_group [] = ⊥
up_to_group (t ∷ rest) = MatchBool (is_opening t) (closed_from 1 rest) (up_to_group rest)

-- = and a group
abbrev pub an_equals_group : List TokenV → Type 0
an_equals_group = a_mark 61 ▸ up_to_group

-- #N = { .. }, behind `attributes`
abbrev pub some_attributes : List TokenV → Type 0
some_attributes = a_mark 35 ▸ one_token some_integer tt ▸ an_equals_group

abbrev pub nothing_kept : Bool → Unit {0}
nothing_kept word = tt

-- !name = .., !N = ..
abbrev pub some_metadata : List TokenV → Type 0
some_metadata = Made nothing_kept (λ word. a_mark 33 ▸ one_token word_or_number word ▸ an_equals_group) tt

-- $name = comdat WORD
abbrev pub a_comdat : List TokenV → Type 0
a_comdat = a_mark 36 ▸ one_token comdat_name tt ▸ a_mark 61 ▸ a_word (codes "comdat") ▸ one_token some_word tt

-- any number of !word !N, and an item of metadata that stands behind them
abbrev pub some_attached : List TokenV → Type 0
some_attached = some_notes tt ▸ (λ ws. (ws ≡ []) ⊎ some_metadata ws)
