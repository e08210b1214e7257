-- What stands behind parts of items.
use Rattle.std.specs.Prelude.{◌≡◌, Bool, true, false, ◌||◌, []}
use Rattle.ir_text.specs.Tokens.{TokenV, is_mark}
use Rattle.ir_text.specs.Reading.{next_is}
use Rattle.ir_text.specs.Lawful.{Follow, Behind}
use Rattle.ir_text.specs.Passed.{AfterPassed, may_pass, stops}
use Rattle.instr_laws.specs.Behind.{ends_argument}
use Rattle.ir_grammar.specs.Bodies.{is_label}
use Rattle.ir_grammar.specs.Items.{item_words}

-- the tokens end
abbrev pub at_end : Follow
at_end rest = rest ≡ []

-- words are passed over, and this stands behind them
abbrev pub Between : (TokenV → Bool) → Follow
Between stop = Behind (may_pass stop) AfterPassed

-- a parameter ends at `,` or `)`
abbrev pub BehindParam : Follow
BehindParam rest = next_is ends_argument rest ≡ true

-- a label or the closing brace
abbrev pub ends_block : TokenV → Bool
ends_block t = is_label t || is_mark 125 t

-- the instructions of a block end at one of them
abbrev pub BehindBlock : Follow
BehindBlock rest = next_is ends_block rest ≡ true

-- behind a declaration stands nothing that would be attached to it, or would belong to the words behind it
abbrev pub BehindDeclaration : Follow
BehindDeclaration = Behind (is_mark 33) (Between (stops item_words false))

-- and behind an item no `,` either, which would go on with a global
abbrev pub BehindItem : Follow
BehindItem = Behind (is_mark 44) BehindDeclaration
