-- What reading a whole text promises of its module.
use Rattle.std.specs.Prelude.{◌≡◌, ◌<◌, ◌^◌, length, List, ℕ, Ok}
use Rattle.ir_grammar.specs.Texts.{read_of}
use Rattle.ir_rules.specs.Reading.{Stands}
use Rattle.ir_rules.specs.Seen.{ModuleV}

-- the module of a text of fewer than 2^32 bytes stands
abbrev pub TextsStand : Type 0
TextsStand = (text : List ℕ) (v : ModuleV) → read_of text ≡ Ok v → length text < 2 ^ 32 → Stands v
