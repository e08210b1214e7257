-- What is said of the canonical text of a module.
use Rattle.std.specs.Prelude.{◌≡◌, ◌<◌, ◌^◌, ℕ, List, length, Ok}
use Rattle.ir_tree.specs.Modules.{Items}
use Rattle.ir_tree.specs.Written.{ModuleV, shown_module}
use Rattle.ir_grammar.specs.Texts.{read_of}
use Rattle.ir_printer.specs.Pieces.{bytes_of}
use Rattle.ir_printer.specs.Items.{items_pieces, module_text}
use Rattle.module_laws.specs.TextLaws.{SpellsModule}
use Rattle.print_tokens.specs.Standing.{AreBytes}

-- the canonical text of a module that is written out
abbrev pub canonical : ModuleV → List ℕ
canonical m = bytes_of (items_pieces m.types m.globals m.functions)

-- Where some text is that of a module, its canonical text is too.
abbrev pub ReadsBack : Type 0
ReadsBack = (text : List ℕ) (m : ModuleV) → AreBytes text → length text < 2 ^ 32 → read_of text ≡ Ok m → read_of (canonical m) ≡ Ok m

-- and it spells no other
abbrev pub SpellsNoOther : Type 0
SpellsNoOther =
    (text : List ℕ) (m other : ModuleV) → AreBytes text → length text < 2 ^ 32 → read_of text ≡ Ok m → SpellsModule (canonical m) other → other ≡ m

-- The canonical text of a module of whatever table, which some text spells, is read as that module written out; and what is
-- printed of it again, whatever its table then, is the same text.
abbrev pub PrintsTheSame : Type 0
PrintsTheSame =
    (text : List ℕ) (printed read : Items) → AreBytes text → length text < 2 ^ 32 → read_of text ≡ Ok (shown_module printed)
    → read_of (module_text printed) ≡ Ok (shown_module read) → module_text read ≡ module_text printed
