-- What is said of printed functions: where tokens spell one, what is printed of it spells it too, behind other names as well.
use Rattle.std.specs.Prelude.{◌≡◌, ◌<◌, ◌^◌, false, List, length, codes}
use Rattle.pv_base.specs.declared.name.Name.{Name}
use Rattle.ir_tree.specs.declared.items.Function.{Function}
use Rattle.ir_tree.specs.Table.{name_among}
use Rattle.ir_tree.specs.Trees.{TypeV, ConstantV}
use Rattle.ir_text.specs.Tokens.{TokenV}
use Rattle.ir_text.specs.Types.{Known}
use Rattle.ir_text.specs.TypeSpelled.{◌▸◌, a_word}
use Rattle.ir_printer.specs.Items.{function_pieces}
use Rattle.module_laws.specs.ItemsSpelled.{a_declaration, a_definition}
use Rattle.print_values.specs.Printed.{AreSound}
use Rattle.print_functions.specs.Lines.{PrintedLines, AreLines}

-- behind these names of globals and functions, and printed behind others, of which it is none
abbrev pub DeclarationsReadBack : Type 0
DeclarationsReadBack =
    (values others : List Name) (f : Function Name TypeV ConstantV) (ws : List TokenV)
    → AreSound ws → name_among f.name others ≡ false → a_declaration values f ws
    → PrintedLines (a_word (codes "declare") ▸ a_declaration others f) (function_pieces f)

-- A parameter or an entry block without a name gets the counter's number, which is printed: so the text must not be so long that
-- the number would pass its limit.
abbrev pub DefinitionsReadBack : Type 0
DefinitionsReadBack =
    (known : Known) (values others : List Name) (f : Function Name TypeV ConstantV) (ws : List TokenV)
    → AreSound ws → length ws < 2 ^ 62 → name_among f.name others ≡ false → a_definition known values f ws
    → PrintedLines (a_word (codes "define") ▸ a_definition known others f) (function_pieces f)

-- printed functions are whole lines
abbrev pub FunctionsStand : Type 0
FunctionsStand = (f : Function Name TypeV ConstantV) → AreLines (function_pieces f)
