-- The items of a module as pieces, and its text, after the LLVM Language Reference, "High Level Structure".
use Rattle.std.specs.Prelude.{ℕ, Bool, true, false, List, [], ◌∷◌, ◌++◌, codes, Option, Some, None, map, decimal, slice_get, if◌then◌else◌}
use Rattle.pv_base.specs.declared.name.Name.{Name}
use Rattle.pv_base.specs.declared.place.Site.{Site}
use Rattle.ir_tree.specs.declared.instruction.Instruction.{Instruction}
use Rattle.ir_tree.specs.declared.items.NamedType.{NamedType}
use Rattle.ir_tree.specs.declared.items.Global.{Global as GlobalItem}
use Rattle.ir_tree.specs.declared.items.Param.{Param}
use Rattle.ir_tree.specs.declared.items.Block.{Block}
use Rattle.ir_tree.specs.declared.items.Function.{Function}
use Rattle.ir_tree.specs.Trees.{TypeV, ConstantV}
use Rattle.ir_tree.specs.Naming.{name_at}
use Rattle.ir_tree.specs.Modules.{Items}
use Rattle.ir_tree.specs.Shown.{shown_named, shown_global, shown_function}
use Rattle.ir_printer.specs.Pieces.{Piece, Blank, LineEnd, Word, Mark, Dots, Global, Local, Label, spelled, bytes_of, separated, joined}
use Rattle.ir_printer.specs.Operands.{type_pieces, constant_pieces}
use Rattle.ir_printer.specs.Instructions.{assigned, typed, instruction_pieces}

-- `%name = type T`
abbrev pub named_pieces : NamedType Name TypeV → List Piece
named_pieces n = assigned n.name (codes "type") ++ typed n.of ++ (LineEnd ∷ [])

abbrev pub global_word : Bool → List ℕ
global_word false = codes "global"
global_word true = codes "constant"

-- `@name = global`
abbrev pub global_start : Name → Bool → List Piece
global_start name constant = Global name ∷ Blank ∷ Mark 61 ∷ Blank ∷ Word (global_word constant) ∷ []

-- `@name = global T INIT`
abbrev pub global_pieces : GlobalItem Name TypeV ConstantV → List Piece
global_pieces g = global_start g.name g.constant ++ typed g.of ++ (Blank ∷ []) ++ constant_pieces g.init ++ (LineEnd ∷ [])

-- the name of a parameter behind a blank, where it has one
abbrev pub param_name : Option Name → List Piece
param_name None = []
param_name (Some name) = Blank ∷ Local name ∷ []

-- `T %name`
abbrev pub param_pieces : Param Name TypeV → List Piece
param_pieces p = type_pieces p.of ++ param_name p.name

-- `...`, as a last parameter
abbrev pub variadic_param : Bool → List (List Piece)
variadic_param false = []
variadic_param true = (Dots ∷ []) ∷ []

-- the parameters, with commas between them
abbrev pub params_pieces : List (Param Name TypeV) → Bool → List Piece
params_pieces params variadic = separated (map param_pieces params ++ variadic_param variadic)

-- `T @name(PARAMS)`
abbrev pub head_pieces : Function Name TypeV ConstantV → List Piece
head_pieces f = type_pieces f.result ++ (Blank ∷ []) ++ (Global f.name ∷ []) ++ (Mark 40 ∷ []) ++ params_pieces f.params f.variadic ++ (Mark 41 ∷ [])

-- an instruction on its line, behind two blanks
abbrev pub instruction_line : Instruction Name TypeV ConstantV → List Piece
instruction_line i = (Blank ∷ Blank ∷ instruction_pieces i) ++ (LineEnd ∷ [])

-- a block: its label on a line, and its instructions
abbrev pub block_pieces : Block Name TypeV ConstantV → List Piece
block_pieces b = Label b.label ∷ LineEnd ∷ joined (map instruction_line b.instructions)

-- `declare HEAD`
abbrev pub declared_pieces : Function Name TypeV ConstantV → List Piece
declared_pieces f = (Word (codes "declare") ∷ Blank ∷ head_pieces f) ++ (LineEnd ∷ [])

-- `define HEAD {`, the blocks, and `}` on a line
abbrev pub defined_pieces : Function Name TypeV ConstantV → List Piece
defined_pieces f = (Word (codes "define") ∷ Blank ∷ head_pieces f) ++ (Blank ∷ Mark 123 ∷ LineEnd ∷ []) ++ joined (map block_pieces f.blocks) ++ (Mark 125 ∷ LineEnd ∷ [])

unfoldable pub function_pieces : Function Name TypeV ConstantV → List Piece
function_pieces f = if f.declared then declared_pieces f else defined_pieces f

-- types, globals and functions, each in text order
abbrev pub items_pieces : List (NamedType Name TypeV) → List (GlobalItem Name TypeV ConstantV) → List (Function Name TypeV ConstantV) → List Piece
items_pieces types globals functions = joined (map named_pieces types) ++ joined (map global_pieces globals) ++ joined (map function_pieces functions)

-- the pieces of a module, with names, types and constants in place of their numbers
abbrev pub module_pieces : Items → List Piece
module_pieces m = items_pieces (map (shown_named m.names) m.types) (map (shown_global m.names) m.globals) (map (shown_function m.names) m.functions)

-- the canonical text of a module
abbrev pub module_text : Items → List ℕ
module_text m = bytes_of (module_pieces m)

-- the function of a number: `@name`
abbrev pub function_named : Items → Option (Function ℕ ℕ ℕ) → List ℕ
function_named m None = []
function_named m (Some f) = spelled (Global (name_at m.names f.name))

-- a site: `@name:place`
abbrev pub site_text : Items → Site → List ℕ
site_text m site = function_named m (slice_get m.functions site.function) ++ codes ":" ++ decimal site.place
