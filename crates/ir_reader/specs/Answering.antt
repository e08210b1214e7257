-- How a text is read by the code.
use Rattle.std.specs.Prelude.{◌≡◌, List, Result, Ok, Err, ⊤}
use Rattle.ir_lex.specs.declared.token.ReadError.{ReadError}
use Rattle.ir_text.specs.declared.fault.ReadEnd.{ReadEnd}
use Rattle.ir_text.specs.Reading.{Outcome, Fails}
use Rattle.ir_text.specs.Tokens.{TokenV}
use Rattle.ir_tree.specs.Modules.{Items}
use Rattle.ir_grammar.specs.Modules.{ModuleV, shown_module}
use Rattle.ir_reader.specs.declared.whole.TextEnd.{TextEnd}
use Rattle.ir_reader.specs.declared.whole.TextEnd.TheVariants.{Memory, Bad}

-- the code gives the module that is read, before whatever tokens, or the fault, unless memory is refused
abbrev pub IsRead : Result Items ReadEnd → Outcome ModuleV → Type 0
IsRead (Ok m) read = (rest : List TokenV) × (read ≡ Ok (shown_module m, rest))
IsRead (Err e) read = Fails e read

-- the code gives the module or the first fault that the text has, unless memory is refused
abbrev pub IsReading : Result Items TextEnd → Result ModuleV ReadError → Type 0
IsReading (Ok m) read = read ≡ Ok (shown_module m)
IsReading (Err Memory) read = ⊤
IsReading (Err (Bad e)) read = read ≡ Err e
