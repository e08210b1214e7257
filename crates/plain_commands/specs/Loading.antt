-- What a text is taken for: an accepted module, or the line that refuses it.
use Rattle.std.specs.Prelude.{◌≡◌, List, Option, Some, None, option_map, Result, Ok, Err}
use Rattle.pv_base.specs.Outside.{Text}
use Rattle.ir_lex.specs.declared.token.ReadError.{ReadError}
use Rattle.ir_tree.specs.Modules.{Items}
use Rattle.ir_grammar.specs.Modules.{ModuleV, shown_module}
use Rattle.ir_grammar.specs.Texts.{read_of}
use Rattle.ir_rules.specs.Faults.{first_fault}
use Rattle.run_report.specs.Refusals.{refused_module, refused_check}
use Rattle.plain_commands.specs.declared.loading.Loaded.{Loaded}
use Rattle.plain_commands.specs.declared.loading.Loaded.TheVariants.{Accepted, Refused}

-- why what was read of a text is refused: the first fault of the text, or the first rule that its module breaks
abbrev pub refusal_by : Result ModuleV ReadError → Option Text
refusal_by (Err e) = Some (refused_module e)
refusal_by (Ok v) = option_map (refused_check v) (first_fault v)

-- why a text is refused
abbrev pub refusal_of : Text → Option Text
refusal_of text = refusal_by (read_of text)

-- how a text is taken
abbrev pub IsLoaded : Text → Loaded → Type 0
IsLoaded text (Accepted m) = (read_of text ≡ Ok (shown_module m)) × (first_fault (shown_module m) ≡ None)
IsLoaded text (Refused line) = refusal_of text ≡ Some line

-- how a module is taken that was read
abbrev pub IsJudged : Items → Loaded → Type 0
IsJudged m (Accepted c) = (c ≡ m) × (first_fault (shown_module m) ≡ None)
IsJudged m (Refused line) = Some line ≡ option_map (refused_check (shown_module m)) (first_fault (shown_module m))
