-- The command line as `clap` has it: the commands, each with its positional words and its options.
use Rattle.std.specs.Prelude.{Bool, true, Some, codes}
use Rattle.clap.specs.Words.{App, Rule, Text, new_app, new_rule, with_rule, with_subcommand}
use Rattle.clap.specs.declared.builder.action.ArgAction.TheVariants.{Set}

-- a positional word that has to be there
abbrev pub positional_rule : Text → Rule
positional_rule id = record (new_rule id) { required = true; action = Some Set }

-- an option `--id` with one value, for which help has one name
abbrev pub option_rule : Text → Bool → Rule
option_rule id required = record (new_rule id) { long = Some id; required = required; action = Some Set; value_names = 1 }

-- `run MODULE INPUT --budget N`
abbrev pub run_app : App
run_app = with_rule (with_rule (with_rule (new_app (codes "run")) (positional_rule (codes "MODULE")))
    (positional_rule (codes "INPUT"))) (option_rule (codes "budget") true)

-- `check MODULE`
abbrev pub check_app : App
check_app = with_rule (new_app (codes "check")) (positional_rule (codes "MODULE"))

-- one of its subcommands has to be there
abbrev pub needs_subcommand : App → App
needs_subcommand a = record a { top = record a.top { subcommand_required = true } }

abbrev pub whole_literal : App
whole_literal = with_subcommand (with_subcommand (needs_subcommand (new_app (codes "privateer"))) run_app.top) check_app.top

-- the whole command line
unfoldable pub whole_app : App
whole_app = whole_literal
