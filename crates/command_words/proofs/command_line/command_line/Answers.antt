use Rattle.std.proofs.Common.{◌∙◌, ap, ap₂}
use Rattle.clap.specs.Words.{App, with_subcommand}
use Rattle.clap.specs.Simple.{Shape}
use Rattle.command_words.specs.CommandLine.{whole_app}
use Rattle.command_words.proofs.command_line.command_line.Goals as goal

abbrev top : App → Shape
top a = a.top

pub returns : goal.returns
unfolding whole_app
returns c =
    let first = c.in_ok-command.ensures (ap (λ (a : App). a.top.is_plain) c.in_ok-run.ensures) ∙ ap₂ with_subcommand c.whole-command.ensures (ap top c.in_ok-run.ensures) in
    c.in_ok-command-2.ensures (ap (λ (a : App). a.top.is_plain) c.in_ok-check.ensures) ∙ ap₂ with_subcommand first (ap top c.in_ok-check.ensures)
