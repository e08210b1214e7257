use Rattle.std.proofs.lemmas.Result.{IfOk-weaker}
use Rattle.clap.proofs.SimpleLemmas.{plain_fields}
use Rattle.command_words.proofs.command_line.subcommand.Goals as goal

pub returns : goal.returns
returns c = IfOk-weaker c.subcommand.result _ _ (λ r adds plain. adds.shape (plain_fields c.args.sub plain).globals) c.subcommand.ensures
