use Rattle.command_words.proofs.PlainReads.{reads_plain}
use Rattle.command_words.proofs.laws.plain_words_are_read.Goals as goal

pub returns : goal.returns
returns c = reads_plain
