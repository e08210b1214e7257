use Rattle.std.proofs.Common.{◌≡◌, ◌<◌, ◌^◌, drop}
use Rattle.command_words.specs.Numbers.{number_after}
use Rattle.command_words.proofs.number.number.Given as goal

abbrev pub invariant-loop-c : goal.invariant-loop-c
invariant-loop-c l = (number_after 0 l.text ≡ number_after l.value (drop l.c-index l.text)) × (l.value < 10 ^ l.c-index)
