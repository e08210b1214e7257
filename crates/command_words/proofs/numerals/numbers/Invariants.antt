use Rattle.std.proofs.Common.{◌≡◌, map, take, Ok}
use Rattle.command_words.specs.Numbers.{numeral_of, numbers_of}
use Rattle.command_words.proofs.numerals.numbers.Given as goal

abbrev pub invariant-loop-numeral : goal.invariant-loop-numeral
invariant-loop-numeral l = numbers_of (map numeral_of (take l.numeral-index l.all)) ≡ Ok l.values.items
