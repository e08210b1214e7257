use Rattle.std.proofs.Common.{◌≡◌, true, map, take}
use Rattle.command_words.specs.Texts.{are_texts}
use Rattle.command_words.proofs.texts.texts.Given as goal

abbrev pub invariant-loop-word : goal.invariant-loop-word
invariant-loop-word l = (are_texts (take l.word-index l.words) ≡ true) × (map (λ s. s.now) l.all.items ≡ take l.word-index l.words)
