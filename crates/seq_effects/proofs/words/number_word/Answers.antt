use Rattle.std.proofs.Common.{◌≡◌, ◌<◌, length-set, length, take, arith, ap, ◌∙◌}
use Rattle.seq_effects.specs.Words.{number_bytes}
use Rattle.seq_effects.proofs.WordLoops.{word_more, is_word, word_done}
use Rattle.seq_effects.proofs.words.number_word.Goals as goal

pub loop-i-preserved : goal.loop-i-preserved
loop-i-preserved c =
    let eight : length c.low_bytes-from.result ≡ 8 = ap length c.low_bytes-from.ensures in (
      word_more c.loop-i.i c.loop-i.bytes c.low_bytes-from.result _ (omega (arith, c.loop-i.invariant.1)) (omega (arith, eight)) c.loop-i.invariant.0,
      length-set _ _ _ ∙ c.loop-i.invariant.1,
    )

pub of-requires : goal.of-requires
of-requires c =
    let e : take c.args.len c.loop-i.bytes ≡ number_bytes c.args.len c.args.number.bits = word_done c.args.len c.loop-i.i c.args.number.bits c.loop-i.bytes c.low_bytes-from.result (omega arith) c.requires.most c.low_bytes-from.ensures c.loop-i.invariant.0 in
    rw e (is_word c.args.len c.args.number.bits c.requires.some c.requires.most)

pub returns : goal.returns
returns c = c.of.ensures ∙ word_done c.args.len c.loop-i.i c.args.number.bits c.loop-i.bytes c.low_bytes-from.result (omega arith) c.requires.most c.low_bytes-from.ensures c.loop-i.invariant.0
