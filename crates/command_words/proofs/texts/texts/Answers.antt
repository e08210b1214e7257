use Rattle.std.proofs.Common.{arith, ◌≡◌, ◌∙◌, get_or}
use Rattle.command_words.proofs.TextLemmas.{text_if_utf8, no_text_if_not_utf8, one_is_no_text, one_more_text, one_more_now}
use Rattle.command_words.proofs.texts.texts.Goals as goal

pub returns-in-Err : goal.returns-in-Err
returns-in-Err c =
    let item : c.as_slice.result.now ≡ get_or c.args.words.now c.loop-word.word-index c.word-item.result = c.as_slice.ensures ∙ c.word-item.is in
    one_is_no_text c.loop-word.word-index _ c.word-item.result (omega arith) (rw (← item) (no_text_if_not_utf8 _ c.in-Err.ensures.cases.0))

pub loop-word-preserved : goal.loop-word-preserved
loop-word-preserved c =
    let item : c.as_slice.result.now ≡ get_or c.args.words.now c.loop-word.word-index c.word-item.result = c.as_slice.ensures ∙ c.word-item.is in (
      one_more_text c.loop-word.word-index _ c.word-item.result (omega arith) c.loop-word.invariant.0 (rw (← item) (text_if_utf8 _ c.in-Ok.ensures.cases.1)),
      rw c.in_ok-push-in-Ok.ensures.items (one_more_now c.loop-word.word-index _ c.word-item.result _ _ (omega arith) c.loop-word.invariant.1 (c.in-Ok.ensures.cases.0 ∙ item)),
    )
