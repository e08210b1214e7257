use Rattle.std.proofs.Common.{refl}
use Rattle.ir_text.specs.Passed.{stops_at}
use Rattle.ir_text.proofs.Among.{any_among}
use Rattle.ir_text.proofs.passed.ends_at.Goals as goal

pub returns-then-is_among : goal.returns-then-is_among
unfolding stops_at
returns-then-is_among c = rw (← any_among c.args.at.now.words.now c.args.text.now, ← c.is_among.ensures, c.if-is_among.true) refl

pub returns-then-at : goal.returns-then-at
unfolding stops_at
returns-then-at c = rw (← any_among c.args.at.now.words.now c.args.text.now, ← c.is_among.ensures, c.if-is_among.false, c.if-at.true) c.is_type_word.ensures

pub returns-else-at : goal.returns-else-at
unfolding stops_at
returns-else-at c = rw (← any_among c.args.at.now.words.now c.args.text.now, ← c.is_among.ensures, c.if-is_among.false, c.if-at.false) refl
