use Rattle.std.proofs.Common.{◌∙◌}
use Rattle.seq_externals.proofs.TextLoop.{text_ends, text_more, text_cut, text_out_of_memory}
use Rattle.seq_externals.proofs.texts.text.Goals as goal

pub returns-in-Err-clause-follows : goal.returns-in-Err-clause-follows
returns-in-Err-clause-follows g c =
    c.loop.invariant.2 _ _
    (text_cut g.M.Mem.image _ c.args.limit c.loop.counter c.args.slot c.args.at c.loop.pointer c.loop.bytes c.loop.memory c.loop-test.true _ c.in-Err.fault c.in-Err.ensures.follows)

pub returns-then-number-eq0-clause-follows : goal.returns-then-number-eq0-clause-follows
returns-then-number-eq0-clause-follows g c =
    c.loop.invariant.2 _ _
    (text_ends g.M.Mem.image _ c.args.limit c.loop.counter c.args.slot c.args.at c.loop.pointer c.loop.bytes c.loop.memory c.loop-test.true _ c.in-Ok.number c.in-Ok.ensures.follows c.if-number-eq0.true)

pub returns-in-Err-push-clause-follows : goal.returns-in-Err-push-clause-follows
returns-in-Err-push-clause-follows g c =
    c.loop.invariant.2 _ _
    (text_out_of_memory g.M.Mem.image _ c.args.limit c.loop.counter c.args.slot c.args.at c.loop.pointer c.loop.bytes c.loop.memory c.loop-test.true _ c.in-Ok.number c.in-Ok.ensures.follows)

pub loop-preserved : goal.loop-preserved
loop-preserved g c = (
  c.read_byte.ensures.ready,
  c.read_byte.ensures.image ∙ c.loop.invariant.1,
  λ answer n h.
      c.loop.invariant.2 _ _
      (text_more g.M.Mem.image _ c.args.limit c.loop.counter c.args.slot c.args.at c.loop.pointer c.loop.bytes c.loop.memory c.loop-test.true _ _ c.in-Ok.number c.after-pointer.result c.push.new.self _ c.in-Ok.ensures.follows c.if-number-eq0.false c.in-Ok-push.ensures.ok c.after-pointer.ensures h),
)
