use Rattle.std.proofs.Common.{◌∙◌, ◌<◌, ap, get_or, length, length-set, slice_get}
use Rattle.std.proofs.lemmas.List.Elements.{All-get_or}
use Rattle.seq_calls.specs.Format.{IsPointer}
use Rattle.seq_externals.proofs.TextLists.{pointer_there, texts_more, texts_cut}
use Rattle.seq_externals.proofs.texts.read_texts.Goals as goal

pub returns-in-Err-clause-follows : goal.returns-in-Err-clause-follows
returns-in-Err-clause-follows g c =
    let lt = rw c.as_slice-number-items.ensures at c.loop-number-test.true in
    let h = rw c.as_slice-number-items.ensures at c.in-Err.ensures.follows in
    c.loop-number.invariant.3 _ _
    (texts_cut g.M.Mem.image g.M.Mem.relation c.args.at c.args.values.now c.args.from.now c.loop-number.number-index c.loop-number.args c.loop-number.memory c.argument_text.new.memory c.in-Err.fault lt h)

pub set-requires : goal.set-requires
set-requires g c =
    let lt = rw c.as_slice-number-items.ensures at c.loop-number-test.true in
    let k = get_or c.args.from.now c.loop-number.number-index 0 in
    let there : k < length c.args.args.now = pointer_there c.args.args.now k (All-get_or (λ k. IsPointer (slice_get c.args.args.now k)) c.args.from.now c.loop-number.number-index 0 lt c.requires.pointers) in
    rw (c.as_slice-number-items.ensures, c.loop-number.invariant.2) there

pub loop-number-preserved : goal.loop-number-preserved
loop-number-preserved g c =
    let lt = rw c.as_slice-number-items.ensures at c.loop-number-test.true in
    let t = rw c.as_slice-number-items.ensures at c.in-Ok.ensures.follows in
    let put = rw c.as_slice-number-items.ensures at c.set.ensures in (
      c.argument_text.ensures.ready,
      c.argument_text.ensures.image ∙ c.loop-number.invariant.1,
      ap length c.set.ensures ∙ length-set _ _ _ ∙ c.loop-number.invariant.2,
      λ answer n h.
          c.loop-number.invariant.3 _ _
          (texts_more g.M.Mem.image g.M.Mem.relation c.args.at c.args.values.now c.args.from.now c.loop-number.number-index c.loop-number.args c.set.new.self c.in-Ok.text c.loop-number.memory c.argument_text.new.memory n answer lt t put h),
    )
