use Rattle.std.proofs.Common.{◌+◌, ◌∙◌, sym, ap, arith}
use Rattle.std.specs.List.{list_any}
use Rattle.lifetime_check.specs.Alive.{same_site, short_from}
use Rattle.lifetime_check.proofs.Walk.{joined, joined_start, joined_none, short_end, short_none, First, first, counted, passed, few_more, few_still}
use Rattle.lifetime_check.proofs.alive.left_alive.Goals as goal
use Rattle.lifetime_check.proofs.alive.left_alive.Goals.{then-is_among, else-is_among}

pub loop-name-init : goal.loop-name-init
loop-name-init c = (joined_start (short_from c.args.from c.args.short.now c.args.memory.now.objects), tt)

pub returns-in-None : goal.returns-in-None
returns-in-None c =
    sym (ap (joined c.loop-name.left) (short_none c.args.short.now c.loop-name.name c.args.memory.now.objects (sym (c.in-None.ensures {u = tt}).object)) ∙ joined_none c.loop-name.left) ∙ c.loop-name.invariant.0

found : (c : goal.Joined-is_among) → First c.args.short.now c.loop-name.name c.args.memory.now.next c.args.memory.now.objects c.in-Some.object.now
found c = first c.args.short.now c.loop-name.name 0 c.args.memory.now.next c.args.memory.now.objects c.in-Some.object.now c.next-end.ensures.picture.rising (sym (c.in-Some.ensures {u = tt}).object)

pub overflow_add-name : goal.overflow_add-name
overflow_add-name c =
    let f = found c in
    let below = f.below in
    let names = c.next-end.ensures.picture.names in
    record { fits = omega arith }

pub loop-name-smaller : goal.loop-name-smaller
loop-name-smaller c =
    let f = found c in
    let from = f.from in
    let test = c.loop-name-test.true in
    omega arith

pub loop-name-preserved : goal.loop-name-preserved
loop-name-preserved c =
    let f = found c in
    let in_short = c.is_among.ensures ∙ ap (list_any (same_site c.in-Some.object.now.site)) c.as_slice.ensures in
    let from = f.from in
    elim c.if-is_among.branch [
      | then-is_among w ↦ rw (w.left-is, w.with_one.ensures) (
        counted c.args.short.now c.loop-name.name c.args.memory.now.objects c.in-Some.object.now c.loop-name.left f.rest (sym in_short ∙ w.if-is_among.true) ∙ c.loop-name.invariant.0,
        few_more c.loop-name.left c.in-Some.object.now.site c.loop-name.name (c.in-Some.object.now.name + 1) (omega arith) c.loop-name.invariant.1,
      )
      | else-is_among w ↦ rw w.left-is (
        passed c.args.short.now c.loop-name.name c.args.memory.now.objects c.in-Some.object.now c.loop-name.left f.rest (sym in_short ∙ w.if-is_among.false) ∙ c.loop-name.invariant.0,
        few_still c.loop-name.left c.loop-name.name (c.in-Some.object.now.name + 1) (omega arith) c.loop-name.invariant.1,
      )
    ]

pub returns : goal.returns
returns c =
    sym (ap (joined c.loop-name.left) (short_end c.args.short.now c.loop-name.name 0 c.args.memory.now.next c.args.memory.now.objects c.next-end.ensures.picture.rising (let t = c.loop-name-test.false in let e = c.next-end.ensures.next in omega arith)) ∙ joined_none c.loop-name.left) ∙ c.loop-name.invariant.0
