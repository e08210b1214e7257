use Rattle.std.proofs.Common.{◌^◌, sym, ap, subst, ◌∙◌}
use Rattle.turn_count.specs.Walks.{IsWalk, steps_inside}
use Rattle.turn_count.specs.Arcs.{holding}
use Rattle.turn_count.specs.declared.walk.Walk.{Walk}
use Rattle.turn_count.proofs.Arcs.{made_fits}
use Rattle.turn_count.proofs.Turning.{is_walk, turns_law, made}
use Rattle.turn_count.proofs.turns.turns.Goals as goal

pub overflow_sub-walk : goal.overflow_sub-walk
overflow_sub-walk c =
    let e = c.whole-whole.ensures.value ∙ ap (λ w. 2 ^ w) c.width.ensures.value in
    (made_fits c.whole-whole.result c.args.first.width c.holding-leading.result c.leading.result c.args.bound c.holding-leading.ensures.range c.requires.bound e c.holding-leading.ensures.value).first

pub steps_inside-requires : goal.steps_inside-requires
steps_inside-requires c =
    let e = c.whole-whole.ensures.value ∙ ap (λ w. 2 ^ w) c.width.ensures.value in
    let a = c.holding-leading.ensures.value ∙ ap (λ p. holding p c.args.bound) c.leading.ensures in
    let w = made c.args.test.now c.args.first c.args.bound c.bits-2.ensures.range c.bits.ensures.range c.holding-leading.ensures.range c.requires.bound c.requires.step c.whole-whole.result c.holding-leading.result c.from.result c.ahead.result c.from-2.result e a (c.from.ensures ∙ c.bits.ensures.value) c.ahead.ensures.value (c.from-2.ensures ∙ c.bits-2.ensures.value) in
    subst IsWalk w (is_walk c.args.test.now c.args.first c.args.bound c.bits-2.ensures.range c.bits.ensures.range c.holding-leading.ensures.range c.requires.bound c.requires.step)

pub returns : goal.returns
returns c =
    let e = c.whole-whole.ensures.value ∙ ap (λ w. 2 ^ w) c.width.ensures.value in
    let a = c.holding-leading.ensures.value ∙ ap (λ p. holding p c.args.bound) c.leading.ensures in
    let w = made c.args.test.now c.args.first c.args.bound c.bits-2.ensures.range c.bits.ensures.range c.holding-leading.ensures.range c.requires.bound c.requires.step c.whole-whole.result c.holding-leading.result c.from.result c.ahead.result c.from-2.result e a (c.from.ensures ∙ c.bits.ensures.value) c.ahead.ensures.value (c.from-2.ensures ∙ c.bits-2.ensures.value) in
    c.steps_inside.ensures ∙ (sym (ap (λ (k : Walk). steps_inside k c.args.cap) w) ∙ turns_law c.args.test.now c.args.first c.args.bound c.bits-2.ensures.range c.bits.ensures.range c.holding-leading.ensures.range c.requires.bound c.requires.step c.args.cap)
