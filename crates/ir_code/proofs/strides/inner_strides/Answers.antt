use Rattle.std.proofs.Common.{◌≡◌, ◌+◌, [], drop, sym, ap, ◌∙◌}
use Rattle.std.proofs.Math.ListN.{drop_of_length-le}
use Rattle.ir_code.proofs.Going.{Going, begun, goes_on, goes_nowhere, gone, turn}
use Rattle.ir_code.proofs.strides.inner_strides.Goals as goal

pub returns-in-None : goal.returns-in-None
returns-in-None c =
    let m = c.args.tree.now in
    let next = turn c.args.values.now c.loop-value.value-index c.value-item.result c.loop-value-test.true c.value-item.is in
    sym (sym (begun m c.args.front c.args.of c.args.values.now) ∙ c.loop-value.invariant ∙ ap (Going m c.loop-value.indices c.loop-value.into) next
    ∙ goes_nowhere m c.loop-value.indices c.loop-value.into c.value-item.result (drop (c.loop-value.value-index + 1) c.args.values.now) c.in-None.ensures)

pub loop-value-preserved : goal.loop-value-preserved
loop-value-preserved c =
    let m = c.args.tree.now in
    let next = turn c.args.values.now c.loop-value.value-index c.value-item.result c.loop-value-test.true c.value-item.is in
    rw c.in_ok-push.ensures.ok (c.loop-value.invariant ∙ ap (Going m c.loop-value.indices c.loop-value.into) next
    ∙ goes_on m c.loop-value.indices c.loop-value.into c.value-item.result (drop (c.loop-value.value-index + 1) c.args.values.now) c.in-Some.step c.in-Some.ensures)

pub returns : goal.returns
returns c =
    let m = c.args.tree.now in
    let all : drop c.loop-value.value-index c.args.values.now ≡ [] = drop_of_length-le c.args.values.now c.loop-value-test.false in
    sym (sym (begun m c.args.front c.args.of c.args.values.now) ∙ c.loop-value.invariant ∙ ap (Going m c.loop-value.indices c.loop-value.into) all ∙ gone m c.loop-value.indices c.loop-value.into)
