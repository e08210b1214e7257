use Rattle.std.proofs.Common.{rules, ℕ, List, map, ap, ◌∙◌}
use Rattle.std.proofs.lemmas.List.Sorted.{IsNonDecreasingBy-from_sort, answers_always}
use Rattle.std.proofs.lemmas.Result.{IfOk-weaker}
use denote.Ref.{Bor}
use Rattle.deferred_output.specs.declared.output.TurnOutput.{TurnOutput}
use Rattle.deferred_output.specs.Order.{joined}
use Rattle.deferred_output.proofs.Join.{order_of_references}
use Rattle.deferred_output.proofs.order.in_turn_order.Goals as goal

pub returns : goal.returns
returns c =
    let key : Bor TurnOutput → ℕ = λ p. p.now.turn in
    IfOk-weaker c.join.result _ _
    (λ bytes is. order_of_references c.args.parts.now c.in_ok-order.order.items c.sort_unstable_by_key.new.self.items bytes (c.in_ok-order.ensures ∙ c.as_slice.ensures) c.sort_unstable_by_key.ensures.permutation
    (IsNonDecreasingBy-from_sort key _ (c.sort_unstable_by_key.ensures.sorted key (answers_always _ _ _ (λ f a r g h. search rules)))) (is ∙ ap (λ (s : List (Bor TurnOutput)). joined (map (λ p. p.now) s)) c.as_slice-2.ensures.value))
    c.join.ensures
