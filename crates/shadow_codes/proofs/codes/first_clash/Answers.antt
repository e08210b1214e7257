use Rattle.std.proofs.Common.{ℕ, arith, sym, ap, ◌∙◌, option_map, ◌+◌, ◌<◌, ◌≤◌, length, drop}
use Rattle.std.proofs.lemmas.List.{length-drop}
use Rattle.shadow_codes.proofs.Clashes.{clash_from, clash_below, clash_left}
use Rattle.shadow_codes.proofs.codes.first_clash.Goals as goal

pub overflow_add-result : goal.overflow_add-result
overflow_add-result c =
    let front : ℕ = c.front_without_clash-front.result in
    let behind : ℕ = c.in-Some.behind in
    let left = sym (clash_left front c.args.reads.now c.args.writes.now c.requires) ∙ sym c.clash_in.ensures ∙ c.in-Some.is in
    let below : behind < length (drop front c.args.reads.now) = clash_below (drop front c.args.reads.now) (drop front c.args.writes.now) behind left in
    let within : front ≤ length c.args.reads.now = c.front_without_clash-front.ensures.within in
    record { fits = omega (arith, length-drop front c.args.reads.now) }

pub returns-in-Some : goal.returns-in-Some
returns-in-Some c =
    let front : ℕ = c.front_without_clash-front.result in
    let left = sym (clash_left front c.args.reads.now c.args.writes.now c.requires) ∙ sym c.clash_in.ensures ∙ c.in-Some.is in
    sym (clash_from front c.args.reads.now c.args.writes.now c.requires c.front_without_clash-front.ensures.within c.front_without_clash-front.ensures.free ∙ ap (option_map (λ k. front + k)) left)

pub returns-in-None : goal.returns-in-None
returns-in-None c =
    let front : ℕ = c.front_without_clash-front.result in
    let left = sym (clash_left front c.args.reads.now c.args.writes.now c.requires) ∙ sym c.clash_in.ensures ∙ c.in-None.is in
    sym (clash_from front c.args.reads.now c.args.writes.now c.requires c.front_without_clash-front.ensures.within c.front_without_clash-front.ensures.free ∙ ap (option_map (λ k. front + k)) left)
