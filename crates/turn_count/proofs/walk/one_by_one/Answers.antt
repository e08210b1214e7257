use Rattle.std.proofs.Common.{ℕ, ◌≡◌, ◌<◌, ◌≤◌, ◌+◌, ◌*◌, ◌%◌, ◌⊎◌, inl, inr, true, false, ap, subst, ◌∙◌, arith}
use Rattle.std.specs.Prelude.{nat_lt}
use Rattle.std.proofs.Math.Nat.{mod-add-mod}
use Rattle.std.proofs.lemmas.Bool.{cases_lt}
use Rattle.turn_count.specs.Walks.{is_inside}
use Rattle.turn_count.proofs.Counts.{all_in, first_out}
use Rattle.turn_count.proofs.Laps.{below, from_on}
use Rattle.turn_count.proofs.walk.one_by_one.Goals as goal

pub returns-then-walk-place : goal.returns-then-walk-place
returns-then-walk-place c =
    let walk = c.args.walk in
    let out = from_on c.loop-steps.place walk.inside c.if-walk-place.true in
    first_out (is_inside walk) c.loop-steps.steps c.args.cap c.loop-steps-test.true c.loop-steps.invariant.1 (subst (λ p. nat_lt p walk.inside ≡ false) c.loop-steps.invariant.0 out)

-- one step further
next : (whole place step steps at : ℕ) → at ≡ (place + steps * step) % whole → (at + step) % whole ≡ (place + (steps + 1) * step) % whole
next whole place step steps at e =
    let d : place + steps * step + step ≡ place + (steps + 1) * step = grind arith in
    ap (λ p. (p + step) % whole) e ∙ (mod-add-mod (place + steps * step) whole step ∙ ap (λ p. p % whole) d)

pub loop-steps-preserved : goal.loop-steps-preserved
loop-steps-preserved c =
    let walk = c.args.walk in
    let steps = c.loop-steps.steps in
    let in_now : nat_lt ((walk.place + steps * walk.step) % walk.whole) walk.inside ≡ true = subst (λ p. nat_lt p walk.inside ≡ true) c.loop-steps.invariant.0 (below c.loop-steps.place walk.inside c.if-walk-place.false) in
    (next walk.whole walk.place walk.step steps c.loop-steps.place c.loop-steps.invariant.0, λ j h. go j h in_now (cases_lt j steps))
  where
    go : (j : ℕ) → j < c.loop-steps.steps + 1 → is_inside c.args.walk c.loop-steps.steps ≡ true → (j < c.loop-steps.steps) ⊎ (c.loop-steps.steps ≤ j) → is_inside c.args.walk j ≡ true
    go j h now (inl l) = c.loop-steps.invariant.1 j l
    go j h now (inr g) = subst (λ k. is_inside c.args.walk k ≡ true) (omega arith) now

pub returns : goal.returns
returns c = all_in (is_inside c.args.walk) c.args.cap (λ j h. c.loop-steps.invariant.1 j (let e = c.loop-steps-test.false in omega arith))
