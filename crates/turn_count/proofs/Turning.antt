-- The turns of a loop are the steps of a walk round the circle of its width, from the first value that leads in on.
use Rattle.std.proofs.Common.{ℕ, suc, ◌+◌, ◌-◌, ◌*◌, ◌%◌, ◌^◌, ◌<◌, ◌≡◌, Bool, true, false, refl, sym, ap, subst, ◌∙◌, arith}
use Rattle.std.specs.Prelude.{nat_lt, if◌then◌else◌}
use Rattle.std.proofs.Math.Nat.{mod-lt}
use Rattle.std.proofs.Math.Pow.{pow_pos}
use Rattle.int_num.specs.Integer.{Integer, IsInteger}
use Rattle.int_num.proofs.Powers.{powers}
use Rattle.turn_count.specs.Turns.{tested, leads_in, turns}
use Rattle.turn_count.specs.Arcs.{holding, leading}
use Rattle.turn_count.specs.Walks.{IsWalk, is_inside, steps_inside}
use Rattle.turn_count.specs.declared.arc.Arc.{Arc}
use Rattle.turn_count.specs.declared.test.Test.{Test}
use Rattle.turn_count.specs.declared.walk.Walk.{Walk}
use Rattle.turn_count.proofs.Counts.{count_same}
use Rattle.turn_count.proofs.Predicates.{leading_law}
use Rattle.turn_count.proofs.Circles.{turned_steps}
use Rattle.turn_count.proofs.Arcs.{holding_law, made_fits}

head_start : (latch : Bool) (turn step : ℕ) → (if latch then suc turn else turn) * step ≡ (if latch then step else 0) + turn * step
head_start true turn step = grind arith
head_start false turn step = grind arith

module _ (test : Test) (first bound : Integer) (it : IsInteger test.step) (ix : IsInteger first) (ib : IsInteger bound) (wb : bound.width ≡ first.width) (ws : test.step.width ≡ first.width) where
  pub walk : Walk
  walk = record { whole = 2 ^ first.width; inside = (holding (leading test) bound).length; place = (first.bits + (if test.latch_value then test.step.bits else 0) + (2 ^ first.width - (holding (leading test) bound).first)) % 2 ^ first.width; step = test.step.bits }

  pub is_walk : IsWalk walk
  unfolding walk
  is_walk = record {
    whole = (powers first.width ix.width).most;
    inside = (made_fits (2 ^ first.width) first.width (holding (leading test) bound) (leading test) bound ib wb refl refl).length;
    place = mod-lt _ (pow_pos first.width);
    step = subst (λ w. test.step.bits < 2 ^ w) ws it.bits;
  }

  value_is : (turn : ℕ) → IsInteger (tested test first turn)
  value_is turn = record { width = ix.width; bits = mod-lt _ (pow_pos first.width) }

  stands : (turn : ℕ) → leads_in test bound (tested test first turn) ≡ nat_lt (((tested test first turn).bits + (2 ^ first.width - (holding (leading test) bound).first)) % 2 ^ first.width) (holding (leading test) bound).length
  stands turn =
      leading_law test bound (tested test first turn) ∙ (holding_law (leading test) (tested test first turn) bound (value_is turn) ib (sym wb)
      ∙ ap (λ w. nat_lt (((tested test first turn).bits + (2 ^ w - (holding (leading test) bound).first)) % 2 ^ w) (holding (leading test) bound).length) wb)

  pub inside_law : (turn : ℕ) → is_inside walk turn ≡ leads_in test bound (tested test first turn)
  unfolding walk
  inside_law turn =
      let n = head_start test.latch_value turn test.step.bits in
      let e = turned_steps (2 ^ first.width) first.bits (if test.latch_value then test.step.bits else 0) (turn * test.step.bits) (2 ^ first.width - (holding (leading test) bound).first) ((if test.latch_value then suc turn else turn) * test.step.bits) n in
      sym (stands turn ∙ ap (λ p. nat_lt p (holding (leading test) bound).length) e)

  pub turns_law : (cap : ℕ) → steps_inside walk cap ≡ turns test first bound cap
  turns_law cap = count_same (is_inside walk) (λ turn. leads_in test bound (tested test first turn)) 0 cap inside_law

  -- the walk as it is made
  pub made : (whole : ℕ) (a : Arc) (from ahead step : ℕ) → whole ≡ 2 ^ first.width → a ≡ holding (leading test) bound → from ≡ first.bits → ahead ≡ (if test.latch_value then test.step.bits else 0) → step ≡ test.step.bits
      → walk ≡ record { whole = whole; inside = a.length; place = (from + ahead + (whole - a.first)) % whole; step = step }
  unfolding walk
  made whole a from ahead step ew ea ef eh es = rw (ew, ea, ef, eh, es) refl
