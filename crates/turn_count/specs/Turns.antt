-- The turns that the counted test of a loop leads into the loop.
use Rattle.std.specs.Prelude.{ℕ, zero, suc, ◌+◌, ◌*◌, ◌%◌, ◌^◌, Bool, not, if◌then◌else◌}
use Rattle.int_num.specs.Integer.{Integer}
use Rattle.int_num.specs.Operations.{of_bits, compare}
use Rattle.turn_count.specs.declared.test.Test.{Test}

-- the tested value in a turn, counted from 0: the counter after so many steps modulo 2^width, or the counter of the next turn
abbrev pub tested : Test → Integer → ℕ → Integer
tested test first turn = of_bits first.width ((first.bits + (if test.latch_value then suc turn else turn) * test.step.bits) % 2 ^ first.width)

-- what the predicate says of a tested value and the bound
abbrev pub holds : Test → Integer → Integer → Bool
holds test bound value = if test.tested_left then compare test.pred value bound else compare test.pred bound value

-- whether the test of a value leads into the loop
abbrev pub leads_in : Test → Integer → Integer → Bool
leads_in test bound value = if test.into_on then holds test bound value else not (holds test bound value)

-- how many turns from this one on lead in, one after another and at most so many
unfoldable pub count : (ℕ → Bool) → ℕ → ℕ → ℕ
count leads turn zero = 0
count leads turn (suc most) = if leads turn then suc (count leads (suc turn) most) else 0

-- the turn count: the turns from the first on, up to a cap, whose test leads into the loop
abbrev pub turns : Test → Integer → Integer → ℕ → ℕ
turns test first bound cap = count (λ turn. leads_in test bound (tested test first turn)) 0 cap
