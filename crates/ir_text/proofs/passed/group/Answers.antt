use Rattle.std.proofs.Common.{◌≡◌, ◌+◌, ℕ, length, false, arith, refl, sym, ap, ◌∙◌, leb}
use Rattle.std.proofs.lemmas.Bool.{lt-leb}
use Rattle.ir_text.specs.Passed.{group_from}
use Rattle.ir_text.proofs.Groups.{opened, inner, plain, last, turned, ends_open}
use Rattle.ir_text.proofs.passed.group.Goals as goal
use Rattle.ir_text.proofs.passed.group.Goals.{then-opens, else-opens+then-closes+else-inner-eq0, else-opens+else-closes}

pub returns : goal.returns
returns c = sym c.loop-turn.invariant.so_far ∙ ends_open _ c.loop-turn.cursor (omega arith)

pub returns-then-inner-eq0 : goal.returns-then-inner-eq0
returns-then-inner-eq0 c =
    let zero : c.loop-turn.inner + 1 ≡ 1 = omega arith in
    sym c.loop-turn.invariant.so_far ∙ rw zero (ap (group_from 1) c.in_ok-lexeme.ensures ∙ last 1 c.in_ok-lexeme.lexeme (sym c.opens.ensures ∙ c.if-opens.false) (sym c.closes.ensures ∙ c.if-closes.true) refl c.take.new.cursor)

pub loop-turn-preserved : goal.loop-turn-preserved
loop-turn-preserved c =
    let size : length c.loop-turn.cursor ≡ 1 + length c.take.new.cursor = omega (arith, ap length c.in_ok-lexeme.ensures) in
    let so_far = c.loop-turn.invariant.so_far in
    elim c.if-opens.branch [
      | then-opens w ↦ record {
        so_far = rw w.inner-is (turned _ _ c.in_ok-lexeme.lexeme _ c.take.new.cursor _ c.in_ok-lexeme.ensures (λ us. opened (c.loop-turn.inner + 1) c.in_ok-lexeme.lexeme (sym c.opens.ensures ∙ w.if-opens.true) us ∙ ap (λ (k : ℕ). group_from k us) (omega arith)) so_far);
        room = omega arith;
        left = omega arith;
      }
      | else-opens+then-closes+else-inner-eq0 w ↦
          let some : leb (c.loop-turn.inner + 1) 1 ≡ false = lt-leb _ _ (omega arith) in
          record {
            so_far = rw w.inner-is (turned _ _ c.in_ok-lexeme.lexeme _ c.take.new.cursor _ c.in_ok-lexeme.ensures (λ us. inner (c.loop-turn.inner + 1) c.in_ok-lexeme.lexeme (sym c.opens.ensures ∙ w.if-opens.false) (sym w.closes.ensures ∙ w.if-closes.true) some us ∙ ap (λ (k : ℕ). group_from k us) (omega arith)) so_far);
            room = omega arith;
            left = omega arith;
          }
      | else-opens+else-closes w ↦ record {
        so_far = rw w.inner-is (turned _ _ c.in_ok-lexeme.lexeme _ c.take.new.cursor _ c.in_ok-lexeme.ensures (λ us. plain (c.loop-turn.inner + 1) c.in_ok-lexeme.lexeme (sym c.opens.ensures ∙ w.if-opens.false) (sym w.closes.ensures ∙ w.if-closes.false) us) so_far);
        room = omega arith;
        left = omega arith;
      }
    ]
