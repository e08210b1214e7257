-- Turns, a step at a time.
use Rattle.std.proofs.Common.{◌≡◌, ℕ, zero, suc, ◌<◌, arith, ◌∙◌, ap}
use Rattle.pv_base.specs.Outside.{Text}
use Rattle.ir_code.specs.declared.code.Code.{Code}
use Rattle.mem_image.specs.Picture.{Picture}
use Rattle.seq_machine.specs.declared.state.State.{State}
use Rattle.seq_machine.specs.declared.state.Step.TheVariants as step
use Rattle.seq_machine.specs.Step.{step as one_step}
use Rattle.turn_laws.specs.Turns.{Loop, Standing, AtHeader, Outside, standing, Arrived, Left, by_standing, turn_from}
use Rattle.turn_laws.proofs.Turns.{turn_first}

module _ (code : Code) (input : Text) (l : Loop) (depth : ℕ) (s s' : State Picture) where
  -- a step that leads back to the header is the last one
  pub turn_arrives : (n : ℕ) → 0 < n → one_step code input s ≡ (step.Next, s') → standing code l depth s'.frames ≡ AtHeader → turn_from code input l depth s n ≡ (Arrived, s')
  turn_arrives zero lt e at = absurd (omega arith)
  turn_arrives (suc n) lt e at = turn_first code input s step.Next s' e l depth n ∙ ap (λ (w : Standing). by_standing w s' (turn_from code input l depth s' n)) at

  -- and so is one that leads out of the loop
  pub turn_leaves : (n : ℕ) → 0 < n → one_step code input s ≡ (step.Next, s') → standing code l depth s'.frames ≡ Outside → turn_from code input l depth s n ≡ (Left, s')
  turn_leaves zero lt e at = absurd (omega arith)
  turn_leaves (suc n) lt e at = turn_first code input s step.Next s' e l depth n ∙ ap (λ (w : Standing). by_standing w s' (turn_from code input l depth s' n)) at
