-- The turns of loops over what is passed over.
use Rattle.std.proofs.Common.{◌≡◌, ◌+◌, ◌≤◌, length, arith, Bool, true, false, List, Ok, sym, ap, subst, ◌∙◌}
use Rattle.ir_lex.specs.declared.token.Cause.TheVariants as causes
use Rattle.ir_text.specs.declared.fault.ReadEnd.{ReadEnd}
use Rattle.ir_text.specs.Tokens.{TokenV, is_mark}
use Rattle.ir_text.specs.Reading.{Outcome, Reader, next_is, Fails}
use Rattle.ir_text.specs.Spelled.{one_token}
use Rattle.ir_text.specs.Lawful.{anything}
use Rattle.ir_text.specs.Leaves.{mark}
use Rattle.ir_text.specs.Lists.{after_comma, with_comma}
use Rattle.ir_text.specs.Passed.{skipped}
use Rattle.ir_text.specs.Tails.{note_at, tail_at, a_note, a_tail, behind_sign}
use Rattle.ir_text.proofs.Choices.{in_turn, token_laws}
use Rattle.ir_text.proofs.ChoiceLaws.{token_opens, opens_more}
use Rattle.ir_text.proofs.Persisting.{shortens}
use Rattle.ir_text.proofs.PassedLaws.{skips_on, skips_fails, skips_end}
use Rattle.ir_text.proofs.TailLaws.{note_laws, tail_laws, comma_opens}

module _ (test : TokenV → Bool) (item : Reader (Unit {0})) (less : (ts : List TokenV) (x : Unit {0} × List TokenV) → item ts ≡ Ok x → 1 + length x.1 ≤ length ts) where
  pub on : (ts rest : List TokenV) (total : Outcome (Unit {0})) → next_is test ts ≡ true → item ts ≡ Ok (tt, rest) → skipped test item ts ≡ total → skipped test item rest ≡ total
  on ts rest total there h so_far = sym (skips_on test item less ts rest tt there h) ∙ so_far

  pub fail : (e : ReadEnd) (ts : List TokenV) (total : Outcome (Unit {0})) → next_is test ts ≡ true → Fails e (item ts) → skipped test item ts ≡ total → Fails e total
  fail e ts total there h so_far = subst (Fails e) so_far (skips_fails test item less e ts there h)

  pub out : (ts : List TokenV) (total : Outcome (Unit {0})) → next_is test ts ≡ false → skipped test item ts ≡ total → total ≡ Ok (tt, ts)
  out ts total none so_far = sym so_far ∙ skips_end test item less ts none

pub note_less : (ts : List TokenV) (x : Unit {0} × List TokenV) → note_at ts ≡ Ok x → 1 + length x.1 ≤ length ts
note_less ts x e = shortens 0 anything note_at a_note (note_laws 0) (λ a ws s. let o = opens_more (is_mark 33) (one_token (mark 33)) (λ _. behind_sign) (token_opens (is_mark 33) (λ _. causes.Operand)) a ws s in omega (arith, ap length o.parts)) ts x e

pub tail_less : (ts : List TokenV) (x : Unit {0} × List TokenV) → after_comma tail_at ts ≡ Ok x → 1 + length x.1 ≤ length ts
tail_less ts x e = shortens 0 anything (after_comma tail_at) (with_comma a_tail) (in_turn 0 anything _ _ _ _ (token_laws 0 (mark 44)) (λ _. tail_laws 0)) (λ a ws s. let o = comma_opens a_tail a ws s in omega (arith, ap length o.parts)) ts x e
