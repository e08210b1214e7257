use Rattle.std.proofs.Common.{◌+◌, ◌<◌, ◌≤◌, get_or, length, arith, sym, ap, ◌∙◌}
use Rattle.std.proofs.lemmas.List.Elements.{All-push}
use Rattle.ir_lex.specs.declared.token.Form.{Form}
use Rattle.ir_lex.specs.declared.token.Piece.TheVariants as piece
use Rattle.ir_lex.specs.Classes.{is_name_byte}
use Rattle.ir_lex.specs.Lexing.{piece_of, TokenIn}
use Rattle.ir_lex.proofs.Steps.{starts, gap_step, token_step, bad_step, end_step, line_after-le, run_stays}
use Rattle.ir_lex.proofs.Pieces.{limits_held}
use Rattle.ir_lex.proofs.scan.tokens.Goals as goal

pub loop-at-init : goal.loop-at-init
loop-at-init c = record {
  within = omega arith;
  lines = omega arith;
  run = λ h. absurd (omega arith);
  so_far = rw c.new-found.ensures (starts c.args.text.now);
  in_text = rw c.new-found.ensures (λ k d h. absurd (omega arith));
}

pub loop-at-preserved-in-Found-Gap-default : goal.loop-at-preserved-in-Found-Gap-default
loop-at-preserved-in-Found-Gap-default c =
    let text = c.args.text.now in
    let at = c.loop-at.at in
    let n = c.in-Found-Gap-default.n in
    let after = c.next_line-line.ensures in
    let most = line_after-le c.loop-at.line (get_or text at 0) in
    let is = ap piece_of (sym c.from.ensures.value) ∙ sym c.in-Found-Gap-default.ensures.value ∙ ap (λ (f : Form). piece.Found f n) c.in-Found-Gap-default.field-0-is in
    record {
      within = omega (arith, c.from.ensures.len, c.in-Found-Gap-default.ensures.fits);
      lines = omega (arith, c.in-Found-Gap-default.ensures.fits);
      run = λ h. run_stays is_name_byte text at n c.run_end-known.result c.run_end-known.ensures h;
      so_far = rw after (gap_step text c.loop-at.found at n c.loop-at.line _ c.loop-at-test.true is (omega (arith, c.in-Found-Gap-default.ensures.fits)) c.loop-at.invariant.so_far);
      in_text = c.loop-at.invariant.in_text;
    }

pub loop-at-preserved : goal.loop-at-preserved
loop-at-preserved c =
    let text = c.args.text.now in
    let at = c.loop-at.at in
    let n = c.in-Found-Token-default.n in
    let kind = c.in-Found-Token-default.kind in
    let is = ap piece_of (sym c.from.ensures.value) ∙ sym c.in-Found-Token-default.ensures.value ∙ ap (λ (f : Form). piece.Found f n) c.in-Found-Token-default.field-0-is in
    let some : 0 < n = omega (arith, c.in-Found-Token-default.ensures.fits) in
    let within : at + n ≤ length text = omega (arith, c.from.ensures.len, c.in-Found-Token-default.ensures.fits) in
    let pushed = c.in_ok-push-in-Found-Token-default.ensures.ok in
    record {
      within = within;
      lines = omega (arith, some);
      run = λ h. run_stays is_name_byte text at n c.run_end-known.result c.run_end-known.ensures h;
      so_far = rw pushed (token_step text c.loop-at.found at n c.loop-at.line kind _ c.loop-at-test.true is some c.loop-at.invariant.so_far);
      in_text = rw pushed (All-push (TokenIn text) c.loop-at.found _ c.loop-at.invariant.in_text (limits_held text at n c.loop-at.line kind is some within));
    }

pub returns-in-Bad-clause-lexed : goal.returns-in-Bad-clause-lexed
returns-in-Bad-clause-lexed c =
    c.stopped.ensures ∙ bad_step c.args.text.now c.loop-at.found c.loop-at.at c.loop-at.line c.in-Bad.cause _ c.loop-at-test.true (ap piece_of (sym c.from.ensures.value) ∙ sym c.in-Bad.ensures.value) c.loop-at.invariant.so_far

pub returns-clause-lexed : goal.returns-clause-lexed
returns-clause-lexed c = end_step c.args.text.now c.loop-at.found c.loop-at.at c.loop-at.line _ c.loop-at-test.false c.loop-at.invariant.so_far
