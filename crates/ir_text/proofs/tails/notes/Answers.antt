use Rattle.std.proofs.Common.{◌∙◌, sym}
use Rattle.std.proofs.lemmas.Result.{err_from_is_err_and}
use Rattle.ir_text.specs.Tokens.{is_mark}
use Rattle.ir_text.specs.Tails.{note_at}
use Rattle.ir_text.proofs.TailTurns.{on, fail, out, note_less}
use Rattle.ir_text.proofs.tails.notes.Goals as goal

pub loop-cursor-preserved : goal.loop-cursor-preserved
loop-cursor-preserved c = on (is_mark 33) note_at note_less c.loop-cursor.cursor c.note.new.cursor _ (sym c.sees.ensures ∙ c.loop-cursor-test.true) c.in_ok-note.ensures.reads c.loop-cursor.invariant

pub returns-in_err-note : goal.returns-in_err-note
returns-in_err-note c =
    let p = err_from_is_err_and c.from_residual.result c.from_residual.ensures.1 in
    rw (p.1, p.2) (fail (is_mark 33) note_at note_less c.in_err-note.field-0.0 c.loop-cursor.cursor _ (sym c.sees.ensures ∙ c.loop-cursor-test.true) c.in_err-note.ensures.reads c.loop-cursor.invariant)

pub returns : goal.returns
returns c = out (is_mark 33) note_at note_less c.loop-cursor.cursor _ (sym c.sees.ensures ∙ c.loop-cursor-test.false) c.loop-cursor.invariant
