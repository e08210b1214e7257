use Rattle.std.proofs.Common.{sym, ◌∙◌}
use Rattle.std.proofs.lemmas.Result.{err_from_is_err_and}
use Rattle.ir_text.specs.Named.{known_of, layout_in}
use Rattle.ir_text.proofs.LaidOut.{laid_later}
use Rattle.ir_reader.specs.Gathered.{so_far_at}
use Rattle.ir_reader.proofs.ItemTurns.{on_ok}
use Rattle.ir_reader.proofs.Wording.{worded_none, worded_definition, worded_declaration, worded_passed, worded_fails}
use Rattle.ir_reader.proofs.item.worded_item.Goals as goal

pub returns-in-None-clause-reads : goal.returns-in-None-clause-reads
returns-in-None-clause-reads c = λ later grows. worded_none (known_of later c.args.known.now) (so_far_at later c.args.so_far.now) c.args.cursor.now c.in-None.ensures.0

pub returns-then-is_word-clause-reads : goal.returns-then-is_word-clause-reads
returns-then-is_word-clause-reads c = λ later grows.
    rw (worded_definition (known_of later c.args.known.now) (so_far_at later c.args.so_far.now) c.args.cursor.now c.in-Some.first c.next.new.self c.in-Some.ensures (sym c.is_word.ensures ∙ c.if-is_word.true))
    (c.definition_item.ensures.reads later grows)

pub returns-then-is_word-2-clause-reads : goal.returns-then-is_word-2-clause-reads
returns-then-is_word-2-clause-reads c = λ later grows.
    rw (worded_declaration (known_of later c.args.known.now) (so_far_at later c.args.so_far.now) c.args.cursor.now c.in-Some.first c.next.new.self c.in-Some.ensures (sym c.is_word.ensures ∙ c.if-is_word.false) (sym c.is_word-2.ensures ∙ c.if-is_word-2.true))
    (c.declaration_item.ensures.reads later (known_of later c.args.known.now) grows)

pub returns-then-is_word-2-clause-laid : goal.returns-then-is_word-2-clause-laid
returns-then-is_word-2-clause-laid c = on_ok _ c.declaration_item.result (laid_later c.args.names.now c.declaration_item.new.names c.is_table.ensures c.declaration_item.ensures.grows (layout_in c.args.known.now) c.args.layouts.now c.requires.laid)

pub returns-in_err-passed_item-clause-reads : goal.returns-in_err-passed_item-clause-reads
returns-in_err-passed_item-clause-reads c = λ later grows.
    let p = err_from_is_err_and c.from_residual.result c.from_residual.ensures.1 in
    rw (p.1, p.2) (worded_fails (known_of later c.args.known.now) (so_far_at later c.args.so_far.now) c.args.cursor.now c.in-Some.first c.next.new.self c.in-Some.ensures (sym c.is_word.ensures ∙ c.if-is_word.false) (sym c.is_word-2.ensures ∙ c.if-is_word-2.false) c.in_err-passed_item.field-0.0 c.in_err-passed_item.ensures)

pub returns-clause-reads : goal.returns-clause-reads
returns-clause-reads c = λ later grows.
    worded_passed (known_of later c.args.known.now) (so_far_at later c.args.so_far.now) c.args.cursor.now c.in-Some.first c.next.new.self c.in-Some.ensures (sym c.is_word.ensures ∙ c.if-is_word.false) (sym c.is_word-2.ensures ∙ c.if-is_word-2.false) c.passed_item.new.cursor c.in_ok-passed_item.ensures
