use Rattle.std.proofs.Common.{◌∙◌, sym}
use Rattle.ir_lex.specs.declared.token.Cause.TheVariants as causes
use Rattle.ir_instr.proofs.Kept.{names_kept}
use Rattle.ir_reader.proofs.Naming.{given_before, given_first, blamed_fails}
use Rattle.ir_reader.proofs.names.unique.Goals as goal

pub returns-then-contains-clause-reads : goal.returns-then-contains-clause-reads
returns-then-contains-clause-reads c = λ later rest grows.
    rw (given_before c.number_of.new.names later c.is_table.ensures grows c.args.given.now c.in_ok-number.number _ (names_kept _ _ c.args.given.now c.requires.names c.in_ok-number.ensures.grows) c.in_ok-number.ensures.within (c.in_ok-number.ensures.shows later grows) (sym c.contains.ensures ∙ c.if-contains.true))
    (blamed_fails _ c.args.lexeme.now causes.Duplicate c.bad.result c.bad.ensures)

pub returns-clause-reads : goal.returns-clause-reads
returns-clause-reads c = λ later rest grows.
    rw (given_first c.number_of.new.names later c.is_table.ensures grows c.args.given.now c.in_ok-number.number _ (names_kept _ _ c.args.given.now c.requires.names c.in_ok-number.ensures.grows) c.in_ok-number.ensures.within (c.in_ok-number.ensures.shows later grows) (sym c.contains.ensures ∙ c.if-contains.false))
