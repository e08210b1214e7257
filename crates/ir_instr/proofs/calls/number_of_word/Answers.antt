use Rattle.std.proofs.Common.{drop, sym, ◌∙◌}
use Rattle.ir_instr.proofs.AttributeTurns.{number_no, number_end, number_there, number_stays, number_goes}
use Rattle.ir_instr.proofs.calls.number_of_word.Goals as goal

pub returns-then-not-sees_integer : goal.returns-then-not-sees_integer
returns-then-not-sees_integer c = number_no c.args.cursor.now (sym c.sees_integer.ensures ∙ c.if-not-sees_integer.true)

pub returns-in-None : goal.returns-in-None
returns-in-None c = number_end c.args.cursor.now (sym c.sees_integer.ensures ∙ c.if-not-sees_integer.false) c.in-None.ensures

pub returns-then-ends_value : goal.returns-then-ends_value
returns-then-ends_value c =
    number_stays c.args.cursor.now (drop 2 c.args.cursor.now) c.in-Some.behind (sym c.sees_integer.ensures ∙ c.if-not-sees_integer.false) c.in-Some.ensures (sym c.ends_value.ensures ∙ c.if-ends_value.true)

pub skip-requires : goal.skip-requires
skip-requires c = number_there c.args.cursor.now (drop 2 c.args.cursor.now) c.in-Some.behind c.in-Some.ensures

pub returns : goal.returns
returns c =
    rw c.skip.ensures
    (number_goes c.args.cursor.now (drop 2 c.args.cursor.now) c.in-Some.behind (sym c.sees_integer.ensures ∙ c.if-not-sees_integer.false) c.in-Some.ensures (sym c.ends_value.ensures ∙ c.if-ends_value.false))
