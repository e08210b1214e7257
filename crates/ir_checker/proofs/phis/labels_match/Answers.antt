use Rattle.std.proofs.Common.{sym, ◌∙◌}
use Rattle.ir_checker.proofs.PhiLemmas.{labels_are}
use Rattle.ir_checker.proofs.phis.labels_match.Goals as goal

pub returns : goal.returns
returns c =
    c.both.ensures
    ∙ rw (c.all_in-forth.ensures, c.all_in-back.ensures, c.numbers.ensures, c.numbers-2.ensures)
    (sym (labels_are c.args.names.now c.args.zero c.args.function.now c.args.label c.args.enter.now c.args.from.now c.args.arms.now c.requires.enter c.requires.from))
