use Rattle.std.proofs.Common.{length, arith}
use Rattle.std.proofs.lemmas.List.{take_rest, drop_all}
use Rattle.profile_reader.proofs.TextLemmas.{line_at_some, line_at_none}
use Rattle.profile_reader.proofs.lines.first_line.Goals as goal

pub returns-in-Some-clause-lines : goal.returns-in-Some-clause-lines
returns-in-Some-clause-lines c = (line_at_some c.args.text.now (c.in-Some.line.now, c.in-Some.rest.now) c.in-Some.ensures).0

pub returns-in-Some-clause-shorter : goal.returns-in-Some-clause-shorter
returns-in-Some-clause-shorter c = (line_at_some c.args.text.now (c.in-Some.line.now, c.in-Some.rest.now) c.in-Some.ensures).1

pub returns-in-None-clause-lines : goal.returns-in-None-clause-lines
returns-in-None-clause-lines c =
    rw (take_rest, drop_all (length c.args.text.now) c.args.text.now (omega arith)) (line_at_none c.args.text.now c.requires c.in-None.ensures)
