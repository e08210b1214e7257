use Rattle.std.proofs.Common.{◌+◌, sym, ap, ◌∙◌, arith}
use Rattle.std.proofs.lemmas.Bool.{eq-eqb}
use Rattle.profile_reader.specs.Reading.{headed}
use Rattle.profile_reader.specs.Standing.{said_by}
use Rattle.profile_reader.proofs.ReadLemmas.{line_taken, line_refused}
use Rattle.profile_reader.proofs.read.read_lines.Goals as goal

pub returns-in-Err : goal.returns-in-Err
returns-in-Err c =
    let refused = line_refused (said_by c.loop-rest.reader) (c.loop-rest.line + 1) c.loop-rest.rest.now c.first_line.result.0.now c.first_line.result.1.now c.is_empty-last.result c.in-Err.cause c.first_line.ensures.lines c.is_empty-last.ensures (rw c.in-Err.is at c.in_ok-taken.ensures) in
    ap headed (sym c.loop-rest.invariant.said ∙ refused)

pub loop-rest-preserved : goal.loop-rest-preserved
loop-rest-preserved c =
    let taken = rw c.in_default.is at c.in_ok-taken.ensures in
    record {
      stands = taken.1;
      said =
          line_taken (said_by c.loop-rest.reader) (said_by c.take.new.self) (c.loop-rest.line + 1) c.loop-rest.rest.now c.first_line.result.0.now c.first_line.result.1.now c.is_empty-last.result c.first_line.ensures.lines c.is_empty-last.ensures taken.0
          ∙ c.loop-rest.invariant.said;
      closed = λ none_left. taken.2 (c.is_empty-last.ensures ∙ eq-eqb _ _ none_left);
      number = omega (arith, c.first_line.ensures.shorter, c.loop-rest.invariant.number);
    }
