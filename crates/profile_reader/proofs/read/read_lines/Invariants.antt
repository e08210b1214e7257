use Rattle.std.proofs.Common.{◌≡◌, ◌+◌, ◌≤◌, length, None}
use Rattle.profile_reader.specs.Texts.{lines_of}
use Rattle.profile_reader.specs.Reading.{said_from}
use Rattle.profile_reader.specs.Standing.{Stands, said_by}
use Rattle.profile_reader.proofs.read.read_lines.Given as goal

-- what is left of the text says what the whole says
abbrev pub invariant-loop-rest : goal.invariant-loop-rest
invariant-loop-rest l = record {
  stands : Stands l.reader;
  said : said_from (said_by l.reader) (l.line + 1) (lines_of l.rest) ≡ said_from None 1 (lines_of l.fn.text);
  closed : length l.rest ≡ 0 → l.reader.open ≡ None;
  number : l.line + length l.rest ≤ length l.fn.text;
}

abbrev pub decreases-loop-rest : goal.decreases-loop-rest
decreases-loop-rest l = length l.rest
