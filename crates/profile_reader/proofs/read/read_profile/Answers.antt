use Rattle.profile_reader.proofs.Counts.{few_reads}
use Rattle.profile_reader.proofs.Periods.{version_read, periods_read}
use Rattle.profile_reader.proofs.read.read_profile.Goals as goal

pub returns-clause-loops : goal.returns-clause-loops
returns-clause-loops c = few_reads c.args.text.now c.read_lines.result c.read_lines.ensures c.requires

pub returns-clause-version : goal.returns-clause-version
returns-clause-version c = version_read c.args.text.now c.read_lines.result c.read_lines.ensures

pub returns-clause-periods : goal.returns-clause-periods
returns-clause-periods c = periods_read c.args.text.now c.read_lines.result c.read_lines.ensures
