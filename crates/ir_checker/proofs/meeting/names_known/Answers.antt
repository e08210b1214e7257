use Rattle.std.proofs.Common.{sym}
use Rattle.ir_rules.specs.Seen.{seen}
use Rattle.ir_rules.proofs.MeetingLemmas.{known_is}
use Rattle.ir_checker.proofs.meeting.names_known.Goals as goal

pub returns : goal.returns
returns c =
    rw (c.uses_known-operands.ensures, c.are_labels-to.ensures, c.are_labels-from.ensures, c.calls_known-callee.ensures, c.as_slice.ensures, c.as_slice-2.ensures, c.as_slice-3.ensures, c.in_ok-uses.ensures, c.in_ok-targets.ensures, c.in_ok-sources.ensures)
    (sym (known_is c.args.tree.now.names (seen c.args.tree.now) c.args.function.now c.args.instruction.now))
