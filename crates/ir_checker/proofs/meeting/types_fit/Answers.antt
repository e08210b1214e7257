use Rattle.std.proofs.Common.{sym}
use Rattle.ir_rules.specs.Seen.{seen}
use Rattle.ir_rules.proofs.MeetingLemmas.{types_are}
use Rattle.ir_checker.proofs.meeting.types_fit.Goals as goal

pub returns : goal.returns
returns c =
    rw (c.uses_fit-operands.ensures, c.are_integers-integers.ensures, c.in_ok-form.ensures, c.as_slice.ensures, c.as_slice-2.ensures, c.in_ok-uses.ensures, c.in_ok-types.ensures, c.names.ensures)
    (sym (types_are c.args.tree.now.names (seen c.args.tree.now) c.args.function.now c.args.instruction.now))
